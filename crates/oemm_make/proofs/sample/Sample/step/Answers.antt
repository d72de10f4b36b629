use Rattle.std.proofs.Common.{◌≡◌, ◌+◌, ◌*◌, ◌<◌, ◌≤◌, true, rules, sym, arith}
use Rattle.oemm_make.specs.Walk.{face_count}
use Rattle.oemm_make.proofs.Walks.{face_walked, none_walked, vertex_walked}
use Rattle.oemm_make.proofs.sample.Sample.step.Goals as goal

pub returns-then-self-vertices : goal.returns-then-self-vertices
returns-then-self-vertices c =
    let s = c.self.inside in
    let counted : s.counted ≡ true = search rules in
    none_walked c.args.self.now s.side s.number s.done s.counted (sym c.self.view_is) counted c.if-self-vertices.true

pub returns-then-place-vertices : goal.returns-then-place-vertices
returns-then-place-vertices c =
    let s = c.self.inside in
    let counted : s.counted ≡ true = search rules in
    vertex_walked c.args.self.now s.side s.number s.done c.next_random-self-inside.result s.counted c.vertex.result
    (sym c.self.view_is) counted c.next_random-self-inside.ensures.exact c.vertex.ensures c.if-place-vertices.true

pub returns-else-place-vertices : goal.returns-else-place-vertices
returns-else-place-vertices c =
    let s = c.self.inside in
    let counted : s.counted ≡ true = search rules in
    let all : s.done < s.side * s.side + face_count s.side = omega arith in
    face_walked c.args.self.now s.side s.number s.done s.counted c.face.result (sym c.self.view_is) counted
    c.if-place-vertices.false all c.face.ensures.exact c.face.ensures.proper c.face.ensures.below
