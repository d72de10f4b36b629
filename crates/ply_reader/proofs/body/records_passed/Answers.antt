use Rattle.std.proofs.Common.{◌*◌, ◌-◌, ◌^◌, min, sym, arith}
use Rattle.ply_reader.specs.Body as grammar
use Rattle.ply_reader.specs.Feed.{rest_left}
use Rattle.ply_reader.proofs.StepLaws.{passes_same}
use Rattle.ply_reader.proofs.BodyLaws.{fixed_passes}
use Rattle.ply_reader.proofs.body.records_passed.Goals as goal

pub returns-in-Some-clause-passes : goal.returns-in-Some-clause-passes
returns-in-Some-clause-passes g c =
    let ps = c.args.element.now.properties in
    let count = c.args.element.now.count in
    let fixed = sym (rw c.slice-properties.ensures at c.in-Some.ensures) in
    let old = rest_left g.S.Source.left c.args.feed.now in
    let most = 2 ^ 128 - 1 in
    passes_same (grammar.records_passed c.args.order ps count) (grammar.passed (min (count * c.in-Some.size) most)) old old (rest_left g.S.Source.left c.pass.new.self) c.pass.result
    (fixed_passes g.S.Source.left c.args.feed.now c.args.order ps c.in-Some.size count most fixed (omega arith) c.requires)
    (rw (c.saturating_mul.ensures, c.from.ensures) at c.pass.ensures.passes)
