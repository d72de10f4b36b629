use Rattle.std.proofs.Common.{sym, subst}
use Rattle.mesh_data.specs.declared.geometry.Tri.{Tri}
use Rattle.mesh_data.specs.Triangles.{IsProper}
use Rattle.half_edge.proofs.Growing.{built_none, built_next, new_next, built_all}
use Rattle.half_edge.proofs.build.build.Goals as goal

pub loop-t-init : goal.loop-t-init
loop-t-init c = built_none c.new-halves.result.slots c.new-edges.result c.new-halves.ensures.empty
    c.new-edges.ensures.empty

pub add_face-requires-clause-sound : goal.add_face-requires-clause-sound
add_face-requires-clause-sound c = c.loop-t.invariant.sound

pub add_face-requires-clause-tells : goal.add_face-requires-clause-tells
add_face-requires-clause-tells c = c.loop-t.invariant.told

pub add_face-requires-clause-fresh : goal.add_face-requires-clause-fresh
add_face-requires-clause-fresh c =
    new_next c.loop-t.halves.slots c.loop-t.edges c.args.faces.now c.loop-t.t-index c.t-item.result c.loop-t.invariant
    c.loop-t-test.true c.t-item.is c.requires.once
    (subst (λ (t : Tri). IsProper t) (sym c.t-item.is)
    (c.requires.proper c.loop-t.t-index c.t-item.result c.loop-t-test.true))

pub loop-t-preserved : goal.loop-t-preserved
loop-t-preserved c =
    let added = c.in_ok-add_face.ensures.added in
    built_next c.loop-t.halves.slots c.add_face.new.halves.slots c.loop-t.edges c.add_face.new.edges c.args.faces.now
    c.loop-t.t-index c.t-item.result added.0 c.loop-t.invariant added.1 c.in_ok-add_face.ensures.tells
    c.loop-t-test.true c.t-item.is

pub returns : goal.returns
returns c = built_all c.loop-t.halves.slots c.loop-t.edges c.args.faces.now c.loop-t.t-index c.loop-t.invariant
    c.loop-t-test.false
