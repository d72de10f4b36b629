use Rattle.collapse_topology.proofs.Lists.{oriented_collapsed, ring_kept}
use Rattle.half_edge.specs.Halves.{faces_of}
use Rattle.half_edge.specs.Meshes.{out_at}
use Rattle.half_edge.proofs.HeldKeys.{some_of}
use Rattle.half_edge.proofs.Seeks.{ringed_out}
use Rattle.half_edge.proofs.Merging.{edge_there, may_cut, outs_after, held_after, mesh_after_read}
use Rattle.half_edge.proofs.edits.collapse_parts.Goals as goal

pub returns-in_default-clause-faces : goal.returns-in_default-clause-faces
returns-in_default-clause-faces c =
    let there = edge_there c.args.halves.now.slots c.args.u c.args.v c.requires.mesh.sound c.requires.may in
    absurd (c.in_default.ensures.none there.0 there.1)

pub returns-in_default-clause-held : goal.returns-in_default-clause-held
returns-in_default-clause-held c =
    let there = edge_there c.args.halves.now.slots c.args.u c.args.v c.requires.mesh.sound c.requires.may in
    absurd (c.in_default.ensures.none there.0 there.1)

pub collapse_at-requires : goal.collapse_at-requires
collapse_at-requires c =
    may_cut c.args.halves.now.slots c.args.u c.args.v c.in-Some.e c.requires.mesh.sound c.requires.may
    c.in-Some.ensures.found

pub returns-clause-mesh : goal.returns-clause-mesh
returns-clause-mesh c =
    let s = c.args.halves.now.slots in
    let ts = faces_of s in
    let mesh = c.requires.mesh in
    mesh_after_read s c.collapse_at.new.halves.slots c.args.u c.args.v c.in-Some.e c.third_name-a.result
    c.third_name-b.result c.next_key-next.result c.cut_keys-cut.result c.args.outs.now c.set_out-3.new.outs
    c.cut_keys-cut.ensures
    (may_cut s c.args.u c.args.v c.in-Some.e mesh.sound c.requires.may c.in-Some.ensures.found)
    c.collapse_at.ensures.after c.collapse_at.ensures.sound c.collapse_at.ensures.faces mesh
    (oriented_collapsed ts c.args.u c.args.v mesh.oriented c.requires.may)
    (λ w k wu here. let kv = some_of (out_at c.args.outs.now c.args.v) c.requires.held in
    ring_kept ts c.args.u c.args.v mesh.oriented c.requires.may w (mesh.ringed c.args.v kv.0 kv.1) wu
    (mesh.ringed w k here)) c.third_name-a.ensures c.third_name-b.ensures c.next_key-next.ensures
    (outs_after c.args.outs.now c.take_name.new.outs c.set_out.new.outs c.set_out-2.new.outs c.set_out-3.new.outs
    c.args.u c.args.v c.third_name-a.result c.third_name-b.result c.cut_keys-cut.result.q c.next_key-next.result
    c.cut_keys-cut.result.t c.take_name.ensures.at c.set_out.ensures.at c.set_out-2.ensures.at
    c.set_out-3.ensures.at)

pub returns-clause-held : goal.returns-clause-held
returns-clause-held c =
    held_after c.args.outs.now c.set_out-3.new.outs c.args.u c.args.v c.third_name-a.result c.third_name-b.result
    c.cut_keys-cut.result.q c.next_key-next.result c.cut_keys-cut.result.t
    (outs_after c.args.outs.now c.take_name.new.outs c.set_out.new.outs c.set_out-2.new.outs c.set_out-3.new.outs
    c.args.u c.args.v c.third_name-a.result c.third_name-b.result c.cut_keys-cut.result.q c.next_key-next.result
    c.cut_keys-cut.result.t c.take_name.ensures.at c.set_out.ensures.at c.set_out-2.ensures.at
    c.set_out-3.ensures.at)

pub find_edge-requires-clause-ringed : goal.find_edge-requires-clause-ringed
find_edge-requires-clause-ringed c =
    ringed_out c.args.halves.now.slots c.args.outs.now c.args.u c.out_at.result c.requires.mesh c.out_at.ensures
