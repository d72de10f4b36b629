use Rattle.flip_topology.proofs.Lists.{oriented_flipped, ring_kept}
use Rattle.half_edge.specs.Halves.{faces_of}
use Rattle.half_edge.proofs.Seeks.{ringed_out}
use Rattle.half_edge.proofs.Flipping.{flip_edge_there, may_flip_by, can_flip_read, faces_read, mesh_flipped_read}
use Rattle.half_edge.proofs.edits.flip_parts.Goals as goal

pub returns-in_default-clause-faces : goal.returns-in_default-clause-faces
returns-in_default-clause-faces c =
    let may = c.requires.may in
    let there = flip_edge_there c.args.halves.now.slots c.args.a c.args.b may.c may.d c.requires.mesh.sound may.may in
    absurd (c.in_default.ensures.none there.0 there.1)

pub flip_at-requires : goal.flip_at-requires
flip_at-requires c =
    can_flip_read c.args.halves.now.slots c.args.a c.args.b c.in-Some.e c.third_name-c.result c.third_name-d.result
    c.cut_keys-cut.result c.requires.mesh.sound c.requires.may c.in-Some.ensures.found c.cut_keys-cut.ensures
    c.third_name-c.ensures c.third_name-d.ensures

pub returns-clause-mesh : goal.returns-clause-mesh
returns-clause-mesh c =
    mesh_flipped_read c.args.halves.now.slots c.flip_at.new.halves.slots c.args.a c.args.b c.in-Some.e
    c.third_name-c.result c.third_name-d.result c.cut_keys-cut.result c.args.outs.now c.set_out.new.outs
    c.set_out-2.new.outs c.requires.mesh c.requires.may c.in-Some.ensures.found c.cut_keys-cut.ensures
    c.third_name-c.ensures c.third_name-d.ensures
    c.flip_at.ensures.after c.flip_at.ensures.sound c.flip_at.ensures.faces (let may = c.requires.may in
    oriented_flipped (faces_of c.args.halves.now.slots) c.args.a c.args.b may.c may.d c.requires.mesh.oriented
    may.may)
    (λ x y w k sides here. ring_kept (faces_of c.args.halves.now.slots) c.args.a c.args.b x y c.requires.mesh.oriented
    (may_flip_by c.args.halves.now.slots c.args.a c.args.b x y c.requires.may sides) w
    (c.requires.mesh.ringed w k here)) c.set_out.ensures.at c.set_out-2.ensures.at

pub returns-clause-faces : goal.returns-clause-faces
returns-clause-faces c x y sides =
    faces_read c.args.halves.now.slots c.flip_at.new.halves.slots c.args.a c.args.b c.in-Some.e c.third_name-c.result
    c.third_name-d.result x y c.cut_keys-cut.result c.requires.mesh.sound c.requires.may c.in-Some.ensures.found
    c.cut_keys-cut.ensures c.third_name-c.ensures c.third_name-d.ensures c.flip_at.ensures.faces sides

pub find_edge-requires-clause-ringed : goal.find_edge-requires-clause-ringed
find_edge-requires-clause-ringed c =
    ringed_out c.args.halves.now.slots c.args.outs.now c.args.a c.out_at.result c.requires.mesh c.out_at.ensures
