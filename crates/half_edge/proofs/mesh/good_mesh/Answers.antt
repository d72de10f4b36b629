use Rattle.half_edge.proofs.Growing.{built_faces}
use Rattle.half_edge.proofs.Making.{mesh_made, held_made}
use Rattle.half_edge.proofs.Turned.{oriented_turned, ring_turned}
use Rattle.half_edge.proofs.mesh.good_mesh.Goals as goal

pub invariant_of-result : goal.invariant_of-result
invariant_of-result c =
    let ts = c.args.faces.now in
    mesh_made c.in_ok-halves.halves.slots c.in_ok-halves.field-0-1 ts c.in_ok-outs.outs c.args.held.now
    c.in_ok-halves.ensures c.in_ok-outs.ensures.fit c.in_ok-outs.ensures.held c.in_ok-outs.ensures.all
    (oriented_turned ts c.requires.proper c.requires.once)
    (λ v on at. ring_turned ts v (c.requires.ringed v on at))

pub returns-clause-tris : goal.returns-clause-tris
returns-clause-tris c =
    built_faces c.in_ok-halves.halves.slots c.in_ok-halves.field-0-1 c.args.faces.now c.in_ok-halves.ensures

pub returns-clause-held : goal.returns-clause-held
returns-clause-held c v =
    held_made c.in_ok-halves.halves.slots c.in_ok-halves.field-0-1 c.args.faces.now c.in_ok-outs.outs c.args.held.now
    c.in_ok-halves.ensures c.in_ok-outs.ensures.fit c.in_ok-outs.ensures.held c.in_ok-outs.ensures.all v
