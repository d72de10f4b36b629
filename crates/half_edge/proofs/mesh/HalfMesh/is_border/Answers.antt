use Rattle.std.proofs.Common.{sym, ◌∙◌, ap, unwrap_or, not}
use Rattle.mesh_data.specs.Rings.{has_closed_ring}
use Rattle.half_edge.specs.Meshes.{Faced}
use Rattle.half_edge.proofs.Apexes.{closed_told}
use Rattle.half_edge.proofs.HeldKeys.{ringed_at}
use Rattle.half_edge.proofs.mesh.HalfMesh.is_border.Goals as goal

pub first_round-closed-requires : goal.first_round-closed-requires
first_round-closed-requires c =
    ringed_at c.self.inside.halves.slots c.self.inside.outs c.args.v c.unwrap_or-home.result c.args.self.now
    c.self.invariant (sym c.self.view_is) c.requires (c.unwrap_or-home.ensures
    ∙ ap (λ o. unwrap_or o 0) c.out_at.ensures)

pub returns : goal.returns
returns c =
    ap not (closed_told c.self.inside.halves.slots c.args.v c.first_round-closed.result.0 c.first_round-closed.result.1
    c.first_round-closed.ensures)
    ∙ ap (λ (f : Faced). not (has_closed_ring f.tris c.args.v)) c.self.view_is
