use Rattle.std.proofs.Common.{sym, ◌∙◌, ap, unwrap_or}
use Rattle.half_edge.proofs.HeldKeys.{ringed_at}
use Rattle.half_edge.proofs.mesh.HalfMesh.ring.Goals as goal

pub first_round-first-requires : goal.first_round-first-requires
first_round-first-requires c =
    ringed_at c.self.inside.halves.slots c.self.inside.outs c.args.v c.unwrap_or-home.result c.args.self.now
    c.self.invariant (sym c.self.view_is) c.requires (c.unwrap_or-home.ensures
    ∙ ap (λ o. unwrap_or o 0) c.out_at.ensures)
