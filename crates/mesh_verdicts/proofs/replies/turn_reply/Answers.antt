use Rattle.std.proofs.Common.{◌∙◌, sym, rules}
use Rattle.edit_steps.proofs.Corners.{opposites_held}
use Rattle.mesh_verdicts.proofs.replies.turn_reply.Goals as goal

pub are_neighbours-requires : goal.are_neighbours-requires
are_neighbours-requires g c =
    let q = g.V.MeshView in
    let x = c.args.view.now in
    let held = opposites_held (q.inside x) (q.mesh x) c.args.a c.args.b _ _ c.requires.free c.requires.onto_free (sym c.opposites.ensures ∙ c.in-Some.is) in
    let h = held.0 in
    search rules
