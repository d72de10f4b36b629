use Rattle.std.proofs.Common.{◌≡◌, ◌∙◌, true, sym, ap, is_some, rules}
use Rattle.half_edge.specs.Meshes.{Faced, is_held}
use Rattle.half_edge.proofs.Apexes.{held_corner}
use Rattle.half_edge.proofs.HeldKeys.{key_is}
use Rattle.half_edge.proofs.mesh.HalfMesh.has.Goals as goal

pub returns-clause-has : goal.returns-clause-has
returns-clause-has c =
    let h : is_some c.out_at.result ≡ is_held c.args.self.now c.args.v = ap is_some c.out_at.ensures
    ∙ sym (key_is c.self.inside.outs c.args.v) ∙ ap (λ (f : Faced). is_held f c.args.v) c.self.view_is in
    search rules

pub returns-clause-corner : goal.returns-clause-corner
returns-clause-corner c on =
    let h : is_some c.out_at.result ≡ is_held c.args.self.now c.args.v = ap is_some c.out_at.ensures
    ∙ sym (key_is c.self.inside.outs c.args.v) ∙ ap (λ (f : Faced). is_held f c.args.v) c.self.view_is in
    let held : is_held c.args.self.now c.args.v ≡ true = search rules in
    held_corner c.self.inside.halves.slots c.self.inside.outs c.args.self.now c.args.v c.self.invariant c.self.view_is
    held
