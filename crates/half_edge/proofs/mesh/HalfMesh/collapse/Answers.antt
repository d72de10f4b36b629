use Rattle.std.proofs.Common.{◌∙◌, ap, is_some}
use Rattle.half_edge.specs.Meshes.{Faced, is_held}
use Rattle.half_edge.proofs.HeldKeys.{held_key}
use Rattle.half_edge.proofs.mesh.HalfMesh.collapse.Goals as goal

pub collapse_parts-requires-clause-held : goal.collapse_parts-requires-clause-held
collapse_parts-requires-clause-held c =
    ap is_some (held_key c.self.inside.outs c.args.v (ap (λ (f : Faced). is_held f c.args.v) c.self.view_is
    ∙ c.requires.v_held)).1
