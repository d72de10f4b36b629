use Rattle.std.proofs.Common.{◌≡◌, ◌∙◌, ℤ, ap, sym, to_z, of_z, rules}
use Rattle.std.specs.FinMap as finite
use Rattle.std.specs.Int.{w128}
use Rattle.std.proofs.lemmas.Int.{to_z-of_z}
use Rattle.mesh_data.specs.Edits.{simplified}
use Rattle.oemm_octree.specs.Octree.{is_inside}
use Rattle.edit_steps.proofs.Simplification.{made_by_steps}
use Rattle.mesh_model.proofs.plain_mesh.PlainMesh.simplify.Goals as goal

pub returns-clause-mesh : goal.returns-clause-mesh
returns-clause-mesh c =
    let inside = is_inside c.args.area.now in
    let top = to_z w128 (of_z w128 c.args.max) in
    let same : top ≡ c.args.max = to_z-of_z w128 c.args.max (search rules) in
    c.in_ok-steps.ensures.mesh
    ∙ ap (λ (x : ℤ). (simplified inside c.args.self.now x c.args.target).mesh) same
    ∙ sym (made_by_steps (finite.len c.args.self.now.vertices) inside c.args.self.now c.args.max c.args.target)
