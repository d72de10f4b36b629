use Rattle.std.proofs.Common.{◌∙◌, ap, arith, refl}
use Rattle.std.specs.List.{filter}
use Rattle.mesh_data.specs.Planes.{Sums, added}
use Rattle.patch_edits.specs.Edits.{with_changed}
use Rattle.patch_edits.specs.PatchMesh.{sums_at}
use Rattle.mesh_edits.proofs.Altered.{others, removed_changed}
use Rattle.mesh_edits.proofs.vertices.PatchVertices.take_over.Goals as goal

pub merge-requires : goal.merge-requires
merge-requires c = omega (arith, c.requires, ap (λ (s : Sums). s.planes) c.quad_of-quad.ensures)

pub returns : goal.returns
returns c =
    let u = c.args.u in
    let v = c.args.v in
    let old = c.args.self.now in
    c.remove.ensures
    ∙ ap (filter (others u)) (c.merge.ensures ∙ ap (λ (s : Sums). with_changed v (λ x. record x { quad = added x.quad s }) old) c.quad_of-quad.ensures)
    ∙ removed_changed u v (λ x. record x { quad = added x.quad (sums_at old u) }) (λ x. refl) old
