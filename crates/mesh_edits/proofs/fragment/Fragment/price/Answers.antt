use Rattle.std.proofs.Common.{◌≡◌, ◌∙◌, ap, arith, rules}
use Rattle.mesh_data.specs.Planes.{Sums, added, sums_value}
use Rattle.mesh_data.specs.Quads.{sums_in}
use Rattle.oemm_plane.proofs.SumsRead.{read_as}
use Rattle.patch_edits.specs.PatchMesh.{cost_on}
use Rattle.mesh_edits.proofs.Parts.{cost_now, few_now}
use Rattle.mesh_edits.proofs.fragment.Fragment.price.Goals as goal

pub merge-requires : goal.merge-requires
merge-requires c =
    omega (arith, ap (λ (q : Sums). q.planes) c.quad_of-quad.ensures, ap (λ (q : Sums). q.planes) c.quad_of.ensures, few_now c.self.inside c.self.invariant.parts c.args.self.now c.self.view_is c.args.u c.args.v c.requires)

pub returns : goal.returns
returns c =
    let sums : sums_in c.merge.new.self ≡ _ = c.merge.ensures ∙ (λ j. added (c.quad_of-quad.ensures j) (c.quad_of.ensures j)) in
    read_as c.value_at.result (cost_on c.args.self.now.patch c.args.u c.args.v) (search rules)
    (c.value_at.ensures.value ∙ (λ j. sums_value (sums j) (c.place_of.ensures j)) ∙ cost_now c.self.inside c.self.invariant.parts c.args.self.now c.self.view_is c.args.u c.args.v)
