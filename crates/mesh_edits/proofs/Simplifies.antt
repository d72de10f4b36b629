-- What a simplification of a fragment answers, and what it leaves.
use Rattle.std.proofs.Common.{◌≡◌, ℕ, ℤ, List, length, sym, ap, ◌∙◌}
use Rattle.oemm_octree.specs.declared.cells.Cell.{Cell}
use Rattle.oemm_octree.specs.Octree.{is_inside}
use Rattle.mesh_data.specs.declared.edits.Edit.TheVariants.{Simplify}
use Rattle.mesh_data.specs.declared.edits.Reply.TheVariants.{Simplified}
use Rattle.mesh_data.specs.declared.edits.Step.{Step}
use Rattle.sheet_data.specs.declared.patches.Patch.{Patch}
use Rattle.queued_simplify.specs.Errors.{made_by}
use Rattle.queued_simplify.specs.LeastSteps.{AreLeastStepsBy}
use Rattle.queued_simplify.specs.Turns.{IsInOrder}
use Rattle.patch_edits.specs.Edits.{PatchSimplification, collapsed_on_by, simplified_on, verdict_on}
use Rattle.patch_edits.specs.PatchMesh.{mesh_of}
use Rattle.patch_edits.proofs.LeastSteps.{simplified_by}
use Rattle.mesh_edits.specs.Fragments.{Fragmented, IsPatchOn}
use Rattle.mesh_edits.specs.Simplified.{collapsed_in, seen_on}
use Rattle.mesh_edits.proofs.On.{shaped_on, sorted_on}
use Rattle.mesh_edits.proofs.Seen.{made_on, steps_on}

pub in_order_on : (area : List Cell) (p : Patch) → IsPatchOn area p → IsInOrder (mesh_of p)
in_order_on area p on = record {
  triangles = λ k d lt. let shape = shaped_on area p on k d lt in record { proper = shape.0; is_turned = shape.1; a = tt; b = tt; c = tt };
  sorted = sorted_on area p on;
}

module _ (f new : Fragmented) (on : IsPatchOn f.area f.patch) (most : ℤ) (target : ℕ) (ss : List Step)
    (least : AreLeastStepsBy (is_inside f.area) (seen_on f.patch) most target ss) (made : new ≡ made_by collapsed_in f ss) where
  pub patch_left : new.patch ≡ collapsed_on_by f.patch ss
  patch_left = ap (λ (g : Fragmented). g.patch) (made ∙ made_on f ss)

  pub area_left : new.area ≡ f.area
  area_left = ap (λ (g : Fragmented). g.area) (made ∙ made_on f ss)

  pub reply_left : (left : ℕ) → left ≡ length new.patch.whole → Simplified ss left ≡ verdict_on (is_inside f.area) f.patch (Simplify most target)
  reply_left left count =
      let all = simplified_by (is_inside f.area) most target ss f.patch (steps_on f.area most target ss f.patch on least) in
      let as_many : left ≡ length (simplified_on (is_inside f.area) f.patch most target).patch.whole = count ∙ ap (λ (q : Patch). length q.whole) patch_left ∙ sym (ap (λ (t : PatchSimplification). length t.patch.whole) all) in
      let back = sym all in
      λ j. Simplified ((back j).steps) (as_many j)
