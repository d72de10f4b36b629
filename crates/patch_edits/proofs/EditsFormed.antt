-- Edits leave well-formed patches.
use Rattle.std.proofs.Common.{◌≡◌, ℕ, ℤ, Bool, true, false, cond, length, List, [], ◌∷◌, sym, ap, refl, subst}
use Rattle.oemm_octree.specs.declared.cells.Cell.{Cell}
use Rattle.oemm_octree.specs.declared.points.Point.{Point}
use Rattle.oemm_octree.specs.Leaves.{AreBelow, AreTiles, in_core}
use Rattle.oemm_octree.specs.Octree.{area_of, is_inside}
use Rattle.oemm_octree.proofs.Tilings.{area_is_core}
use Rattle.mesh_data.specs.declared.edits.Edit.{Edit}
use Rattle.mesh_data.specs.declared.edits.Edit.TheVariants.{Move, Collapse, Flip, Simplify}
use Rattle.mesh_data.specs.declared.edits.Step.{Step}
use Rattle.mesh_data.specs.Edits.{is_done, move_verdict, flip_verdict}
use Rattle.edit_steps.proofs.Passed.{collapse_passed_by, flip_passed}
use Rattle.sheet_data.specs.declared.patches.Patch.{Patch}
use Rattle.sheet_frame.proofs.Free.{can_move}
use Rattle.sheet_forms.specs.Formed.{IsPatchFor}
use Rattle.patch_edits.specs.PatchMesh.{mesh_of, cost_on}
use Rattle.patch_edits.specs.Edits.{collapse_on, moved_on, collapsed_on, flipped_on, collapsed_on_by, simplified_on, verdict_on, after_on}
use Rattle.patch_edits.specs.LeastSteps.{AreLeastStepsOn}
use Rattle.patch_edits.specs.Work.{work_on}
use Rattle.patch_edits.proofs.FlipFormed.{formed_flipped}
use Rattle.patch_edits.proofs.Formed.{formed_collapsed, formed_moved}
use Rattle.patch_edits.proofs.LeastSteps.{least_steps}

module _ (cells : List Cell) (core : List ℕ) where
  abbrev inside : Point → Bool
  inside = in_core cells core

  collapse_formed : (p : Patch) (u v : ℕ) (most : ℤ) → is_done (collapse_on inside p u v most) ≡ true → IsPatchFor cells core p → IsPatchFor cells core (collapsed_on p u v)
  collapse_formed p u v most done formed = formed_collapsed cells core p formed u v (collapse_passed_by (cost_on p u v) inside (mesh_of p) u v most done)

  if_done : (p q : Patch) (b : Bool) → IsPatchFor cells core p → (b ≡ true → IsPatchFor cells core q) → IsPatchFor cells core (cond b q p)
  if_done p q true formed h = h refl
  if_done p q false formed h = formed

  steps_formed : (most : ℤ) (target : ℕ) (ss : List Step) (p : Patch) → AreLeastStepsOn inside p most target ss → IsPatchFor cells core p → IsPatchFor cells core (collapsed_on_by p ss)
  steps_formed most target [] p are formed = formed
  steps_formed most target (s ∷ ss) p are formed =
      steps_formed most target ss (collapsed_on p s.u s.v) are.3 (collapse_formed p s.u s.v most (ap is_done are.1) formed)

  pub edit_formed : (p : Patch) (e : Edit) → IsPatchFor cells core p → IsPatchFor cells core (after_on p e (verdict_on inside p e))
  edit_formed p (Move v to) formed =
      if_done p (moved_on p v to) (is_done (move_verdict inside (mesh_of p) v to)) formed (λ done. formed_moved cells core p formed v to (can_move inside (mesh_of p) v to done))
  edit_formed p (Collapse u v most) formed =
      if_done p (collapsed_on p u v) (is_done (collapse_on inside p u v most)) formed (λ done. collapse_formed p u v most done formed)
  edit_formed p (Flip a b) formed =
      if_done p (flipped_on p a b) (is_done (flip_verdict inside (mesh_of p) a b)) formed (λ done. formed_flipped cells core p formed a b (flip_passed inside (mesh_of p) a b done))
  edit_formed p (Simplify most target) formed =
      steps_formed most target (simplified_on inside p most target).steps p (least_steps inside most target p) formed

  pub work_formed : (es : List Edit) (p : Patch) → IsPatchFor cells core p → IsPatchFor cells core (work_on inside p es).patch
  work_formed [] p formed = formed
  work_formed (e ∷ es) p formed = work_formed es (after_on p e (verdict_on inside p e)) (edit_formed p e formed)

-- ---- by the cells of the core

pub work_formed_on_core : (cells : List Cell) (core : List ℕ) (p : Patch) (es : List Edit) → AreTiles cells → AreBelow (length cells) core → IsPatchFor cells core p
    → IsPatchFor cells core (work_on (is_inside (area_of cells core)) p es).patch
work_formed_on_core cells core p es tiles below formed =
    subst (λ (area : Point → Bool). IsPatchFor cells core (work_on area p es).patch) (sym (area_is_core cells core tiles below)) (work_formed cells core es p formed)
