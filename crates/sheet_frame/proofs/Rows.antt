-- Rows of edits on a core change nothing but what is wholly in it.
use Rattle.std.proofs.Common.{◌≡◌, ℕ, ℤ, Bool, true, false, cond, List, [], ◌∷◌, length, ap, refl}
use Rattle.oemm_octree.specs.declared.points.Point.{Point}
use Rattle.oemm_octree.specs.declared.cells.Cell.{Cell}
use Rattle.mesh_data.specs.declared.edits.Edit.{Edit}
use Rattle.mesh_data.specs.declared.edits.Edit.TheVariants.{Move, Collapse, Flip, Simplify}
use Rattle.mesh_data.specs.declared.edits.Step.{Step}
use Rattle.mesh_data.specs.Edits.{is_done, verdict, after, moved, collapsed, flipped, collapsed_by, simplified, AreLeastSteps, move_verdict, collapse_verdict, flip_verdict}
use Rattle.mesh_data.specs.Mesh.{Mesh}
use Rattle.mesh_data.specs.Work.{work}
use Rattle.edit_steps.proofs.Passed.{collapse_passed, flip_passed}
use Rattle.edit_steps.proofs.Simplification.{least_of_all}
use Rattle.oemm_octree.specs.Leaves.{is_one_of, in_core}
use Rattle.mesh_sheets.specs.Clean.{IsClean}
use Rattle.sheet_frame.proofs.Rest.{SameRest, SameRest-refl, SameRest-trans}
use Rattle.sheet_frame.proofs.Cleans.{all_turned, clean_collapse, clean_edit}
use Rattle.sheet_frame.proofs.Free.{can_move}
use Rattle.sheet_frame.proofs.Frame.{frame_moved, frame_collapsed, frame_flipped}

module _ (cells : List Cell) (core : List ℕ) (none : is_one_of core (length cells) ≡ false) where
  abbrev inside : Point → Bool
  inside = in_core cells core

  same_rest : (m : Mesh) → SameRest cells core m m
  same_rest m = SameRest-refl cells core m

  pub frame_collapse : (m : Mesh) (u v : ℕ) (most : ℤ) → IsClean m → is_done (collapse_verdict inside m u v most) ≡ true → SameRest cells core m (collapsed m u v)
  frame_collapse m u v most clean done = frame_collapsed cells core none m u v clean.sorted (all_turned m clean) (collapse_passed inside m u v most done).pair

  frame_steps : (m : Mesh) (most : ℤ) (target : ℕ) (ss : List Step) → IsClean m → AreLeastSteps inside m most target ss → SameRest cells core m (collapsed_by m ss)
  frame_steps m most target [] clean steps = same_rest m
  frame_steps m most target (s ∷ ss) clean steps =
      let next = collapsed m s.u s.v in
      SameRest-trans cells core m next (collapsed_by next ss) (frame_collapse m s.u s.v most clean (ap is_done steps.1))
      (frame_steps next most target ss (clean_collapse inside m s.u s.v most clean (ap is_done steps.1)).clean steps.3)

  frame_if : (m n : Mesh) (b : Bool) → (b ≡ true → SameRest cells core m n) → SameRest cells core m (cond b n m)
  frame_if m n true h = h refl
  frame_if m n false h = same_rest m

  pub frame_edit : (m : Mesh) (e : Edit) → IsClean m → SameRest cells core m (after m e (verdict inside m e))
  frame_edit m (Move v to) clean =
      frame_if m (moved m v to) (is_done (move_verdict inside m v to)) (λ done. frame_moved cells core none m v to clean.sorted (can_move inside m v to done))
  frame_edit m (Collapse u v most) clean = frame_if m (collapsed m u v) (is_done (collapse_verdict inside m u v most)) (frame_collapse m u v most clean)
  frame_edit m (Flip a b) clean =
      frame_if m (flipped m a b) (is_done (flip_verdict inside m a b)) (λ done. frame_flipped cells core none m a b clean.sorted (flip_passed inside m a b done).pair)
  frame_edit m (Simplify most target) clean = frame_steps m most target (simplified inside m most target).steps clean (least_of_all inside m most target)

  -- edits in a row
  pub frame_work : (es : List Edit) (m : Mesh) → IsClean m → SameRest cells core m (work inside m es).mesh
  frame_work [] m clean = same_rest m
  frame_work (e ∷ es) m clean =
      let n = after m e (verdict inside m e) in
      SameRest-trans cells core m n (work inside n es).mesh (frame_edit m e clean) (frame_work es n (clean_edit inside m e clean).clean)
