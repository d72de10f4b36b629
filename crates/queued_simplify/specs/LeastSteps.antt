-- The steps of a simplification of a mesh with errors.
use Rattle.std.specs.Prelude.{◌≡◌, ℕ, ◌≤◌, ◌<◌, ℤ, Bool, true, List, [], ◌∷◌, ◌⊎◌}
use Rattle.std.specs.Ordering.{is_le}
use Rattle.oemm_octree.specs.declared.points.Point.{Point}
use Rattle.mesh_data.specs.declared.edits.Reply.TheVariants.{DoneAt}
use Rattle.mesh_data.specs.declared.edits.Step.{Step}
use Rattle.mesh_data.specs.Edits.{step_cmp, whole_count}
use Rattle.queued_simplify.specs.Errors.{ErrorMesh, collapse_reply, contracted}

-- no collapse is done
abbrev pub HasNoneDone : (Point → Bool) → ErrorMesh → ℤ → Type 0
HasNoneDone inside w most = (u v : ℕ) (cost_of : ℤ) → collapse_reply inside w u v most ≡ DoneAt cost_of → ⊥

-- a collapse that is done, and none that is done is less
pub record IsLeastDone (inside : Point → Bool) (w : ErrorMesh) (most : ℤ) (s : Step) : Type 0 where
  pub done : collapse_reply inside w s.u s.v most ≡ DoneAt s.cost
  pub least : (u v : ℕ) (cost_of : ℤ) → collapse_reply inside w u v most ≡ DoneAt cost_of
      → is_le (step_cmp s (record { u = u; v = v; cost = cost_of })) ≡ true

-- Each step is the least collapse that is done at its moment. A step is made only above the target, and the steps end
-- only where the target is reached or no collapse is done.
abbrev pub AreLeastStepsBy : (Point → Bool) → ErrorMesh → ℤ → ℕ → List Step → Type 0
AreLeastStepsBy inside w most target [] = (whole_count inside w.mesh ≤ target) ⊎ HasNoneDone inside w most
AreLeastStepsBy inside w most target (s ∷ ss) =
    (target < whole_count inside w.mesh)
    × IsLeastDone inside w most s
    × AreLeastStepsBy inside (contracted w s.u s.v) most target ss
