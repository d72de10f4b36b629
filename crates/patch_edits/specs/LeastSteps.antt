-- The steps of a simplification on a patch.
use Rattle.std.specs.Prelude.{◌≡◌, ℕ, ◌≤◌, ◌<◌, ℤ, Bool, true, List, [], ◌∷◌, length, ◌⊎◌}
use Rattle.std.specs.Ordering.{is_le}
use Rattle.oemm_octree.specs.declared.points.Point.{Point}
use Rattle.mesh_data.specs.declared.edits.Step.{Step}
use Rattle.mesh_data.specs.declared.edits.Reply.TheVariants.{DoneAt}
use Rattle.mesh_data.specs.Edits.{step_cmp}
use Rattle.sheet_data.specs.declared.patches.Patch.{Patch}
use Rattle.patch_edits.specs.Edits.{collapse_on, collapsed_on}

-- Each step is a collapse that is done at its moment, and none that is done then is less. A step is made only above the
-- target, and the steps end only where the target is reached or no collapse is done.
abbrev pub AreLeastStepsOn : (Point → Bool) → Patch → ℤ → ℕ → List Step → Type 0
AreLeastStepsOn inside p most target [] =
    (length p.whole ≤ target) ⊎ ((u v : ℕ) (cost_of : ℤ) → collapse_on inside p u v most ≡ DoneAt cost_of → ⊥)
AreLeastStepsOn inside p most target (s ∷ ss) =
    (target < length p.whole)
    × (collapse_on inside p s.u s.v most ≡ DoneAt s.cost)
    × ((u v : ℕ) (cost_of : ℤ) → collapse_on inside p u v most ≡ DoneAt cost_of
    → is_le (step_cmp s (record { u = u; v = v; cost = cost_of })) ≡ true)
    × AreLeastStepsOn inside (collapsed_on p s.u s.v) most target ss
