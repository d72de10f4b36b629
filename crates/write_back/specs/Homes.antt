-- The homes of the names of a patch, and its items by leaves.
use Rattle.std.specs.Prelude.{◌≡◌, ℕ, ◌==◌, List, ◌++◌, map, min}
use Rattle.std.specs.List.{filter, find}
use Rattle.std.specs.List.Sorted.{IsNonDecreasingBy}
use Rattle.std.specs.Option.{option_map_or}
use Rattle.mesh_data.specs.declared.geometry.Tri.{Tri}
use Rattle.mesh_data.specs.Triangles.{corners}
use Rattle.sheet_data.specs.declared.patches.Patch.{Patch}

-- the leaf of a name by names with their homes, and none where it isn't one of them
abbrev pub leaf_in : List (ℕ × ℕ) → ℕ → ℕ → ℕ
leaf_in homes none v = option_map_or (λ h. h.1) (find (λ h. v == h.0) homes) none

-- the least leaf of the corners of a triangle
abbrev pub keeper_in : List (ℕ × ℕ) → ℕ → Tri → ℕ
keeper_in homes none t = min (leaf_in homes none t.a) (min (leaf_in homes none t.b) (leaf_in homes none t.c))

-- the triangle with the leaf of each of its corners
abbrev pub at_corners : List (ℕ × ℕ) → ℕ → Tri → List (ℕ × Tri)
at_corners homes none t = map (λ v. (leaf_in homes none v, t)) (corners t)

-- the corners of the triangle with their leaves
abbrev pub with_homes : List (ℕ × ℕ) → ℕ → Tri → List (ℕ × ℕ)
with_homes homes none t = map (λ v. (v, leaf_in homes none v)) (corners t)

-- the triangles of a patch with the leaves that keep them
abbrev pub kept : List (ℕ × ℕ) → ℕ → Patch → List (ℕ × Tri)
kept homes none p = map (λ t. (keeper_in homes none t, t)) p.whole ++ map (λ x. (x.leaf, x.tri)) p.mixed

-- items by their leaves; those of one leaf stand as they stood
pub record AreByLeaf {X : Type 0} (items groups : List (ℕ × X)) : Type 0 where
  pub sorted : IsNonDecreasingBy (λ x. x.0) groups
  pub same : (leaf : ℕ) → filter (λ x. x.0 == leaf) groups ≡ filter (λ x. x.0 == leaf) items
