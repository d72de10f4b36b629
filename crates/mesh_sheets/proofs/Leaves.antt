-- The leaves of names and of triangles.
use Rattle.std.proofs.Common.{◌≡◌, ℕ, min, eqb, false, true, List, [], ◌∷◌, length, None, Some, refl, arith}
use Rattle.std.proofs.lemmas.Bool.Decides.{nat_tests}
use Rattle.std.proofs.lemmas.Bool.{false_from_ne_true}
use Rattle.std.specs.Option.{option_map_or}
use Rattle.oemm_octree.specs.declared.cells.Cell.{Cell}
use Rattle.oemm_octree.specs.Leaves.{AreBelow, home, in_core, is_one_of}
use Rattle.mesh_data.specs.Edits.{is_held}
use Rattle.mesh_data.specs.Mesh.{Mesh, point_of}
use Rattle.mesh_sheets.specs.Sheets.{leaf_of}

-- no leaf of a core is the number of cells
pub none_at : (n : ℕ) (ls : List ℕ) → AreBelow n ls → is_one_of ls n ≡ false
none_at n ls below = false_from_ne_true (is_one_of ls n) (λ h. let lt = below n h in absurd (omega arith))

-- a vertex is held where its leaf is one of the core
pub leaf_held : (cells : List Cell) (core : List ℕ) → is_one_of core (length cells) ≡ false → (m : Mesh) (v : ℕ)
    → is_one_of core (leaf_of cells m v) ≡ is_held (in_core cells core) m v
leaf_held cells core none m v =
    elim (point_of m v) as (λ o. is_one_of core (option_map_or (home cells) o (length cells)) ≡ option_map_or (in_core cells core) o false) [ None ↦ none | Some p ↦ refl ]

-- the least of three numbers is one of them
pub least_is_one : (a b c leaf : ℕ) → eqb (min a (min b c)) leaf ≡ true → is_one_of (a ∷ b ∷ c ∷ []) leaf ≡ true
least_is_one a b c leaf h = grind (arith, nat_tests)
