-- Edits as bytes.
use Rattle.std.specs.Prelude.{ℕ, ◌^◌, ◌<◌, ◌++◌, Bool, true, nat_le, ◌&&◌, nat_abs, pos, int_le, List, [], ◌∷◌, ℤ, Result, FitsSigned}
use Rattle.std.specs.Int.{w128}
use Rattle.mesh_data.specs.declared.edits.Edit.{Edit}
use Rattle.mesh_data.specs.declared.edits.Edit.TheVariants.{Move, Collapse, Flip, Simplify}
use Rattle.byte_grammar.specs.Reader.{Reader, ◌>>=◌, done, number, signed, choose}
use Rattle.byte_grammar.specs.Numbers.{u8_bytes, u32_bytes, i128_bytes}
use Rattle.geometry_bytes.specs.Geometry.{point_bytes, FitsPoint, point}
use Rattle.oemm_limits.specs.declared.TheConstants.{MOST_COST}
use Rattle.oemm_limits.specs.declared.TheConstants.{MOST_ITEMS}

-- ---- bytes: the tag, and the fields

abbrev pub edit_tag : Edit → ℕ
edit_tag (Collapse u v max) = 1
edit_tag (Move v p) = 2
edit_tag (Flip a b) = 3
edit_tag (Simplify max target) = 4

abbrev pub edit_fields : Edit → List ℕ
edit_fields (Collapse u v max) = u32_bytes u ++ (u32_bytes v ++ i128_bytes max)
edit_fields (Move v p) = u32_bytes v ++ point_bytes p
edit_fields (Flip a b) = u32_bytes a ++ u32_bytes b
edit_fields (Simplify max target) = i128_bytes max ++ u32_bytes target

unfoldable pub edit_bytes : Edit → List ℕ
edit_bytes e = u8_bytes (edit_tag e) ++ edit_fields e

-- each number fits its type
abbrev pub FitsEdit : Edit → Type 0
FitsEdit (Collapse u v max) = (u < 2 ^ 32) × ((v < 2 ^ 32) × FitsSigned w128 max)
FitsEdit (Move v p) = (v < 2 ^ 32) × FitsPoint p
FitsEdit (Flip a b) = (a < 2 ^ 32) × (b < 2 ^ 32)
FitsEdit (Simplify max target) = FitsSigned w128 max × (target < 2 ^ 32)

-- ---- the ranges of a script

unfoldable pub is_bound : ℤ → Bool
is_bound z = int_le (pos 0) z && nat_le (nat_abs z) MOST_COST

unfoldable pub is_edit : Edit → Bool
is_edit (Collapse u v max) = is_bound max
is_edit (Move v p) = true
is_edit (Flip a b) = true
is_edit (Simplify max target) = is_bound max && nat_le target MOST_ITEMS

-- ---- reading

unfoldable pub collapse : Reader Edit
collapse = do
  u ← number 4
  v ← number 4
  max ← signed w128 16
  done (Collapse u v max)

unfoldable pub move_fields : Reader Edit
move_fields = do
  v ← number 4
  p ← point
  done (Move v p)

unfoldable pub flip : Reader Edit
flip = do
  a ← number 4
  b ← number 4
  done (Flip a b)

unfoldable pub simplify : Reader Edit
simplify = do
  max ← signed w128 16
  target ← number 4
  done (Simplify max target)

abbrev pub edit_rows : List (ℕ × Reader Edit)
edit_rows = (1, collapse) ∷ (2, move_fields) ∷ (3, flip) ∷ (4, simplify) ∷ []

unfoldable pub edit : Reader Edit
edit = do
  tag ← number 1
  choose tag edit_rows
