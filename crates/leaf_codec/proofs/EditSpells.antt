-- Edits are read as they are spelled.
use Rattle.std.proofs.Common.{◌≡◌, ℕ, ◌<◌, ◌^◌, ◌++◌, List, Ok, refl, ℤ, FitsSigned, arith}
use Rattle.std.specs.Int.{w128}
use Rattle.oemm_octree.specs.declared.points.Point.{Point}
use Rattle.mesh_data.specs.declared.edits.Edit.{Edit}
use Rattle.mesh_data.specs.declared.edits.Edit.TheVariants.{Move, Collapse, Flip, Simplify}
use Rattle.byte_grammar.specs.Reader.{choose}
use Rattle.byte_grammar.specs.Numbers.{u32_bytes, i128_bytes}
use Rattle.byte_grammar.specs.Keeps.{Always}
use Rattle.byte_grammar.proofs.Spells.{Spells}
use Rattle.byte_grammar.proofs.NumberSpells.{Spells-u8, Spells-u32, Spells-i128}
use Rattle.byte_grammar.proofs.Variants.{Makes, Makes-then, Makes-last, made_fields, AreRows, Spells-tagged}
use Rattle.geometry_bytes.specs.Geometry.{point_bytes, FitsPoint}
use Rattle.leaf_codec.specs.Edits.{edit_tag, edit_fields, edit_bytes, FitsEdit, collapse, move_fields, flip, simplify, edit_rows, edit}
use Rattle.geometry_bytes.proofs.GeometrySpells.{Spells-point}

Makes-collapse : Makes (λ (t : ℕ × (ℕ × ℤ)). Collapse t.0 t.1.0 t.1.1) collapse
    (λ t. u32_bytes t.0 ++ (u32_bytes t.1.0 ++ i128_bytes t.1.1))
    (λ t. Always × ((t.0 < 2 ^ 32) × ((t.1.0 < 2 ^ 32) × FitsSigned w128 t.1.1)))
unfolding collapse
Makes-collapse =
    Makes-then Spells-u32 (λ t. t.0) λ u _.
    Makes-then Spells-u32 (λ t. t.1.0) λ v _.
    Makes-last Spells-i128 (λ t. t.1.1) (λ max. (u, (v, max))) (λ max _. (((tt, refl), refl), refl))
    (λ t e _. rw (← e.0.1, ← e.1) refl)

Makes-move : Makes (λ (t : ℕ × Point). Move t.0 t.1) move_fields (λ t. u32_bytes t.0 ++ point_bytes t.1)
    (λ t. Always × ((t.0 < 2 ^ 32) × FitsPoint t.1))
unfolding move_fields
Makes-move =
    Makes-then Spells-u32 (λ t. t.0) λ v _.
    Makes-last Spells-point (λ t. t.1) (λ p. (v, p)) (λ p _. ((tt, refl), refl)) (λ t e _. rw (← e.1) refl)

Makes-flip : Makes (λ (t : ℕ × ℕ). Flip t.0 t.1) flip (λ t. u32_bytes t.0 ++ u32_bytes t.1)
    (λ t. Always × ((t.0 < 2 ^ 32) × (t.1 < 2 ^ 32)))
unfolding flip
Makes-flip =
    Makes-then Spells-u32 (λ t. t.0) λ a _.
    Makes-last Spells-u32 (λ t. t.1) (λ b. (a, b)) (λ b _. ((tt, refl), refl)) (λ t e _. rw (← e.1) refl)

Makes-simplify : Makes (λ (t : ℤ × ℕ). Simplify t.0 t.1) simplify (λ t. i128_bytes t.0 ++ u32_bytes t.1)
    (λ t. Always × (FitsSigned w128 t.0 × (t.1 < 2 ^ 32)))
unfolding simplify
Makes-simplify =
    Makes-then Spells-i128 (λ t. t.0) λ max _.
    Makes-last Spells-u32 (λ t. t.1) (λ target. (max, target)) (λ target _. ((tt, refl), refl))
    (λ t e _. rw (← e.1) refl)

edits_are : AreRows edit_tag edit_fields FitsEdit edit_rows
edits_are = (
  made_fields Makes-collapse edit_tag edit_fields FitsEdit 1 (λ t h. (refl, (refl, h.1))),
  (
    made_fields Makes-move edit_tag edit_fields FitsEdit 2 (λ t h. (refl, (refl, h.1))),
    (
      made_fields Makes-flip edit_tag edit_fields FitsEdit 3 (λ t h. (refl, (refl, h.1))),
      (made_fields Makes-simplify edit_tag edit_fields FitsEdit 4 (λ t h. (refl, (refl, h.1))), tt),
    ),
  ),
)

small_tag : (e : Edit) → edit_tag e < 2 ^ 8
small_tag (Collapse u v max) = omega arith
small_tag (Move v p) = omega arith
small_tag (Flip a b) = omega arith
small_tag (Simplify max target) = omega arith

edit_again : (e : Edit) (rest : List ℕ) → FitsEdit e
    → choose (edit_tag e) edit_rows (edit_fields e ++ rest) ≡ Ok (e, rest)
edit_again (Collapse u v max) rest h = Makes-collapse.again (u, (v, max)) rest (tt, h)
edit_again (Move v p) rest h = Makes-move.again (v, p) rest (tt, h)
edit_again (Flip a b) rest h = Makes-flip.again (a, b) rest (tt, h)
edit_again (Simplify max target) rest h = Makes-simplify.again (max, target) rest (tt, h)

pub Spells-edit : Spells edit edit_bytes FitsEdit
unfolding edit edit_bytes
Spells-edit = Spells-tagged Spells-u8 edit_tag edit_fields FitsEdit edit_rows edits_are small_tag edit_again
