-- Lists in which no number comes twice, by the test and by each number.
use Rattle.std.proofs.Common.{◌≡◌, ℕ, true, false, ◌++◌, not, eqb, List, [], ◌∷◌, sym, ap, ◌∙◌, refl}
use Rattle.std.proofs.lemmas.Bool.{and_parts, and_from, not-true, or_parts}
use Rattle.std.proofs.lemmas.List.Folds.{list_any-append}
use Rattle.std.specs.List.{list_any}
use Rattle.oemm_octree.specs.Leaves.{is_one_of}
use Rattle.mesh_data.specs.Rings.{are_distinct}
use Rattle.triangle_lists.proofs.Paths.{eqb_comm}
use Rattle.mesh_sheets.proofs.Filters.{AreDistinct, any_agree}

either_way : (n : ℕ) (ns : List ℕ) → list_any (λ m. eqb m n) ns ≡ is_one_of ns n
either_way n ns = any_agree (λ m. eqb m n) (λ m. eqb n m) (λ m. eqb_comm m n) ns

pub distinct_told : (ns : List ℕ) → are_distinct ns ≡ true → AreDistinct ns
distinct_told [] h = tt
distinct_told (n ∷ ns) h =
    let parts = and_parts (not (list_any (λ m. eqb m n) ns)) (are_distinct ns) h in
    (sym (either_way n ns) ∙ not-true (list_any (λ m. eqb m n) ns) parts.0, distinct_told ns parts.1)

pub distinct_test : (ns : List ℕ) → AreDistinct ns → are_distinct ns ≡ true
distinct_test [] d = refl
distinct_test (n ∷ ns) d = and_from (not (list_any (λ m. eqb m n) ns)) (are_distinct ns) (ap not (either_way n ns ∙ d.0)) (distinct_test ns d.1)

-- the parts of a list without repetition have none
pub distinct_left : (ns ms : List ℕ) → AreDistinct (ns ++ ms) → AreDistinct ns
distinct_left [] ms d = tt
distinct_left (n ∷ ns) ms d = (left_out n ns ms d.0, distinct_left ns ms d.1)
  where
    left_out : (n : ℕ) (ns ms : List ℕ) → is_one_of (ns ++ ms) n ≡ false → is_one_of ns n ≡ false
    left_out n ns ms out = (or_parts (is_one_of ns n) (is_one_of ms n) (sym (list_any-append (λ m. eqb n m) ns ms) ∙ out)).0
