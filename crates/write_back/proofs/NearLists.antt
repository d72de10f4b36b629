-- Leaves that are near, ascending.
use Rattle.std.proofs.Common.{◌≡◌, ℕ, ◌+◌, ◌<◌, Bool, true, false, ◌&&◌, ltb, List, sym, ap, ◌∙◌, refl, arith}
use Rattle.std.proofs.lemmas.Bool.{ltb-true, ltb-false}
use Rattle.std.proofs.lemmas.List.Kept.{IsStrictlyIncreasing-filter}
use Rattle.std.specs.List.{filter, range_with_len}
use Rattle.std.specs.List.Sorted.{IsStrictlyIncreasing}
use Rattle.oemm_octree.specs.Leaves.{is_one_of}
use Rattle.mesh_sheets.proofs.Assembling.{one_of_range}
use Rattle.mesh_sheets.proofs.Climbing.{increasing, range_climbs}
use Rattle.mesh_sheets.proofs.Filters.{filter_all, one_of_filter}
use Rattle.mesh_sheets.proofs.Rims.{range_below}
use Rattle.mesh_cutting.proofs.OneList.{one_list}

in_range : (n l : ℕ) → is_one_of (range_with_len 0 n) l ≡ ltb l n
in_range n l =
    let all : filter (λ _. true) (range_with_len 0 n) ≡ range_with_len 0 n = filter_all (range_with_len 0 n) in
    elim (ltb l n) as (λ b. ltb l n ≡ b → is_one_of (range_with_len 0 n) l ≡ b) [
      | true ↦ λ on.
          let lt : l < n = ltb-true l n on in
          ap (λ (ns : List ℕ). is_one_of ns l) (sym all) ∙ one_of_range (λ _. true) l 0 n refl (omega arith) (omega (arith, lt))
      | false ↦ λ off.
          elim (is_one_of (range_with_len 0 n) l) as (λ b. is_one_of (range_with_len 0 n) l ≡ b → b ≡ false) [
            | true ↦ λ on.
                let lt : l < 0 + n = range_below (λ _. true) l 0 n (ap (λ (ns : List ℕ). is_one_of ns l) all ∙ on) in
                absurd (omega (arith, lt, ltb-false l n off))
            | false ↦ λ _. refl
          ] refl
    ] refl

and_swap : (a b : Bool) → (a && b) ≡ (b && a)
and_swap true true = refl
and_swap true false = refl
and_swap false true = refl
and_swap false false = refl

-- those of ascending leaves below n are all leaves below n that are one of them
pub near_list : (joined : List ℕ) (n : ℕ) (is_near : ℕ → Bool) → IsStrictlyIncreasing joined
    → ((l : ℕ) → is_one_of joined l ≡ is_near l)
    → filter (λ l. ltb l n) joined ≡ filter is_near (range_with_len 0 n)
near_list joined n is_near up told =
    one_list _ _ (IsStrictlyIncreasing-filter (λ l. ltb l n) joined up)
    (IsStrictlyIncreasing-filter is_near (range_with_len 0 n) (increasing _ (range_climbs 0 n)))
    (λ l.
    one_of_filter (λ l. ltb l n) joined l
    ∙ (λ i. ltb l n && told l i)
    ∙ and_swap (ltb l n) (is_near l)
    ∙ (λ i. is_near l && sym (in_range n l) i)
    ∙ sym (one_of_filter is_near (range_with_len 0 n) l))
