-- Lists that ascend and have the same numbers are one list.
use Rattle.std.proofs.Common.{◌≡◌, ℕ, Bool, true, false, cond, ◌||◌, eqb, List, [], ◌∷◌, map, Option, Some, None, sym, ap, ◌∙◌, refl}
use Rattle.std.proofs.lemmas.Bool.{and_from}
use Rattle.std.proofs.lemmas.Map.Keys.{sorted_from_strictly_increasing, sorted_head, sorted_tail}
use Rattle.std.specs.Cmp.{nat_cmp_total, unsigned_tied}
use Rattle.std.specs.FinMap.{nat_cmp-IsAntisymmetric}
use Rattle.std.specs.FinMap.Entries.{below_all, find, is_sorted, same_entries}
use Rattle.std.specs.List.{AllByRecursion}
use Rattle.std.specs.List.Sorted.{IsStrictlyIncreasing, IsStrictlySortedBy}
use Rattle.std.specs.Ordering.{is_lt, nat_cmp}
use Rattle.std.specs.declared.cmp.Ordering.TheVariants.{Less}
use Rattle.oemm_octree.specs.Leaves.{is_one_of}
use Rattle.mesh_sheets.proofs.Filters.{map-map, map_itself}
use Rattle.mesh_sheets.proofs.Kept.{T_of_true}

-- the numbers as the keys of a map
abbrev pairs : List ℕ → List (ℕ × Unit {0})
pairs ns = map (λ n. (n, tt)) ns

found : (v : ℕ) (ns : List ℕ) → find nat_cmp v (pairs ns) ≡ cond (is_one_of ns v) (Some tt) None
found v [] = refl
found v (n ∷ ns) =
    ap (λ b. cond b (Some tt) (find nat_cmp v (pairs ns))) (unsigned_tied v n)
    ∙ elim (eqb v n) as (λ b. cond b (Some tt) (find nat_cmp v (pairs ns)) ≡ cond (b || is_one_of ns v) (Some tt) None) [
      | true ↦ refl
      | false ↦ found v ns
    ]

below_pairs : (n : ℕ) (ns : List ℕ) → AllByRecursion (λ k. nat_cmp n k ≡ Less) ns → below_all nat_cmp n (pairs ns) ≡ true
below_pairs n [] all = refl
below_pairs n (k ∷ ns) all = and_from _ _ (ap is_lt all.0) (below_pairs n ns all.1)

sorted_pairs : (ns : List ℕ) → IsStrictlySortedBy nat_cmp ns → is_sorted nat_cmp (pairs ns) ≡ true
sorted_pairs [] up = refl
sorted_pairs (n ∷ ns) up =
    and_from _ _ (below_pairs n ns (sorted_head nat_cmp n ns up)) (sorted_pairs ns (sorted_tail nat_cmp n ns up))

pub one_list : (ns ms : List ℕ) → IsStrictlyIncreasing ns → IsStrictlyIncreasing ms
    → ((l : ℕ) → is_one_of ns l ≡ is_one_of ms l) → ns ≡ ms
one_list ns ms up climbs same =
    let of : List (ℕ × Unit {0}) → List ℕ = map (λ e. e.0) in
    let unpaired : (ks : List ℕ) → of (pairs ks) ≡ ks = λ ks. map-map (λ (e : ℕ × Unit {0}). e.0) (λ k. (k, tt)) ks ∙ map_itself ks in
    sym (unpaired ns)
    ∙ ap of (same_entries nat_cmp nat_cmp_total nat_cmp-IsAntisymmetric (pairs ns) (pairs ms)
    (T_of_true _ (sorted_pairs ns (sorted_from_strictly_increasing ns up)))
    (T_of_true _ (sorted_pairs ms (sorted_from_strictly_increasing ms climbs)))
    (λ v. found v ns ∙ ap (λ b. cond b (Some tt) None) (same v) ∙ sym (found v ms)))
    ∙ unpaired ms
