-- Vertices that are sorted strictly by their names are the vertices by name.
use Rattle.std.proofs.Common.{◌≡◌, ◌≢◌, ℕ, zero, suc, ◌<◌, true, false, cond, eqb, List, [], ◌∷◌, map, length, get_or, Some, None, sym, ap, ◌∙◌, refl, arith}
use Rattle.std.proofs.lemmas.Bool.{eqb-true, eq-eqb, ne_eqb, and_from, false≢true}
use Rattle.std.proofs.lemmas.List.Sorted.{Contains-permutation, IsPermutation-sym}
use Rattle.std.proofs.lemmas.Map.Keys.{sorted_head, sorted_tail, sorted_from_strictly_increasing}
use Rattle.std.specs.Cmp.{nat_cmp_total, unsigned_tied}
use Rattle.std.specs.FinMap as finite
use Rattle.std.specs.FinMap.{nat_cmp-IsAntisymmetric}
use Rattle.std.specs.FinMap.Entries.{find, is_sorted, below_all, same_entries}
use Rattle.std.specs.List.{Contains, AllByRecursion}
use Rattle.std.specs.List.Sorted.{IsPermutation, IsStrictlyIncreasing, IsStrictlySortedBy}
use Rattle.std.specs.Option.{is_some}
use Rattle.std.specs.Ordering.{nat_cmp, eq_by_cmp, is_lt, is_eq}
use Rattle.std.specs.declared.cmp.Ordering.TheVariants.{Less}
use Rattle.sheet_data.specs.Summed.{SummedVertex}
use Rattle.mesh_sheets.specs.Assembled.{by_name}
use Rattle.mesh_sheets.proofs.Filters.{map-map, map_itself}
use Rattle.mesh_sheets.proofs.Kept.{T_of_true}

abbrev pub names : List SummedVertex → List ℕ
names vs = map (λ x. x.name) vs

abbrev pub pairs : List SummedVertex → List (ℕ × SummedVertex)
pairs vs = map (λ x. (x.name, x)) vs

-- ---- what is found is there, and what is there is found

pub found_there : (q : ℕ) (vs : List SummedVertex) (x : SummedVertex) → find nat_cmp q (pairs vs) ≡ Some x → Contains vs x × (x.name ≡ q)
found_there q [] x is = let no : None ≡ Some x = is in absurd (cc)
found_there q (v ∷ vs) x is =
    elim (eq_by_cmp nat_cmp q v.name) as (λ b. eq_by_cmp nat_cmp q v.name ≡ b → cond b (Some v) (find nat_cmp q (pairs vs)) ≡ Some x → Contains (v ∷ vs) x × (x.name ≡ q)) [
      | true ↦ λ on h. let same : v ≡ x = cc in ((0, omega arith, same), ap (λ (y : SummedVertex). y.name) (sym same) ∙ sym (eqb-true q v.name (sym (unsigned_tied q v.name) ∙ on)))
      | false ↦ λ _ h. let later = found_there q vs x h in ((suc later.0.0, omega arith, later.0.2), later.1)
    ] refl is

pub there_found : (vs : List SummedVertex) (k : ℕ) (x : SummedVertex) → k < length vs → get_or vs k x ≡ x → is_some (find nat_cmp x.name (pairs vs)) ≡ true
there_found [] k x lt is = absurd (omega arith)
there_found (v ∷ vs) zero x lt is =
    ap (λ b. is_some (cond b (Some v) (find nat_cmp x.name (pairs vs)))) (unsigned_tied x.name v.name ∙ eq-eqb x.name v.name (ap (λ (y : SummedVertex). y.name) (sym is)))
there_found (v ∷ vs) (suc k) x lt is =
    elim (eq_by_cmp nat_cmp x.name v.name) as (λ b. is_some (cond b (Some v) (find nat_cmp x.name (pairs vs))) ≡ true) [ true ↦ refl | false ↦ there_found vs k x (omega arith) is ]

above_other : (n : ℕ) (vs : List SummedVertex) → AllByRecursion (λ k. nat_cmp n k ≡ Less) (names vs) → (k : ℕ) (x : SummedVertex) → k < length vs → get_or vs k x ≡ x → nat_cmp n x.name ≡ Less
above_other n [] all k x lt is = absurd (omega arith)
above_other n (v ∷ vs) all zero x lt is = ap (λ (y : SummedVertex). nat_cmp n y.name) (sym is) ∙ all.0
above_other n (v ∷ vs) all (suc k) x lt is = above_other n vs all.1 k x (omega arith) is

-- in a list whose names strictly ascend each vertex is found by its name
sorted_found : (vs : List SummedVertex) → IsStrictlySortedBy nat_cmp (names vs) → (k : ℕ) (x : SummedVertex) → k < length vs → get_or vs k x ≡ x → find nat_cmp x.name (pairs vs) ≡ Some x
sorted_found [] up k x lt is = absurd (omega arith)
sorted_found (v ∷ vs) up zero x lt is =
    ap (λ b. cond b (Some v) (find nat_cmp x.name (pairs vs))) (unsigned_tied x.name v.name ∙ eq-eqb x.name v.name (ap (λ (y : SummedVertex). y.name) (sym is))) ∙ ap (λ (y : SummedVertex). Some y) is
sorted_found (v ∷ vs) up (suc k) x lt is =
    let less : nat_cmp v.name x.name ≡ Less = above_other v.name vs (sorted_head nat_cmp v.name (names vs) up) k x (omega arith) is in
    let apart : x.name ≢ v.name = λ e. let no : eqb v.name x.name ≡ false = sym (unsigned_tied v.name x.name) ∙ ap (λ r. is_eq r) less in false≢true (sym no ∙ eq-eqb v.name x.name (sym e)) in
    ap (λ b. cond b (Some v) (find nat_cmp x.name (pairs vs))) (unsigned_tied x.name v.name ∙ ne_eqb x.name v.name apart)
    ∙ sorted_found vs (sorted_tail nat_cmp v.name (names vs) up) k x (omega arith) is

same_found : (xs ys : List SummedVertex) → IsPermutation xs ys → IsStrictlySortedBy nat_cmp (names ys) → (q : ℕ) → find nat_cmp q (pairs xs) ≡ find nat_cmp q (pairs ys)
same_found xs ys moved up q =
    elim (find nat_cmp q (pairs xs)) as (λ o. find nat_cmp q (pairs xs) ≡ o → o ≡ find nat_cmp q (pairs ys)) [
      | Some x ↦ λ is.
          let there = found_there q xs x is in
          let here = Contains-permutation xs ys x moved there.0 in
          sym (ap (λ (k : ℕ). find nat_cmp k (pairs ys)) (sym there.1) ∙ sorted_found ys up here.0 x here.1 here.2)
      | None ↦ λ is. elim (find nat_cmp q (pairs ys)) as (λ o. find nat_cmp q (pairs ys) ≡ o → None ≡ o) [
        | None ↦ λ _. refl
        | Some y ↦ λ on.
            let there = found_there q ys y on in
            let before = Contains-permutation ys xs y (IsPermutation-sym xs ys moved) there.0 in
            let some = there_found xs before.0 y before.1 before.2 in
            absurd (false≢true (sym (ap is_some (ap (λ (k : ℕ). find nat_cmp k (pairs xs)) there.1 ∙ is)) ∙ some))
      ] refl
    ] refl

below_pairs : (n : ℕ) (vs : List SummedVertex) → AllByRecursion (λ k. nat_cmp n k ≡ Less) (names vs) → below_all nat_cmp n (pairs vs) ≡ true
below_pairs n [] all = refl
below_pairs n (v ∷ vs) all = and_from _ _ (ap (λ r. is_lt r) all.0) (below_pairs n vs all.1)

sorted_pairs : (vs : List SummedVertex) → IsStrictlySortedBy nat_cmp (names vs) → is_sorted nat_cmp (pairs vs) ≡ true
sorted_pairs [] up = refl
sorted_pairs (v ∷ vs) up = and_from _ _ (below_pairs v.name vs (sorted_head nat_cmp v.name (names vs) up)) (sorted_pairs vs (sorted_tail nat_cmp v.name (names vs) up))

-- what a sort by name leaves, if no name comes twice, are the vertices by name
pub by_name_from_sort : (xs ys : List SummedVertex) → IsPermutation xs ys → IsStrictlyIncreasing (names ys) → ys ≡ by_name xs
by_name_from_sort xs ys moved climbs =
    let up = sorted_from_strictly_increasing (names ys) climbs in
    let made = finite.from_entries {R = nat_cmp} (pairs xs) in
    let entries : finite.entries made ≡ pairs ys =
    same_entries nat_cmp nat_cmp_total nat_cmp-IsAntisymmetric _ _ (finite.entries_sorted made) (T_of_true _ (sorted_pairs ys up)) (λ q.
    sym (finite.get-entries made q) ∙ finite.get-from_entries nat_cmp_total (pairs xs) q ∙ same_found xs ys moved up q) in
    sym (ap (λ (es : List (ℕ × SummedVertex)). map (λ e. e.1) es) entries ∙ map-map (λ (e : ℕ × SummedVertex). e.1) (λ x. (x.name, x)) ys ∙ map_itself ys)
