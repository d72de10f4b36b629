-- Loops over the leaves of a core.
use Rattle.std.proofs.Common.{◌≡◌, ℕ, ◌+◌, ◌<◌, ◌≤◌, Bool, true, false, cond, ◌||◌, eqb, List, length, get_or, take, set, Option, None, sym, ap, ◌∙◌, refl, subst, arith, inl, inr}
use Rattle.std.proofs.lemmas.Bool.{or_cases, eqb-true, eqb-false, eq-eqb, cases_lt}
use Rattle.std.proofs.lemmas.Grind.{get_or-set_at}
use Rattle.std.proofs.lemmas.List.{get_or-set_other, get_or-take, get_or_default, length-set, length-take-le}
use Rattle.std.proofs.lemmas.List.Folds.{list_any_at, list_any_more, Any-from_list_any}
use Rattle.std.specs.List.Sorted.{IsStrictlyIncreasing}
use Rattle.oemm_lists.proofs.Searches.{ascending_rises}
use Rattle.oemm_octree.specs.Leaves.{is_one_of}
use Rattle.checkout_table.specs.Holders.{AreFree, HoldersSet, holder}

-- the leaf of a loop's turn stands at its place in the core, whose items the loop goes over
pub turn : (items core : List ℕ) (i m n : ℕ) → items ≡ core → i < length items → m ≡ get_or items i m → n ≡ m
    → (i < length core) × (n ≡ get_or core i n)
turn items core i m n same lt at leaf = (
  subst (λ (ns : List ℕ). i < length ns) same lt,
  subst (λ (k : ℕ). k ≡ get_or core i k) (sym leaf) (subst (λ (ns : List ℕ). m ≡ get_or ns i m) same at),
)

-- what stands at a place is one of them
pub is_at : (ns : List ℕ) (i n : ℕ) → i < length ns → n ≡ get_or ns i n → is_one_of ns n ≡ true
is_at ns i n lt is = list_any_at (λ m. eqb n m) ns i n lt (eq-eqb n (get_or ns i n) is)

-- one free leaf more
pub free_more : (os : List (Option ℕ)) (ns : List ℕ) (i n : ℕ) → i < length ns → n ≡ get_or ns i n
    → AreFree os (take i ns) → holder os n ≡ None → AreFree os (take (i + 1) ns)
free_more os ns i n lt is free here leaf on =
    elim (or_cases (is_one_of (take i ns) leaf) (eqb leaf (get_or ns i n)) (sym (list_any_more (λ m. eqb leaf m) ns i n lt) ∙ on)) [
      | inl before ↦ free leaf before
      | inr now ↦ ap (holder os) (eqb-true leaf (get_or ns i n) now ∙ sym is) ∙ here
    ]

-- leaves of an ascending core below one of it stand before it
pub free_below : (os : List (Option ℕ)) (ns : List ℕ) (i n : ℕ) → i < length ns → n ≡ get_or ns i n
    → IsStrictlyIncreasing ns → AreFree os (take i ns)
    → (leaf : ℕ) → is_one_of ns leaf ≡ true → leaf < n → holder os leaf ≡ None
free_below os ns i n lt is up free leaf on below =
    let found = Any-from_list_any (λ m. eqb leaf m) ns on in
    let j : ℕ = found.0 in
    let there : get_or ns j 0 ≡ leaf =
    get_or_default ns j 0 found.1 found.2 ∙ found.3 ∙ sym (eqb-true leaf found.1 found.4) in
    let here : get_or ns i 0 ≡ n = get_or_default ns i 0 n lt ∙ sym is in
    elim (cases_lt j i) [
      | inl before ↦ free leaf (list_any_at (λ m. eqb leaf m) (take i ns) j 0
          (let long : length (take i ns) ≡ i = length-take-le i ns (omega (arith, lt)) in omega (arith, long, before))
          (eq-eqb leaf (get_or (take i ns) j 0) (sym (get_or-take i ns j 0 before ∙ there))))
      | inr behind ↦
          let rises : get_or ns i 0 ≤ get_or ns j 0 = ascending_rises ns up i j 0 behind found.2 in
          absurd (omega (arith, rises, there, here, below))
    ]

or_true : (b : Bool) → (b || true) ≡ true
or_true true = refl
or_true false = refl

or_false : (b : Bool) → (b || false) ≡ b
or_false true = refl
or_false false = refl

-- one leaf more that has its new holder
pub set_more : (o : Option ℕ) (ns : List ℕ) (old now : List (Option ℕ)) (i n : ℕ) → i < length ns
    → n ≡ get_or ns i n → n < length now → HoldersSet o (take i ns) old now
    → HoldersSet o (take (i + 1) ns) old (set now n o)
set_more o ns old now i n lt is inside done = record {
  leaves = length-set now n o ∙ done.leaves;
  each = λ leaf.
      let more : is_one_of (take (i + 1) ns) leaf ≡ (is_one_of (take i ns) leaf || eqb leaf n) =
      list_any_more (λ m. eqb leaf m) ns i n lt ∙ ap (λ k. is_one_of (take i ns) leaf || eqb leaf k) (sym is) in
      let wanted : Bool → Option ℕ = λ b. cond b o (holder old leaf) in
      elim (eqb leaf n) as (λ b. eqb leaf n ≡ b → holder (set now n o) leaf ≡ wanted (is_one_of (take i ns) leaf || b)) [
        | true ↦ λ same. get_or-set_at now n leaf o None (eqb-true leaf n same) inside ∙ sym (ap wanted (or_true (is_one_of (take i ns) leaf)))
        | false ↦ λ apart. get_or-set_other now n leaf o None (eqb-false leaf n apart) ∙ done.each leaf ∙ sym (ap wanted (or_false (is_one_of (take i ns) leaf)))
      ] refl ∙ sym (ap wanted more);
}
