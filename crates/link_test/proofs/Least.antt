-- The least name that passes a test, a name at a time.
use Rattle.std.proofs.Common.{◌≡◌, ℕ, ◌+◌, ◌<◌, ◌≤◌, Bool, true, false, cond, ◌||◌, eqb, List, [], ◌∷◌, ◌++◌, length, get_or, take, min, Option, Some, None, sym, ap, ◌∙◌, refl, subst, arith, inl, inr, ◌⊎◌}
use Rattle.std.proofs.lemmas.Bool.{false≢true, eqb-true, eq-eqb, or_cases, or_left, or_right, both_ways, cases_lt}
use Rattle.std.proofs.lemmas.List.{take_more}
use Rattle.std.proofs.lemmas.List.Folds.{list_any-append}
use Rattle.oemm_lists.specs.Numbers.{among}
use Rattle.link_test.specs.Links.{lesser, IsLeastPassing}

among-push : (x w : ℕ) (ns : List ℕ) → among x (ns ++ w ∷ []) ≡ (among x ns || (eqb w x || false))
among-push x w ns = list_any-append (λ n. eqb n x) ns (w ∷ [])

on_push : (x w : ℕ) (ns : List ℕ) → among x (ns ++ w ∷ []) ≡ true → (among x ns ≡ true) ⊎ (w ≡ x)
on_push x w ns on =
    elim (or_cases (among x ns) (eqb w x || false) (sym (among-push x w ns) ∙ on)) [
      | inl before ↦ inl before
      | inr last ↦ elim (or_cases (eqb w x) false last) [ inl here ↦ inr (eqb-true w x here) | inr wrong ↦ absurd (false≢true wrong) ]
    ]

stays_on : (x w : ℕ) (ns : List ℕ) → among x ns ≡ true → among x (ns ++ w ∷ []) ≡ true
stays_on x w ns on = among-push x w ns ∙ or_left (among x ns) (eqb w x || false) on

here_on : (w : ℕ) (ns : List ℕ) → among w (ns ++ w ∷ []) ≡ true
here_on w ns = among-push w w ns ∙ or_right (among w ns) (eqb w w || false) (or_left (eqb w w) false (eq-eqb w w refl))

pushed : (p : ℕ → Bool) (ns : List ℕ) (w : ℕ) (least : Option ℕ) (b : Bool) → p w ≡ b → IsLeastPassing p ns least → IsLeastPassing p (ns ++ w ∷ []) (cond b (Some (lesser least w)) least)
pushed p ns w None true holds none =
    (here_on w ns, holds, λ x on passes. elim (on_push x w ns on) [ inl before ↦ absurd (none x before passes) | inr same ↦ omega (arith, same) ])
pushed p ns w None false fails none =
    λ x on passes. elim (on_push x w ns on) [ inl before ↦ none x before passes | inr same ↦ both_ways (p w) fails (ap p same ∙ passes) ]
pushed p ns w (Some n) false fails least =
    (stays_on n w ns least.0, least.1, λ x on passes. elim (on_push x w ns on) [ inl before ↦ least.2 x before passes | inr same ↦ absurd (both_ways (p w) fails (ap p same ∙ passes)) ])
pushed p ns w (Some n) true holds least =
    elim (cases_lt n w) [
      | inl below ↦
          let is : n ≡ min n w = omega arith in
          subst (λ (m : ℕ). (among m (ns ++ w ∷ []) ≡ true) × (p m ≡ true) × ((x : ℕ) → among x (ns ++ w ∷ []) ≡ true → p x ≡ true → m ≤ x)) is (
            stays_on n w ns least.0,
            least.1,
            λ x on passes. elim (on_push x w ns on) [ inl before ↦ least.2 x before passes | inr same ↦ omega (arith, same, below) ],
          )
      | inr above ↦
          let is : w ≡ min n w = omega arith in
          subst (λ (m : ℕ). (among m (ns ++ w ∷ []) ≡ true) × (p m ≡ true) × ((x : ℕ) → among x (ns ++ w ∷ []) ≡ true → p x ≡ true → m ≤ x)) is (
            here_on w ns,
            holds,
            λ x on passes. elim (on_push x w ns on) [ inl before ↦ let lower = least.2 x before passes in omega (arith, lower, above) | inr same ↦ omega (arith, same) ],
          )
    ]

-- a loop's step: one more name
pub least_more : (p : ℕ → Bool) (ns : List ℕ) (i w : ℕ) (least more : Option ℕ) → i < length ns → w ≡ get_or ns i w → IsLeastPassing p (take i ns) least → more ≡ cond (p w) (Some (lesser least w)) least → IsLeastPassing p (take (i + 1) ns) more
least_more p ns i w least more lt at so_far is =
    let longer : take i ns ++ w ∷ [] ≡ take (i + 1) ns = ap (λ (n : ℕ). take i ns ++ n ∷ []) at ∙ sym (take_more ns i w lt) in
    subst (λ (o : Option ℕ). IsLeastPassing p (take (i + 1) ns) o) (sym is) (subst (λ (ms : List ℕ). IsLeastPassing p ms (cond (p w) (Some (lesser least w)) least)) longer (pushed p (take i ns) w least (p w) refl so_far))
