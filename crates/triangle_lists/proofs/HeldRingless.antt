-- The least held name without a ring, by held names in order.
use Rattle.std.proofs.Common.{◌≡◌, ℕ, suc, ◌+◌, ◌<◌, ◌≤◌, Bool, true, false, cond, not, ◌||◌, eqb, List, [], ◌∷◌, length, get_or, sym, ap, ◌∙◌, refl, subst, arith, inl, inr}
use Rattle.std.proofs.lemmas.Bool.{eqb-true, eq-eqb, ne_eqb, cases_lt, cases_order}
use Rattle.std.proofs.lemmas.List.{get_or_default}
use Rattle.std.proofs.lemmas.List.Folds.{Any-from_list_any, list_any_at}
use Rattle.std.proofs.lemmas.List.Kept.{AllPairs-from_increasing}
use Rattle.std.proofs.lemmas.List.Sorted.{list_any-IsPermutation}
use Rattle.std.specs.List.{list_any, filter, flat_map}
use Rattle.std.specs.List.Sorted.{IsPermutation, IsStrictlyIncreasing}
use Rattle.mesh_data.specs.declared.geometry.Tri.{Tri}
use Rattle.mesh_data.specs.Manifold.{is_corner, HasRing}
use Rattle.mesh_data.specs.Rings.{from_each_corner}
use Rattle.triangle_lists.specs.HeldAudit.{AreHeldRinged, IsLeastHeldRingless}
use Rattle.triangle_lists.specs.Links.{behind_all}
use Rattle.oemm_lists.specs.Numbers.{among}
use Rattle.triangle_lists.proofs.Ringless.{HasRingOf, any-corners, ring_here, ring_there}

-- a filtered list has an item where one passes
pub some_kept : (p : Tri → Bool) (ts group : List Tri) (b : Bool) → group ≡ filter p ts → b ≡ eqb (length group) 0 → not b ≡ list_any p ts
some_kept p ts group b is none = ap not (none ∙ ap (λ (us : List Tri). eqb (length us) 0) is) ∙ kept ts
  where
    kept : (ts : List Tri) → not (eqb (length (filter p ts)) 0) ≡ list_any p ts
    kept [] = refl
    kept (t ∷ ts) =
        elim (p t) as (λ b. not (eqb (length (cond b (t ∷ filter p ts) (filter p ts))) 0) ≡ (b || list_any p ts)) [ true ↦ ap not (ne_eqb (suc (length (filter p ts))) 0 (λ e. omega (arith, e))) | false ↦ kept ts ]

-- of the first i held names each that is in a triangle has a ring
abbrev pub Ringed : List Tri → List ℕ → ℕ → Type 0
Ringed ts held i = (k : ℕ) → k < i → is_corner ts (get_or held k 0) ≡ true → HasRing ts (get_or held k 0)

-- turned is each triangle from each corner, in some order
abbrev pub Moved : List Tri → List Tri → Type 0
Moved ts turned = IsPermutation (flat_map from_each_corner ts) turned

pub corner_start : (ts turned : List Tri) (v : ℕ) → Moved ts turned → list_any (λ t. eqb t.a v) turned ≡ is_corner ts v
corner_start ts turned v moved = sym (list_any-IsPermutation (λ t. eqb t.a v) (flat_map from_each_corner ts) turned moved) ∙ any-corners v ts

-- a loop's step: one more held name, which is in no triangle or has a ring
pub ringed_more : (ts : List Tri) (held : List ℕ) (i v : ℕ) → Ringed ts held i → v ≡ get_or held i v → i < length held → (is_corner ts v ≡ true → HasRing ts v) → Ringed ts held (i + 1)
ringed_more ts held i v so_far at within has = λ k lt.
    elim (cases_lt k i) [
      | inl below ↦ so_far k below
      | inr above ↦
          let here : i ≡ k = omega arith in
          let same : v ≡ get_or held k 0 = at ∙ get_or_default held i v 0 within ∙ ap (λ (n : ℕ). get_or held n 0) here in
          subst (λ (w : ℕ). is_corner ts w ≡ true → HasRing ts w) same has
    ]

-- the place of a held name
place_of : (held : List ℕ) (w : ℕ) → among w held ≡ true → (k : ℕ) × (k < length held) × (get_or held k 0 ≡ w)
place_of held w on =
    let at = Any-from_list_any (λ n. eqb n w) held on in (at.0, at.2, get_or_default held at.0 0 at.1 at.2 ∙ at.3 ∙ eqb-true at.1 w at.4)

pub ringless_at : (ts : List Tri) (held : List ℕ) (i v : ℕ) → IsStrictlyIncreasing held → Ringed ts held i → v ≡ get_or held i v → i < length held → is_corner ts v ≡ true → (HasRing ts v → ⊥) → IsLeastHeldRingless ts held v
ringless_at ts held i v rises so_far at within corner none =
    let at_i : get_or held i 0 ≡ v = get_or_default held i 0 v within ∙ sym at in
    record {
      is_held = list_any_at (λ w. eqb w v) held i 0 within (eq-eqb (get_or held i 0) v at_i);
      corner = corner;
      ringless = none;
      least = λ w below on.
          let place = place_of held w on in
          elim (cases_lt place.0 i) [
            | inl before ↦ subst (λ (n : ℕ). is_corner ts n ≡ true → HasRing ts n) place.2 (so_far place.0 before)
            | inr after ↦ absurd (elim (cases_order i place.0) [
              | inl same ↦ let equal : get_or held i 0 ≡ get_or held place.0 0 = ap (λ (n : ℕ). get_or held n 0) same in omega (arith, equal, at_i, place.2, below)
              | inr apart ↦ elim apart [
                | inl later ↦ let higher = AllPairs-from_increasing held rises i place.0 0 later place.1 in omega (arith, higher, at_i, place.2, below)
                | inr sooner ↦ omega (arith, sooner, after)
              ]
            ])
          ];
    }

pub all_ringed : (ts : List Tri) (held : List ℕ) (i : ℕ) → Ringed ts held i → length held ≤ i → AreHeldRinged ts held
all_ringed ts held i all past v on =
    let place = place_of held v on in subst (λ (n : ℕ). is_corner ts n ≡ true → HasRing ts n) place.2 (all place.0 (omega (arith, past, place.1)))

-- rings of the edges behind v
pub has_here : (ts turned : List Tri) (v : ℕ) → Moved ts turned → HasRingOf (behind_all v turned) → HasRing ts v
has_here ts turned v moved has = (has.0, ring_here ts turned v (behind_all v turned) has.0 moved refl has.1)

pub has_there : (ts turned : List Tri) (v : ℕ) → Moved ts turned → HasRing ts v → HasRingOf (behind_all v turned)
has_there ts turned v moved has = (has.0, ring_there ts turned v (behind_all v turned) has.0 moved refl has.1)
