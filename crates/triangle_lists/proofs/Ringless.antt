-- The least name without a ring, by names in order.
use Rattle.std.proofs.Common.{◌≡◌, ℕ, ◌+◌, ◌<◌, ◌≤◌, Bool, true, false, cond, ◌&&◌, ◌||◌, eqb, List, [], ◌∷◌, map, length, get_or, sym, ap, ◌∙◌, refl, subst, arith, inl, inr}
use Rattle.std.proofs.lemmas.Bool.{eqb-true, eq-eqb, cases_lt, cases_order}
use Rattle.std.proofs.lemmas.List.{get_or_default}
use Rattle.std.proofs.lemmas.List.Folds.{Any-from_list_any, list_any_at}
use Rattle.std.proofs.lemmas.List.Kept.{AllPairs-from_increasing}
use Rattle.std.proofs.lemmas.List.Sorted.{list_any-IsPermutation}
use Rattle.std.specs.List.{list_any, filter, flat_map, dedup, dedup_from}
use Rattle.std.specs.List.Sorted.{IsPermutation, IsStrictlyIncreasing}
use Rattle.std.specs.List.Retain.{DiffersFromLast, IsFiltered}
use Rattle.oemm_lists.proofs.Once.{among-once}
use Rattle.mesh_data.specs.declared.geometry.Edge.{Edge}
use Rattle.mesh_data.specs.declared.geometry.Tri.{Tri}
use Rattle.mesh_data.specs.declared.rings.Ring.{Ring}
use Rattle.mesh_data.specs.Manifold.{is_corner, HasRing, IsRinged, IsLeastRingless}
use Rattle.mesh_data.specs.Triangles.{same_edge, has_corner}
use Rattle.mesh_data.specs.Rings.{has_path_edge, link, from_each_corner, IsRingOf}
use Rattle.triangle_lists.specs.Links.{behind_all}
use Rattle.triangle_lists.proofs.Links.{link_is}

any-starts : (v : ℕ) (ts : List Tri) → list_any (λ w. eqb w v) (map (λ t. t.a) ts) ≡ list_any (λ t. eqb t.a v) ts
any-starts v [] = refl
any-starts v (t ∷ ts) = ap (λ (b : Bool). eqb t.a v || b) (any-starts v ts)

-- names sorted and each kept once
pub any-names : (turned : List Tri) (all sorted names : List ℕ) (v : ℕ) → all ≡ map (λ t. t.a) turned → IsPermutation all sorted → IsFiltered (DiffersFromLast eqb) [] sorted names → list_any (λ w. eqb w v) names ≡ list_any (λ t. eqb t.a v) turned
any-names turned all sorted names v is moved kept =
    among-once all sorted names v moved kept ∙ ap (list_any (λ w. eqb w v)) is ∙ any-starts v turned

or_three : (a b c d : Bool) → (a || (b || (c || d))) ≡ (((a || b) || c) || d)
or_three true b c d = refl
or_three false true c d = refl
or_three false false c d = refl

-- a name is a corner where a turned triangle starts at it
pub any-corners : (v : ℕ) (ts : List Tri) → list_any (λ t. eqb t.a v) (flat_map from_each_corner ts) ≡ is_corner ts v
any-corners v [] = refl
any-corners v (t ∷ ts) =
    or_three (eqb t.a v) (eqb t.b v) (eqb t.c v) (list_any (λ s. eqb s.a v) (flat_map from_each_corner ts)) ∙ ap (λ (b : Bool). has_corner v t || b) (any-corners v ts)

abbrev back_edge : Tri → Edge
back_edge t = record { a = t.b; b = t.c }

any-behind : (p : Edge → Bool) (v : ℕ) (ts : List Tri) → list_any p (behind_all v ts) ≡ list_any (λ t. eqb t.a v && p (back_edge t)) ts
any-behind p v [] = refl
any-behind p v (t ∷ ts) =
    elim (eqb t.a v) as (λ b. list_any p (map back_edge (cond b (t ∷ filter (λ s. eqb s.a v) ts) (filter (λ s. eqb s.a v) ts))) ≡ ((b && p (back_edge t)) || list_any (λ t. eqb t.a v && p (back_edge t)) ts)) [
      | true ↦ ap (λ (b : Bool). p (back_edge t) || b) (any-behind p v ts)
      | false ↦ any-behind p v ts
    ]

-- the edges behind v in any order are the steps of its link
same_link : (ts sorted : List Tri) (v : ℕ) (e : Edge) → IsPermutation (flat_map from_each_corner ts) sorted → has_path_edge (behind_all v sorted) e ≡ has_path_edge (link v ts) e
same_link ts sorted v e moved =
    any-behind (same_edge e) v sorted ∙ sym (list_any-IsPermutation (λ t. eqb t.a v && same_edge e (back_edge t)) (flat_map from_each_corner ts) sorted moved) ∙ sym (any-behind (same_edge e) v (flat_map from_each_corner ts)) ∙ ap (λ es. has_path_edge es e) (sym (link_is v ts))

-- turned is each triangle from each corner, in some order, and names are those at which one starts, ascending
pub record AreNamesOf (ts turned : List Tri) (names : List ℕ) : Type 0 where
  pub moved : IsPermutation (flat_map from_each_corner ts) turned
  pub members : (v : ℕ) → list_any (λ w. eqb w v) names ≡ list_any (λ t. eqb t.a v) turned
  pub ascending : IsStrictlyIncreasing names

corner_is_name : (ts turned : List Tri) (names : List ℕ) (v : ℕ) → AreNamesOf ts turned names → list_any (λ w. eqb w v) names ≡ is_corner ts v
corner_is_name ts turned names v are =
    are.members v ∙ sym (list_any-IsPermutation (λ t. eqb t.a v) (flat_map from_each_corner ts) turned are.moved) ∙ any-corners v ts

-- the place of a corner among the names
place_of : (ts turned : List Tri) (names : List ℕ) (w : ℕ) → AreNamesOf ts turned names → is_corner ts w ≡ true → (k : ℕ) × (k < length names) × (get_or names k 0 ≡ w)
place_of ts turned names w are corner =
    let at = Any-from_list_any (λ n. eqb n w) names (corner_is_name ts turned names w are ∙ corner) in
    (at.0, at.2, get_or_default names at.0 0 at.1 at.2 ∙ at.3 ∙ eqb-true at.1 w at.4)

-- a ring of the edges behind v is one of its link, and back
pub ring_here : (ts turned : List Tri) (v : ℕ) (es : List Edge) (r : Ring) → IsPermutation (flat_map from_each_corner ts) turned → es ≡ behind_all v turned → IsRingOf es r → IsRingOf (link v ts) r
ring_here ts turned v es r moved is ring =
    record { distinct = ring.distinct; long = ring.long; along = λ e. sym (ap (λ fs. has_path_edge fs e) is ∙ same_link ts turned v e moved) ∙ ring.along e }

pub ring_there : (ts turned : List Tri) (v : ℕ) (es : List Edge) (r : Ring) → IsPermutation (flat_map from_each_corner ts) turned → es ≡ behind_all v turned → IsRingOf (link v ts) r → IsRingOf es r
ring_there ts turned v es r moved is ring =
    record { distinct = ring.distinct; long = ring.long; along = λ e. ap (λ fs. has_path_edge fs e) is ∙ same_link ts turned v e moved ∙ ring.along e }

-- the first i names have rings
abbrev pub Ringed : List Tri → List ℕ → ℕ → Type 0
Ringed ts names i = (k : ℕ) → k < i → HasRing ts (get_or names k 0)

abbrev pub HasRingOf : List Edge → Type 0
HasRingOf es = (r : Ring) × IsRingOf es r

pub ringed_more : (ts turned : List Tri) (names : List ℕ) (i v : ℕ) → AreNamesOf ts turned names → Ringed ts names i → v ≡ get_or names i v → i < length names → HasRingOf (behind_all v turned) → Ringed ts names (i + 1)
ringed_more ts turned names i v are so_far at within has = λ k lt.
    elim (cases_lt k i) [
      | inl below ↦ so_far k below
      | inr above ↦
          let here : i ≡ k = omega arith in
          let same : v ≡ get_or names k 0 = at ∙ get_or_default names i v 0 within ∙ ap (λ (n : ℕ). get_or names n 0) here in
          subst (HasRing ts) same (has.0, ring_here ts turned v (behind_all v turned) has.0 are.moved refl has.1)
    ]

pub ringless_at : (ts turned : List Tri) (names : List ℕ) (i v : ℕ) → AreNamesOf ts turned names → Ringed ts names i → v ≡ get_or names i v → i < length names → (HasRingOf (behind_all v turned) → ⊥) → IsLeastRingless ts v
ringless_at ts turned names i v are so_far at within none =
    let at_i : get_or names i 0 ≡ v = get_or_default names i 0 v within ∙ sym at in
    record {
      corner = sym (corner_is_name ts turned names v are) ∙ list_any_at (λ w. eqb w v) names i 0 within (eq-eqb (get_or names i 0) v at_i);
      ringless = λ has. none (has.0, ring_there ts turned v (behind_all v turned) has.0 are.moved refl has.1);
      least = λ w below corner.
          let place = place_of ts turned names w are corner in
          elim (cases_lt place.0 i) [
            | inl before ↦ subst (HasRing ts) place.2 (so_far place.0 before)
            | inr after ↦ absurd (elim (cases_order i place.0) [
              | inl same ↦ let equal : get_or names i 0 ≡ get_or names place.0 0 = ap (λ (n : ℕ). get_or names n 0) same in omega arith
              | inr apart ↦ elim apart [
                | inl later ↦ let rises = AllPairs-from_increasing names are.ascending i place.0 0 later place.1 in omega arith
                | inr sooner ↦ omega arith
              ]
            ])
          ];
    }

pub all_ringed : (ts turned : List Tri) (names : List ℕ) (i : ℕ) → AreNamesOf ts turned names → Ringed ts names i → length names ≤ i → IsRinged ts
all_ringed ts turned names i are all past v corner =
    let place = place_of ts turned names v are corner in subst (HasRing ts) place.2 (all place.0 (omega (arith, place.1)))

-- what the code has of its triangles and names
pub are_names : (ts all turned shown : List Tri) (kept names : List ℕ) → all ≡ flat_map from_each_corner ts → IsPermutation all turned → shown ≡ turned → IsStrictlyIncreasing kept → ((v : ℕ) → list_any (λ w. eqb w v) kept ≡ list_any (λ t. eqb t.a v) shown) → names ≡ kept → AreNamesOf ts turned names
are_names ts all turned shown kept names is moved same up of names_are =
    record {
      moved = subst (λ us. IsPermutation us turned) is moved;
      members = λ v. ap (list_any (λ w. eqb w v)) names_are ∙ of v ∙ ap (list_any (λ t. eqb t.a v)) same;
      ascending = subst IsStrictlyIncreasing (sym names_are) up;
    }
