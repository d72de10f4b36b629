-- The places of names in a table, and what is found of names there.
use Rattle.std.proofs.Common.{◌≡◌, ◌≢◌, ◌∙◌, ℕ, ◌+◌, ◌<◌, ◌≤◌, Bool, true, false, cond, not, eqb, ltb, List, [], ◌∷◌, ◌++◌, length, map, flat_map, get_or, set, refl, sym, ap, arith, Some, None, inl, inr, length-append}
use Rattle.std.specs.Prelude.{slice_index}
use Rattle.std.specs.List.{All, AllByRecursion, Contains, find}
use Rattle.std.proofs.lemmas.Bool.{cases_lt, eq-eqb, eqb-false, eqb-true, false≢true, le-ltb, lt-ltb, ne_eqb}
use Rattle.std.proofs.lemmas.Grind.{get_or-set_at}
use Rattle.std.proofs.lemmas.List.{get_or-set_other, get_or_default, length-set}
use Rattle.std.proofs.lemmas.List.Elements.{All-from_recursion, recursion_from_All}
use Rattle.std.proofs.lemmas.List.Folds.{Any-from_list_any, list_any_at, list_any_none, position_or_len_push}
use Rattle.std.proofs.lemmas.List.Sums.{fails_before_first, passes_at_first, prefix_len-le-length}
use Rattle.oemm_octree.specs.Leaves.{is_one_of}
use Rattle.mesh_data.specs.declared.geometry.Tri.{Tri}
use Rattle.mesh_data.specs.Triangles.{IsBelow, corners}
use Rattle.mesh_out.specs.MeshBytes.{IsNamedBy}
use Rattle.triangle_lists.proofs.Paths.{eqb_comm}
use Rattle.leaf_export.specs.Files.{first_missing}
use Rattle.leaf_export.specs.OctreeBytes.{place_in, placed}
use Rattle.leaf_export.specs.Tables.{ArePlaces, lacks, looked_up, place_or_none}
use Rattle.leaf_export.specs.declared.places.TheConstants.{NO_PLACE}
use Rattle.leaf_export.proofs.Positions.{place_within}

le_length : (names : List ℕ) (v : ℕ) → place_in names v ≤ length names
le_length names v = prefix_len-le-length (λ n. not (eqb n v)) names

-- ---- one name more

past_is : (p n x : ℕ) → n ≤ p → cond (ltb p n) p x ≡ x
past_is p n x le = ap (λ (b : Bool). cond b p x) (le-ltb p n le)

within_is : (p n x : ℕ) → p < n → cond (ltb p n) p x ≡ p
within_is p n x lt = ap (λ (b : Bool). cond b p x) (lt-ltb p n lt)

none_below : (p n none : ℕ) → n < none → cond (ltb p n) p none ≡ none → n ≤ p
none_below p n none lt is =
    elim (cases_lt p n) [
      | inl less ↦ let same : p ≡ none = sym (within_is p n none less) ∙ is in absurd (omega (arith, less, same, lt))
      | inr le ↦ le
    ]

one_step : (p n q m none : ℕ) (b : Bool) → p ≤ n → q ≡ cond (eqb p n) (n + cond b 0 1) p → m ≡ n + 1
    → cond (ltb q m) q none ≡ cond (ltb p n) p (cond b n none)
one_step p n q m none true le is len = grind arith
one_step p n q m none false le is len = grind arith

one_more : (names : List ℕ) (v w : ℕ) → place_or_none (names ++ v ∷ []) w
    ≡ cond (ltb (place_in names w) (length names)) (place_in names w) (cond (eqb v w) (length names) NO_PLACE)
one_more names v w =
    one_step (place_in names w) (length names) (place_in (names ++ v ∷ []) w) (length (names ++ v ∷ [])) NO_PLACE (eqb v w)
    (le_length names w) (position_or_len_push (λ n. eqb n w) names v) (length-append names (v ∷ []))

module _ (names table : List ℕ) (v place : ℕ) (lt : v < length table) (some : place < NO_PLACE) (count : length names ≡ place)
    (are : ArePlaces names table) where
  other : (w : ℕ) → eqb v w ≡ false → place_or_none (names ++ v ∷ []) w ≡ place_or_none names w
  other w away =
      one_more names v w
      ∙ ap (λ (b : Bool). cond (ltb (place_in names w) (length names)) (place_in names w) (cond b (length names) NO_PLACE)) away

  -- a name that had no place
  pub places_more : slice_index table v ≡ NO_PLACE → ArePlaces (names ++ v ∷ []) (set table v place)
  places_more free w below =
      elim (eqb v w) as (λ b. eqb v w ≡ b → slice_index (set table v place) w ≡ place_or_none (names ++ v ∷ []) w) [
        | true ↦ λ same.
            let e : v ≡ w = eqb-true v w same in
            let past : length names ≤ place_in names v = none_below (place_in names v) (length names) NO_PLACE (omega (arith, count, some)) (sym (are v lt) ∙ free) in
            let new : place_or_none (names ++ v ∷ []) v ≡ length names =
            one_more names v v
            ∙ past_is (place_in names v) (length names) (cond (eqb v v) (length names) NO_PLACE) past
            ∙ ap (λ (b : Bool). cond b (length names) NO_PLACE) (eq-eqb v v refl) in
            get_or-set_at table v w place 0 (sym e) lt ∙ sym count ∙ sym new ∙ ap (place_or_none (names ++ v ∷ [])) e
        | false ↦ λ away.
            let apart : w ≢ v = λ e. let differs = eqb-false v w away in differs (sym e) in
            let len = length-set table v place in
            get_or-set_other table v w place 0 apart ∙ are w (omega (arith, below, len)) ∙ sym (other w away)
      ] refl

  -- a name that had one
  pub places_kept : slice_index table v ≢ NO_PLACE → ArePlaces (names ++ v ∷ []) table
  places_kept taken w below =
      elim (eqb v w) as (λ b. eqb v w ≡ b → slice_index table w ≡ place_or_none (names ++ v ∷ []) w) [
        | true ↦ λ same.
            let e : v ≡ w = eqb-true v w same in
            elim (cases_lt (place_in names v) (length names)) [
              | inl less ↦
                  let new : place_or_none (names ++ v ∷ []) v ≡ place_in names v =
                  one_more names v v
                  ∙ within_is (place_in names v) (length names) (cond (eqb v v) (length names) NO_PLACE) less in
                  ap (slice_index table) (sym e) ∙ are v lt ∙ within_is (place_in names v) (length names) NO_PLACE less ∙ sym new
                  ∙ ap (place_or_none (names ++ v ∷ [])) e
              | inr le ↦ absurd (taken (are v lt ∙ past_is (place_in names v) (length names) NO_PLACE le))
            ]
        | false ↦ λ away. are w below ∙ sym (other w away)
      ] refl

-- ---- names that have no place

among_names : (names : List ℕ) (v : ℕ) → place_in names v < length names → is_one_of names v ≡ true
among_names names v lt =
    let here = passes_at_first (λ n. eqb n v) names v lt in
    list_any_at (λ n. eqb v n) names (place_in names v) v lt (eqb_comm v (get_or names (place_in names v) v) ∙ here)

not_among : (names : List ℕ) (v : ℕ) → length names ≤ place_in names v → is_one_of names v ≡ false
not_among names v le =
    list_any_none (λ n. eqb v n) names (λ k d lt.
    eqb_comm v (get_or names k d) ∙ fails_before_first (λ n. eqb n v) names k d (omega (arith, lt, le)))

module _ (names table : List ℕ) (are : ArePlaces names table) (few : length names ≤ NO_PLACE) where
  pub lacks_is : (v : ℕ) → v < length table → lacks table v ≡ not (is_one_of names v)
  lacks_is v below =
      elim (cases_lt (place_in names v) (length names)) [
        | inl lt ↦
            let is = are v below ∙ within_is (place_in names v) (length names) NO_PLACE lt in
            let some : slice_index table v ≢ NO_PLACE = λ e. omega (arith, e, is, lt, few) in
            ne_eqb (slice_index table v) NO_PLACE some ∙ sym (ap not (among_names names v lt))
        | inr le ↦
            eq-eqb (slice_index table v) NO_PLACE (are v below ∙ past_is (place_in names v) (length names) NO_PLACE le)
            ∙ sym (ap not (not_among names v le))
      ]

  find_agree : (vs : List ℕ) → AllByRecursion (λ v. v < length table) vs → find (lacks table) vs ≡ find (λ v. not (is_one_of names v)) vs
  find_agree [] all = refl
  find_agree (v ∷ vs) all = let here = lacks_is v all.0 in let rest = find_agree vs all.1 in λ i. cond (here i) (Some v) (rest i)

  each_corner : (tris : List Tri) → AllByRecursion (IsBelow (length table)) tris → AllByRecursion (λ v. v < length table) (flat_map corners tris)
  each_corner [] all = tt
  each_corner (t ∷ tris) all = (all.0.0, (all.0.1, (all.0.2, each_corner tris all.1)))

  -- the first name without a place is the first that is missing
  pub lacking_is : (tris : List Tri) → All (IsBelow (length table)) tris
      → find (lacks table) (flat_map corners tris) ≡ first_missing names tris
  lacking_is tris below = find_agree (flat_map corners tris) (each_corner tris (recursion_from_All (IsBelow (length table)) tris below))

  place_looked_up : (v : ℕ) → v < length table → Contains names v → slice_index table v ≡ place_in names v
  place_looked_up v below there = are v below ∙ within_is (place_in names v) (length names) NO_PLACE (place_within names v there)

  each_looked_up : (tris : List Tri) → AllByRecursion (IsBelow (length table)) tris → AllByRecursion (IsNamedBy names) tris
      → map (looked_up table) tris ≡ map (placed names) tris
  each_looked_up [] below named = refl
  each_looked_up (t ∷ tris) below named =
      let a = place_looked_up t.a below.0.0 named.0.0 in
      let b = place_looked_up t.b below.0.1 named.0.1 in
      let c = place_looked_up t.c below.0.2 named.0.2 in
      let rest = each_looked_up tris below.1 named.1 in
      λ i. record { a = a i; b = b i; c = c i } ∷ rest i

  -- where no name is missing, what the table has are the places
  pub all_looked_up : (tris : List Tri) → All (IsBelow (length table)) tris → All (IsNamedBy names) tris
      → map (looked_up table) tris ≡ map (placed names) tris
  all_looked_up tris below named =
      each_looked_up tris (recursion_from_All (IsBelow (length table)) tris below) (recursion_from_All (IsNamedBy names) tris named)

-- ---- no name is missing

none_first : (p : ℕ → Bool) (v : ℕ) (vs : List ℕ) → find p (v ∷ vs) ≡ None → (p v ≡ false) × (find p vs ≡ None)
none_first p v vs none =
    elim (p v) as (λ b. p v ≡ b → cond b (Some v) (find p vs) ≡ None → (p v ≡ false) × (find p vs ≡ None)) [
      | true ↦ λ _ no. absurd (cc)
      | false ↦ λ out rest. (out, rest)
    ] refl none

not_not : (b : Bool) → not b ≡ false → b ≡ true
not_not true e = refl
not_not false e = absurd (false≢true (sym e))

contains : (names : List ℕ) (v : ℕ) → not (is_one_of names v) ≡ false → Contains names v
contains names v is =
    let at = Any-from_list_any (λ n. eqb v n) names (not_not (is_one_of names v) is) in
    (at.0, at.2, get_or_default names at.0 v at.1 at.2 ∙ at.3 ∙ sym (eqb-true v at.1 at.4))

each_named : (names : List ℕ) (tris : List Tri) → first_missing names tris ≡ None → AllByRecursion (IsNamedBy names) tris
each_named names [] none = tt
each_named names (t ∷ tris) none =
    let p = λ (v : ℕ). not (is_one_of names v) in
    let a = none_first p t.a (t.b ∷ t.c ∷ flat_map corners tris) none in
    let b = none_first p t.b (t.c ∷ flat_map corners tris) a.1 in
    let c = none_first p t.c (flat_map corners tris) b.1 in
    ((contains names t.a a.0, contains names t.b b.0, contains names t.c c.0), each_named names tris c.1)

pub all_named : (names : List ℕ) (tris : List Tri) → first_missing names tris ≡ None → All (IsNamedBy names) tris
all_named names tris none = All-from_recursion (IsNamedBy names) tris (each_named names tris none)
