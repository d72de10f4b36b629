-- Pairs added to a queue one by one.
use Rattle.std.proofs.Common.{◌≡◌, inl, inr, ℕ, zero, suc, ◌+◌, ◌<◌, ◌≤◌, ◌||◌, ◌&&◌, eqb, ℤ, int_le, Bool, true, false, cond, List, [], ◌∷◌, ◌++◌, length, take, get_or, refl, sym, ap, ◌∙◌, subst, arith}
use Rattle.std.proofs.lemmas.Bool.{false≢true, both_ways, or_left, or_right, or_cases, and_from, and_parts, eq-eqb, eqb-true, false_from_ne_true, le-leb}
use Rattle.std.proofs.lemmas.List.{take_more, get_or_default}
use Rattle.std.proofs.lemmas.List.Kept.{AllPairs-from_increasing}
use Rattle.std.specs.List.{list_any, AllByRecursion, IsDistinct}
use Rattle.std.specs.List.Sorted.{IsStrictlyIncreasing}
use Rattle.mesh_data.specs.declared.geometry.Edge.{Edge}
use Rattle.oemm_octree.specs.declared.points.Point.{Point}
use Rattle.mesh_data.specs.Triangles.{same_edge}
use Rattle.oemm_lists.specs.Numbers.{among}
use Rattle.std.proofs.lemmas.List.Folds.{list_any-append}
use Rattle.collapse_queue.specs.declared.candidate.Candidate.{Candidate}
use Rattle.collapse_queue.specs.Candidates.{stamp_in, is_live}
use Rattle.collapse_queue.specs.Queues.{Queued, IsLive, HasRoom, pushed}
use Rattle.collapse_queue.proofs.Members.{live_pushed, in_pushed}
use Rattle.queued_simplify.specs.Errors.{ErrorMesh, price}
use Rattle.queued_simplify.specs.Served.{IsPair}
use Rattle.queued_simplify.specs.Rooms.{IsRoomy, live_pairs}
use Rattle.queued_simplify.specs.Filled.{offered, AreStamped, AreHeldAround, IsFilled, up_to, all_of}
use Rattle.queued_simplify.proofs.Rooms.{has_room, roomy_pushed, pair_there}

-- ---- names that rise
among_place : (ns : List ℕ) (w : ℕ) → among w ns ≡ true → (j : ℕ) × (j < length ns) × (get_or ns j 0 ≡ w)
among_place [] w on = absurd (false≢true on)
among_place (n ∷ ns) w on =
    elim (or_cases (eqb n w) (among w ns) on) [
      | inl is ↦ (0, omega arith, eqb-true n w is)
      | inr more ↦ let rest = among_place ns w more in (suc rest.0, omega (arith, rest.1), rest.2)
    ]

take_among : (ns : List ℕ) (i w : ℕ) → among w (take i ns) ≡ true
    → (j : ℕ) × (j < i) × (j < length ns) × (get_or ns j 0 ≡ w)
take_among ns zero w on = absurd (false≢true on)
take_among [] (suc i) w on = absurd (false≢true on)
take_among (n ∷ ns) (suc i) w on =
    elim (or_cases (eqb n w) (among w (take i ns)) on) [
      | inl is ↦ (0, omega arith, omega arith, eqb-true n w is)
      | inr more ↦ let rest = take_among ns i w more in
          (suc rest.0, omega (arith, rest.1), omega (arith, rest.2), rest.3)
    ]

-- none of the names before is this one
pub new_name : (ns : List ℕ) (i w : ℕ) → IsStrictlyIncreasing ns → i < length ns → w ≡ get_or ns i w
    → among w (take i ns) ≡ false
new_name ns i w up within is = false_from_ne_true _ (λ on.
    let at = take_among ns i w on in
    let here : get_or ns i 0 ≡ w = get_or_default ns i 0 w within ∙ sym is in
    let below : get_or ns at.0 0 < get_or ns i 0 = AllPairs-from_increasing ns up at.0 i 0 at.1 within in
    omega (arith, below, here, at.3))

-- the same of a list of different names
place_apart : (P : ℕ → Type 0) (ns : List ℕ) (i w : ℕ) → AllByRecursion P ns → i < length ns → P (get_or ns i w)
place_apart P [] i w all within = absurd (omega (arith, within))
place_apart P (n ∷ ns) zero w all within = all.0
place_apart P (n ∷ ns) (suc i) w all within = place_apart P ns i w all.1 (omega (arith, within))

pub new_of_different : (ns : List ℕ) (i w : ℕ) → IsDistinct eqb ns → i < length ns → w ≡ get_or ns i w
    → among w (take i ns) ≡ false
unfolding IsDistinct
new_of_different [] i w once within is = absurd (omega (arith, within))
new_of_different (n ∷ ns) zero w once within is = refl
new_of_different (n ∷ ns) (suc i) w once within is =
    let within' : i < length ns = omega (arith, within) in
    let first : eqb n w ≡ false = subst (λ z. eqb n z ≡ false) (sym is)
    (place_apart (λ y. eqb n y ≡ false) ns i w once.0 within') in
    (λ j. first j || new_of_different ns i w once.1 within' is j)

pub at_place : (ns : List ℕ) (i w : ℕ) → i < length ns → w ≡ get_or ns i w → among w ns ≡ true
at_place [] i w within is = absurd (omega (arith, within))
at_place (n ∷ ns) zero w within is = or_left (eqb n w) (among w ns) (eq-eqb n w (sym is))
at_place (n ∷ ns) (suc i) w within is = or_right (eqb n w) (among w ns) (at_place ns i w (omega (arith, within)) is)

-- ---- one pair more
-- a pair that isn't done yet, of a stamped name, is no live item
pub not_queued : (inside : Point → Bool) (most : ℤ) (w : ErrorMesh) (done : ℕ → ℕ
    → Bool) (names : List ℕ) (s : ℕ) (q r : Queued) (x y : ℕ) → AreStamped names s q → IsFilled inside most w done s q r
    → among x names ≡ true → done x y ≡ false → list_any (same_edge (record { a = x; b = y })) (live_pairs r) ≡ false
not_queued inside most w done names s q r x y st f on new = false_from_ne_true _ (λ there.
    let e : Edge = record { a = x; b = y } in
    let at = pair_there (is_live r.stamps) e r.items there in
    let c = at.0 in
    let first : x ≡ c.u = ap (λ (d : Edge). d.a) at.3 in
    let second : y ≡ c.v = ap (λ (d : Edge). d.b) at.3 in
    elim (f.made c (record { inside = at.1; live = at.2 })) [
      | inl was ↦ both_ways (among c.u names) (st.none c was) (subst (λ z. among z names ≡ true) first on)
      | inr it ↦ both_ways (done x y) new ((λ i. done (first i) (second i)) ∙ it.0)
    ])

pub room_for : (inside : Point → Bool) (most : ℤ) (w : ErrorMesh) (done : ℕ → ℕ
    → Bool) (names : List ℕ) (s : ℕ) (q r : Queued) (x y : ℕ) → AreStamped names s q → IsFilled inside most w done s q r
    → among x names ≡ true → done x y ≡ false → IsPair inside w.mesh x y → HasRoom r
room_for inside most w done names s q r x y st f on new p =
    has_room inside w.mesh r x y f.roomy p (not_queued inside most w done names s q r x y st f on new)

-- the tests of what is done, with one pair more
abbrev pub and_pair : (ℕ → ℕ → Bool) → ℕ → ℕ → ℕ → ℕ → Bool
and_pair done x y a b = done a b || (eqb a x && eqb b y)

offered_dear : (inside : Point → Bool) (most : ℤ) (w : ErrorMesh) (done : ℕ → ℕ → Bool) (s : ℕ) (q r : Queued) (x y : ℕ)
    → IsFilled inside most w done s q r → int_le (price w x y) most ≡ false
    → IsFilled inside most w (and_pair done x y) s q r
offered_dear inside most w done s q r x y f dear = record {
  kept = f.kept;
  made = λ c live. elim (f.made c live) [
    | inl was ↦ inl was
    | inr it ↦ inr (or_left (done c.u c.v) _ it.0, it.1, it.2)
  ];
  whole = λ a b is p cheap. elim (or_cases (done a b) _ is) [
    | inl was ↦ f.whole a b was p cheap
    | inr it ↦
        let parts = and_parts (eqb a x) (eqb b y) it in
        absurd (both_ways (int_le (price w x y) most) dear
        ((λ i. int_le (price w (sym (eqb-true a x parts.0) i) (sym (eqb-true b y parts.1) i)) most) ∙ cheap))
  ];
  stamps = f.stamps;
  roomy = f.roomy;
  items = f.items;
}

offered_cheap : (inside : Point → Bool) (most : ℤ) (w : ErrorMesh) (done : ℕ → ℕ
    → Bool) (names : List ℕ) (s : ℕ) (q r : Queued) (x y : ℕ) → AreStamped names s q → IsFilled inside most w done s q r
    → among x names ≡ true → done x y ≡ false → IsPair inside w.mesh x y
    → IsFilled inside most w (and_pair done x y) s q (pushed (record { cost = price w x y; u = x; v = y; stamp = s }) r)
offered_cheap inside most w done names s q r x y st f on new p =
    let it : Candidate = record { cost = price w x y; u = x; v = y; stamp = s } in
    let stamp : stamp_in r.stamps x ≡ s = ap (λ ss. stamp_in ss x) f.stamps ∙ st.stamp x on in
    let lives : is_live r.stamps it ≡ true = le-leb (stamp_in r.stamps x) s (omega (arith, stamp)) in
    let first : IsLive (pushed it r) it = (live_pushed r it it).1 (inl (refl, lives)) in
    record {
      kept = λ c was. (live_pushed r it c).1 (inr (f.kept c was));
      made = λ c live. elim ((live_pushed r it c).0 live) [
        | inl is ↦ inr (subst (λ (d : Candidate). (and_pair done x y d.u d.v ≡ true) × IsPair inside w.mesh d.u d.v
            × (d.cost ≡ price w d.u d.v)) (sym is.0)
            (or_right (done x y) _ (and_from (eqb x x) (eqb y y) (eq-eqb x x refl) (eq-eqb y y refl)), p, refl))
        | inr more ↦ elim (f.made c more) [
          | inl was ↦ inl was
          | inr it' ↦ inr (or_left (done c.u c.v) _ it'.0, it'.1, it'.2)
        ]
      ];
      whole = λ a b is pair cheap. elim (or_cases (done a b) _ is) [
        | inl was ↦ let old = f.whole a b was pair cheap in (old.0, (live_pushed r it _).1 (inr old.1))
        | inr here ↦
            let parts = and_parts (eqb a x) (eqb b y) here in
            let same_u : x ≡ a = sym (eqb-true a x parts.0) in
            let same_v : y ≡ b = sym (eqb-true b y parts.1) in (
              s,
              subst (λ (d : Candidate). IsLive (pushed it r) d)
                  (λ i. record { cost = price w (same_u i) (same_v i); u = same_u i; v = same_v i; stamp = s }) first,
            )
      ];
      stamps = f.stamps;
      roomy = roomy_pushed inside w.mesh r it f.roomy p (not_queued inside most w done names s q r x y st f on new);
      items = λ c i. elim (in_pushed r it c i) [
        | inl is ↦
            subst (λ n. n ≤ s) (ap (λ (d : Candidate). d.stamp) (sym is)) (omega arith)
        | inr more ↦ f.items c more
      ];
    }

pub filled_more : (inside : Point → Bool) (most : ℤ) (w : ErrorMesh) (done : ℕ → ℕ
    → Bool) (names : List ℕ) (s : ℕ) (q r : Queued) (x y : ℕ) → AreStamped names s q → IsFilled inside most w done s q r
    → among x names ≡ true → done x y ≡ false → IsPair inside w.mesh x y
    → IsFilled inside most w (and_pair done x y) s q (offered w most s x y r)
filled_more inside most w done names s q r x y st f on new p =
    elim (int_le (price w x y) most) as (λ b. int_le (price w x y) most ≡ b
    → IsFilled inside most w (and_pair done x y) s q
    (cond b (pushed (record { cost = price w x y; u = x; v = y; stamp = s }) r) r)) [
      | true ↦ λ _. offered_cheap inside most w done names s q r x y st f on new p
      | false ↦ λ dear. offered_dear inside most w done s q r x y f dear
    ] refl

-- another test of what is done, which says the same of pairs
pub filled_as : (inside : Point → Bool) (most : ℤ) (w : ErrorMesh) (done other : ℕ → ℕ → Bool) (s : ℕ) (q r : Queued)
    → ((a b : ℕ) → done a b ≡ true → other a b ≡ true)
    → ((a b : ℕ) → IsPair inside w.mesh a b → other a b ≡ true → done a b ≡ true) → IsFilled inside most w done s q r
    → IsFilled inside most w other s q r
filled_as inside most w done other s q r to from f = record {
  kept = f.kept;
  made = λ c live. elim (f.made c live) [ inl was ↦ inl was | inr it ↦ inr (to c.u c.v it.0, it.1, it.2) ];
  whole = λ a b is p cheap. f.whole a b (from a b p is) p cheap;
  stamps = f.stamps;
  roomy = f.roomy;
  items = f.items;
}

-- ---- the pairs of names, one name after another
pub start_filled : (inside : Point → Bool) (most : ℤ) (w : ErrorMesh) (names : List ℕ) (s : ℕ) (q : Queued)
    → AreStamped names s q → IsRoomy inside w.mesh q → IsFilled inside most w (all_of []) s q q
start_filled inside most w names s q st r =
    record {
      kept = λ c live. live;
      made = λ c live. inl live;
      whole = λ x y is. absurd (false≢true is);
      stamps =
          refl;
      roomy = r;
      items = st.items;
    }

-- the first name of which pairs are to be added
pub ring_start : (inside : Point → Bool) (most : ℤ) (w : ErrorMesh) (names : List ℕ) (x s : ℕ) (q r : Queued)
    → IsFilled inside most w (all_of names) s q r → IsFilled inside most w (up_to names x []) s q r
ring_start inside most w names x s q r f =
    filled_as inside most w (all_of names) (up_to names x []) s q r (λ a b is. or_left (among a names) _ is)
    (λ a b _ is. elim (or_cases (among a names) _ is) [
      | inl on ↦ on
      | inr never ↦ absurd (false≢true (and_parts (eqb a x) false never).1)
    ]) f

pub among_more : (ns : List ℕ) (i a x : ℕ) → i < length ns → x ≡ get_or ns i x
    → among a (take (i + 1) ns) ≡ (among a (take i ns) || eqb x a)
among_more ns i a x within is =
    ap (among a) (take_more ns i x within ∙ ap (λ z. take i ns ++ z ∷ []) (sym is))
    ∙ list_any-append (λ n. eqb n a) (take i ns) (x ∷ [])
    ∙ ap (λ (b : Bool). among a (take i ns) || b) (elim (eqb x a) as (λ b. (b || false) ≡ b) [
      | true ↦ refl
      | false ↦ refl
    ])

-- and one pair of it more
pub ring_more : (inside : Point → Bool) (most : ℤ) (w : ErrorMesh) (all names ring : List ℕ) (j x y s : ℕ)
    (q r : Queued) → AreStamped all s q
    → among x all ≡ true → among x names ≡ false → AreHeldAround inside w.mesh x ring → j < length ring
    → y ≡ get_or ring j y → among y (take j ring) ≡ false
    → IsFilled inside most w (up_to names x (take j ring)) s q r
    → IsFilled inside most w (up_to names x (take (j + 1) ring)) s q (offered w most s x y r)
ring_more inside most w all names ring j x y s q r st on new around within is first f =
    let p = (around y).0 (at_place ring j y within is) in
    let fresh : up_to names x (take j ring) x y ≡ false = (λ i. new i || (eqb x x && first i))
    ∙ elim (eqb x x) as (λ b. (b && false) ≡ false) [ true ↦ refl | false ↦ refl ] in
    filled_as inside most w (and_pair (up_to names x (take j ring)) x y) (up_to names x (take (j + 1) ring)) s q
    (offered w most s x y r)
    (λ a b so. elim (or_cases (up_to names x (take j ring) a b) _ so) [
      | inl was ↦ elim (or_cases (among a names) _ was) [
        | inl old ↦ or_left (among a names) _ old
        | inr here ↦ let parts = and_parts (eqb a x) (among b (take j ring)) here in
            or_right (among a names) _ (and_from (eqb a x) _ parts.0 (among_more ring j b y within is
            ∙ or_left (among b (take j ring)) _ parts.1))
      ]
      | inr it ↦ let parts = and_parts (eqb a x) (eqb b y) it in
          or_right (among a names) _ (and_from (eqb a x) _ parts.0 (among_more ring j b y within is
          ∙ or_right (among b (take j ring)) _ (eq-eqb y b (sym (eqb-true b y parts.1)))))
    ])
    (λ a b _ so. elim (or_cases (among a names) _ so) [
      | inl old ↦ or_left (up_to names x (take j ring) a b) _ (or_left (among a names) _ old)
      | inr here ↦
          let parts = and_parts (eqb a x) (among b (take (j + 1) ring)) here in
          elim (or_cases (among b (take j ring)) (eqb y b) (sym (among_more ring j b y within is) ∙ parts.1)) [
            | inl was ↦ or_left (up_to names x (take j ring) a b) _
                (or_right (among a names) _ (and_from (eqb a x) _ parts.0 was))
            | inr it ↦ or_right (up_to names x (take j ring) a b) _
                (and_from (eqb a x) _ parts.0 (eq-eqb b y (sym (eqb-true y b it))))
          ]
    ])
    (filled_more inside most w (up_to names x (take j ring)) all s q r x y st f on fresh p)

pub ring_room : (inside : Point → Bool) (most : ℤ) (w : ErrorMesh) (all names ring : List ℕ) (j x y s : ℕ)
    (q r : Queued) → AreStamped all s q
    → among x all ≡ true → among x names ≡ false → AreHeldAround inside w.mesh x ring → j < length ring
    → y ≡ get_or ring j y → among y (take j ring) ≡ false
    → IsFilled inside most w (up_to names x (take j ring)) s q r → HasRoom r
ring_room inside most w all names ring j x y s q r st on new around within is first f =
    let fresh : up_to names x (take j ring) x y ≡ false = (λ i. new i || (eqb x x && first i))
    ∙ elim (eqb x x) as (λ b. (b && false) ≡ false) [ true ↦ refl | false ↦ refl ] in
    room_for inside most w (up_to names x (take j ring)) all s q r x y st f on fresh
    ((around y).0 (at_place ring j y within is))

-- all pairs of a name are done
pub ring_done : (inside : Point → Bool) (most : ℤ) (w : ErrorMesh) (all ring : List ℕ) (i x s : ℕ) (q r : Queued)
    → AreHeldAround inside w.mesh x ring → i < length all → x ≡ get_or all i x
    → IsFilled inside most w (up_to (take i all) x ring) s q r
    → IsFilled inside most w (all_of (take (i + 1) all)) s q r
ring_done inside most w all ring i x s q r around within is f =
    filled_as inside most w (up_to (take i all) x ring) (all_of (take (i + 1) all)) s q r
    (λ a b so. among_more all i a x within is ∙ elim (or_cases (among a (take i all)) _ so) [
      | inl old ↦ or_left (among a (take i all)) _ old
      | inr here ↦ or_right (among a (take i all)) _
          (eq-eqb x a (sym (eqb-true a x (and_parts (eqb a x) (among b ring) here).0)))
    ])
    (λ a b p so. elim (or_cases (among a (take i all)) (eqb x a) (sym (among_more all i a x within is) ∙ so)) [
      | inl old ↦ or_left (among a (take i all)) _ old
      | inr here ↦
          let same : a ≡ x = sym (eqb-true x a here) in
          or_right (among a (take i all)) _
          (and_from (eqb a x) _ (eq-eqb a x same) ((around b).1 (subst (λ z. IsPair inside w.mesh z b) same p)))
    ])
    f
