-- What is known below a bound, one part more.
use Rattle.std.proofs.Common.{◌≡◌, ℕ, ◌+◌, ◌*◌, ◌<◌, ◌≤◌, true, false, List, length, Option, Some, None, sym, ap, ◌∙◌, refl, subst, arith, inl, inr}
use Rattle.std.proofs.lemmas.Bool.{false≢true, both_ways, ltb-true, ltb-false, cases_lt}
use Rattle.std.specs.Cmp.{nat_cmp_is}
use Rattle.std.specs.List.{All}
use Rattle.std.specs.Option.{option_or}
use Rattle.std.specs.Ordering.{is_le, nat_cmp, ordering_then}
use Rattle.std.specs.declared.cmp.Ordering.{Ordering}
use Rattle.std.specs.declared.cmp.Ordering.TheVariants.{Less, Equal, Greater}
use Rattle.mesh_data.specs.declared.geometry.Edge.{Edge}
use Rattle.mesh_data.specs.declared.geometry.Tri.{Tri}
use Rattle.mesh_data.specs.declared.shapes.Shape.{Shape}
use Rattle.mesh_data.specs.declared.shapes.Shape.TheVariants as shape
use Rattle.mesh_data.specs.Manifold.{times, is_corner, IsEachEdgeOnce, IsRinged, IsLeastTwice, IsLeastRingless}
use Rattle.mesh_data.specs.Triangles.{IsBelow, edge_cmp, border_edges}
use Rattle.triangle_lists.specs.Audit.{FindsShape}
use Rattle.triangle_lists.specs.HeldAudit.{FindsHeldShape, IsLeastHeldRingless, AreHeldRinged}
use Rattle.face_audit.specs.Parts.{is_within, part, AreOfRange, count_within, is_edge_below, IsEachEdgeOnceBelow, IsRingedBelow, IsKnownBelow, border_below, Finds}
use Rattle.face_audit.proofs.Lists.{none_from_above, no_corner_above}
use Rattle.face_audit.proofs.Ranges.{within_is, within_high, corner_part, times_part, times_fewer, ring_of_part, ring_in_part, border_more, border_from_none, border_all, border_few}

-- ---- the order of edges

is_le_first : (r s : Ordering) → r ≡ Less → is_le (ordering_then r s) ≡ true
is_le_first Less s h = refl
is_le_first Equal s h = absurd (cc)
is_le_first Greater s h = absurd (cc)

not_le_first : (r s : Ordering) → r ≡ Greater → is_le (ordering_then r s) ≡ true → ⊥
not_le_first Less s h = absurd (cc)
not_le_first Equal s h = absurd (cc)
not_le_first Greater s h = λ le. false≢true le

below_edge : (d e : Edge) → d.a < e.a → is_le (edge_cmp d e) ≡ true
below_edge d e lt = is_le_first (nat_cmp d.a e.a) (nat_cmp d.b e.b) (sym (nat_cmp_is d.a e.a Less lt))

starts_rise : (d e : Edge) → is_le (edge_cmp d e) ≡ true → d.a ≤ e.a
starts_rise d e le =
    elim (cases_lt e.a d.a) [
      | inl gt ↦ absurd (not_le_first (nat_cmp d.a e.a) (nat_cmp d.b e.b) (sym (nat_cmp_is d.a e.a Greater gt)) le)
      | inr level ↦ level
    ]

-- ---- edges

-- the least edge that comes twice in the part is the least of all, where it begins below the part's end and none begins below its start
least_here : (low high : ℕ) (ts : List Tri) (e : Edge) → IsEachEdgeOnceBelow low ts → IsLeastTwice (part low high ts) e → e.a < high → IsLeastTwice ts e
least_here low high ts e once is under =
    elim (cases_lt e.a low) [
      | inl below ↦ absurd (omega (arith, once e below, is.twice, times_fewer low high ts e))
      | inr above ↦ record {
        twice = omega (arith, is.twice, times_part low high ts e (within_is low high e.a above under));
        least = λ d many.
            elim (cases_lt d.a low) [
              | inl low_d ↦ absurd (omega (arith, once d low_d, many))
              | inr high_d ↦ elim (cases_lt d.a high) [
                | inl in_d ↦ is.least d (omega (arith, many, times_part low high ts d (within_is low high d.a high_d in_d)))
                | inr over ↦ below_edge e d (omega (arith, under, over))
              ]
            ];
      }
    ]

pub fault_here : (low high : ℕ) (ts : List Tri) (held : List ℕ) (o : Option Shape) → IsEachEdgeOnceBelow low ts → FindsHeldShape (part low high ts) held o → is_edge_below high o ≡ true → FindsShape ts o
fault_here low high ts held None once is early = absurd (false≢true early)
fault_here low high ts held (Some (shape.Vertex v)) once is early = absurd (false≢true early)
fault_here low high ts held (Some (shape.Edge a b)) once is early = least_here low high ts (record { a = a; b = b }) once is (ltb-true a high early)

-- none of the part's names begins an edge that comes twice
once_within : (low high : ℕ) (ts : List Tri) (held : List ℕ) (o : Option Shape) (e : Edge) → FindsHeldShape (part low high ts) held o → is_edge_below high o ≡ false → is_within low high e.a ≡ true → times ts e ≤ 1
once_within low high ts held None e is late here = omega (arith, is.0 e, times_part low high ts e here)
once_within low high ts held (Some (shape.Vertex v)) e is late here = omega (arith, is.0 e, times_part low high ts e here)
once_within low high ts held (Some (shape.Edge a b)) e is late here =
    elim (cases_lt 1 (times ts e)) [
      | inl many ↦
          let at : a ≤ e.a = starts_rise (record { a = a; b = b }) e (is.least e (omega (arith, many, times_part low high ts e here))) in
          absurd (omega (arith, at, within_high low high e.a here, ltb-false a high late))
      | inr few ↦ few
    ]

once_more : (low high : ℕ) (ts : List Tri) (held : List ℕ) (o : Option Shape) → IsEachEdgeOnceBelow low ts → FindsHeldShape (part low high ts) held o → is_edge_below high o ≡ false → IsEachEdgeOnceBelow high ts
once_more low high ts held o once is late e under =
    elim (cases_lt e.a low) [
      | inl below ↦ once e below
      | inr above ↦ once_within low high ts held o e is late (within_is low high e.a above under)
    ]

-- ---- rings

ringed_more : (low high : ℕ) (ts : List Tri) (held : List ℕ) → AreOfRange low high held → IsRingedBelow low ts → AreHeldRinged (part low high ts) held → IsRingedBelow high ts
ringed_more low high ts held of ringed is v under corner =
    elim (cases_lt v low) [
      | inl below ↦ ringed v below corner
      | inr above ↦
          let here = within_is low high v above under in
          ring_of_part low high v ts here (is v (of v ∙ here) (corner_part low high v ts here ∙ corner))
    ]

ringless_here : (low high : ℕ) (ts : List Tri) (held : List ℕ) (v : ℕ) → AreOfRange low high held → IsRingedBelow low ts → IsLeastHeldRingless (part low high ts) held v → IsLeastRingless ts v
ringless_here low high ts held v of ringed is =
    let here : is_within low high v ≡ true = sym (of v) ∙ is.is_held in
    record {
      corner = sym (corner_part low high v ts here) ∙ is.corner;
      ringless = λ has. is.ringless (ring_in_part low high v ts here has);
      least = λ w lt corner.
          elim (cases_lt w low) [
            | inl below ↦ ringed w below corner
            | inr above ↦
                let there = within_is low high w above (omega (arith, lt, within_high low high v here)) in
                ring_of_part low high w ts there (is.least w lt (of w ∙ there) (corner_part low high w ts there ∙ corner))
          ];
    }

known_more : (low high : ℕ) (ts : List Tri) (held : List ℕ) (known o : Option Shape) → AreOfRange low high held → IsKnownBelow low ts known → FindsHeldShape (part low high ts) held o → IsKnownBelow high ts (option_or known o)
known_more low high ts held (Some (shape.Edge a b)) o of is found = is
known_more low high ts held (Some (shape.Vertex v)) o of is found = is
known_more low high ts held None None of is found = ringed_more low high ts held of is found.1
known_more low high ts held None (Some (shape.Vertex v)) of is found = ringless_here low high ts held v of is found.1
known_more low high ts held None (Some (shape.Edge a b)) of is found = omega (arith, found.twice, times_fewer low high ts (record { a = a; b = b }))

-- ---- from part to part

pub record IsFoundBelow (n : ℕ) (ts : List Tri) (known : Option Shape) (border : ℕ) : Type 0 where
  pub once : IsEachEdgeOnceBelow n ts
  pub tells : IsKnownBelow n ts known
  pub counts : border ≡ border_below n ts

pub found_from_none : (ts : List Tri) → IsFoundBelow 0 ts None 0
found_from_none ts = record {
  once = λ e lt. absurd (omega (arith, lt));
  tells = λ v lt corner. absurd (omega (arith, lt));
  counts = sym (border_from_none ts);
}

pub found_more : (low high : ℕ) (ts us : List Tri) (held : List ℕ) (known o : Option Shape) (border count : ℕ) → low ≤ high → IsFoundBelow low ts known border → us ≡ part low high ts → AreOfRange low high held → FindsHeldShape us held o → is_edge_below high o ≡ false → count ≡ count_within low high (border_edges us) → IsFoundBelow high ts (option_or known o) (border + count)
found_more low high ts us held known o border count le so_far is of found late counted =
    let here : FindsHeldShape (part low high ts) held o = subst (λ vs. FindsHeldShape vs held o) is found in
    record {
      once = once_more low high ts held o so_far.once here late;
      tells = known_more low high ts held known o of so_far.tells here;
      counts = omega (arith, so_far.counts, counted, ap (λ vs. count_within low high (border_edges vs)) is, border_more low high ts le);
    }

pub sum_few : (low high : ℕ) (ts us : List Tri) (border count : ℕ) → low ≤ high → border ≡ border_below low ts → us ≡ part low high ts → count ≡ count_within low high (border_edges us) → border + count ≤ 3 * length ts
sum_few low high ts us border count le so_far is counted =
    omega (arith, so_far, counted, ap (λ vs. count_within low high (border_edges vs)) is, border_more low high ts le, border_few high ts)

-- ---- when all names were looked at

once_all : (n : ℕ) (ts : List Tri) → All (IsBelow n) ts → IsEachEdgeOnceBelow n ts → IsEachEdgeOnce ts
once_all n ts below once e =
    elim (cases_lt e.a n) [
      | inl under ↦ once e under
      | inr above ↦ omega (arith, none_from_above n ts e below above)
    ]

ringed_all : (n : ℕ) (ts : List Tri) → All (IsBelow n) ts → IsRingedBelow n ts → IsRinged ts
ringed_all n ts below ringed v corner =
    elim (cases_lt v n) [
      | inl under ↦ ringed v under corner
      | inr above ↦ absurd (both_ways (is_corner ts v) (no_corner_above n v ts below above) corner)
    ]

fault_all : (n : ℕ) (ts : List Tri) (known : Option Shape) → All (IsBelow n) ts → IsEachEdgeOnce ts → IsKnownBelow n ts known → FindsShape ts known
fault_all n ts (Some (shape.Edge a b)) below once is = absurd (omega (arith, is, once (record { a = a; b = b })))
fault_all n ts (Some (shape.Vertex v)) below once is = (once, is)
fault_all n ts None below once is = (once, ringed_all n ts below is)

pub found_all : (n low : ℕ) (ts : List Tri) (known : Option Shape) (border : ℕ) → All (IsBelow n) ts → low ≡ n → IsFoundBelow low ts known border → Finds ts (record { fault = known; border = border })
found_all n low ts known border below same is =
    let all : IsFoundBelow n ts known border = subst (λ (k : ℕ). IsFoundBelow k ts known border) same is in
    record { fault = fault_all n ts known below (once_all n ts below all.once) all.tells; border = λ _. all.counts ∙ border_all n ts below }

pub found_early : (low high : ℕ) (ts us : List Tri) (held : List ℕ) (known o : Option Shape) (border : ℕ) → IsFoundBelow low ts known border → us ≡ part low high ts → FindsHeldShape us held o → is_edge_below high o ≡ true → Finds ts (record { fault = o; border = 0 })
found_early low high ts us held known o border so_far is found early =
    record {
      fault = fault_here low high ts held o so_far.once (subst (λ vs. FindsHeldShape vs held o) is found) early;
      border = λ none. absurd (false≢true (sym (ap (is_edge_below high) none) ∙ early));
    }
