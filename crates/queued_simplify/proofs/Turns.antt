-- One turn of a simplification by a queue.
use Rattle.std.proofs.Common.{◌≡◌, ◌≢◌, inl, inr, ℕ, ℤ, int_le, ◌&&◌, ◌||◌, Bool, true, false, cond, not, eqb, List, [], ◌∷◌, map, Some, refl, sym, ap, ◌∙◌, subst, flat_map}
use Rattle.std.proofs.lemmas.Bool.{false≢true, both_ways, eq-eqb, ne_eqb, and_parts, false_from_ne_true, or_cases, or_left, or_right}
use Rattle.std.proofs.lemmas.List.Folds.{list_any-append}
use Rattle.std.proofs.lemmas.List.Elements.{recursion_from_All}
use Rattle.std.specs.List.{filter, AllByRecursion}
use Rattle.std.specs.List.Sorted.{IsSorted}
use Rattle.std.specs.Ordering.{nat_cmp, int_cmp, ordering_then, is_le}
use Rattle.std.specs.declared.cmp.Ordering.{Ordering}
use Rattle.std.specs.declared.cmp.Ordering.TheVariants.{Less, Equal, Greater}
use Rattle.oemm_lists.specs.Numbers.{among}
use Rattle.oemm_octree.specs.declared.points.Point.{Point}
use Rattle.mesh_data.specs.declared.geometry.Tri.{Tri}
use Rattle.mesh_data.specs.declared.edits.Step.{Step}
use Rattle.mesh_data.specs.declared.edits.Reply.TheVariants.{DoneAt}
use Rattle.mesh_data.specs.Edits.{is_held, collapsed, collapsed_tris, cost, step_cmp, substituted}
use Rattle.mesh_data.specs.Links.{are_neighbours, has_both}
use Rattle.mesh_data.specs.Manifold.{IsTriangleOn}
use Rattle.mesh_data.specs.Mesh.{Mesh}
use Rattle.mesh_data.specs.Triangles.{corners, has_corner, star, neighbours, tri_cmp, turned}
use Rattle.edit_laws.specs.Away.{AreTurned, IsAway}
use Rattle.edit_laws.proofs.FarPairs.{beside, corners_on, far_pairs, star-collapsed}
use Rattle.edit_laws.proofs.Locality.{among-other}
use Rattle.edit_laws.proofs.SeenEffects.{held-collapsed}
use Rattle.edit_laws.proofs.SeenVerdicts.{at_some}
use Rattle.edit_laws.proofs.Stars.{near_alike}
use Rattle.triangle_edits.proofs.Results.{triangles_collapsed}
use Rattle.triangle_lists.proofs.Candidates.{and_comm}
use Rattle.triangle_lists.proofs.Orders.{tri_cmp_total}
use Rattle.triangle_lists.proofs.Sorting.{IsSorted-in_order}
use Rattle.collapse_queue.specs.declared.candidate.Candidate.{Candidate}
use Rattle.collapse_queue.specs.Candidates.{candidate_cmp}
use Rattle.collapse_queue.specs.Queues.{Queued, IsLive, IsLeastLive, HasNoneLive, popped, least_live}
use Rattle.collapse_queue.proofs.Members.{live_popped, popped_live}
use Rattle.queued_simplify.specs.Errors.{ErrorMesh, collapse_reply, contracted, price}
use Rattle.queued_simplify.specs.LeastSteps.{HasNoneDone, IsLeastDone}
use Rattle.queued_simplify.specs.Served.{IsPair, IsQueued, IsServed, IsServedBut, IsWhole, AreEnough, IsRefreshed}
use Rattle.queued_simplify.specs.Turns.{IsInOrder}
use Rattle.queued_simplify.proofs.Prices.{pair_of_done, price_away}
use Rattle.queued_simplify.proofs.Verdicts.{done_at, done_by, done_by_planes}

-- ---- triangles in order
each_turned : (ts : List Tri) → AllByRecursion (IsTriangleOn (λ w. Unit {0})) ts → AreTurned ts
each_turned [] all = tt
each_turned (t ∷ ts) all = (all.0.is_turned, each_turned ts all.1)

pub turned_of : (m : Mesh) → IsInOrder m → AreTurned m.tris
turned_of m order = each_turned m.tris (recursion_from_All (IsTriangleOn (λ w. Unit {0})) m.tris order.triangles)

sorted_collapsed : (u v : ℕ) (ts : List Tri) → IsSorted tri_cmp (collapsed_tris u v ts)
unfolding collapsed_tris
sorted_collapsed u v ts = IsSorted-in_order tri_cmp_total
    (map (λ t. turned (substituted u v t)) (filter (λ t. not (has_both u v t)) ts))

pub order_then : (m : Mesh) (u v : ℕ) → IsInOrder m → IsInOrder (collapsed m u v)
order_then m u v order = record {
  triangles = triangles_collapsed (λ w. Unit {0}) (λ w. Unit {0}) u v m.tris (λ w on other. tt) tt order.triangles;
  sorted = sorted_collapsed u v m.tris;
}

-- ---- neighbours by lists and by triangles
pub among_of_near : (ts : List Tri) (x y : ℕ) → x ≢ y → are_neighbours ts x y ≡ true → among y (neighbours x ts) ≡ true
among_of_near ts x y apart near =
    among-other y x (beside x ts) (ne_eqb y x (λ e. apart (sym e)))
    (at_some (has_both x y) x y ts (λ t h. (and_parts (has_corner x t) (has_corner y t) h).0)
    (λ t h. (and_parts (has_corner x t) (has_corner y t) h).1) near)

near_turned : (x y : ℕ) (ts : List Tri) → are_neighbours ts x y ≡ are_neighbours ts y x
near_turned x y [] = refl
near_turned x y (t ∷ ts) = λ i. and_comm (has_corner x t) (has_corner y t) i || near_turned x y ts i

-- a name that stands in a triangle of v is one of its neighbours
near_beside : (v w : ℕ) (ts : List Tri) → among w (beside v ts) ≡ true → are_neighbours ts v w ≡ true
near_beside v w [] on = absurd (false≢true on)
near_beside v w (t ∷ ts) on =
    elim (has_corner v t) as (λ b. has_corner v t ≡ b
    → among w (flat_map corners (cond b (t ∷ star v ts) (star v ts))) ≡ true
    → has_both v w t || are_neighbours ts v w ≡ true) [
      | true ↦ λ at on'. elim (or_cases (among w (corners t)) (among w (beside v ts))
          (sym (list_any-append (λ n. eqb n w) (corners t) (beside v ts)) ∙ on')) [
            | inl here ↦ or_left (has_both v w t) _ ((λ i. at i && corners_on w t here i))
            | inr later ↦ or_right (has_both v w t) _ (near_beside v w ts later)
          ]
      | false ↦ λ _ on'. or_right (has_both v w t) _ (near_beside v w ts on')
    ] refl on

-- a pair is one the other way too
pub pair_back : (inside : Point → Bool) (m : Mesh) (x y : ℕ) → IsPair inside m x y → IsPair inside m y x
pair_back inside m x y p =
    record {
      held = p.onto_held;
      onto_held = p.held;
      apart = λ is. p.apart (sym is);
      near = near_turned y x m.tris
          ∙ p.near;
    }

-- ---- orders of steps and of candidates
le_dropped : (a b c d : Ordering) → is_le (ordering_then a (ordering_then b (ordering_then c d))) ≡ true
    → is_le (ordering_then a (ordering_then b c)) ≡ true
le_dropped Less b c d h = refl
le_dropped Equal Less c d h = refl
le_dropped Equal Equal Less d h = refl
le_dropped Equal Equal Equal d h = refl
le_dropped Equal Equal Greater d h = h
le_dropped Equal Greater c d h = h
le_dropped Greater b c d h = h

-- the step of a candidate
abbrev pub step_of : Candidate → Step
step_of c = record { u = c.u; v = c.v; cost = c.cost }

step_le : (c d : Candidate) → is_le (candidate_cmp c d) ≡ true → is_le (step_cmp (step_of c) (step_of d)) ≡ true
step_le c d h = le_dropped (int_cmp c.cost d.cost) (nat_cmp c.u d.u) (nat_cmp c.v d.v) (nat_cmp c.stamp d.stamp) h

-- ---- a turn that pops
-- the least live item, if its collapse is done, is the least step
pub popped_done : (inside : Point → Bool) (most : ℤ) (w : ErrorMesh) (q : Queued) (c : Candidate) (k : ℤ)
    → IsServed inside most w q → IsLeastLive q c
    → collapse_reply inside w c.u c.v most ≡ DoneAt k → IsLeastDone inside w most (step_of c)
popped_done inside most w q c k s first done = record {
  done = done ∙ ap DoneAt ((done_at inside w.mesh c.u c.v (price w c.u c.v) most k done).0
      ∙ sym (s.present c first.itself).1);
  least = λ x y j other.
      let live = s.complete x y j (λ none. none) other in
      let it : Candidate = record { cost = price w x y; u = x; v = y; stamp = live.0 } in
      subst (λ z. is_le (step_cmp (step_of c) (record { u = x; v = y; cost = z })) ≡ true)
      (sym (done_at inside w.mesh x y (price w x y) most j other).0) (step_le c it (first.least it live.1));
}

-- where none is live no collapse is done
pub none_live : (inside : Point → Bool) (most : ℤ) (w : ErrorMesh) (q : Queued) → IsServed inside most w q
    → HasNoneLive q → HasNoneDone inside w most
none_live inside most w q s none x y k done = let live = s.complete x y k (λ b. b) done in none _ live.1

-- an item whose collapse is refused may go
pub popped_refused : (inside : Point → Bool) (most : ℤ) (w : ErrorMesh) (q : Queued) (c : Candidate)
    → IsServed inside most w q → least_live q ≡ Some c
    → ((k : ℤ) → collapse_reply inside w c.u c.v most ≡ DoneAt k → ⊥) → IsServed inside most w (popped q)
popped_refused inside most w q c s first refused = record {
  present = λ d live. s.present d (popped_live q d live);
  complete = λ x y k _ done.
      let was = s.complete x y k (λ b. b) done in
      let it : Candidate = record { cost = price w x y; u = x; v = y; stamp = was.0 } in
      elim (live_popped q c it first was.1) [
        | inl is ↦ absurd (refused k (ap (λ (e : Candidate). collapse_reply inside w e.u e.v most) (sym is) ∙ done))
        | inr still ↦ (was.0, still)
      ];
}

-- the least live item is taken out
pub popped_but : (inside : Point → Bool) (most : ℤ) (w : ErrorMesh) (q : Queued) (c : Candidate)
    → IsServed inside most w q → least_live q ≡ Some c
    → IsServedBut (λ x. x ≡ c.u) inside most w (popped q)
popped_but inside most w q c s first = record {
  present = λ d live. s.present d (popped_live q d live);
  complete = λ x y k other done.
      let was = s.complete x y k (λ b. b) done in
      let it : Candidate = record { cost = price w x y; u = x; v = y; stamp = was.0 } in
      elim (live_popped q c it first was.1) [
        | inl is ↦ absurd (other (ap (λ (e : Candidate). e.u) is))
        | inr still ↦ (was.0, still)
      ];
}

-- the pairs of another name stay in the queue
pub whole_popped : (inside : Point → Bool) (most : ℤ) (w : ErrorMesh) (q : Queued) (c : Candidate) (x : ℕ)
    → least_live q ≡ Some c → x ≢ c.u
    → IsWhole inside most w q x → IsWhole inside most w (popped q) x
whole_popped inside most w q c x first other whole y p cheap =
    let was = whole y p cheap in
    let it : Candidate = record { cost = price w x y; u = x; v = y; stamp = was.0 } in
    elim (live_popped q c it first was.1) [
      | inl is ↦ absurd (other (ap (λ (e : Candidate). e.u) is))
      | inr still ↦ (was.0, still)
    ]

-- ---- a turn that collapses
held_other : (inside : Point → Bool) (m : Mesh) (u v x : ℕ) → x ≢ u
    → is_held inside (collapsed m u v) x ≡ is_held inside m x
held_other inside m u v x other = held-collapsed inside m u v x
    ∙ ap (λ (b : Bool). cond b false (is_held inside m x)) (ne_eqb x u other)

pub gone : (inside : Point → Bool) (m : Mesh) (u v : ℕ) → is_held inside (collapsed m u v) u ≡ true → ⊥
gone inside m u v held = false≢true (sym (held-collapsed inside m u v u
    ∙ ap (λ (b : Bool). cond b false (is_held inside m u)) (eq-eqb u u refl)) ∙ held)

-- no pair of the mesh afterwards has the name that went
pub not_gone : (inside : Point → Bool) (m : Mesh) (u v y : ℕ) → is_held inside (collapsed m u v) y ≡ true → y ≢ u
not_gone inside m u v y held is = gone inside m u v (subst (λ w. is_held inside (collapsed m u v) w ≡ true) is held)

-- what holds for a name whose triangles stay
same_near : (m : Mesh) (u v x y : ℕ) → IsInOrder m → are_neighbours m.tris u v ≡ true → IsAway m u x
    → are_neighbours (collapsed m u v).tris x y ≡ are_neighbours m.tris x y
same_near m u v x y order near away =
    let xv : x ≢ v = λ e. both_ways (are_neighbours m.tris u x) away.from_ring
    (subst (λ (w : ℕ). are_neighbours m.tris u w ≡ true) (sym e) near) in
    let far : among x (beside u m.tris) ≡ false =
    false_from_ne_true _ (λ on. both_ways (are_neighbours m.tris u x) away.from_ring (near_beside u x m.tris on)) in
    near_alike (collapsed m u v).tris m.tris x y
    (star-collapsed u v x m.tris away.from_u xv far (turned_of m order) order.sorted)

pub away_of : (inside : Point → Bool) (most : ℤ) (w : ErrorMesh) (q : Queued) (u v x : ℕ) (names : List ℕ)
    → AreEnough inside most w q u v names → among x names ≡ false → IsAway w.mesh u x
away_of inside most w q u v x names enough out = record {
  from_u = λ is. both_ways (among x names) out (subst (λ y. among y names ≡ true) (sym is) enough.itself);
  from_ring = false_from_ne_true _ (λ on. both_ways (among x names) out (enough.ring x on));
}

pub pair_stays : (inside : Point → Bool) (m : Mesh) (u v x y : ℕ) → IsInOrder m → are_neighbours m.tris u v ≡ true
    → IsAway m u x → IsPair inside m x y → IsPair inside (collapsed m u v) x y
pair_stays inside m u v x y order on away p =
    let other : y ≢ u = λ is. both_ways (are_neighbours m.tris u x) away.from_ring (near_turned u x m.tris
    ∙ subst (λ w. are_neighbours m.tris x w ≡ true) is p.near) in
    record {
      held = held_other inside m u v x away.from_u ∙ p.held;
      onto_held = held_other inside m u v y other ∙ p.onto_held;
      apart = p.apart;
      near = same_near m u v x y order on away ∙ p.near;
    }

pair_was : (inside : Point → Bool) (m : Mesh) (u v x y : ℕ) → IsInOrder m → are_neighbours m.tris u v ≡ true
    → IsAway m u x → IsPair inside (collapsed m u v) x y → IsPair inside m x y
pair_was inside m u v x y order on away p =
    record {
      held = sym (held_other inside m u v x away.from_u) ∙ p.held;
      onto_held = sym (held_other inside m u v y (not_gone inside m u v y p.onto_held)) ∙ p.onto_held;
      apart = p.apart;
      near = sym (same_near m u v x y order on away) ∙ p.near;
    }

-- the price of such a pair stays
price_stays : (inside : Point → Bool) (most : ℤ) (w : ErrorMesh) (q : Queued) (u v x y : ℕ) (names : List ℕ)
    → AreEnough inside most w q u v names → are_neighbours w.mesh.tris u v ≡ true → among x names ≡ false
    → IsPair inside (contracted w u v).mesh x y → price (contracted w u v) x y ≡ price w x y
price_stays inside most w q u v x y names enough on out p =
    let away = away_of inside most w q u v x names enough out in
    price_away w u v x y away.from_u
    (λ is. both_ways (among x names) out
    (enough.ring x (subst (λ z. are_neighbours w.mesh.tris u z ≡ true) (sym is) on)))
    (not_gone inside w.mesh u v y p.onto_held)
    (λ is. both_ways (among x names) out (enough.onto x (subst (λ z. IsPair inside (contracted w u v).mesh x z) is p)))

-- a pair of a name that isn't stamped anew stays in the queue
still_queued : (inside : Point → Bool) (most : ℤ) (w : ErrorMesh) (q r : Queued) (u v x y : ℕ) (names : List ℕ)
    → AreEnough inside most w q u v names → are_neighbours w.mesh.tris u v ≡ true
    → IsRefreshed inside most (contracted w u v) names q r → among x names ≡ false
    → IsPair inside (contracted w u v).mesh x y → IsQueued w q x y → IsQueued (contracted w u v) r x y
still_queued inside most w q r u v x y names enough on fresh out p was = (
  was.0,
  subst (λ z. IsLive r (record { cost = z; u = x; v = y; stamp = was.0 }))
      (sym (price_stays inside most w q u v x y names enough on out p)) (fresh.kept _ was.1 out),
)

-- a name that isn't stamped anew keeps all its pairs in the queue
pub whole_then : (inside : Point → Bool) (most : ℤ) (w : ErrorMesh) (q r : Queued) (u v x : ℕ) (names : List ℕ)
    → IsInOrder w.mesh → are_neighbours w.mesh.tris u v ≡ true → AreEnough inside most w q u v names
    → IsRefreshed inside most (contracted w u v) names q r → among x names ≡ false → IsWhole inside most w q x
    → IsWhole inside most (contracted w u v) r x
whole_then inside most w q r u v x names order on enough fresh out whole y p cheap =
    let was = pair_was inside w.mesh u v x y order on (away_of inside most w q u v x names enough out) p in
    let same = price_stays inside most w q u v x y names enough on out p in
    still_queued inside most w q r u v x y names enough on fresh out p (whole y was (ap (λ z. int_le z most) (sym same)
    ∙ cheap))

pub turn : (inside : Point → Bool) (most : ℤ) (w : ErrorMesh) (q r : Queued) (u v : ℕ) (k : ℤ) (names : List ℕ)
    → IsInOrder w.mesh
    → collapse_reply inside w u v most ≡ DoneAt k → IsServedBut (λ x. x ≡ u) inside most w q
    → AreEnough inside most w q u v names → IsRefreshed inside most (contracted w u v) names q r
    → IsServed inside most (contracted w u v) r
turn inside most w q r u v k names order done s enough fresh =
    let n = contracted w u v in
    let on : are_neighbours w.mesh.tris u v ≡ true = (pair_of_done inside w u v most k done).near in
    record {
      present = λ c live. elim (fresh.made c live) [
        | inl was ↦
            let p = pair_stays inside w.mesh u v c.u c.v order on (away_of inside most w q u v c.u names enough was.1)
            (s.present c was.0).0 in
            (p, (s.present c was.0).1 ∙ sym (price_stays inside most w q u v c.u c.v names enough on was.1 p))
        | inr new ↦ new
      ];
      complete = λ x y j _ can.
          let p = pair_of_done inside n x y most j can in
          let cheap = (done_at inside n.mesh x y (price n x y) most j can).1 in
          elim (among x names) as (λ b. among x names ≡ b → IsQueued n r x y) [
            | true ↦ λ is. fresh.whole x is y p cheap
            | false ↦ λ out.
                let away = away_of inside most w q u v x names enough out in
                let same = price_stays inside most w q u v x y names enough on out p in
                let cheap' : int_le (price w x y) most ≡ true = ap (λ z. int_le z most) (sym same) ∙ cheap in
                elim (are_neighbours w.mesh.tris u y) as (λ b. are_neighbours w.mesh.tris u y ≡ b → IsQueued n r x y) [
                  | true ↦ λ ring. elim (enough.near x y ring p) [
                    | inl is ↦ absurd (both_ways (among x names) out is)
                    | inr all ↦ whole_then inside most w q r u v x names order on enough fresh out all y p cheap
                  ]
                  | false ↦ λ far.
                      let of_y : IsAway w.mesh u y = record {
                        from_u =
                            not_gone inside w.mesh u v y p.onto_held;
                        from_ring = far;
                      } in
                      let then_cost = cost n.mesh x y in
                      let now = done_by_planes inside n.mesh x y (price n x y) most j can in
                      let before = sym (far_pairs inside w.mesh u v x y then_cost
                      (turned_of w.mesh order) order.sorted on away of_y) ∙ now in
                      let of_w = done_by inside w.mesh x y (cost w.mesh x y) then_cost then_cost
                      (price w x y) most before cheap' in
                      still_queued inside most w q r u v x y names enough on fresh out p
                      (s.complete x y (price w x y) away.from_u of_w)
                ] refl
          ] refl;
    }
