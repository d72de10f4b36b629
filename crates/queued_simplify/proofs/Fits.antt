-- How a queue keeps fitting a mesh.
use Rattle.std.proofs.Common.{◌≡◌, ◌≢◌, inl, inr, ℕ, ◌+◌, ◌<◌, ◌≤◌, ◌||◌, eqb, nat_eq, nat_le, ℤ, Bool, true, false, cond, not, List, [], ◌∷◌, map, filter, length, take, get_or, Some, refl, sym, ap, ◌∙◌, subst, arith}
use Rattle.std.proofs.lemmas.Bool.{false≢true, both_ways, leb-true, le-leb, false_from_ne_true, ne_eqb, eqb-true, eq-eqb, or_cases, or_left, or_right}
use Rattle.std.specs.Cmp.{nat_cmp_total, unsigned_tied, eq_by_cmp_equiv}
use Rattle.std.specs.FinMap as finite
use Rattle.std.specs.List.{IsDistinct, AllByRecursion}
use Rattle.std.specs.List.Sorted.{IsStrictlyIncreasing}
use Rattle.std.specs.Option.{is_some}
use Rattle.std.specs.Ordering.{nat_cmp, eq_by_cmp}
use Rattle.oemm_lists.specs.Numbers.{among}
use Rattle.oemm_octree.specs.declared.points.Point.{Point}
use Rattle.mesh_data.specs.declared.geometry.Edge.{Edge}
use Rattle.mesh_data.specs.declared.edits.Reply.TheVariants.{DoneAt}
use Rattle.mesh_data.specs.Edits.{is_held, collapsed}
use Rattle.mesh_data.specs.Links.{are_neighbours}
use Rattle.mesh_data.specs.Mesh.{Mesh}
use Rattle.mesh_data.specs.Triangles.{same_edge}
use Rattle.edit_laws.proofs.Locality.{free_around}
use Rattle.edit_laws.proofs.SeenEffects.{held-collapsed}
use Rattle.collapse_queue.specs.declared.candidate.Candidate.{Candidate}
use Rattle.collapse_queue.specs.Candidates.{stamp_in, is_live, behind}
use Rattle.collapse_queue.specs.Queues.{Queued, IsIn, IsLive, restamped, popped}
use Rattle.collapse_queue.proofs.Members.{stamp_given, popped_live, behind_in}
use Rattle.queued_simplify.specs.Errors.{ErrorMesh, collapse_reply, contracted}
use Rattle.queued_simplify.specs.Filled.{AreStamped, IsFilled, all_of, AreHeldAround}
use Rattle.queued_simplify.specs.Rooms.{IsRoomy, pair_of}
use Rattle.queued_simplify.specs.Served.{IsWhole, AreEnough, IsRefreshed}
use Rattle.queued_simplify.specs.Turns.{IsAround, IsCleared, IsFit, IsInOrder, IsReady, IsReadyBut, IsRestamped, is_refused}
use Rattle.queued_simplify.proofs.Fills.{among_more, new_name}
use Rattle.queued_simplify.proofs.Prices.{pair_of_done, reply_passed}
use Rattle.queued_simplify.proofs.Rooms.{fewer_tris}
use Rattle.queued_simplify.proofs.Turns.{among_of_near, away_of, not_gone, pair_stays, turn, whole_then}

-- ---- stamps, one after another
pub none_restamped : (s : ℕ) (q : Queued) → IsRestamped [] s q q
none_restamped s q = record { items = refl; room = refl; stamps = λ x. refl; keys = λ x h. h }

pub contains_given : (m : finite.FinMap nat_cmp ℕ) (u s w : ℕ) → finite.contains_key m w ≡ true
    → finite.contains_key (finite.insert m u s) w ≡ true
contains_given m u s w has =
    ap is_some (finite.get-insert nat_cmp_total m u s w)
    ∙ elim (eq_by_cmp nat_cmp w u) as (λ b. is_some (cond b (Some s) (finite.get m w)) ≡ true) [
      | true ↦ refl
      | false ↦ has
    ]

both : (a b : Bool) → b ≡ true → (a || b) ≡ true
both true b e = refl
both false b e = e

neither : (a b : Bool) → b ≡ false → (a || b) ≡ a
neither true b e = refl
neither false b e = e

eq_turned : (w x : ℕ) (b : Bool) → nat_eq w x ≡ b → eqb x w ≡ b
eq_turned w x b e = eq_swap x w ∙ e
  where
    eq_swap : (a c : ℕ) → eqb a c ≡ eqb c a
    eq_swap a c = sym (unsigned_tied a c) ∙ (eq_by_cmp_equiv nat_cmp_total).symm a c ∙ unsigned_tied c a

pub restamped_more : (all : List ℕ) (i x s : ℕ) (q r : Queued) → i < length all → x ≡ get_or all i x
    → IsRestamped (take i all) s q r → IsRestamped (take (i + 1) all) s q (restamped x s r)
restamped_more all i x s q r within is f = record {
  items = f.items;
  room = f.room;
  stamps = λ w. stamp_given r.stamps x s w ∙ ap (cond (nat_eq w x) s) (f.stamps w)
      ∙ elim (nat_eq w x) as (λ b. nat_eq w x ≡ b
      → cond b s (cond (among w (take i all)) s (stamp_in q.stamps w))
      ≡ cond (among w (take (i + 1) all)) s (stamp_in q.stamps w)) [
        | true ↦ λ e. sym (ap (λ (b : Bool). cond b s (stamp_in q.stamps w)) (among_more all i w x within is
            ∙ both (among w (take i all)) (eqb x w) (eq_turned w x true e)))
        | false ↦ λ e. sym (ap (λ (b : Bool). cond b s (stamp_in q.stamps w)) (among_more all i w x within is
            ∙ neither (among w (take i all)) (eqb x w) (eq_turned w x false e)))
      ] refl;
  keys = λ w has. contains_given r.stamps x s w (f.keys w has);
}

-- ---- marks, one after another
pub none_cleared : (old : finite.FinMap nat_cmp ℕ) → IsCleared [] old old
none_cleared old = record { marks = λ x. refl; keys = λ x h. h }

pub cleared_more : (all : List ℕ) (i x : ℕ) (old new : finite.FinMap nat_cmp ℕ) → i < length all → x ≡ get_or all i x
    → IsCleared (take i all) old new → IsCleared (take (i + 1) all) old (finite.insert new x 0)
cleared_more all i x old new within is f = record {
  marks = λ w. ap (λ n. not (eqb n 0)) (stamp_given new x 0 w)
      ∙ elim (nat_eq w x) as (λ b. nat_eq w x ≡ b
      → not (eqb (cond b 0 (stamp_in new w)) 0) ≡ cond (among w (take (i + 1) all)) false (is_refused old w)) [
        | true ↦ λ e. sym (ap (λ (b : Bool). cond b false (is_refused old w)) (among_more all i w x within is
            ∙ both (among w (take i all)) (eqb x w) (eq_turned w x true e)))
        | false ↦ λ e. f.marks w ∙ sym (ap (λ (b : Bool). cond b false (is_refused old w))
            (among_more all i w x within is ∙ neither (among w (take i all)) (eqb x w) (eq_turned w x false e)))
      ] refl;
  keys = λ w has. contains_given new x 0 w (f.keys w has);
}

-- the stamp that a name has before its turn
pub still_before : (all : List ℕ) (i x s : ℕ) (q r : Queued) → IsStrictlyIncreasing all → i < length all
    → x ≡ get_or all i x → IsRestamped (take i all) s q r → stamp_in q.stamps x < s → stamp_in r.stamps x < s
still_before all i x s q r up within is f low =
    subst (λ n. n < s) (sym (f.stamps x
    ∙ ap (λ (b : Bool). cond b s (stamp_in q.stamps x)) (new_name all i x up within is))) low

-- ---- what is live then
pub live_then : (names : List ℕ) (s : ℕ) (q r : Queued) (c : Candidate) → IsRestamped names s q r
    → ((d : Candidate) → IsIn d q.items → d.stamp < s) → IsLive r c → IsLive q c × (among c.u names ≡ false)
live_then names s q r c f low live =
    let inside = subst (IsIn c) f.items live.inside in
    let at : stamp_in r.stamps c.u ≤ c.stamp = leb-true (stamp_in r.stamps c.u) c.stamp live.live in
    elim (among c.u names) as (λ b. among c.u names ≡ b → IsLive q c × (b ≡ false)) [
      | true ↦ λ e. absurd (let is : stamp_in r.stamps c.u ≡ s = f.stamps c.u
          ∙ ap (λ (b : Bool). cond b s (stamp_in q.stamps c.u)) e in let below : c.stamp < s = low c inside in
          omega (arith, is, at, below))
      | false ↦ λ e.
          let is : stamp_in r.stamps c.u ≡ stamp_in q.stamps c.u = f.stamps c.u
          ∙ ap (λ (b : Bool). cond b s (stamp_in q.stamps c.u)) e in
          (record { inside = inside; live = le-leb (stamp_in q.stamps c.u) c.stamp (omega (arith, is, at)) }, refl)
    ] refl

pub then_live : (names : List ℕ) (s : ℕ) (q r : Queued) (c : Candidate) → IsRestamped names s q r → IsLive q c
    → among c.u names ≡ false → IsLive r c
then_live names s q r c f live out =
    let is : stamp_in r.stamps c.u ≡ stamp_in q.stamps c.u = f.stamps c.u
    ∙ ap (λ (b : Bool). cond b s (stamp_in q.stamps c.u)) out in
    record { inside = subst (IsIn c) (sym f.items) live.inside; live = ap (λ n. nat_le n c.stamp) is ∙ live.live }

pub are_stamped : (names : List ℕ) (s : ℕ) (q r : Queued) → IsRestamped names s q r
    → ((d : Candidate) → IsIn d q.items → d.stamp < s) → AreStamped names s r
are_stamped names s q r f low = record {
  stamp = λ x on. f.stamps x ∙ ap (λ (b : Bool). cond b s (stamp_in q.stamps x)) on;
  none = λ c live. (live_then names s q r c f low live).1;
  items = λ c i. let below : c.stamp < s = low c (subst (IsIn c) f.items i) in omega (arith, below);
}

-- ---- fewer live items
fewer_all : (P : Edge → Type 0) (p p' : Candidate → Bool) (ds : List Candidate)
    → ((c : Candidate) → IsIn c ds → p' c ≡ true → p c ≡ true) → AllByRecursion P (map pair_of (filter p ds))
    → AllByRecursion P (map pair_of (filter p' ds))
fewer_all P p p' [] to all = tt
fewer_all P p p' (d ∷ ds) to all =
    let rest : AllByRecursion P (map pair_of (filter p ds)) =
    elim (p d) as (λ b. AllByRecursion P (map pair_of (cond b (d ∷ filter p ds) (filter p ds)))
    → AllByRecursion P (map pair_of (filter p ds))) [ true ↦ λ h. h.1 | false ↦ λ h. h ] all in
    let more = fewer_all P p p' ds (λ c i. to c (inr i)) rest in
    elim (p' d) as (λ b. p' d ≡ b → AllByRecursion P (map pair_of (cond b (d ∷ filter p' ds) (filter p' ds)))) [
      | true ↦ λ e. (
        (subst (λ b. AllByRecursion P (map pair_of (cond b (d ∷ filter p ds) (filter p ds))))
            (to d (inl refl) e) all).0,
        more,
      )
      | false ↦ λ _. more
    ] refl

fewer_once : (p p' : Candidate → Bool) (ds : List Candidate) → ((c : Candidate) → IsIn c ds → p' c ≡ true → p c ≡ true)
    → IsDistinct same_edge (map pair_of (filter p ds)) → IsDistinct same_edge (map pair_of (filter p' ds))
unfolding IsDistinct
fewer_once p p' [] to once = tt
fewer_once p p' (d ∷ ds) to once =
    let rest : IsDistinct same_edge (map pair_of (filter p ds)) =
    elim (p d) as (λ b. IsDistinct same_edge (map pair_of (cond b (d ∷ filter p ds) (filter p ds)))
    → IsDistinct same_edge (map pair_of (filter p ds))) [ true ↦ λ h. h.1 | false ↦ λ h. h ] once in
    let more = fewer_once p p' ds (λ c i. to c (inr i)) rest in
    elim (p' d) as (λ b. p' d ≡ b → IsDistinct same_edge (map pair_of (cond b (d ∷ filter p' ds) (filter p' ds)))) [
      | true ↦ λ e. (
        fewer_all (λ y. same_edge (pair_of d) y ≡ false) p p' ds (λ c i. to c (inr i))
            (subst (λ b. IsDistinct same_edge (map pair_of (cond b (d ∷ filter p ds) (filter p ds))))
            (to d (inl refl) e) once).0,
        more,
      )
      | false ↦ λ _. more
    ] refl

tail_once : (p : Candidate → Bool) (ds : List Candidate) → IsDistinct same_edge (map pair_of (filter p ds))
    → IsDistinct same_edge (map pair_of (filter p (behind p ds)))
unfolding IsDistinct
tail_once p [] once = tt
tail_once p (d ∷ ds) once =
    elim (p d) as (λ b. IsDistinct same_edge (map pair_of (cond b (d ∷ filter p ds) (filter p ds)))
    → IsDistinct same_edge (map pair_of (filter p (cond b ds (behind p ds))))) [
      | true ↦ λ h. h.1
      | false ↦ λ h. tail_once p ds h
    ] once

pub fit_popped : (inside : Point → Bool) (m : Mesh) (s : ℕ) (q : Queued) → IsFit inside m s q
    → IsFit inside m s (popped q)
fit_popped inside m s q f = record {
  roomy = record {
    once = tail_once (is_live q.stamps) q.items f.roomy.once;
    pairs =
        λ c live. f.roomy.pairs c (popped_live q c live);
    room = f.roomy.room;
  };
  items = λ c i. f.items c (behind_in (is_live q.stamps) c q.items i);
  stamps = f.stamps;
  keys = f.keys;
}

-- ---- after a collapse
-- a name stamped before the others
pub restamped_first : (u s : ℕ) (names : List ℕ) (q r : Queued) → IsRestamped names s (restamped u s q) r
    → IsRestamped (u ∷ names) s q r
restamped_first u s names q r f = record {
  items = f.items;
  room = f.room;
  stamps = λ x. f.stamps x ∙ ap (cond (among x names) s) (stamp_given q.stamps u s x)
      ∙ elim (nat_eq x u) as (λ b. nat_eq x u ≡ b
      → cond (among x names) s (cond b s (stamp_in q.stamps x))
      ≡ cond (eqb u x || among x names) s (stamp_in q.stamps x)) [
        | true ↦ λ e. both (among x names)
            ∙ sym (ap (λ (b : Bool). cond (b || among x names) s (stamp_in q.stamps x))
            (eq-eqb u x (sym (eqb-true x u e))))
        | false ↦ λ e. sym (ap (λ (b : Bool). cond (b || among x names) s (stamp_in q.stamps x))
            (ne_eqb u x (λ is. both_ways (nat_eq x u) e (eq-eqb x u (sym is)))))
      ] refl;
  keys = λ x has. f.keys x (contains_given q.stamps u s x has);
}
  where
    both : (b : Bool) → cond b s s ≡ s
    both true = refl
    both false = refl

-- the names of a list that is begun with u
among_cons : (u x : ℕ) (names : List ℕ) → among x (u ∷ names) ≡ true → x ≢ u → among x names ≡ true
among_cons u x names on other =
    elim (or_cases (eqb u x) (among x names) on) [ inl is ↦ absurd (other (sym (eqb-true u x is))) | inr more ↦ more ]

pub roomy_then : (inside : Point → Bool) (most : ℤ) (w : ErrorMesh) (q r : Queued) (u v s : ℕ) (names : List ℕ)
    → IsInOrder w.mesh → are_neighbours w.mesh.tris u v ≡ true → AreEnough inside most w q u v names
    → IsFit inside w.mesh s q → IsRestamped names s q r
    → IsRoomy inside (contracted w u v).mesh r
roomy_then inside most w q r u v s names order on enough fit f = record {
  once = subst (λ (ds : List Candidate). IsDistinct same_edge (map pair_of (filter (is_live r.stamps) ds)))
      (sym f.items)
      (fewer_once (is_live q.stamps) (is_live r.stamps) q.items
      (λ c i lives. (live_then names s q r c f fit.items
      (record { inside = subst (IsIn c) (sym f.items) i; live = lives })).0.live) fit.roomy.once);
  pairs = λ c live.
      let was = live_then names s q r c f fit.items live in
      pair_stays inside w.mesh u v c.u c.v order on (away_of inside most w q u v c.u names enough was.1)
      (fit.roomy.pairs c was.0);
  room = let fewer = fewer_tris u v w.mesh.tris in omega (arith, fewer, f.room, fit.roomy.room);
}

-- the pairs of the names but u, of which there are none, are put in again
pub refreshed : (inside : Point → Bool) (most : ℤ) (w : ErrorMesh) (u v : ℕ) (names : List ℕ) (s : ℕ) (q r t : Queued)
    → IsRestamped (u ∷ names) s q r → ((d : Candidate) → IsIn d q.items → d.stamp < s)
    → IsFilled inside most (contracted w u v) (all_of names) s r t
    → IsRefreshed inside most (contracted w u v) (u ∷ names) q t
refreshed inside most w u v names s q r t f low g = record {
  kept = λ c live out. g.kept c (then_live (u ∷ names) s q r c f live out);
  made = λ c live. elim (g.made c live) [
    | inl was ↦ inl (live_then (u ∷ names) s q r c f low was)
    | inr it ↦ inr (it.1, it.2)
  ];
  whole = λ x on y p cheap. g.whole x y (among_cons u x names on (not_gone inside w.mesh u v x p.held)) p cheap;
}

-- what is held afterwards was so before
pub held_before : (inside : Point → Bool) (m : Mesh) (u v x : ℕ) → is_held inside (collapsed m u v) x ≡ true
    → is_held inside m x ≡ true
held_before inside m u v x held =
    elim (eqb x u) as (λ b. cond b false (is_held inside m x) ≡ true → is_held inside m x ≡ true) [
      | true ↦
          λ h. absurd (false≢true h)
      | false ↦ λ h. h
    ] (sym (held-collapsed inside m u v x) ∙ held)

pub fit_then : (inside : Point → Bool) (most : ℤ) (w : ErrorMesh) (u v s : ℕ) (names all : List ℕ) (q r t : Queued)
    → IsFit inside w.mesh s q → IsRestamped all s q r → IsFilled inside most (contracted w u v) (all_of names) s r t
    → IsFit inside (contracted w u v).mesh (s + 1) t
fit_then inside most w u v s names all q r t fit f g = record {
  roomy = g.roomy;
  items = λ c i. let low : c.stamp ≤ s = g.items c i in omega (arith, low);
  stamps = λ x.
      let same : stamp_in t.stamps x ≡ cond (among x all) s (stamp_in q.stamps x) = ap (λ ss. stamp_in ss x) g.stamps
      ∙ f.stamps x in
      let below : stamp_in q.stamps x < s = fit.stamps x in
      let low : cond (among x all) s (stamp_in q.stamps x) ≤ s =
      elim (among x all) as (λ b. cond b s (stamp_in q.stamps x) ≤ s) [
        | true ↦ omega arith
        | false ↦ omega (arith, below)
      ] in
      omega (arith, same, low);
  keys = λ x held. ap (λ ss. finite.contains_key ss x) g.stamps
      ∙ f.keys x (fit.keys x (held_before inside w.mesh u v x held));
}

-- what the names that are held afterwards have before they are stamped
pub keys_then : (inside : Point → Bool) (m : Mesh) (u v x s : ℕ) (q : Queued) → IsFit inside m s q
    → is_held inside (collapsed m u v) x ≡ true → finite.contains_key (restamped u s q).stamps x ≡ true
keys_then inside m u v x s q fit held = contains_given q.stamps u s x (fit.keys x (held_before inside m u v x held))

pub later_then : (inside : Point → Bool) (m : Mesh) (u v x s : ℕ) (q : Queued) → IsFit inside m s q
    → is_held inside (collapsed m u v) x ≡ true → stamp_in (restamped u s q).stamps x < s
later_then inside m u v x s q fit held =
    let other : x ≢ u = not_gone inside m u v x held in
    subst (λ n. n < s) (sym (stamp_given q.stamps u s x
    ∙ ap (λ (b : Bool). cond b s (stamp_in q.stamps x)) (ne_eqb x u other))) (fit.stamps x)

-- what holds of a mesh and an area holds of those that are known to be equal to them
pub to_made : (I J : Point → Bool) (N n : ErrorMesh) → J ≡ I → n ≡ N → (P : (Point → Bool) → ErrorMesh → Type 0) → P I N
    → P J n
to_made I J N n area is P h = subst (λ K. P K n) (sym area) (subst (λ m. P I m) (sym is) h)

pub at_made : (I J : Point → Bool) (N n : ErrorMesh) → J ≡ I → n ≡ N → (P : (Point → Bool) → ErrorMesh → Type 0) → P J n
    → P I N
at_made I J N n area is P h = subst (λ m. P I m) is (subst (λ K. P K n) area h)

-- ---- what a turn has at hand
-- the old ring of u is all of its neighbours
ring_of : (inside : Point → Bool) (most : ℤ) (w : ErrorMesh) (u v : ℕ) (k : ℤ) (ring : List ℕ)
    → collapse_reply inside w u v most ≡ DoneAt k → AreHeldAround inside w.mesh u ring
    → (y : ℕ) → are_neighbours w.mesh.tris u y ≡ true → y ≢ u → among y ring ≡ true
ring_of inside most w u v k ring done around y on other =
    let p = (reply_passed inside w u v most k done).pair in
    let apart : u ≢ y = λ is. other (sym is) in
    (around y).1 (record {
      held = p.held;
      onto_held =
          free_around inside w.mesh u p.free y (among_of_near w.mesh.tris u y apart on);
      apart = apart;
      near = on;
    })

pub enough_of : (inside : Point → Bool) (most : ℤ) (w : ErrorMesh) (q : Queued) (refused : finite.FinMap nat_cmp ℕ)
    (u v : ℕ) (k : ℤ)
    (ring names : List ℕ) → collapse_reply inside w u v most ≡ DoneAt k → AreHeldAround inside w.mesh u ring
    → IsAround inside (contracted w u v).mesh v ring refused names → IsReadyBut (λ x. x ≡ u) inside most w q refused
    → AreEnough inside most w q u v (u ∷ names)
enough_of inside most w q refused u v k ring names done around near ready =
    let pair = pair_of_done inside w u v most k done in
    let behind : (x : ℕ) → among x names ≡ true → among x (u ∷ names) ≡ true =
    λ x on. or_right (eqb u x) (among x names) on in
    let in_ring = ring_of inside most w u v k ring done around in
    record {
      itself = or_left (eqb u u) (among u names) (eq-eqb u u refl);
      ring = λ y on. elim (eqb u y) as (λ b. eqb u y ≡ b → (b || among y names) ≡ true) [
        | true ↦ λ _. refl
        | false ↦ λ e. near.itself y (in_ring y on (λ is. both_ways (eqb u y) e (eq-eqb u y (sym is))))
      ] refl;
      onto = λ x p. behind x (near.onto x (in_ring v pair.near (λ is. pair.apart (sym is))) p);
      near = λ x y on p. elim (near.near x y (in_ring y on (not_gone inside w.mesh u v y p.onto_held)) p) [
        | inl is ↦ inl (behind x is)
        | inr unrefused ↦ inr (ready.whole x (not_gone inside w.mesh u v x p.held) unrefused)
      ];
    }

-- the ring of u is held afterwards
pub ring_held : (inside : Point → Bool) (w : ErrorMesh) (u v : ℕ) (ring : List ℕ) → AreHeldAround inside w.mesh u ring
    → (y : ℕ) → among y ring ≡ true → is_held inside (contracted w u v).mesh y ≡ true
ring_held inside w u v ring around y on =
    let p = (around y).0 on in
    held-collapsed inside w.mesh u v y
    ∙ ap (λ (b : Bool). cond b false (is_held inside w.mesh y)) (ne_eqb y u (λ e. p.apart (sym e))) ∙ p.onto_held

-- the queue after one whole turn
pub ready_then : (inside : Point → Bool) (most : ℤ) (w : ErrorMesh) (u v s : ℕ) (k : ℤ) (names : List ℕ)
    (q r t : Queued)
    (old new : finite.FinMap nat_cmp ℕ) → IsInOrder w.mesh → collapse_reply inside w u v most ≡ DoneAt k
    → AreEnough inside most w q u v (u ∷ names) → IsReadyBut (λ x. x ≡ u) inside most w q old → IsFit inside w.mesh s q
    → IsRestamped (u ∷ names) s q r → IsCleared names old new
    → IsFilled inside most (contracted w u v) (all_of names) s r t
    → IsReady inside most (contracted w u v) t new
ready_then inside most w u v s k names q r t old new order done enough ready fit f cleared g =
    let fresh = refreshed inside most w u v names s q r t f fit.items g in
    let on = (pair_of_done inside w u v most k done).near in
    record {
      served = turn inside most w q t u v k (u ∷ names) order done ready.served enough fresh;
      whole = λ x _ unrefused. elim (among x (u ∷ names)) as (λ b. among x (u ∷ names) ≡ b
          → IsWhole inside most (contracted w u v) t x) [
            | true ↦ λ is. fresh.whole x is
            | false ↦ λ out.
                let other : x ≢ u = λ is. both_ways (among x (u ∷ names)) out
                (or_left (eqb u x) (among x names) (eq-eqb u x (sym is))) in
                let far : among x names ≡ false =
                false_from_ne_true _ (λ is. both_ways (among x (u ∷ names)) out (or_right (eqb u x) (among x names) is))
                in
                whole_then inside most w q t u v x (u ∷ names) order on enough fresh out
                (ready.whole x other (sym (cleared.marks x ∙ ap (λ (b : Bool). cond b false (is_refused old x)) far)
                ∙ unrefused))
          ] refl;
      keys = λ x held. cleared.keys x (ready.keys x (held_before inside w.mesh u v x held));
    }
