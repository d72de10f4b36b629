-- A queue with room for six items a triangle never lacks room.
use Rattle.std.proofs.Common.{◌≡◌, ◌≢◌, inl, inr, ℕ, ◌*◌, ◌<◌, ◌≤◌, nat_lt, ◌||◌, Bool, true, false, cond, not, List, [], ◌∷◌, map, filter, length, flat_map, refl, sym, ap, ◌∙◌, subst, arith, length-append}
use Rattle.std.proofs.lemmas.Bool.{false≢true, ltb-true, ltb-false, or_left, or_right, or_cases, both_ways, false_from_ne_true}
use Rattle.std.proofs.lemmas.Bool.Decides.{nat_tests}
use Rattle.std.proofs.lemmas.Cmp.{eq_by_cmp_equiv}
use Rattle.std.proofs.lemmas.List.{length-map}
use Rattle.std.proofs.lemmas.List.Folds.{list_any-append}
use Rattle.std.proofs.lemmas.List.Sorted.{length_permutation}
use Rattle.std.proofs.lemmas.Map.Keys.{IsDistinct-cons}
use Rattle.std.proofs.lemmas.Map.Made.{length-le_from_is_member}
use Rattle.std.specs.Cmp.{IsEquivalence}
use Rattle.std.specs.List.{list_any, IsDistinct, AllByRecursion}
use Rattle.std.specs.Ordering.{is_le}
use Rattle.oemm_lists.specs.Ascending.{inserted}
use Rattle.mesh_data.specs.declared.geometry.Edge.{Edge}
use Rattle.oemm_octree.specs.declared.points.Point.{Point}
use Rattle.mesh_data.specs.declared.geometry.Tri.{Tri}
use Rattle.mesh_data.specs.Edits.{collapsed_tris, substituted}
use Rattle.mesh_data.specs.Links.{are_neighbours, has_both}
use Rattle.mesh_data.specs.Mesh.{Mesh}
use Rattle.mesh_data.specs.Triangles.{same_edge, tri_cmp, turned}
use Rattle.edit_steps.specs.Steps.{both_ways as ways_of}
use Rattle.triangle_lists.proofs.EdgeSets.{same_edge_is, same_edges}
use Rattle.triangle_lists.proofs.Orders.{edge_cmp_total}
use Rattle.triangle_lists.proofs.Sorting.{IsPermutation-in_order}
use Rattle.collapse_queue.specs.declared.candidate.Candidate.{Candidate}
use Rattle.collapse_queue.specs.Candidates.{candidate_cmp, is_live}
use Rattle.collapse_queue.specs.Queues.{Queued, HasRoom, kept, pushed, IsIn}
use Rattle.collapse_queue.proofs.Members.{live_pushed}
use Rattle.queued_simplify.specs.Rooms.{pair_of, live_pairs, IsRoomy}
use Rattle.queued_simplify.specs.Served.{IsPair}

same_edge_laws : IsEquivalence same_edge
same_edge_laws = record {
  refl = λ x. same_edge_is x x ∙ (eq_by_cmp_equiv edge_cmp_total).refl x;
  symm = λ x y. same_edge_is x y ∙ (eq_by_cmp_equiv edge_cmp_total).symm x y ∙ sym (same_edge_is y x);
  congr = λ x y z h. same_edge_is x z ∙ (eq_by_cmp_equiv edge_cmp_total).congr x y z (sym (same_edge_is x y) ∙ h)
      ∙ sym (same_edge_is y z);
}

-- ---- the pairs of a mesh along its triangles
abbrev ways : List Tri → List Edge
ways ts = flat_map ways_of ts

length-ways : (ts : List Tri) → length (ways ts) ≡ 6 * length ts
length-ways [] = refl
length-ways (t ∷ ts) = omega (arith, length-append (ways_of t) (ways ts), length-ways ts)

side_of : (x y : ℕ) (t : Tri) → x ≢ y → has_both x y t ≡ true
    → list_any (same_edge (record { a = x; b = y })) (ways_of t) ≡ true
side_of x y t apart both = grind (arith, nat_tests)

pub near_ways : (x y : ℕ) (ts : List Tri) → x ≢ y → are_neighbours ts x y ≡ true
    → list_any (same_edge (record { a = x; b = y })) (ways ts) ≡ true
near_ways x y [] apart near = absurd (false≢true near)
near_ways x y (t ∷ ts) apart near =
    let e : Edge = record { a = x; b = y } in
    list_any-append (same_edge e) (ways_of t) (ways ts)
    ∙ elim (or_cases (has_both x y t) (list_any (has_both x y) ts) near) [
      | inl here ↦ or_left (list_any (same_edge e) (ways_of t)) _ (side_of x y t apart here)
      | inr later ↦ or_right (list_any (same_edge e) (ways_of t)) _ (near_ways x y ts apart later)
    ]

-- ---- the live pairs
pub pair_there : (p : Candidate → Bool) (e : Edge) (ds : List Candidate)
    → list_any (same_edge e) (map pair_of (filter p ds)) ≡ true
    → (c : Candidate) × IsIn c ds × (p c ≡ true) × (e ≡ pair_of c)
pair_there p e [] = λ on. absurd (false≢true on)
pair_there p e (d ∷ ds) =
    elim (p d) as (λ b. p d ≡ b → list_any (same_edge e) (map pair_of (cond b (d ∷ filter p ds) (filter p ds))) ≡ true
    → (c : Candidate) × IsIn c (d ∷ ds) × (p c ≡ true) × (e ≡ pair_of c)) [
      | true ↦ λ passes on. elim (or_cases (same_edge e (pair_of d)) _ on) [
        | inl is ↦ (d, inl refl, passes, same_edges e (pair_of d) is)
        | inr later ↦ let rest = pair_there p e ds later in (rest.0, inr rest.1, rest.2, rest.3)
      ]
      | false ↦ λ _ on. let rest = pair_there p e ds on in (rest.0, inr rest.1, rest.2, rest.3)
    ] refl

all_apart : (e : Edge) (es : List Edge) → list_any (same_edge e) es ≡ false
    → AllByRecursion (λ y. same_edge e y ≡ false) es
all_apart e [] h = tt
all_apart e (f ∷ fs) h = (
  false_from_ne_true _ (λ on. both_ways _ h (or_left (same_edge e f) _ on)),
  all_apart e fs (false_from_ne_true _ (λ on. both_ways _ h (or_right (same_edge e f) _ on))),
)

some_stale : {X : Type 0} (p : X → Bool) (xs : List X) → length (filter p xs) < length xs
    → list_any (λ x. not (p x)) xs ≡ true
some_stale p [] = λ h. absurd (omega (arith, h))
some_stale p (x ∷ xs) =
    elim (p x) as (λ b. length (cond b (x ∷ filter p xs) (filter p xs)) < length (x ∷ xs)
    → (not b || list_any (λ y. not (p y)) xs) ≡ true) [
      | true ↦ λ h. some_stale p xs (omega (arith, h))
      | false ↦ λ _. refl
    ]

-- where a pair of the mesh is no live item, there is room for it
pub has_room : (inside : Point → Bool) (m : Mesh) (q : Queued) (x y : ℕ) → IsRoomy inside m q → IsPair inside m x y
    → list_any (same_edge (record { a = x; b = y })) (live_pairs q) ≡ false → HasRoom q
has_room inside m q x y r p new =
    let live = is_live q.stamps in
    let e : Edge = record { a = x; b = y } in
    let once : IsDistinct same_edge (e ∷ live_pairs q) =
    IsDistinct-cons same_edge e (live_pairs q) (all_apart e (live_pairs q) new) r.once in
    let along : (d : Edge) → list_any (same_edge d) (e ∷ live_pairs q) ≡ true
    → list_any (same_edge d) (ways m.tris) ≡ true = λ d on.
    elim (or_cases (same_edge d e) _ on) [
      | inl is ↦ ap (λ (f : Edge). list_any (same_edge f) (ways m.tris)) (same_edges d e is)
          ∙ near_ways x y m.tris p.apart p.near
      | inr more ↦
          let at = pair_there live d q.items more in
          let pair = r.pairs at.0 (record { inside = at.1; live = at.2 }) in
          ap (λ (f : Edge). list_any (same_edge f) (ways m.tris)) at.3
          ∙ near_ways at.0.u at.0.v m.tris pair.apart pair.near
    ] in
    let few : length (e ∷ live_pairs q) ≤ length (ways m.tris) =
    length-le_from_is_member same_edge_laws (e ∷ live_pairs q) (ways m.tris) once along in
    let many : length (filter live q.items) < q.room =
    omega (arith, few, length-ways m.tris, length-map (filter live q.items) pair_of, r.room) in
    elim (nat_lt (length q.items) q.room) as (λ b. nat_lt (length q.items) q.room ≡ b → HasRoom q) [
      | true ↦ λ e'. inl (ltb-true (length q.items) q.room e')
      | false ↦ λ e'. inr (some_stale live q.items (let full : q.room ≤ length q.items =
          ltb-false (length q.items) q.room e' in omega (arith, many, full)))
    ] refl

-- a collapse leaves no more triangles
fewer : {X : Type 0} (p : X → Bool) (xs : List X) → length (filter p xs) ≤ length xs
fewer p [] = omega arith
fewer p (x ∷ xs) = elim (p x) as (λ b. length (cond b (x ∷ filter p xs) (filter p xs)) ≤ length (x ∷ xs)) [
  | true ↦
      omega (arith, fewer p xs)
  | false ↦ omega (arith, fewer p xs)
]

pub fewer_tris : (u v : ℕ) (ts : List Tri) → length (collapsed_tris u v ts) ≤ length ts
unfolding collapsed_tris
fewer_tris u v ts =
    let kept : List Tri = filter (λ t. not (has_both u v t)) ts in
    let put : Tri → Tri = λ t. turned (substituted u v t) in
    omega (
      arith,
      length_permutation _ _ (IsPermutation-in_order tri_cmp (map put kept)),
      length-map kept put,
      fewer (λ t. not (has_both u v t)) ts,
    )

-- ---- after a push
filter_twice : {X : Type 0} (p : X → Bool) (xs : List X) → filter p (filter p xs) ≡ filter p xs
filter_twice p [] = refl
filter_twice p (x ∷ xs) =
    elim (p x) as (λ b. p x ≡ b → filter p (cond b (x ∷ filter p xs) (filter p xs))
    ≡ cond b (x ∷ filter p xs) (filter p xs)) [
      | true ↦ λ e. ap (λ (b : Bool). cond b (x ∷ filter p (filter p xs)) (filter p (filter p xs))) e
          ∙ ap (λ ys. x ∷ ys) (filter_twice p xs)
      | false ↦ λ _. filter_twice p xs
    ] refl

kept_pairs : (q : Queued) → filter (is_live q.stamps) (kept q) ≡ filter (is_live q.stamps) q.items
kept_pairs q = elim (nat_lt (length q.items) q.room) as
    (λ b. filter (is_live q.stamps) (cond b q.items (filter (is_live q.stamps) q.items))
    ≡ filter (is_live q.stamps) q.items) [ true ↦ refl | false ↦ filter_twice (is_live q.stamps) q.items ]

all_placed : (P : Edge → Type 0) (p : Candidate → Bool) (c : Candidate) (ds : List Candidate) → P (pair_of c)
    → AllByRecursion P (map pair_of (filter p ds))
    → AllByRecursion P (map pair_of (filter p (inserted candidate_cmp c ds)))
all_placed P p c [] here all = elim (p c) as (λ b. AllByRecursion P (map pair_of (cond b (c ∷ []) []))) [
  | true ↦
      (here, tt)
  | false ↦ tt
]
all_placed P p c (d ∷ ds) here all =
    elim (is_le (candidate_cmp c d)) as
    (λ b. AllByRecursion P (map pair_of (filter p (cond b (c ∷ d ∷ ds) (d ∷ inserted candidate_cmp c ds))))) [
      | true ↦ elim (p c) as (λ b. AllByRecursion P
          (map pair_of (cond b (c ∷ filter p (d ∷ ds)) (filter p (d ∷ ds))))) [ true ↦ (here, all) | false ↦ all ]
      | false ↦ elim (p d) as (λ b. AllByRecursion P (map pair_of (cond b (d ∷ filter p ds) (filter p ds)))
          → AllByRecursion P (map pair_of
          (cond b (d ∷ filter p (inserted candidate_cmp c ds)) (filter p (inserted candidate_cmp c ds))))) [
            | true ↦ λ h. (h.0, all_placed P p c ds here h.1)
            | false ↦ λ h. all_placed P p c ds here h
          ] all
    ]

once_placed : (p : Candidate → Bool) (c : Candidate) (ds : List Candidate)
    → AllByRecursion (λ y. same_edge (pair_of c) y ≡ false) (map pair_of (filter p ds))
    → IsDistinct same_edge (map pair_of (filter p ds))
    → IsDistinct same_edge (map pair_of (filter p (inserted candidate_cmp c ds)))
unfolding IsDistinct
once_placed p c [] new once = elim (p c) as (λ b. IsDistinct same_edge (map pair_of (cond b (c ∷ []) []))) [
  | true ↦
      (tt, tt)
  | false ↦ tt
]
once_placed p c (d ∷ ds) new once =
    elim (is_le (candidate_cmp c d)) as
    (λ b. IsDistinct same_edge (map pair_of (filter p (cond b (c ∷ d ∷ ds) (d ∷ inserted candidate_cmp c ds))))) [
      | true ↦ elim (p c) as (λ b. IsDistinct same_edge
          (map pair_of (cond b (c ∷ filter p (d ∷ ds)) (filter p (d ∷ ds))))) [ true ↦ (new, once) | false ↦ once ]
      | false ↦ elim (p d) as (λ b. AllByRecursion (λ y. same_edge (pair_of c) y ≡ false)
          (map pair_of (cond b (d ∷ filter p ds) (filter p ds)))
          → IsDistinct same_edge (map pair_of (cond b (d ∷ filter p ds) (filter p ds)))
          → IsDistinct same_edge (map pair_of
          (cond b (d ∷ filter p (inserted candidate_cmp c ds)) (filter p (inserted candidate_cmp c ds))))) [
            | true ↦ λ n o. (
              all_placed (λ y. same_edge (pair_of d) y ≡ false) p c ds
                  (same_edge_laws.symm (pair_of d) (pair_of c) ∙ n.0) o.0,
              once_placed p c ds n.1 o.1,
            )
            | false ↦ λ n o. once_placed p c ds n o
          ] new once
    ]

pub roomy_pushed : (inside : Point → Bool) (m : Mesh) (q : Queued) (c : Candidate) → IsRoomy inside m q
    → IsPair inside m c.u c.v → list_any (same_edge (pair_of c)) (live_pairs q) ≡ false → IsRoomy inside m (pushed c q)
roomy_pushed inside m q c r p new =
    let live = is_live q.stamps in
    let same = sym (kept_pairs q) in
    record {
      once = once_placed live c (kept q)
          (subst (λ (ds : List Candidate). AllByRecursion (λ y. same_edge (pair_of c) y ≡ false) (map pair_of ds)) same
          (all_apart (pair_of c) (live_pairs q) new))
          (subst (λ (ds : List Candidate). IsDistinct same_edge (map pair_of ds)) same r.once);
      pairs = λ d h. elim ((live_pushed q c d).0 h) [
        | inl it ↦ subst (λ (e : Candidate). IsPair inside m e.u e.v) (sym it.0) p
        | inr was ↦ r.pairs d was
      ];
      room = r.room;
    }
