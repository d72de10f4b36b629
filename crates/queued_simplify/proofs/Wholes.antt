-- How many whole triangles a collapse takes away.
use Rattle.std.proofs.Common.{◌≡◌, ◌≢◌, ◌⊎◌, inl, inr, flat_map, ℕ, ◌+◌, nat_lt, eqb, Bool, true, false, cond, not, ◌&&◌, ◌||◌, List, [], ◌∷◌, map, filter, length, count_by, refl, sym, ap, ◌∙◌, subst, arith}
use Rattle.std.proofs.lemmas.Bool.{and_parts, eqb-true, eq-eqb, or_left, or_right}
use Rattle.std.proofs.lemmas.List.{length-map}
use Rattle.std.proofs.lemmas.List.Filters.{length-filter_both}
use Rattle.std.proofs.lemmas.List.Recursion.{is_sum_by}
use Rattle.std.specs.List.{list_all}
use Rattle.std.specs.Ordering.{is_le}
use Rattle.oemm_lists.specs.Ascending.{inserted, in_order}
use Rattle.oemm_octree.specs.declared.points.Point.{Point}
use Rattle.mesh_data.specs.declared.geometry.Tri.{Tri}
use Rattle.mesh_data.specs.Edits.{is_held, is_free, whole_count, collapsed, collapsed_tris, substituted}
use Rattle.mesh_data.specs.Links.{has_both}
use Rattle.mesh_data.specs.Mesh.{Mesh}
use Rattle.mesh_data.specs.Triangles.{corners, has_corner, turned, tri_cmp, neighbours, star}
use Rattle.std.proofs.lemmas.List.Folds.{list_any-append}
use Rattle.oemm_lists.specs.Numbers.{among}
use Rattle.triangle_edits.proofs.Results.{length-in_order}
use Rattle.edit_laws.proofs.Locality.{free_around, corner_on, among-other}
use Rattle.edit_laws.proofs.SeenEffects.{held_renamed}
use Rattle.edit_laws.proofs.SeenVerdicts.{on_corners}

abbrev In : Tri → List Tri → Type 0
In t [] = ⊥
In t (s ∷ ss) = (t ≡ s) ⊎ In t ss

abbrev one_if : Bool → ℕ
one_if b = cond b 1 0

abbrev tally : (Tri → Bool) → List Tri → ℕ
tally p [] = 0
tally p (t ∷ ts) = one_if (p t) + tally p ts

tally_is : (p : Tri → Bool) (ts : List Tri) → tally p ts ≡ count_by p ts
tally_is p ts = is_sum_by (tally p) (λ t. cond (p t) 1 0) refl (λ _ _. refl) ts

tally_placed : (p : Tri → Bool) (t : Tri) (ts : List Tri) → tally p (inserted tri_cmp t ts) ≡ one_if (p t) + tally p ts
tally_placed p t [] = refl
tally_placed p t (s ∷ ss) = elim (is_le (tri_cmp t s)) as
    (λ b. tally p (cond b (t ∷ s ∷ ss) (s ∷ inserted tri_cmp t ss))
    ≡ one_if (p t) + (one_if (p s) + tally p ss)) [ true ↦ refl | false ↦ omega (arith, tally_placed p t ss) ]

tally_sorted : (p : Tri → Bool) (ts : List Tri) → tally p (in_order tri_cmp ts) ≡ tally p ts
tally_sorted p [] = refl
tally_sorted p (t ∷ ts) = tally_placed p t (in_order tri_cmp ts) ∙ ap (λ n. one_if (p t) + n) (tally_sorted p ts)

all_turned : (h : ℕ → Bool) (t : Tri) → list_all h (corners (turned t)) ≡ list_all h (corners t)
all_turned h t =
    elim (nat_lt t.a t.b && nat_lt t.a t.c) as
    (λ b. list_all h (corners (cond b t
    (cond (nat_lt t.b t.c) (record { a = t.b; b = t.c; c = t.a }) (record { a = t.c; b = t.a; c = t.b }))))
    ≡ list_all h (corners t)) [
      | true ↦ refl
      | false ↦ elim (nat_lt t.b t.c) as
          (λ b. list_all h (corners (cond b (record { a = t.b; b = t.c; c = t.a })
          (record { a = t.c; b = t.a; c = t.b }))) ≡ list_all h (corners t)) [
            | true ↦ round (h t.b) (h t.c) (h t.a)
            | false ↦ sym (round (h t.a) (h t.b) (h t.c))
          ]
    ]
  where
    round : (a b c : Bool) → (a && (b && (c && true))) ≡ (c && (a && (b && true)))
    round true true true = refl
    round true true false = refl
    round true false true = refl
    round true false false = refl
    round false true true = refl
    round false true false = refl
    round false false true = refl
    round false false false = refl

abbrev is_whole : (Point → Bool) → Mesh → Tri → Bool
is_whole inside m t = list_all (is_held inside m) (corners t)

-- a triangle of a free name is whole
whole_at : (inside : Point → Bool) (m : Mesh) (u : ℕ) (ts : List Tri) → is_held inside m u ≡ true
    → ((w : ℕ) → among w (neighbours u ts) ≡ true → is_held inside m w ≡ true) → (t : Tri)
    → ((w : ℕ) → has_corner w t ≡ true → (among w (neighbours u ts) ≡ true) ⊎ (w ≡ u)) → is_whole inside m t ≡ true
whole_at inside m u ts held around t near =
    let each : (w : ℕ) → has_corner w t ≡ true → is_held inside m w ≡ true =
    λ w on. elim (near w on) [
      | inl ring ↦ around w ring
      | inr is ↦ subst (λ x. is_held inside m x ≡ true) (sym is) held
    ] in
    (λ i. each t.a (or_left (eqb t.a t.a || eqb t.b t.a) _ (or_left (eqb t.a t.a) _ (eq-eqb t.a t.a refl))) i
    && (each t.b (or_left (eqb t.a t.b || eqb t.b t.b) _ (or_right (eqb t.a t.b) _ (eq-eqb t.b t.b refl))) i
    && (each t.c (or_right (eqb t.a t.c || eqb t.b t.c) _ (eq-eqb t.c t.c refl)) i && true)))

-- what a collapse leaves of the triangles: each is as whole as it was, and those that go were whole
left : (inside : Point → Bool) (m : Mesh) (u v : ℕ) (ts us : List Tri) → u ≢ v → is_held inside m u ≡ true
    → is_held inside m v ≡ true → ((w : ℕ) → among w (neighbours u us) ≡ true → is_held inside m w ≡ true)
    → ((t : Tri) → (w : ℕ) → has_corner u t ≡ true → In t ts → has_corner w t ≡ true
    → (among w (neighbours u us) ≡ true) ⊎ (w ≡ u))
    → tally (is_whole inside (collapsed m u v))
    (map (λ t. turned (substituted u v t)) (filter (λ t. not (has_both u v t)) ts)) + length
    (filter (has_both u v) ts) ≡ tally (is_whole inside m) ts
left inside m u v [] us apart hu hv around near = refl
left inside m u v (t ∷ ts) us apart hu hv around near =
    let rest = left inside m u v ts us apart hu hv around (λ s w at i on. near s w at (inr i) on) in
    let n = collapsed m u v in
    let put : Tri → Tri = λ t. turned (substituted u v t) in
    let same : is_whole inside n (put t) ≡ is_whole inside m t = all_turned (is_held inside n) (substituted u v t)
    ∙ (λ i. held_renamed inside m u v t.a apart hu hv i &&
    (held_renamed inside m u v t.b apart hu hv i && (held_renamed inside m u v t.c apart hu hv i && true))) in
    elim (has_both u v t) as (λ b. has_both u v t ≡ b
    → tally (is_whole inside n) (map put
    (cond (not b) (t ∷ filter (λ s. not (has_both u v s)) ts) (filter (λ s. not (has_both u v s)) ts))) + length
    (cond b (t ∷ filter (has_both u v) ts) (filter (has_both u v) ts))
    ≡ one_if (is_whole inside m t) + tally (is_whole inside m) ts) [
      | true ↦ λ both.
          let whole : is_whole inside m t ≡ true =
          whole_at inside m u us hu around t
          (λ w on. near t w (and_parts (has_corner u t) (has_corner v t) both).0 (inl refl) on) in
          omega (arith, rest, ap one_if whole)
      | false ↦ λ _. omega (arith, rest, ap one_if same)
    ] refl

near_corner : (u : ℕ) (us : List Tri) (t : Tri) (w : ℕ) → has_corner u t ≡ true → In t us → has_corner w t ≡ true
    → (among w (neighbours u us) ≡ true) ⊎ (w ≡ u)
near_corner u us t w at i on =
    elim (eqb w u) as (λ b. eqb w u ≡ b → (among w (neighbours u us) ≡ true) ⊎ (w ≡ u)) [
      | true ↦ λ e. inr (eqb-true w u e)
      | false ↦ λ e. inl (among-other w u (flat_map corners (star u us)) e (there us i))
    ] refl
  where
    there : (ts : List Tri) → In t ts → among w (flat_map corners (star u ts)) ≡ true
    there [] i = absurd i
    there (s ∷ ts) i = elim i [
      | inl is ↦ corner_on w s ts u (on_corners w s (ap (has_corner w) (sym is) ∙ on)) (ap (has_corner u) (sym is) ∙ at)
      | inr more ↦ elim (has_corner u s) as (λ b. among w (flat_map corners (cond b (s ∷ star u ts) (star u ts)))
          ≡ true) [
            | true ↦ list_any-append (λ n. eqb n w) (corners s) (flat_map corners (star u ts))
                ∙ or_right (among w (corners s)) _ (there ts more)
            | false ↦ there ts more
          ]
    ]

-- the whole triangles that a collapse takes away are those with both names
pub whole_lost : (inside : Point → Bool) (m : Mesh) (u v : ℕ) → u ≢ v → is_held inside m v ≡ true
    → is_free inside m u ≡ true → whole_count inside (collapsed m u v) + length (filter (has_both u v) m.tris)
    ≡ whole_count inside m
unfolding collapsed_tris
whole_lost inside m u v apart hv free =
    let n = collapsed m u v in
    let hu = (and_parts (is_held inside m u) _ free).0 in
    let put : Tri → Tri = λ t. turned (substituted u v t) in
    let kept = filter (λ t. not (has_both u v t)) m.tris in
    let sorted = tally_sorted (is_whole inside n) (map put kept) in
    let count = tally_is (is_whole inside n) (in_order tri_cmp (map put kept)) in
    let before = tally_is (is_whole inside m) m.tris in
    let rest = left inside m u v m.tris m.tris apart hu hv (free_around inside m u free)
    (λ t w at i on. near_corner u m.tris t w at i on) in
    omega (arith, sorted, count, before, rest)

-- as many whole triangles go as triangles
pub as_many : (inside : Point → Bool) (m : Mesh) (u v : ℕ) → u ≢ v → is_held inside m v ≡ true
    → is_free inside m u ≡ true
    → whole_count inside (collapsed m u v) + length m.tris ≡ whole_count inside m + length (collapsed m u v).tris
unfolding collapsed_tris
as_many inside m u v apart hv free =
    let put : Tri → Tri = λ t. turned (substituted u v t) in
    let kept : List Tri = filter (λ t. not (has_both u v t)) m.tris in
    let long = length-in_order tri_cmp (map put kept) in
    let same = length-map kept put in
    let parts = length-filter_both (has_both u v) (λ t. not (has_both u v t)) (λ _. refl) m.tris in
    omega (arith, whole_lost inside m u v apart hv free, long, same, parts)
