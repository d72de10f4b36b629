-- The triangles of half-edges after each of them was changed in place or dropped.
use Rattle.std.proofs.Common.{◌≡◌, ℕ, zero, suc, ◌+◌, Bool, true, false, cond, ◌&&◌, ◌||◌, eqb, ltb, List, [], ◌∷◌}
use Rattle.std.proofs.Common.{◌++◌, map, set, None, sym, ap, ◌∙◌, refl, arith}
use Rattle.std.proofs.lemmas.Bool.{cond_both}
use Rattle.std.proofs.lemmas.List.{map-append}
use Rattle.std.proofs.lemmas.List.Elements.{filter-append}
use Rattle.std.specs.List.{filter, flat_map, Contains, AllByRecursion}
use Rattle.oemm_lists.specs.Ascending.{in_order}
use Rattle.mesh_data.specs.declared.geometry.Tri.{Tri}
use Rattle.mesh_data.specs.Links.{has_both}
use Rattle.mesh_data.specs.Rings.{from_each_corner}
use Rattle.mesh_data.specs.Triangles.{IsProper, has_corner, turned, tri_cmp}
use Rattle.triangle_lists.proofs.Orders.{tri_cmp_total, tri_cmp-IsAntisymmetric}
use Rattle.triangle_lists.proofs.Rotations.{least_is_first, turned_alone}
use Rattle.triangle_lists.proofs.Sorting.{weight, weight-in_order, Rises-in_order, Rises-alike}
use Rattle.half_edge.specs.Halves.{Slots, at, from_next, led_face}

-- slot for slot, the triangles that pass, changed
pub led_after : (f : Tri → Tri) (p : Tri → Bool) (s r : Slots) →
    ((j : ℕ) → led_face (at r j) ≡ map f (filter p (led_face (at s j)))) →
    flat_map led_face r ≡ map f (filter p (flat_map led_face s))
led_after f p [] [] h = refl
led_after f p [] (o ∷ r) h = ap (λ (ts : List Tri). ts ++ flat_map led_face r) (h 0)
    ∙ led_after f p [] r (λ j. h (suc j))
led_after f p (o ∷ s) [] h =
    led_after f p s [] (λ j. h (suc j))
    ∙ ap (λ (ts : List Tri). ts ++ map f (filter p (flat_map led_face s))) (h 0)
    ∙ sym (map-append f (filter p (led_face o)) (filter p (flat_map led_face s)))
    ∙ ap (map f) (sym (filter-append p (led_face o) (flat_map led_face s)))
led_after f p (o ∷ s) (q ∷ r) h =
    (λ i. h 0 i ++ led_after f p s r (λ j. h (suc j)) i)
    ∙ sym (map-append f (filter p (led_face o)) (filter p (flat_map led_face s)))
    ∙ ap (map f) (sym (filter-append p (led_face o) (flat_map led_face s)))

-- ---- turned triangles

-- what holds of a triangle from each corner holds of it turned
pub of_turned : (P : Tri → Type 0) (t : Tri) → P t → P (from_next t) → P (from_next (from_next t)) → P (turned t)
of_turned P t p q r =
    cond_both (ltb t.a t.b && ltb t.a t.c) t _ P (λ _. p)
    (λ _. cond_both (ltb t.b t.c) (from_next t) (from_next (from_next t)) P (λ _. q) (λ _. r))

pub proper_next : (t : Tri) → IsProper t → IsProper (from_next t)
proper_next t p = (p.1, p.2, p.0)

pub turned_next : (t : Tri) → IsProper t → turned (from_next t) ≡ turned t
turned_next t p =
    let least = least_is_first (from_next t) (proper_next t p) in
    turned_alone t (turned (from_next t))
    (of_turned (Contains (from_each_corner t)) (from_next t) (1, omega arith, refl) (2, omega arith, refl)
    (0, omega arith, refl)) least.0 least.1

pub or_turn : (a b c : Bool) → (b || c || a) ≡ (a || b || c)
or_turn true true true = refl
or_turn true true false = refl
or_turn true false true = refl
or_turn true false false = refl
or_turn false true true = refl
or_turn false true false = refl
or_turn false false true = refl
or_turn false false false = refl

pub corner_next : (v : ℕ) (t : Tri) → has_corner v (from_next t) ≡ has_corner v t
corner_next v t = or_turn (eqb t.a v) (eqb t.b v) (eqb t.c v)

pub both_next : (u v : ℕ) (t : Tri) → has_both u v (from_next t) ≡ has_both u v t
both_next u v t = (λ i. corner_next u t i && corner_next v t i)

pub both_turned : (u v : ℕ) (t : Tri) → has_both u v (turned t) ≡ has_both u v t
both_turned u v t =
    of_turned (λ s. has_both u v s ≡ has_both u v t) t refl (both_next u v t) (both_next u v (from_next t)
    ∙ both_next u v t)

-- a change that turns with the triangle
pub turned_by : (f : Tri → Tri) (t : Tri) → ((s : Tri) → f (from_next s) ≡ from_next (f s)) → IsProper (f t) →
    turned (f (turned t)) ≡ turned (f t)
turned_by f t turns p =
    let one : turned (f (from_next t)) ≡ turned (f t) = ap turned (turns t) ∙ turned_next (f t) p in
    let two : turned (f (from_next (from_next t))) ≡ turned (f t) =
    ap turned (turns (from_next t) ∙ ap from_next (turns t)) ∙ turned_next (from_next (f t)) (proper_next (f t) p)
    ∙ turned_next (f t) p in
    of_turned (λ s. turned (f s) ≡ turned (f t)) t refl one two

-- ---- lists in order

pub weight_map : {X Y : Type 0} (g : X → Y) (f : Y → ℕ) (xs : List X) → weight f (map g xs) ≡ weight (λ x. f (g x)) xs
weight_map g f [] = refl
weight_map g f (x ∷ xs) = ap (λ n. f (g x) + n) (weight_map g f xs)

pub weight_filter : {X : Type 0} (p : X → Bool) (f : X → ℕ) (xs : List X) →
    weight f (filter p xs) ≡ weight (λ x. cond (p x) (f x) 0) xs
weight_filter p f [] = refl
weight_filter p f (x ∷ xs) =
    elim (p x) as (λ b. weight f (cond b (x ∷ filter p xs) (filter p xs)) ≡ cond b (f x) 0 + weight
    (λ y. cond (p y) (f y) 0) xs) [
      | true ↦ ap (λ n. f x + n) (weight_filter p f xs)
      | false ↦ omega (arith, weight_filter p f xs)
    ]

pub weight_same : (f g : Tri → ℕ) (ts : List Tri) → AllByRecursion (λ t. f t ≡ g t) ts → weight f ts ≡ weight g ts
weight_same f g [] h = refl
weight_same f g (t ∷ ts) h = omega (arith, h.0, weight_same f g ts h.1)

pub in_order_alike : (ss ts : List Tri) → ((f : Tri → ℕ) → weight f ss ≡ weight f ts) →
    in_order tri_cmp ss ≡ in_order tri_cmp ts
in_order_alike ss ts same =
    Rises-alike tri_cmp_total tri_cmp-IsAntisymmetric (in_order tri_cmp ss) (in_order tri_cmp ts)
    (Rises-in_order tri_cmp_total ss) (Rises-in_order tri_cmp_total ts)
    (λ f. weight-in_order tri_cmp_total f ss ∙ same f ∙ sym (weight-in_order tri_cmp_total f ts))

-- a change that turns with the triangles, of those that pass a test that does too, may be made before they are turned
pub changed_in_order : (f : Tri → Tri) (p : Tri → Bool) (ts : List Tri) → ((t : Tri) → p (turned t) ≡ p t) →
    AllByRecursion (λ t. p t ≡ true → turned (f (turned t)) ≡ turned (f t)) ts
    → in_order tri_cmp (map turned (map f (filter p ts))) ≡ in_order tri_cmp
    (map (λ t. turned (f t)) (filter p (in_order tri_cmp (map turned ts))))
changed_in_order f p ts same turns =
    in_order_alike _ _ (λ g.
    let weigh = λ (t : Tri). cond (p t) (g (turned (f t))) 0 in
    weight_map turned g (map f (filter p ts))
    ∙ weight_map f (λ t. g (turned t)) (filter p ts)
    ∙ weight_filter p (λ t. g (turned (f t))) ts
    ∙ weight_same weigh (λ t. weigh (turned t)) ts (each g ts turns)
    ∙ sym (weight_map turned weigh ts)
    ∙ sym (weight-in_order tri_cmp_total weigh (map turned ts))
    ∙ sym (weight_filter p (λ t. g (turned (f t))) (in_order tri_cmp (map turned ts)))
    ∙ sym (weight_map (λ t. turned (f t)) g (filter p (in_order tri_cmp (map turned ts)))))
  where
    one : (g : Tri → ℕ) (t : Tri) → (p t ≡ true → turned (f (turned t)) ≡ turned (f t)) →
        cond (p t) (g (turned (f t))) 0 ≡ cond (p (turned t)) (g (turned (f (turned t)))) 0
    one g t h =
        elim (p t) as (λ b. p t ≡ b → cond b (g (turned (f t))) 0 ≡ cond b (g (turned (f (turned t)))) 0) [
          | true ↦ λ e.
              ap g (sym (h e))
          | false ↦ λ _. refl
        ] refl
        ∙ ap (λ (b : Bool). cond b (g (turned (f (turned t)))) 0) (sym (same t))

    each : (g : Tri → ℕ) (us : List Tri) → AllByRecursion (λ t. p t ≡ true → turned (f (turned t)) ≡ turned (f t)) us →
        AllByRecursion (λ t. cond (p t) (g (turned (f t))) 0 ≡ cond (p (turned t)) (g (turned (f (turned t)))) 0) us
    each g [] h = tt
    each g (t ∷ us) h = (one g t h.0, each g us h.1)

weight_more : (g : Tri → ℕ) (us vs : List Tri) → weight g (us ++ vs) ≡ weight g us + weight g vs
weight_more g [] vs = omega arith
weight_more g (u ∷ us) vs = omega (arith, weight_more g us vs)

-- a slot that is emptied takes its triangle away
pub weight_slots : (g : Tri → ℕ) (q : Slots) (j : ℕ) →
    weight g (flat_map led_face (set q j None)) + weight g (led_face (at q j)) ≡ weight g (flat_map led_face q)
weight_slots g [] j = refl
weight_slots g (o ∷ q) zero = omega (arith, weight_more g (led_face o) (flat_map led_face q))
weight_slots g (o ∷ q) (suc j) =
    omega (
      arith,
      weight_more g (led_face o) (flat_map led_face (set q j None)),
      weight_more g (led_face o) (flat_map led_face q),
      weight_slots g q j,
    )

-- slot for slot the same triangles
pub led_same : (s r : Slots) → ((j : ℕ) → led_face (at r j) ≡ led_face (at s j)) →
    flat_map led_face r ≡ flat_map led_face s
led_same [] [] h = refl
led_same [] (o ∷ r) h = ap (λ (ts : List Tri). ts ++ flat_map led_face r) (h 0) ∙ led_same [] r (λ j. h (suc j))
led_same (o ∷ s) [] h = led_same s [] (λ j. h (suc j)) ∙ ap (λ (ts : List Tri). ts ++ flat_map led_face s) (h 0)
led_same (o ∷ s) (q ∷ r) h = (λ i. h 0 i ++ led_same s r (λ j. h (suc j)) i)
