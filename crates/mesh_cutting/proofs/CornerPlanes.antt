-- The planes of a vertex, by the triangles that start at it.
use Rattle.std.proofs.Common.{◌≡◌, ℕ, Bool, true, false, cond, ◌||◌, eqb, List, [], ◌∷◌, ◌++◌, map, sym, ap, ◌∙◌, refl, subst}
use Rattle.std.proofs.lemmas.Bool.{eqb-true}
use Rattle.std.proofs.lemmas.List.Elements.{recursion_from_All}
use Rattle.std.specs.List.{All, AllByRecursion, filter, flat_map}
use Rattle.std.specs.Ordering.{is_le}
use Rattle.std.specs.Prelude.{slice_index_or}
use Rattle.oemm_octree.specs.declared.points.Point.{Point}
use Rattle.mesh_data.specs.declared.geometry.Tri.{Tri}
use Rattle.mesh_data.specs.declared.planes.Plane.{Plane}
use Rattle.oemm_lists.specs.Ascending.{in_order, inserted}
use Rattle.mesh_data.specs.Mesh.{plane_at, planes_at, origin}
use Rattle.mesh_data.specs.Planes.{Sums, sums_of, added, products, plane_of}
use Rattle.mesh_data.specs.Rings.{from_each_corner}
use Rattle.mesh_data.specs.Triangles.{IsProper, star, has_corner, tri_cmp}
use Rattle.oemm_plane.proofs.PlanesCorners.{plane_from_next}
use Rattle.oemm_plane.proofs.Sums.{added_comm, added_assoc}

-- of three that a test tells apart at most one passes
one_of_three : (f : Tri → Plane) (a b c : Bool) (t s r : Tri) (us ts : List Tri) → (a ≡ true → b ≡ true → ⊥) → (b ≡ true → c ≡ true → ⊥) → (c ≡ true → a ≡ true → ⊥) → f s ≡ f t → f r ≡ f t → map f us ≡ map f ts
    → map f (cond a (t ∷ cond b (s ∷ cond c (r ∷ us) us) (cond c (r ∷ us) us)) (cond b (s ∷ cond c (r ∷ us) us) (cond c (r ∷ us) us))) ≡ map f (cond ((a || b) || c) (t ∷ ts) ts)
one_of_three f true true c t s r us ts ab bc ca second third rest = absurd (ab refl refl)
one_of_three f true false true t s r us ts ab bc ca second third rest = absurd (ca refl refl)
one_of_three f true false false t s r us ts ab bc ca second third rest = ap (λ ps. f t ∷ ps) rest
one_of_three f false true true t s r us ts ab bc ca second third rest = absurd (bc refl refl)
one_of_three f false true false t s r us ts ab bc ca second third rest = λ i. second i ∷ rest i
one_of_three f false false true t s r us ts ab bc ca second third rest = λ i. third i ∷ rest i
one_of_three f false false false t s r us ts ab bc ca second third rest = rest

both : (x y v : ℕ) → (x ≡ y → ⊥) → eqb x v ≡ true → eqb y v ≡ true → ⊥
both x y v apart here there = apart (eqb-true x v here ∙ sym (eqb-true y v there))

each : (points : List Point) (ts : List Tri) (v : ℕ) → AllByRecursion IsProper ts → map (plane_at points) (filter (λ t. eqb t.a v) (flat_map from_each_corner ts)) ≡ planes_at points ts v
each points [] v proper = refl
each points (t ∷ ts) v proper =
    let at : ℕ → Point = λ n. slice_index_or points n origin in
    one_of_three (plane_at points) (eqb t.a v) (eqb t.b v) (eqb t.c v) t (record { a = t.b; b = t.c; c = t.a }) (record { a = t.c; b = t.a; c = t.b })
    (filter (λ s. eqb s.a v) (flat_map from_each_corner ts)) (star v ts)
    (both t.a t.b v proper.0.0) (both t.b t.c v proper.0.1) (both t.c t.a v proper.0.2)
    (sym (plane_from_next (at t.a) (at t.b) (at t.c))) (plane_from_next (at t.c) (at t.a) (at t.b))
    (each points ts v proper.1)

pub planes_found : (points : List Point) (ts : List Tri) (v : ℕ) → All IsProper ts → map (plane_at points) (filter (λ t. eqb t.a v) (flat_map from_each_corner ts)) ≡ planes_at points ts v
planes_found points ts v proper = each points ts v (recursion_from_All IsProper ts proper)

-- ---- in any order

left_comm : (s t u : Sums) → added s (added t u) ≡ added t (added s u)
left_comm s t u = sym (added_assoc s t u) ∙ ap (λ (w : Sums). added w u) (added_comm s t) ∙ added_assoc t s u

module _ (f : Tri → Plane) (q : Tri → Bool) where
  abbrev sum : List Tri → Sums
  sum ts = sums_of (map f (filter q ts))

  swapped : (x y : Tri) (ts : List Tri) → sum (y ∷ x ∷ ts) ≡ sum (x ∷ y ∷ ts)
  swapped x y ts =
      elim (q x) as (λ a. sums_of (map f (cond (q y) (y ∷ cond a (x ∷ filter q ts) (filter q ts)) (cond a (x ∷ filter q ts) (filter q ts)))) ≡ sums_of (map f (cond a (x ∷ cond (q y) (y ∷ filter q ts) (filter q ts)) (cond (q y) (y ∷ filter q ts) (filter q ts))))) [
        | true ↦ elim (q y) as (λ b. sums_of (map f (cond b (y ∷ x ∷ filter q ts) (x ∷ filter q ts))) ≡ sums_of (map f (x ∷ cond b (y ∷ filter q ts) (filter q ts)))) [
          | true ↦ left_comm (products (f y)) (products (f x)) (sum ts)
          | false ↦ refl
        ]
        | false ↦ refl
      ]

  behind : (y : Tri) (ss ts : List Tri) → sum ss ≡ sum ts → sum (y ∷ ss) ≡ sum (y ∷ ts)
  behind y ss ts same =
      elim (q y) as (λ b. sums_of (map f (cond b (y ∷ filter q ss) (filter q ss))) ≡ sums_of (map f (cond b (y ∷ filter q ts) (filter q ts)))) [
        | true ↦ ap (λ (w : Sums). added (products (f y)) w) same
        | false ↦ same
      ]

  inserted_sum : (x : Tri) (ts : List Tri) → sum (inserted tri_cmp x ts) ≡ sum (x ∷ ts)
  inserted_sum x [] = refl
  inserted_sum x (y ∷ ts) =
      elim (is_le (tri_cmp x y)) as (λ b. sum (cond b (x ∷ y ∷ ts) (y ∷ inserted tri_cmp x ts)) ≡ sum (x ∷ y ∷ ts)) [
        | true ↦ refl
        | false ↦ behind y (inserted tri_cmp x ts) (x ∷ ts) (inserted_sum x ts) ∙ swapped x y ts
      ]

  pub sum_in_order : (ts : List Tri) → sum (in_order tri_cmp ts) ≡ sum ts
  sum_in_order [] = refl
  sum_in_order (t ∷ ts) = inserted_sum t (in_order tri_cmp ts) ∙ behind t (in_order tri_cmp ts) ts (sum_in_order ts)
