-- How many planes the vertices of a start mesh have, and that none of them is large.
use Rattle.std.proofs.Common.{◌≡◌, ℕ, ◌+◌, ◌*◌, ◌<◌, ◌≤◌, Bool, true, false, cond, not, ◌||◌, eqb, List, [], ◌∷◌, ◌++◌, length, map, ap, ◌∙◌, refl, arith, None}
use Rattle.std.proofs.lemmas.Bool.{ne_eqb, eqb-true}
use Rattle.std.proofs.lemmas.List.Sums.{sum_by-append}
use Rattle.std.specs.Cmp.{nat_cmp_total}
use Rattle.std.specs.FinMap as finite
use Rattle.std.specs.Ordering.{nat_cmp}
use Rattle.oemm_octree.specs.declared.points.Point.{Point}
use Rattle.mesh_data.specs.declared.geometry.Tri.{Tri}
use Rattle.mesh_data.specs.declared.geometry.Vertex.{Vertex}
use Rattle.mesh_data.specs.declared.planes.Plane.{Plane}
use Rattle.mesh_data.specs.Mesh.{named_from, planes_at, plane_at}
use Rattle.mesh_data.specs.Triangles.{has_corner, star}
use Rattle.edit_steps.specs.Totals.{total, total_in}
use Rattle.plane_counts.specs.PlaneCounts.{plane_count, large_of, large_count, is_bounded}
use Rattle.edit_steps.proofs.Totals.{at, total-insert, total-empty}
use Rattle.edit_steps.proofs.Vertices.{find-named_from}

-- vertices with different names add up
pub total-named : (f : Vertex → ℕ) (planes : ℕ → List Plane) (n : ℕ) (ps : List Point) → total f (finite.from_entries {R = nat_cmp} (named_from planes n ps)) ≡ total_in f (named_from planes n ps)
total-named f planes n [] = total-empty f
total-named f planes n (p ∷ ps) =
    let rest = finite.from_entries {R = nat_cmp} (named_from planes (n + 1) ps) in
    let x : Vertex = record { point = p; planes = planes n } in
    let absent : finite.get rest n ≡ None = finite.get-from_entries nat_cmp_total (named_from planes (n + 1) ps) n ∙ find-named_from planes n (n + 1) ps (omega arith) in
    omega (arith, total-insert f rest n x, ap (at f) absent, total-named f planes (n + 1) ps)

abbrev one_if : Bool → ℕ
one_if b = cond b 1 0

-- how many of the names from n on pass
abbrev hits : (ℕ → Bool) → ℕ → List Point → ℕ
hits test n [] = 0
hits test n (p ∷ ps) = cond (test n) 1 0 + hits test (n + 1) ps

no_hits : (a n : ℕ) (ps : List Point) → a < n → hits (eqb a) n ps ≡ 0
no_hits a n [] lt = refl
no_hits a n (p ∷ ps) lt =
    let other : one_if (eqb a n) ≡ 0 = ap one_if (ne_eqb a n (λ is. absurd (omega arith))) in
    omega (arith, other, no_hits a (n + 1) ps (omega arith))

one_hit : (a n : ℕ) (ps : List Point) → hits (eqb a) n ps ≤ 1
one_hit a n [] = omega arith
one_hit a n (p ∷ ps) =
    elim (eqb a n) as (λ b. eqb a n ≡ b → cond b 1 0 + hits (eqb a) (n + 1) ps ≤ 1) [
      | true ↦ λ e. let same : a ≡ n = eqb-true a n e in omega (arith, no_hits a (n + 1) ps (omega arith))
      | false ↦ λ e. omega (arith, one_hit a (n + 1) ps)
    ] refl

one_of_three : (x y z : Bool) → cond (x || y || z) 1 0 ≤ cond x 1 0 + cond y 1 0 + cond z 1 0
one_of_three true y z = omega arith
one_of_three false true z = omega arith
one_of_three false false z = omega arith

corner_hits : (t : Tri) (n : ℕ) (ps : List Point) → hits (λ v. has_corner v t) n ps ≤ hits (eqb t.a) n ps + hits (eqb t.b) n ps + hits (eqb t.c) n ps
corner_hits t n [] = omega arith
corner_hits t n (p ∷ ps) = omega (arith, one_of_three (eqb t.a n) (eqb t.b n) (eqb t.c n), corner_hits t (n + 1) ps)

abbrev counts_from : List Point → List Tri → ℕ → List Point → ℕ
counts_from points ts n ps = total_in plane_count (named_from (planes_at points ts) n ps)

count_at : (points : List Point) (t : Tri) (ts : List Tri) (v : ℕ) → length (planes_at points (t ∷ ts) v) ≡ cond (has_corner v t) 1 0 + length (planes_at points ts v)
count_at points t ts v =
    elim (has_corner v t) as (λ b. length (map (plane_at points) (cond b (t ∷ star v ts) (star v ts))) ≡ cond b 1 0 + length (planes_at points ts v)) [ true ↦ omega arith | false ↦ omega arith ]

one_more : (points : List Point) (t : Tri) (ts : List Tri) (n : ℕ) (ps : List Point) → counts_from points (t ∷ ts) n ps ≡ hits (λ v. has_corner v t) n ps + counts_from points ts n ps
one_more points t ts n [] = refl
one_more points t ts n (p ∷ ps) = omega (arith, count_at points t ts n, one_more points t ts (n + 1) ps)

no_counts : (points : List Point) (n : ℕ) (ps : List Point) → counts_from points [] n ps ≡ 0
no_counts points n [] = refl
no_counts points n (p ∷ ps) = omega (arith, no_counts points (n + 1) ps)

-- three for each triangle, at most
pub three_for_each : (points : List Point) (ts : List Tri) (n : ℕ) (ps : List Point) → counts_from points ts n ps ≤ 3 * length ts
three_for_each points [] n ps = omega (arith, no_counts points n ps)
three_for_each points (t ∷ ts) n ps =
    omega (arith, one_more points t ts n ps, corner_hits t n ps, one_hit t.a n ps, one_hit t.b n ps, one_hit t.c n ps, three_for_each points ts n ps)

pub none_large-push : (ls : List Plane) (l : Plane) → large_of ls ≡ 0 → is_bounded l ≡ true → large_of (ls ++ l ∷ []) ≡ 0
none_large-push ls l none bounded =
    omega (arith, sum_by-append (λ k. one_if (not (is_bounded k))) ls (l ∷ []), none, ap (λ (b : Bool). one_if (not b)) bounded)

-- where no list has a large plane, no vertex has
pub none_large : (planes : ℕ → List Plane) (n : ℕ) (ps : List Point) → ((v : ℕ) → v < n + length ps → large_of (planes v) ≡ 0) → total_in large_count (named_from planes n ps) ≡ 0
none_large planes n [] h = refl
none_large planes n (p ∷ ps) h = omega (arith, h n (omega arith), none_large planes (n + 1) ps (λ v lt. h v (omega arith)))
