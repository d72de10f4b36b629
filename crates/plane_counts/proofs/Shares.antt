-- Which edits keep the number of planes.
use Rattle.std.proofs.Common.{◌≡◌, ◌≢◌, ℕ, ◌+◌, ◌-◌, ◌≤◌, Bool, true, false, not, cond, List, [], ◌++◌, length, length-append, sym, ap, ◌∙◌, refl, subst, arith, None, Some}
use Rattle.std.specs.FinMap as finite
use Rattle.std.proofs.lemmas.Bool.{ne_eqb}
use Rattle.std.proofs.lemmas.List.Sums.{sum_by-append}
use Rattle.std.specs.Cmp.{nat_cmp_total, unsigned_tied}
use Rattle.std.specs.Option.{option_map, option_map_or, is_some}
use Rattle.std.specs.Ordering.{nat_cmp, eq_by_cmp}
use Rattle.oemm_limits.specs.declared.TheConstants.{MOST_ITEMS}
use Rattle.oemm_octree.specs.declared.points.Point.{Point}
use Rattle.mesh_data.specs.declared.geometry.Tri.{Tri}
use Rattle.mesh_data.specs.declared.geometry.Vertex.{Vertex}
use Rattle.mesh_data.specs.declared.planes.Plane.{Plane}
use Rattle.mesh_data.specs.Mesh.{named_from, planes_at}
use Rattle.mesh_data.specs.Planes.{most_planes}
use Rattle.plane_counts.specs.Taken.{planes_in, taken_over}
use Rattle.edit_steps.specs.Totals.{total_in}
use Rattle.plane_counts.specs.PlaneCounts.{HasPlanes, plane_count, large_count, large_of, is_bounded}
use Rattle.plane_counts.proofs.Stocks.{total-named, three_for_each, none_large}
use Rattle.edit_steps.proofs.Totals.{at, total-at, total-two, total-changed, total-taken_over}
use Rattle.edit_steps.proofs.Vertices.{changed, contains-changed, len-changed}

pub counted_at : (m : finite.FinMap nat_cmp Vertex) (v : ℕ) → at plane_count (finite.get m v) ≡ length (planes_in m v)
counted_at m v = elim (finite.get m v) as (λ o. at plane_count o ≡ length (option_map_or (λ ls. ls) (option_map (λ (x : Vertex). x.planes) o) [])) [ None ↦ refl | Some x ↦ refl ]

pub large_at : (m : finite.FinMap nat_cmp Vertex) (v : ℕ) → at large_count (finite.get m v) ≡ large_of (planes_in m v)
large_at m v = elim (finite.get m v) as (λ o. at large_count o ≡ large_of (option_map_or (λ ls. ls) (option_map (λ (x : Vertex). x.planes) o) [])) [ None ↦ refl | Some x ↦ refl ]

-- a start mesh has three planes for each triangle, of which none is large
pub planes_started : (f : ℕ → List Plane) (ps : List Point) (ts : List Tri) → named_from f 0 ps ≡ named_from (planes_at ps ts) 0 ps → length ts ≤ MOST_ITEMS → ((v : ℕ) → large_of (f v) ≡ 0) → HasPlanes (finite.from_entries {R = nat_cmp} (named_from f 0 ps))
planes_started f ps ts same few bounded =
    let counts : total_in plane_count (named_from f 0 ps) ≡ total_in plane_count (named_from (planes_at ps ts) 0 ps) = ap (total_in plane_count) same in
    record {
      few = omega (arith, total-named plane_count f 0 ps, counts, three_for_each ps ts 0 ps);
      bounded = total-named large_count f 0 ps ∙ none_large f 0 ps (λ v _. bounded v);
    }

-- a vertex that is moved keeps its planes
pub planes_moved : (v : ℕ) (to : Point) (m n : finite.FinMap nat_cmp Vertex) → n ≡ changed (λ x. record x { point = to }) v m → HasPlanes m → HasPlanes n
planes_moved v to m n is has =
    let move : Vertex → Vertex = λ x. record x { point = to } in
    subst HasPlanes (sym is) (record {
      few = omega (arith, total-changed plane_count move v m (λ x. refl), has.few);
      bounded = total-changed large_count move v m (λ x. refl) ∙ has.bounded;
    })

-- the planes of one vertex
pub few_at : (m : finite.FinMap nat_cmp Vertex) (v : ℕ) → HasPlanes m → length (planes_in m v) ≤ most_planes
few_at m v has = omega (arith, total-at plane_count m v, counted_at m v, has.few)

pub bounded_at : (m : finite.FinMap nat_cmp Vertex) (v : ℕ) → HasPlanes m → large_of (planes_in m v) ≡ 0
bounded_at m v has = omega (arith, total-at large_count m v, large_at m v, has.bounded)

-- the planes of two vertices
pub few_at_two : (m : finite.FinMap nat_cmp Vertex) (u v : ℕ) → u ≢ v → HasPlanes m → length (planes_in m u) + length (planes_in m v) ≤ most_planes
few_at_two m u v apart has = omega (arith, total-two plane_count m u v apart, counted_at m u, counted_at m v, has.few)

-- the change that gives v the planes of u besides its own
abbrev with_planes_of : finite.FinMap nat_cmp Vertex → ℕ → Vertex → Vertex
with_planes_of m u x = record x { planes = x.planes ++ planes_in m u }

-- what v takes over of u, all have as much of
pub planes_taken_over : (m : finite.FinMap nat_cmp Vertex) (u v : ℕ) → u ≢ v → finite.contains_key m v ≡ true → HasPlanes m → HasPlanes (taken_over m u v)
planes_taken_over m u v apart there has = record {
  few = omega (
    arith,
    total-taken_over plane_count (with_planes_of m u) u v m apart there (λ x. omega (arith, length-append x.planes (planes_in m u), counted_at m u)),
    has.few,
  );
  bounded =
      total-taken_over large_count (with_planes_of m u) u v m apart there
      (λ x. omega (arith, sum_by-append (λ l. cond (not (is_bounded l)) 1 0) x.planes (planes_in m u), large_at m u))
      ∙ has.bounded;
}

-- the other names stay
pub kept_taken_over : (m : finite.FinMap nat_cmp Vertex) (u v w : ℕ) → finite.contains_key m w ≡ true → w ≢ u → finite.contains_key (taken_over m u v) w ≡ true
kept_taken_over m u v w there other =
    let n = changed (with_planes_of m u) v m in
    let tied : eq_by_cmp nat_cmp w u ≡ false = unsigned_tied w u ∙ ne_eqb w u other in
    ap is_some (finite.get-remove nat_cmp_total n u w ∙ ap (λ (b : Bool). cond b None (finite.get n w)) tied)
    ∙ contains-changed (with_planes_of m u) v w m ∙ there

pub len-taken_over : (m : finite.FinMap nat_cmp Vertex) (u v : ℕ) → finite.len (taken_over m u v) ≤ finite.len m
len-taken_over m u v =
    let n = changed (with_planes_of m u) v m in
    let fewer : cond (finite.contains_key n u) (finite.len n - 1) (finite.len n) ≤ finite.len n =
    elim (finite.contains_key n u) as (λ b. cond b (finite.len n - 1) (finite.len n) ≤ finite.len n) [ true ↦ omega arith | false ↦ omega arith ] in
    omega (arith, finite.len-remove nat_cmp_total n u, fewer, len-changed (with_planes_of m u) v m)
