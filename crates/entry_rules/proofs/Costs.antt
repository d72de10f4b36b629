-- The cost of a collapse over the grid is within its range.
use Rattle.std.proofs.Common.{◌≡◌, ◌≢◌, ℕ, ◌+◌, ◌*◌, ◌^◌, ◌<◌, ◌≤◌, Bool, true, false, cond, not, ◌&&◌, ltb, ℤ, pos, ◌+ℤ◌, ◌*ℤ◌, nat_abs, FitsSigned, w16, List, [], ◌∷◌, ◌++◌, length, Some, None, sym, ap, ◌∙◌, refl, arith, lit≤, length-append}
use Rattle.std.proofs.lemmas.Bool.{and_parts, le-leb, ltb-true}
use Rattle.std.proofs.lemmas.Int.{ints}
use Rattle.std.proofs.lemmas.List.Sums.{sum_by-append, sum_by-cons}
use Rattle.std.specs.FinMap as finite
use Rattle.std.specs.Option.{option_map, option_map_or}
use Rattle.oemm_limits.specs.declared.TheConstants.{MOST_COST}
use Rattle.oemm_octree.specs.declared.points.Point.{Point}
use Rattle.oemm_octree.specs.Octree.{IsOnGrid, on_grid}
use Rattle.mesh_data.specs.declared.geometry.Vertex.{Vertex}
use Rattle.mesh_data.specs.declared.planes.Plane.{Plane}
use Rattle.mesh_data.specs.Edits.{cost, planes_or_none, point_or_origin}
use Rattle.mesh_data.specs.Mesh.{Mesh, origin}
use Rattle.mesh_data.specs.Planes.{dot, most_planes, plane_value, squares}
use Rattle.oemm_plane.proofs.PlanesCasts.{product_size}
use Rattle.oemm_plane.proofs.SumsSizes.{size_product, size_sum}
use Rattle.plane_counts.specs.PlaneCounts.{HasPlanes, is_bounded, large_of}
use Rattle.plane_counts.proofs.Shares.{bounded_at, few_at_two}
use Rattle.leaf_codec.specs.Replies.{is_cost}

fits : (n : ℤ) → on_grid n ≡ true → FitsSigned w16 n
fits n on = grind (arith, ints)

-- the greatest size of a plane's value at a point of the grid, and of its square
abbrev most_value : ℕ
most_value = 7 * 2 ^ 47

abbrev most_square : ℕ
most_square = 49 * 2 ^ 94

value_size : (l : Plane) (p : Point) → is_bounded l ≡ true → IsOnGrid p → nat_abs (plane_value l p) ≤ most_value
unfolding plane_value
value_size l p bounded on =
    let d = and_parts _ (ltb (nat_abs l.d) (2 ^ 49)) bounded in
    let z = and_parts _ (ltb (nat_abs l.nz) (2 ^ 32)) d.0 in
    let y = and_parts (ltb (nat_abs l.nx) (2 ^ 32)) (ltb (nat_abs l.ny) (2 ^ 32)) z.0 in
    omega (
      arith,
      ltb-true (nat_abs l.nx) (2 ^ 32) y.0,
      ltb-true (nat_abs l.ny) (2 ^ 32) y.1,
      ltb-true (nat_abs l.nz) (2 ^ 32) z.1,
      ltb-true (nat_abs l.d) (2 ^ 49) d.1,
      size_sum (dot l.nx l.ny l.nz p) l.d,
      size_sum ((l.nx *ℤ p.x) +ℤ (l.ny *ℤ p.y)) (l.nz *ℤ p.z),
      size_sum (l.nx *ℤ p.x) (l.ny *ℤ p.y),
      size_product l.nx p.x (fits p.x on.0),
      size_product l.ny p.y (fits p.y on.1),
      size_product l.nz p.z (fits p.z on.2),
    )

square_size : (v : ℤ) → nat_abs v ≤ most_value → nat_abs (v *ℤ v) ≤ most_square
square_size v small =
    let square = product_size v v most_value most_value small small in
    let same : most_value * most_value ≤ most_square = lit≤ tt in
    omega (arith, square, same)

squares_size : (ls : List Plane) (p : Point) → large_of ls ≡ 0 → IsOnGrid p
    → nat_abs (squares ls p) ≤ length ls * most_square
unfolding squares
squares_size [] p none on = omega arith
squares_size (l ∷ ls) p none on =
    let large : Plane → ℕ = λ l. cond (not (is_bounded l)) 1 0 in
    let cons : large_of (l ∷ ls) ≡ large l + large_of ls = sum_by-cons large l ls in
    let bounded : is_bounded l ≡ true =
    elim (is_bounded l) as (λ b. cond (not b) 1 0 + large_of ls ≡ 0 → b ≡ true) [
      | true ↦ λ _. refl
      | false ↦ λ h. absurd (omega arith)
    ] (sym cons ∙ none) in
    let rest = squares_size ls p (omega arith) on in
    let v = plane_value l p in
    omega (arith, size_sum (v *ℤ v) (squares ls p), square_size v (value_size l p bounded on), rest)

-- the points of a mesh are those of the grid
abbrev pub AreOnGrid : Mesh → Type 0
AreOnGrid m = (v : ℕ) (x : Vertex) → finite.get m.vertices v ≡ Some x → IsOnGrid x.point

point_on : (m : Mesh) (v : ℕ) → AreOnGrid m → IsOnGrid (point_or_origin m v)
point_on m v grid =
    elim (finite.get m.vertices v) as (λ o. finite.get m.vertices v ≡ o
    → IsOnGrid (option_map_or (λ p. p) (option_map (λ (x : Vertex). x.point) o) origin)) [
      | None ↦ λ _. (refl, refl, refl)
      | Some x ↦ λ is. grid v x is
    ] refl

-- the cost of a collapse between two names is one that a reply can tell
pub cost_is : (m : Mesh) (u v : ℕ) → u ≢ v → HasPlanes m.vertices → AreOnGrid m → is_cost (cost m u v) ≡ true
unfolding is_cost
cost_is m u v apart has grid =
    let us = planes_or_none m u in
    let vs = planes_or_none m v in
    let none : large_of (us ++ vs) ≡ 0 =
    sum_by-append (λ l. cond (not (is_bounded l)) 1 0) us vs
    ∙ (λ i. bounded_at m.vertices u has i + bounded_at m.vertices v has i) in
    let size = squares_size (us ++ vs) (point_or_origin m v) none (point_on m v grid) in
    let few : length us + length vs ≤ most_planes = few_at_two m.vertices u v apart has in
    le-leb (nat_abs (cost m u v)) MOST_COST (omega (arith, size, few, length-append us vs))
