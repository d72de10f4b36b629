-- The planes of a start mesh over points of the grid are bounded.
use Rattle.std.proofs.Common.{◌≡◌, ℕ, ◌+◌, ◌^◌, ◌<◌, ◌≤◌, true, false, cond, not, ℤ, neg_ℤ, ◌+ℤ◌, ◌*ℤ◌, nat_abs, FitsSigned, w16, List, [], ◌∷◌, map, length, All, sym, ap, ◌∙◌, refl, subst, arith, inl, inr}
use Rattle.std.proofs.lemmas.Bool.{and_from, lt-ltb, cases_lt}
use Rattle.std.proofs.lemmas.Int.{ints}
use Rattle.std.proofs.lemmas.List.{get_or_past, length-map}
use Rattle.std.proofs.lemmas.List.Sorted.{length_permutation}
use Rattle.std.proofs.lemmas.List.Elements.{All-get_or}
use Rattle.std.proofs.lemmas.List.Sums.{sum_by-cons}
use Rattle.std.specs.List.{slice_index_or}
use Rattle.oemm_limits.specs.declared.TheConstants.{MOST_ITEMS}
use Rattle.oemm_octree.specs.declared.points.Point.{Point}
use Rattle.mesh_data.specs.declared.geometry.Soup.{Soup}
use Rattle.mesh_data.specs.declared.geometry.Tri.{Tri}
use Rattle.mesh_data.specs.declared.planes.Plane.{Plane}
use Rattle.mesh_data.specs.Mesh.{start, start_tris, origin, plane_at, planes_at}
use Rattle.oemm_octree.specs.Octree.{IsOnGrid, on_grid}
use Rattle.mesh_data.specs.Planes.{plane_of, normal_x, normal_y, normal_z, dot}
use Rattle.mesh_data.specs.Triangles.{star, has_corner, tri_cmp, turned}
use Rattle.triangle_lists.proofs.Sorting.{IsPermutation-in_order}
use Rattle.plane_counts.specs.PlaneCounts.{HasPlanes, is_bounded, large_of}
use Rattle.plane_counts.proofs.Shares.{planes_started}
use Rattle.oemm_plane.proofs.PlanesBounds.{twice_area_below}
use Rattle.oemm_plane.proofs.SumsSizes.{size_sum, size_product}

fits : (n : ℤ) → on_grid n ≡ true → FitsSigned w16 n
fits n on = grind (arith, ints)

size_neg : (n : ℤ) → nat_abs (neg_ℤ n) ≡ nat_abs n
size_neg n = omega (arith, ints)

offset_below : (nx ny nz : ℤ) (p : Point) → nat_abs nx < 2 ^ 32 → nat_abs ny < 2 ^ 32 → nat_abs nz < 2 ^ 32 → FitsSigned w16 p.x → FitsSigned w16 p.y → FitsSigned w16 p.z → nat_abs (neg_ℤ (dot nx ny nz p)) < 2 ^ 49
offset_below nx ny nz p x y z fx fy fz =
    omega (
      arith,
      size_neg (dot nx ny nz p),
      size_sum ((nx *ℤ p.x) +ℤ (ny *ℤ p.y)) (nz *ℤ p.z),
      size_sum (nx *ℤ p.x) (ny *ℤ p.y),
      size_product nx p.x fx,
      size_product ny p.y fy,
      size_product nz p.z fz,
    )

plane_bounded : (a b c : Point) → IsOnGrid a → IsOnGrid b → IsOnGrid c → is_bounded (plane_of a b c) ≡ true
unfolding plane_of
plane_bounded a b c oa ob oc =
    let ax = fits a.x oa.0 in
    let ay = fits a.y oa.1 in
    let az = fits a.z oa.2 in
    let bx = fits b.x ob.0 in
    let by = fits b.y ob.1 in
    let bz = fits b.z ob.2 in
    let cx = fits c.x oc.0 in
    let cy = fits c.y oc.1 in
    let cz = fits c.z oc.2 in
    let x : nat_abs (normal_x a b c) < 2 ^ 32 = twice_area_below a.y b.y c.y a.z b.z c.z ay by cy az bz cz in
    let y : nat_abs (normal_y a b c) < 2 ^ 32 = twice_area_below a.z b.z c.z a.x b.x c.x az bz cz ax bx cx in
    let z : nat_abs (normal_z a b c) < 2 ^ 32 = twice_area_below a.x b.x c.x a.y b.y c.y ax bx cx ay by cy in
    and_from _ _ (and_from _ _ (and_from _ _ (lt-ltb _ _ x) (lt-ltb _ _ y)) (lt-ltb _ _ z)) (lt-ltb _ _ (offset_below (normal_x a b c) (normal_y a b c) (normal_z a b c) a x y z ax ay az))

origin_on : IsOnGrid origin
origin_on = (refl, refl, refl)

point_on : (ps : List Point) → All IsOnGrid ps → (k : ℕ) → IsOnGrid (slice_index_or ps k origin)
point_on ps on k =
    elim (cases_lt k (length ps)) [
      | inl lt ↦ All-get_or IsOnGrid ps k origin lt on
      | inr le ↦ subst IsOnGrid (sym (get_or_past ps k origin le)) origin_on
    ]

none_large_at : (ps : List Point) → All IsOnGrid ps → (v : ℕ) (ts : List Tri) → large_of (planes_at ps ts v) ≡ 0
none_large_at ps on v [] = refl
none_large_at ps on v (t ∷ ts) =
    let rest = none_large_at ps on v ts in
    let l = plane_at ps t in
    let large : Plane → ℕ = λ l. cond (not (is_bounded l)) 1 0 in
    elim (has_corner v t) as (λ b. large_of (map (plane_at ps) (cond b (t ∷ star v ts) (star v ts))) ≡ 0) [
      | true ↦ sum_by-cons large l (map (plane_at ps) (star v ts))
          ∙ ap (λ b. cond (not b) 1 0 + large_of (map (plane_at ps) (star v ts))) (plane_bounded (slice_index_or ps t.a origin) (slice_index_or ps t.b origin) (slice_index_or ps t.c origin) (point_on ps on t.a) (point_on ps on t.b) (point_on ps on t.c))
          ∙ omega (arith, rest)
      | false ↦ rest
    ]

few_started : (s : Soup) → length s.faces ≤ MOST_ITEMS → length (start_tris s) ≤ MOST_ITEMS
few_started s few =
    omega (arith, length_permutation (map turned s.faces) (start_tris s) (IsPermutation-in_order tri_cmp (map turned s.faces)), length-map s.faces turned)

-- the start mesh has as many planes as there may be, each bounded
pub start_planed : (s : Soup) → All IsOnGrid s.points → length s.faces ≤ MOST_ITEMS → HasPlanes (start s).vertices
start_planed s on few =
    planes_started (planes_at s.points (start_tris s)) s.points (start_tris s) refl (few_started s few) (λ v. none_large_at s.points on v (start_tris s))
