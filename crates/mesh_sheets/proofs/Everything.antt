-- The sheets of all leaves have each vertex and each triangle of the mesh once.
use Rattle.std.proofs.Common.{◌≡◌, ℕ, ◌<◌, min, Bool, true, cond, List, map, length, Some, None, sym, ap, ◌∙◌, refl, subst, arith}
use Rattle.std.proofs.lemmas.Bool.{false≢true}
use Rattle.std.proofs.lemmas.List.Elements.{recursion_from_All}
use Rattle.std.specs.FinMap as finite
use Rattle.std.specs.List.{filter, AllByRecursion, range_with_len}
use Rattle.std.specs.Option.{option_map, option_map_or, is_some}
use Rattle.oemm_octree.specs.declared.cells.Cell.{Cell}
use Rattle.mesh_data.specs.declared.geometry.Tri.{Tri}
use Rattle.mesh_data.specs.declared.geometry.Vertex.{Vertex}
use Rattle.oemm_lists.specs.Ascending.{in_order}
use Rattle.mesh_data.specs.Manifold.{IsTriangleOf}
use Rattle.mesh_data.specs.Mesh.{Mesh}
use Rattle.mesh_data.specs.Triangles.{tri_cmp}
use Rattle.triangle_lists.proofs.Orders.{tri_cmp_total, tri_cmp-IsAntisymmetric}
use Rattle.triangle_lists.proofs.Sorting.{Rises-from_sorted, Rises-in_order, weight, weight-in_order}
use Rattle.oemm_octree.specs.Leaves.{home, is_one_of, in_core}
use Rattle.mesh_sheets.specs.Clean.{IsClean, AreHomed}
use Rattle.mesh_sheets.proofs.Filters.{AreDistinct, filter_all, parts_weigh, one_in_order, filter_agree_each, all_weaker}
use Rattle.mesh_sheets.specs.Sheets.{leaf_of, keeper, summed}
use Rattle.mesh_sheets.specs.Assembled.{by_name}
use Rattle.mesh_sheets.specs.Export.{all_leaves, vertices_by_home, tris_by_keeper}
use Rattle.mesh_sheets.proofs.Assembling.{one_of_range}
use Rattle.mesh_sheets.proofs.Gathered.{gathered}
use Rattle.mesh_sheets.proofs.Kept.{keep, same_kept_by}
use Rattle.mesh_sheets.proofs.Rims.{distinct_range}

-- ---- all leaves are different, and all of them

all_are : (n : ℕ) → filter (λ _. true) (range_with_len 0 n) ≡ range_with_len 0 n
all_are n = filter_all (range_with_len 0 n)

in_all : (n l : ℕ) → l < n → is_one_of (range_with_len 0 n) l ≡ true
in_all n l lt = ap (λ (ls : List ℕ). is_one_of ls l) (sym (all_are n)) ∙ one_of_range (λ _. true) l 0 n refl (omega arith) (omega arith)

least_below : (a b c n : ℕ) → a < n → min a (min b c) < n
least_below a b c n lt = omega arith

homed_name : (cells : List Cell) (m : Mesh) → AreHomed cells m → (v : ℕ) → finite.contains_key m.vertices v ≡ true → leaf_of cells m v < length cells
homed_name cells m homed v there =
    elim (finite.get m.vertices v) as (λ o. finite.get m.vertices v ≡ o → is_some o ≡ true → option_map_or (home cells) (option_map (λ (x : Vertex). x.point) o) (length cells) < length cells) [
      | None ↦ λ _ h. absurd (false≢true h)
      | Some x ↦ λ is _. homed v x is
    ] refl there

-- the triangles of all sheets, put in order, are those of the mesh
pub all_tris : (cells : List Cell) (m : Mesh) → IsClean m → AreHomed cells m → in_order tri_cmp (tris_by_keeper cells m) ≡ m.tris
all_tris cells m clean homed =
    let n = length cells in
    let k : Tri → ℕ = keeper cells m in
    let kept : AllByRecursion (λ t. true ≡ is_one_of (all_leaves cells) (k t)) m.tris =
    all_weaker (IsTriangleOf m.vertices) (λ t. true ≡ is_one_of (all_leaves cells) (k t))
    (λ t is. sym (in_all n (k t) (least_below (leaf_of cells m t.a) (leaf_of cells m t.b) (leaf_of cells m t.c) n (homed_name cells m homed t.a is.a)))) m.tris (recursion_from_All (IsTriangleOf m.vertices) m.tris clean.corners) in
    let distinct = subst (λ (ls : List ℕ). AreDistinct ls) (all_are n) (distinct_range (λ _. true) 0 n) in
    let same : filter (λ t. is_one_of (all_leaves cells) (k t)) m.tris ≡ m.tris = sym (filter_agree_each (λ _. true) (λ t. is_one_of (all_leaves cells) (k t)) m.tris kept) ∙ filter_all m.tris in
    one_in_order tri_cmp_total tri_cmp-IsAntisymmetric _ _ (Rises-in_order tri_cmp_total (tris_by_keeper cells m)) (Rises-from_sorted tri_cmp_total m.tris clean.sorted) (λ f.
    weight-in_order tri_cmp_total f (tris_by_keeper cells m)
    ∙ parts_weigh k m.tris (all_leaves cells) distinct f
    ∙ ap (weight f) same)

-- the vertices of all sheets, by their names, are those of the mesh
pub all_vertices : (cells : List Cell) (m : Mesh) → AreHomed cells m → by_name (vertices_by_home cells m) ≡ map summed (finite.entries m.vertices)
all_vertices cells m homed =
    let inside = in_core cells (all_leaves cells) in
    let outside : Vertex → Bool = λ x. inside x.point in
    let same : (v : ℕ) → keep outside (finite.get m.vertices v) ≡ keep (λ _. true) (finite.get m.vertices v) = λ v.
    elim (finite.get m.vertices v) as (λ o. finite.get m.vertices v ≡ o → keep outside o ≡ keep (λ _. true) o) [
      | None ↦ λ _. refl
      | Some x ↦ λ is. ap (λ b. cond b (Some x) None) (in_all (length cells) (home cells x.point) (homed v x is))
    ] refl in
    gathered cells m (all_leaves cells)
    ∙ ap (map summed) (same_kept_by outside (λ _. true) m.vertices same ∙ filter_all (finite.entries m.vertices))
