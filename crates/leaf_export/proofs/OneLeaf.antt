-- Over one leaf the file is the one with the vertices in the order of their names.
use Rattle.std.proofs.Common.{◌≡◌, ◌∙◌, ℕ, ◌<◌, Bool, true, cond, eqb, min, List, [], ◌∷◌, map, sym, ap, refl, Some, None, arith, append-nil}
use Rattle.std.proofs.lemmas.Bool.{eq-eqb}
use Rattle.std.proofs.lemmas.List.Elements.{recursion_from_All}
use Rattle.std.proofs.lemmas.List.Folds.{flat_map-map}
use Rattle.std.proofs.lemmas.Map.Lookups.{exact_unsigned}
use Rattle.std.proofs.lemmas.Map.Views.{Contains-from_any, tells_apart}
use Rattle.std.specs.FinMap as finite
use Rattle.std.specs.List.{filter, AllByRecursion, Contains}
use Rattle.std.specs.List.Sorted.{IsStrictlyIncreasing}
use Rattle.oemm_octree.specs.declared.cells.Cell.{Cell}
use Rattle.oemm_octree.specs.Leaves.{home}
use Rattle.mesh_data.specs.declared.geometry.Vertex.{Vertex}
use Rattle.mesh_data.specs.Manifold.{IsTriangleOf}
use Rattle.mesh_data.specs.Mesh.{Mesh, names_of, points_of}
use Rattle.mesh_out.specs.declared.form.Form.{Form}
use Rattle.mesh_out.specs.Form.{form_text}
use Rattle.mesh_out.specs.MeshBytes.{mesh_bytes, renumbered}
use Rattle.sheet_data.specs.Summed.{SummedVertex}
use Rattle.sheet_data.specs.declared.sheets.LeafSheet.{LeafSheet}
use Rattle.mesh_sheets.specs.Clean.{AreHomed, IsClean}
use Rattle.mesh_sheets.specs.Export.{all_leaves, tris_by_keeper, vertices_by_home}
use Rattle.mesh_sheets.specs.Sheets.{keeper, leaf_of, sheet, summed, vertices_in}
use Rattle.mesh_sheets.proofs.Climbing.{increasing, keys_climb}
use Rattle.mesh_sheets.proofs.Filters.{all_weaker, filter_agree_each, filter_all, map-map}
use Rattle.mesh_sheets.proofs.Kept.{keep, same_kept_by, true_of_T}
use Rattle.leaf_export.specs.OctreeBytes.{all_faces, all_vertices, file_of, octree_bytes, placed, sheets_bytes}
use Rattle.leaf_export.proofs.Named.{homed_name}
use Rattle.leaf_export.proofs.Positions.{placed_is}

names_ascend : (m : Mesh) → IsStrictlyIncreasing (names_of m)
names_ascend m = increasing (names_of m) (keys_climb (finite.entries m.vertices) (true_of_T _ (finite.entries_sorted m.vertices)))

vertex_named : (m : Mesh) (v : ℕ) → finite.contains_key m.vertices v ≡ true → Contains (names_of m) v
vertex_named m v has = Contains-from_any (tells_apart exact_unsigned) v (names_of m) (sym (finite.contains_key-keys m.vertices v) ∙ has)

zero_below_one : (n : ℕ) → n < 1 → eqb n 0 ≡ true
zero_below_one n lt = eq-eqb n 0 (omega (arith, lt))

all_entries : (c : Cell) (m : Mesh) → AreHomed (c ∷ []) m → filter (λ e. eqb (home (c ∷ []) e.1.point) 0) (finite.entries m.vertices) ≡ finite.entries m.vertices
all_entries c m homed =
    let inside : Vertex → Bool = λ x. eqb (home (c ∷ []) x.point) 0 in
    let same : (v : ℕ) → keep inside (finite.get m.vertices v) ≡ keep (λ _. true) (finite.get m.vertices v) = λ v.
    elim (finite.get m.vertices v) as (λ o. finite.get m.vertices v ≡ o → keep inside o ≡ keep (λ _. true) o) [
      | None ↦ λ _. refl
      | Some x ↦ λ is. ap (λ b. cond b (Some x) None) (zero_below_one (home (c ∷ []) x.point) (homed v x is))
    ] refl in
    same_kept_by inside (λ _. true) m.vertices same ∙ filter_all (finite.entries m.vertices)

one_vertices : (c : Cell) (m : Mesh) → AreHomed (c ∷ []) m → vertices_by_home (c ∷ []) m ≡ map summed (finite.entries m.vertices)
one_vertices c m homed = append-nil (vertices_in (λ p. eqb (home (c ∷ []) p) 0) m) ∙ ap (map summed) (all_entries c m homed)

least_zero : (a b c : ℕ) → a < 1 → min a (min b c) ≡ 0
least_zero a b c lt = omega (arith, lt)

one_tris : (c : Cell) (m : Mesh) → IsClean m → AreHomed (c ∷ []) m → tris_by_keeper (c ∷ []) m ≡ m.tris
one_tris c m clean homed =
    let cells = c ∷ [] in
    let kept : AllByRecursion (λ t. true ≡ eqb (keeper cells m t) 0) m.tris =
    all_weaker (IsTriangleOf m.vertices) (λ t. true ≡ eqb (keeper cells m t) 0)
    (λ t is. sym (eq-eqb (keeper cells m t) 0 (least_zero (leaf_of cells m t.a) (leaf_of cells m t.b) (leaf_of cells m t.c) (homed_name cells m homed t.a is.a)))) m.tris (recursion_from_All (IsTriangleOf m.vertices) m.tris clean.corners) in
    append-nil (filter (λ t. eqb (keeper cells m t) 0) m.tris) ∙ sym (filter_agree_each (λ _. true) (λ t. eqb (keeper cells m t) 0) m.tris kept) ∙ filter_all m.tris

map_each_same : {X Y : Type 0} (f g : X → Y) (xs : List X) → AllByRecursion (λ x. f x ≡ g x) xs → map f xs ≡ map g xs
map_each_same f g [] all = refl
map_each_same f g (x ∷ xs) all = let here = all.0 in let rest = map_each_same f g xs all.1 in λ i. here i ∷ rest i

same_faces : (m : Mesh) → IsClean m → map (placed (names_of m)) m.tris ≡ map (renumbered (names_of m)) m.tris
same_faces m clean =
    map_each_same (placed (names_of m)) (renumbered (names_of m)) m.tris
    (all_weaker (IsTriangleOf m.vertices) (λ t. placed (names_of m) t ≡ renumbered (names_of m) t)
    (λ t is. placed_is (names_of m) t (names_ascend m) (vertex_named m t.a is.a, vertex_named m t.b is.b, vertex_named m t.c is.c)) m.tris (recursion_from_All (IsTriangleOf m.vertices) m.tris clean.corners))

pub one_leaf : (form : Form) (c : Cell) (m : Mesh) → IsClean m → AreHomed (c ∷ []) m → octree_bytes form (c ∷ []) m ≡ mesh_bytes form m
one_leaf form c m clean homed =
    let es = finite.entries m.vertices in
    let to_entries : octree_bytes form (c ∷ []) m ≡ file_of form (map summed es) m.tris = λ i. file_of form (one_vertices c m homed i) (one_tris c m clean homed i) in
    let points : map (λ (x : SummedVertex). x.point) (map summed es) ≡ points_of m = map-map (λ (x : SummedVertex). x.point) summed es ∙ sym (map-map (λ (x : Vertex). x.point) (λ e. e.1) es) in
    let names : map (λ (x : SummedVertex). x.name) (map summed es) ≡ names_of m = map-map (λ (x : SummedVertex). x.name) summed es in
    let faces : map (placed (map (λ (x : SummedVertex). x.name) (map summed es))) m.tris ≡ map (renumbered (names_of m)) m.tris = ap (λ ns. map (placed ns) m.tris) names ∙ same_faces m clean in
    to_entries ∙ (λ i. form_text form (points i) (faces i))

-- ---- the sheets of all leaves

pub vertices_are : (cells : List Cell) (m : Mesh) → all_vertices (map (sheet cells m) (all_leaves cells)) ≡ vertices_by_home cells m
unfolding sheet
vertices_are cells m = flat_map-map (λ (s : LeafSheet). s.vertices) (sheet cells m) (all_leaves cells)

pub faces_are : (cells : List Cell) (m : Mesh) → all_faces (map (sheet cells m) (all_leaves cells)) ≡ tris_by_keeper cells m
unfolding sheet
faces_are cells m = flat_map-map (λ (s : LeafSheet). s.faces) (sheet cells m) (all_leaves cells)

pub sheets_are : (form : Form) (cells : List Cell) (m : Mesh)
    → sheets_bytes form (map (sheet cells m) (all_leaves cells)) ≡ octree_bytes form cells m
sheets_are form cells m = λ i. file_of form (vertices_are cells m i) (faces_are cells m i)
