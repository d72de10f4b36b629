use Rattle.std.proofs.Common.{◌≡◌, ◌∙◌, ℕ, ◌<◌, List, length, map, sym, ap, subst, arith}
use Rattle.std.proofs.lemmas.List.{length-map}
use Rattle.std.proofs.lemmas.List.Elements.{All-map}
use Rattle.std.specs.List.{All, range_with_len}
use Rattle.std.specs.List.Sorted.{IsSorted}
use Rattle.std.specs.Prelude.{min, slice_index_or}
use Rattle.oemm_octree.specs.declared.points.Point.{Point}
use Rattle.oemm_octree.specs.Leaves.{home}
use Rattle.oemm_octree.proofs.CellParts.{root_holds}
use Rattle.oemm_octree.proofs.Searches.{few_tiles}
use Rattle.oemm_octree.proofs.Tilings.{home_there}
use Rattle.mesh_data.specs.declared.geometry.Tri.{Tri}
use Rattle.mesh_data.specs.Mesh.{start_tris}
use Rattle.mesh_data.specs.Triangles.{IsBelow, IsProper, tri_cmp, turned}
use Rattle.triangle_lists.proofs.Orders.{tri_cmp_total}
use Rattle.triangle_lists.proofs.Sorting.{IsSorted-in_order}
use Rattle.mesh_cutting.specs.Cuts.{AreGrouped, corner_tris}
use Rattle.mesh_cutting.proofs.Started.{each_started}
use Rattle.mesh_cutting.proofs.cutting.MeshCut.of.Goals as goal

pub overflow_cast-none : goal.overflow_cast-none
overflow_cast-none c = omega (arith, c.len.ensures, few_tiles c.args.cells c.requires.tiles)

pub tris_by_keeper-requires : goal.tris_by_keeper-requires
tris_by_keeper-requires c =
    subst (IsSorted tri_cmp) (sym (c.as_slice-3.ensures.value ∙ c.in_ok-tris.ensures.tris))
    (IsSorted-in_order tri_cmp_total (map turned c.slice.result.now))

pub invariant_of-result : goal.invariant_of-result
invariant_of-result c =
    let cells = c.args.cells in
    let points = c.args.points in
    let tris = c.in_ok-tris.tris.items in
    let started = sym (c.in_ok-tris.ensures.tris ∙ ap (λ (ts : List Tri). start_tris (record { points = points; faces = ts })) c.slice.ensures) in
    let homes_are : c.in_ok-homes.homes.items ≡ map (home cells) points =
    c.in_ok-homes.ensures ∙ ap (map (home cells)) c.slice-2.ensures in
    let no : c.len.result ≡ length cells = c.len.ensures in
    let for_names = c.as_slice.ensures.value ∙ homes_are in
    let for_kept = c.as_slice-2.ensures.value ∙ homes_are in
    let for_corners = c.as_slice-4.ensures.value ∙ homes_are in (
      record {
        few_cells = few_tiles cells c.requires.tiles;
        few_points = c.requires.few_points;
        few_tris = omega (arith, c.in_ok-tris.ensures.len, ap length c.slice.ensures, c.requires.few_faces);
        proper = subst (All IsProper) started (each_started IsProper (λ t h. (h.1, h.2, h.0)) c.args.faces c.requires.proper);
        below = subst (All (IsBelow (length points))) started
            (each_started (IsBelow (length points)) (λ t h. (h.1, h.2, h.0)) c.args.faces c.requires.below);
        homes_are = homes_are;
        homed = subst (All (λ l. l < length cells)) (sym homes_are)
            (All-map (λ l. l < length cells) (home cells) points (λ i d lt.
            (home_there cells (slice_index_or points i d) c.requires.tiles (root_holds (slice_index_or points i d) (c.requires.grid i d lt))).0));
        names_are =
            subst (λ n. AreGrouped (λ v. slice_index_or (map (home cells) points) v (length cells)) (range_with_len 0 n) c.in_ok-names.names.items)
            (length-map points (home cells))
            (subst (λ (q : List ℕ × ℕ). AreGrouped (λ v. slice_index_or q.0 v q.1) (range_with_len 0 (length q.0)) c.in_ok-names.names.items)
            (λ i. (for_names i, no i)) c.in_ok-names.ensures);
        kept_are =
            subst (λ (q : List ℕ × (ℕ × List Tri)). AreGrouped (λ t. min (slice_index_or q.0 t.a q.1.0)
            (min (slice_index_or q.0 t.b q.1.0) (slice_index_or q.0 t.c q.1.0))) q.1.1 c.in_ok-kept.kept.items)
            (λ i. (for_kept i, (no i, c.as_slice-3.ensures.value i))) c.in_ok-kept.ensures;
        corners_are =
            subst (λ (q : List ℕ × (ℕ × List Tri)). AreGrouped (λ t. slice_index_or q.0 t.a q.1.0) (corner_tris q.1.1) c.in_ok-corners.corners.items)
            (λ i. (for_corners i, (no i, c.as_slice-5.ensures.value i))) c.in_ok-corners.ensures;
      },
      tt,
    )
