use Rattle.std.proofs.Common.{◌≡◌, ◌∙◌, ℕ, ◌<◌, Bool, eqb, List, length, map, sym, ap, subst, arith}
use Rattle.std.specs.List.{All, filter, flat_map}
use Rattle.std.specs.Prelude.{slice_index_or}
use Rattle.oemm_octree.specs.declared.points.Point.{Point}
use Rattle.oemm_octree.specs.Leaves.{home}
use Rattle.mesh_data.specs.declared.geometry.Tri.{Tri}
use Rattle.mesh_data.specs.Mesh.{origin, plane_at}
use Rattle.mesh_data.specs.Planes.{sums_of}
use Rattle.sheet_data.specs.Summed.{SummedVertex}
use Rattle.neighbour_index.specs.Neighbours.{are_neighbours}
use Rattle.mesh_sheets.specs.Sheets.{keeper, near, sheet, vertices_in}
use Rattle.mesh_cutting.specs.Cuts.{Cut, keeper_at, leaf_at, listed_at, mesh_in}
use Rattle.mesh_cutting.proofs.LeafVertices.{own_few, own_rises, tris_here, vertices_are}
use Rattle.mesh_cutting.proofs.NearLeaves.{near_is}
use Rattle.mesh_cutting.proofs.Places.{keeper_is}
use Rattle.mesh_cutting.proofs.cutting.MeshCut.sheet.Goals as goal

pub overflow_cast-none : goal.overflow_cast-none
overflow_cast-none c = omega (arith, c.len.ensures, c.self.inside.cut.few_cells)

pub vertices_of-requires-clause-sorted : goal.vertices_of-requires-clause-sorted
vertices_of-requires-clause-sorted c =
    let m = c.self.inside in
    let leaf = c.args.leaf in
    let cut : Cut = record { cells = m.cells; points = m.points; tris = m.tris.items } in
    let own_is = c.of_leaf-own.ensures ∙ ap (filter (λ (x : ℕ × Tri). eqb x.0 leaf)) c.as_slice-2.ensures.value in
    let run_is = c.of_leaf-names.ensures ∙ ap (filter (λ (x : ℕ × ℕ). eqb x.0 leaf)) c.as_slice.ensures.value in
    own_rises cut leaf m.names.items m.corners.items c.of_leaf-own.result.now c.of_leaf-names.result.now
    m.cut.names_are m.cut.corners_are m.cut.proper run_is own_is

pub vertices_of-requires-clause-few : goal.vertices_of-requires-clause-few
vertices_of-requires-clause-few c =
    let m = c.self.inside in
    let leaf = c.args.leaf in
    let cut : Cut = record { cells = m.cells; points = m.points; tris = m.tris.items } in
    let own_is = c.of_leaf-own.ensures ∙ ap (filter (λ (x : ℕ × Tri). eqb x.0 leaf)) c.as_slice-2.ensures.value in
    let run_is = c.of_leaf-names.ensures ∙ ap (filter (λ (x : ℕ × ℕ). eqb x.0 leaf)) c.as_slice.ensures.value in
    let few = own_few cut leaf m.names.items m.corners.items c.of_leaf-own.result.now c.of_leaf-names.result.now
    m.cut.names_are m.cut.corners_are m.cut.proper run_is own_is in
    omega (arith, few, m.cut.few_tris)

pub returns : goal.returns
unfolding sheet
returns c =
    let m = c.self.inside in
    let leaf = c.args.leaf in
    let cut : Cut = record { cells = m.cells; points = m.points; tris = m.tris.items } in
    let own = c.of_leaf-own.result.now in
    let run = c.of_leaf-names.result.now in
    let own_is : own ≡ filter (λ (x : ℕ × Tri). eqb x.0 leaf) m.corners.items =
    c.of_leaf-own.ensures ∙ ap (filter (λ (x : ℕ × Tri). eqb x.0 leaf)) c.as_slice-2.ensures.value in
    let run_is : run ≡ filter (λ (x : ℕ × ℕ). eqb x.0 leaf) m.names.items =
    c.of_leaf-names.ensures ∙ ap (filter (λ (x : ℕ × ℕ). eqb x.0 leaf)) c.as_slice.ensures.value in
    let kept_is = c.of_leaf-kept.ensures ∙ ap (filter (λ (x : ℕ × Tri). eqb x.0 leaf)) c.as_slice-3.ensures.value in
    let vertices =
    c.in_ok-vertices_of.ensures
    ∙ ap (λ (ps : List Point). map (λ (x : ℕ × ℕ). record {
      name = x.1;
      point = slice_index_or ps x.1 origin;
      quad = sums_of (map (λ (y : ℕ × Tri). plane_at ps y.1) (filter (λ (y : ℕ × Tri). eqb y.1.a x.1) own));
    }) run) c.slice.ensures
    ∙ vertices_are cut leaf m.names.items m.corners.items own run m.cut.names_are m.cut.corners_are m.cut.proper run_is own_is in
    let faces =
    c.from_vec.ensures ∙ c.in_ok-tris_of.ensures ∙ ap (map (λ (x : ℕ × Tri). x.1)) kept_is ∙ m.cut.kept_are.items leaf
    ∙ (λ i. filter (λ t. eqb (sym (keeper_is cut t) i) leaf) m.tris.items) in
    let homes = c.as_slice-4.ensures.value ∙ m.cut.homes_are in
    let homed : All (λ l. l < length m.cells) (map (home m.cells) m.points) =
    subst (All (λ l. l < length m.cells)) m.cut.homes_are m.cut.homed in
    let tris : List Tri = map (λ (x : ℕ × Tri). x.1) own in
    let found =
    near_is cut leaf m.cut.below homed tris c.in_ok-near_at.field-0
    (tris_here cut leaf m.names.items m.corners.items own run m.cut.names_are m.cut.corners_are m.cut.proper run_is own_is)
    c.in_ok-near_at.ensures.ascending
    (λ l. c.in_ok-near_at.ensures.members l
    ∙ (λ i. are_neighbours tris (flat_map (listed_at (homes i) (c.len.ensures i)) tris) leaf l)) in
    (λ i. record { leaf = leaf; vertices = vertices i; faces = faces i; near = found i })
    ∙ ap (λ (d : Cut). sheet d.cells (mesh_in d) leaf) c.self.view_is
