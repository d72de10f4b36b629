use Rattle.std.proofs.Common.{◌∙◌, ◌||◌, eqb, filter, map, ap, subst, sym}
use Rattle.std.specs.List.{flat_map, range_with_len}
use Rattle.std.specs.List.Sorted.{IsNonDecreasingBy, IsStrictlyIncreasing}
use Rattle.oemm_lists.specs.Ascending.{in_order}
use Rattle.oemm_octree.specs.Leaves.{is_one_of}
use Rattle.mesh_data.specs.Triangles.{tri_cmp}
use Rattle.mesh_sheets.specs.Written.{written}
use Rattle.neighbour_index.specs.Neighbours.{are_neighbours}
use Rattle.write_back.specs.Homes.{with_homes}
use Rattle.write_back.proofs.Made.{faces_made, names_rise, near_made, vertices_made}
use Rattle.write_back.proofs.writing.sheet_of.Goals as goal

pub of_leaf-own-requires : goal.of_leaf-own-requires
of_leaf-own-requires c =
    subst (IsNonDecreasingBy (λ x. x.0)) (sym c.as_slice.ensures.value) c.requires.grouped.corners_are.sorted

pub of_leaf-requires : goal.of_leaf-requires
of_leaf-requires c =
    subst (IsNonDecreasingBy (λ x. x.0)) (sym c.as_slice-2.ensures.value) c.requires.grouped.vertices_are.sorted

pub of_leaf-requires-2 : goal.of_leaf-requires-2
of_leaf-requires-2 c =
    subst (IsNonDecreasingBy (λ x. x.0)) (sym c.as_slice-3.ensures.value) c.requires.grouped.kept_are.sorted

pub near_at-requires : goal.near_at-requires
near_at-requires c =
    subst IsStrictlyIncreasing (ap (map (λ h. h.0)) (sym c.as_slice-homes.ensures.value))
    (names_rise _ _ _ _ _ _ _ c.requires.grouped c.requires.ascend)

pub returns : goal.returns
unfolding written
returns c =
    let cells = c.args.cells.now in
    let p = c.args.patch.now in
    let groups = c.args.groups.now in
    let leaf = c.args.list.now.leaf in
    let g = c.requires.grouped in
    let vertices = c.in_ok-vertices.ensures
    ∙ vertices_made cells p _ _ _ _ _ g leaf c.of_leaf.result.now
    (c.of_leaf.ensures ∙ ap (filter (λ x. eqb x.0 leaf)) c.as_slice-2.ensures.value) in
    let faces = c.in_ok-faces.ensures
    ∙ ap (in_order tri_cmp) (faces_made cells p _ _ _ _ _ g leaf c.of_leaf-2.result.now
    (c.of_leaf-2.ensures ∙ ap (filter (λ x. eqb x.0 leaf)) c.as_slice-3.ensures.value)) in
    let own = c.of_leaf-own.result.now in
    let homes = c.as_slice-homes.ensures.value in
    let none = groups.none in
    let outside = c.args.list.now.outside in
    let near = c.in_ok-near.ensures
    ∙ (λ i. filter (λ l. is_one_of outside l || are_neighbours (map (λ x. x.1) own)
    (flat_map (with_homes (homes i) none) (map (λ x. x.1) own)) leaf l) (range_with_len 0 none))
    ∙ near_made cells p _ _ _ _ _ g leaf outside own
    (c.of_leaf-own.ensures ∙ ap (filter (λ x. eqb x.0 leaf)) c.as_slice.ensures.value) in
    λ i. record { leaf = leaf; vertices = vertices i; faces = faces i; near = near i }
