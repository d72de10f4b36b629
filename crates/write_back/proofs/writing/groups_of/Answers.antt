use Rattle.std.proofs.Common.{◌≡◌, ◌∙◌, ℕ, List, ap, arith, map, subst, sym}
use Rattle.std.specs.List.{flat_map}
use Rattle.std.specs.List.Sorted.{IsStrictlyIncreasing}
use Rattle.oemm_octree.proofs.Searches.{few_tiles}
use Rattle.oemm_octree.specs.declared.cells.Cell.{Cell}
use Rattle.oemm_octree.specs.Leaves.{home}
use Rattle.mesh_data.specs.declared.geometry.Tri.{Tri}
use Rattle.sheet_data.specs.Summed.{SummedVertex}
use Rattle.mesh_sheets.proofs.Filters.{map-map}
use Rattle.mesh_sheets.specs.Written.{patch_tris}
use Rattle.write_back.specs.Homes.{AreByLeaf, at_corners, kept}
use Rattle.write_back.proofs.Made.{names_are}
use Rattle.write_back.proofs.writing.groups_of.Goals as goal

-- the names of vertices with homes, of the vertices with their homes
listed : (cells : List Cell) (vs : List SummedVertex) (tagged : List (ℕ × SummedVertex)) (homes : List (ℕ × ℕ))
    → homes ≡ map (λ x. (x.1.name, x.0)) tagged → tagged ≡ map (λ x. (home cells x.point, x)) vs
    → homes ≡ map (λ x. (x.name, home cells x.point)) vs
listed cells vs tagged homes is from =
    is ∙ ap (map (λ (x : ℕ × SummedVertex). (x.1.name, x.0))) from
    ∙ map-map (λ (x : ℕ × SummedVertex). (x.1.name, x.0)) (λ (x : SummedVertex). (home cells x.point, x)) vs

ascending : (cells : List Cell) (vs : List SummedVertex) (homes : List (ℕ × ℕ))
    → homes ≡ map (λ x. (x.name, home cells x.point)) vs → IsStrictlyIncreasing (map (λ x. x.name) vs)
    → IsStrictlyIncreasing (map (λ h. h.0) homes)
ascending cells vs homes is up =
    subst IsStrictlyIncreasing (sym (ap (map (λ (h : ℕ × ℕ). h.0)) is ∙ names_are cells vs)) up

pub overflow_cast-none : goal.overflow_cast-none
overflow_cast-none c = omega (arith, c.len.ensures, few_tiles c.args.cells.now c.requires.tiles)

pub kept_tris-requires : goal.kept_tris-requires
kept_tris-requires c =
    let cells = c.args.cells.now in
    let vs = c.args.patch.now.vertices in
    ascending cells vs c.as_slice-2.result.now
    (c.as_slice-2.ensures.value ∙ listed cells vs _ _ c.in_ok-homes.ensures (c.as_slice.ensures.value ∙ c.in_ok-tagged.ensures))
    c.requires.ascend

pub tris_at_corners-requires : goal.tris_at_corners-requires
tris_at_corners-requires c =
    let cells = c.args.cells.now in
    let vs = c.args.patch.now.vertices in
    ascending cells vs c.as_slice-3.result.now
    (c.as_slice-3.ensures.value ∙ listed cells vs _ _ c.in_ok-homes.ensures (c.as_slice.ensures.value ∙ c.in_ok-tagged.ensures))
    c.requires.ascend

pub returns : goal.returns
returns c =
    let cells = c.args.cells.now in
    let p = c.args.patch.now in
    let none = c.len.result in
    record {
      none_is = c.len.ensures;
      homes_are = listed cells p.vertices _ _ c.in_ok-homes.ensures (c.as_slice.ensures.value ∙ c.in_ok-tagged.ensures);
      vertices_are = subst (λ (xs : List (ℕ × SummedVertex)). AreByLeaf xs c.in_ok-vertices.vertices.items)
          c.in_ok-tagged.ensures c.in_ok-vertices.ensures;
      kept_are = subst (λ (xs : List (ℕ × Tri)). AreByLeaf xs c.in_ok-kept-2.kept.items)
          (c.in_ok-kept.ensures ∙ ap (λ (hs : List (ℕ × ℕ)). kept hs none p) c.as_slice-2.ensures.value)
          c.in_ok-kept-2.ensures;
      corners_are = subst (λ (xs : List (ℕ × Tri)). AreByLeaf xs c.in_ok-corners-2.corners.items)
          (c.in_ok-corners.ensures
          ∙ ap (λ (hs : List (ℕ × ℕ)). flat_map (at_corners hs none) (patch_tris p)) c.as_slice-3.ensures.value)
          c.in_ok-corners-2.ensures;
    }
