-- A mesh that is to be cut into the sheets of leaves.
use Rattle.std.specs.Prelude.{◌≡◌, ℕ, ◌<◌, ◌≤◌, ◌==◌, List, map, length, slice_index_or, All, min}
use Rattle.std.specs.FinMap as finite
use Rattle.std.specs.List.{filter, flat_map, range_with_len}
use Rattle.std.specs.List.Sorted.{IsNonDecreasingBy}
use Rattle.oemm_limits.specs.declared.TheConstants.{MOST_ITEMS, MOST_LEAVES}
use Rattle.oemm_octree.specs.declared.cells.Cell.{Cell}
use Rattle.oemm_octree.specs.declared.points.Point.{Point}
use Rattle.oemm_octree.specs.Leaves.{home}
use Rattle.oemm_lists.specs.Ascending.{in_order}
use Rattle.mesh_data.specs.declared.geometry.Tri.{Tri}
use Rattle.mesh_data.specs.Mesh.{Mesh, named_from, planes_at}
use Rattle.mesh_data.specs.Rings.{from_each_corner}
use Rattle.mesh_data.specs.Triangles.{IsBelow, IsProper, corners, tri_cmp}

-- the cells that cut a mesh, its points by their names, and its triangles
pub record Cut : Type 0 where
  pub cells : List Cell
  pub points : List Point
  pub tris : List Tri

-- the mesh that is cut: each vertex has the planes of the triangles that have it
abbrev pub mesh_in : Cut → Mesh
mesh_in c = record {
  vertices = finite.from_entries (named_from (planes_at c.points c.tris) 0 c.points);
  tris = c.tris;
}

-- the leaf of a name by the homes of the points, and the number of cells where no point has the name
abbrev pub leaf_at : List Cell → List Point → ℕ → ℕ
leaf_at cells points v = slice_index_or (map (home cells) points) v (length cells)

-- the least leaf of the corners of a triangle
abbrev pub keeper_at : List Cell → List Point → Tri → ℕ
keeper_at cells points t =
    min (leaf_at cells points t.a) (min (leaf_at cells points t.b) (leaf_at cells points t.c))

-- items, each with its number
abbrev pub tagged : {X : Type 0} → (X → ℕ) → List X → List (ℕ × X)
tagged k xs = map (λ x. (k x, x)) xs

-- items with their numbers, by these; those of one number stand in the order of the items
pub record AreGrouped {X : Type 0} (k : X → ℕ) (xs : List X) (groups : List (ℕ × X)) : Type 0 where
  pub sorted : IsNonDecreasingBy (λ q. q.0) groups
  pub items : (l : ℕ) → map (λ q. q.1) (filter (λ q. q.0 == l) groups) ≡ filter (λ x. k x == l) xs

-- the corners of a triangle, each with its leaf by these homes
abbrev pub listed_at : List ℕ → ℕ → Tri → List (ℕ × ℕ)
listed_at homes none t = map (λ v. (v, slice_index_or homes v none)) (corners t)

-- the triangles from each corner, in order
abbrev pub corner_tris : List Tri → List Tri
corner_tris ts = in_order tri_cmp (flat_map from_each_corner ts)

-- What is kept of a mesh that is cut: the homes of its points; its names by their leaves; its triangles by the leaves
-- that keep them; and its triangles from each corner, by the leaf of that corner.
pub record IsCut (cells : List Cell) (points : List Point) (tris : List Tri) (homes : List ℕ) (names : List (ℕ × ℕ))
    (kept corners : List (ℕ × Tri)) : Type 0 where
  pub few_cells : length cells ≤ MOST_LEAVES
  pub few_points : length points ≤ MOST_ITEMS
  pub few_tris : length tris ≤ MOST_ITEMS
  pub proper : All IsProper tris
  pub below : All (IsBelow (length points)) tris
  pub homes_are : homes ≡ map (home cells) points
  pub homed : All (λ l. l < length cells) homes
  pub names_are : AreGrouped (leaf_at cells points) (range_with_len 0 (length points)) names
  pub kept_are : AreGrouped (keeper_at cells points) tris kept
  pub corners_are : AreGrouped (λ t. leaf_at cells points t.a) (corner_tris tris) corners
