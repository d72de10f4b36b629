-- How a mesh stands in the sheets of leaves, and what a core of leaves sees of it.
use Rattle.std.specs.Prelude.{◌≡◌, ℕ, Bool, true, false, not, ◌&&◌, ◌==◌, min, List, map, length}
use Rattle.std.specs.List.{list_any, list_all, filter, range_with_len}
use Rattle.std.specs.Option.{option_map_or}
use Rattle.std.specs.FinMap as finite
use Rattle.oemm_octree.specs.declared.cells.Cell.{Cell}
use Rattle.oemm_octree.specs.declared.points.Point.{Point}
use Rattle.oemm_octree.specs.Leaves.{home, in_core, is_one_of}
use Rattle.mesh_data.specs.declared.geometry.Tri.{Tri}
use Rattle.mesh_data.specs.declared.geometry.Vertex.{Vertex}
use Rattle.mesh_data.specs.Mesh.{Mesh, point_of}
use Rattle.mesh_data.specs.Planes.{sums_of}
use Rattle.mesh_data.specs.Triangles.{corners}
use Rattle.sheet_data.specs.declared.patches.Patch.{Patch}
use Rattle.sheet_data.specs.declared.sheets.LeafSheet.{LeafSheet}
use Rattle.sheet_data.specs.Summed.{SummedVertex}

-- ---- where vertices and triangles live

-- the leaf of a vertex: the home of its point, and the number of cells for a name that the mesh lacks
abbrev pub leaf_of : List Cell → Mesh → ℕ → ℕ
leaf_of cells m v = option_map_or (home cells) (point_of m v) (length cells)

-- the leaves of the corners of a triangle
abbrev pub leaves_of : List Cell → Mesh → Tri → List ℕ
leaves_of cells m t = map (leaf_of cells m) (corners t)

-- the leaf that keeps a triangle: the least of its corners' leaves
abbrev pub keeper : List Cell → Mesh → Tri → ℕ
keeper cells m t = min (leaf_of cells m t.a) (min (leaf_of cells m t.b) (leaf_of cells m t.c))

-- the leaves differ, and some triangle has a corner in both
abbrev pub are_near : List Cell → Mesh → ℕ → ℕ → Bool
are_near cells m k l =
    not (k == l) && list_any (λ t. is_one_of (leaves_of cells m t) k && is_one_of (leaves_of cells m t) l) m.tris

-- the leaves that are near to a leaf, ascending
abbrev pub near : List Cell → Mesh → ℕ → List ℕ
near cells m leaf = filter (are_near cells m leaf) (range_with_len 0 (length cells))

-- ---- sheets

-- a vertex by its name, with the sums of its planes
abbrev pub summed : ℕ × Vertex → SummedVertex
summed e = record { name = e.0; point = e.1.point; quad = sums_of e.1.planes }

-- the vertices of the mesh that lie inside, by their names
abbrev pub vertices_in : (Point → Bool) → Mesh → List SummedVertex
vertices_in inside m = map summed (filter (λ e. inside e.1.point) (finite.entries m.vertices))

-- a leaf's sheet: the vertices whose home it is, the triangles that it keeps, and the leaves near to it
unfoldable pub sheet : List Cell → Mesh → ℕ → LeafSheet
sheet cells m leaf = record {
  leaf = leaf;
  vertices = vertices_in (λ p. home cells p == leaf) m;
  faces = filter (λ t. keeper cells m t == leaf) m.tris;
  near = near cells m leaf;
}

-- ---- patches

-- each corner of the triangle lives in the core
abbrev pub is_whole : List Cell → List ℕ → Mesh → Tri → Bool
is_whole cells core m t = list_all (is_one_of core) (leaves_of cells m t)

-- some corner does, and not each
abbrev pub is_mixed : List Cell → List ℕ → Mesh → Tri → Bool
is_mixed cells core m t = list_any (is_one_of core) (leaves_of cells m t) && not (is_whole cells core m t)

-- What a core sees of a mesh: its vertices, the triangles with three corners in it, those with one or two, with the
-- leaves that keep them, and for each of its leaves those that are near outside of the core.
unfoldable pub patch : List Cell → Mesh → List ℕ → Patch
patch cells m core = record {
  vertices = vertices_in (in_core cells core) m;
  whole = filter (is_whole cells core m) m.tris;
  mixed = map (λ t. record { leaf = keeper cells m t; tri = t }) (filter (is_mixed cells core m) m.tris);
  near = map (λ leaf. record { leaf = leaf; outside = filter (λ l. not (is_one_of core l)) (near cells m leaf) }) core;
}

-- no leaf is one of both cores
abbrev pub AreApart : List ℕ → List ℕ → Type 0
AreApart core other = (leaf : ℕ) → is_one_of other leaf ≡ true → is_one_of core leaf ≡ false
