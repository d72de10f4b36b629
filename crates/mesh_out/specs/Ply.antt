-- The binary PLY file of points and faces: a text, then whole numbers with their low bytes first.
use Rattle.std.specs.Prelude.{ℕ, ℤ, List, ◌∷◌, ◌++◌, codes, decimal}
use Rattle.std.specs.Int.{w16, w32, cast_unsigned, to_le_bytes}
use Rattle.oemm_octree.specs.declared.points.Point.{Point}
use Rattle.mesh_data.specs.declared.geometry.Tri.{Tri}

-- the lines before the elements
unfoldable pub ply_opening : List ℕ
ply_opening = codes "ply\n" ++ codes "format binary_little_endian 1.0\n"

-- the lines that tell so many vertices
unfoldable pub ply_vertices : ℕ → List ℕ
ply_vertices count =
    codes "element vertex "
    ++ (decimal count ++ codes "\nproperty short x\nproperty short y\nproperty short z\n")

-- the lines that tell so many faces
unfoldable pub ply_faces : ℕ → List ℕ
ply_faces count =
    codes "element face "
    ++ (decimal count ++ codes "\nproperty list uchar int vertex_indices\n")

-- the header of a file with these numbers of vertices and faces
abbrev pub ply_head : ℕ → ℕ → List ℕ
ply_head vertices faces =
    ply_opening ++ (ply_vertices vertices ++ (ply_faces faces ++ codes "end_header\n"))

-- the two bytes of a coordinate, in two's complement
unfoldable pub short : ℤ → List ℕ
short x = to_le_bytes w16 (cast_unsigned w16 x)

-- the four bytes of an index
unfoldable pub int : ℕ → List ℕ
int i = to_le_bytes w32 i

-- a vertex: its three coordinates
abbrev pub ply_vertex : Point → List ℕ
ply_vertex p = short p.x ++ (short p.y ++ short p.z)

-- a face: one byte for its number of indices, and its three indices
abbrev pub ply_face : Tri → List ℕ
ply_face t = 3 ∷ (int t.a ++ (int t.b ++ int t.c))
