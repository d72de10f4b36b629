-- A mesh as the lines with words that write it.
use Rattle.std.specs.Prelude.{◌≡◌, ℕ, ◌+◌, ◌<◌, ◌++◌, true, List, [], ◌∷◌, length, map, slice_get, Some, Ok, ⊤}
use Rattle.std.specs.List.{filter}
use Rattle.oemm_limits.specs.declared.TheConstants.{MOST_MESH_BYTES}
use Rattle.oemm_octree.specs.declared.points.Point.{Point}
use Rattle.mesh_data.specs.declared.geometry.Tri.{Tri}
use Rattle.mesh_items.specs.declared.items.Item.TheVariants.{Counts, Vertex, Face}
use Rattle.mesh_items.specs.declared.items.MeshFault.{MeshFault}
use Rattle.mesh_items.specs.Reading.{Reading}
use Rattle.oemm_lines.specs.declared.parts.Line.{Line}
use Rattle.oemm_lines.specs.Stream.{texts_of, told_lines}
use Rattle.mesh_items.specs.Faults.{end_fault}
use Rattle.off_reader.specs.Grammar.{counts_of, vertex_of, face_of, is_head, has_words}

-- the first word of the line is OFF
abbrev pub IsHead : Line → Type 0
IsHead l = is_head (slice_get (texts_of l) 0) ≡ true

-- the counts are looked for on the last of these lines, from this place on: behind OFF, or on a line of their own
abbrev pub CountsStandAt : List Line → Line → ℕ → Type 0
CountsStandAt [] l place = ⊥
CountsStandAt (head ∷ []) l place = IsHead head × (1 < length head.words) × (l ≡ head) × (place ≡ 1)
CountsStandAt (head ∷ next ∷ []) l place = IsHead head × (length head.words ≡ 1) × (l ≡ next) × (place ≡ 0)
CountsStandAt (head ∷ next ∷ more ∷ lines) l place = ⊥

-- OFF and the counts stand on this line, or each on one of these two
abbrev pub WriteCounts : List Line → ℕ × ℕ → Type 0
WriteCounts head counts = (l : Line) × (place : ℕ) × CountsStandAt head l place × (counts_of place l ≡ Ok counts)

-- each of these lines writes one of these vertices, and the first has this number
abbrev pub WriteVertices : ℕ → List Line → List Point → Type 0
WriteVertices first [] [] = ⊤
WriteVertices first [] (p ∷ points) = ⊥
WriteVertices first (l ∷ lines) [] = ⊥
WriteVertices first (l ∷ lines) (p ∷ points) = (vertex_of first l ≡ Ok p) × WriteVertices (first + 1) lines points

-- each of these lines writes one of these faces among so many vertices, and the first has this number
abbrev pub WriteFaces : ℕ → ℕ → List Line → List Tri → Type 0
WriteFaces vertices first [] [] = ⊤
WriteFaces vertices first [] (t ∷ faces) = ⊥
WriteFaces vertices first (l ∷ lines) [] = ⊥
WriteFaces vertices first (l ∷ lines) (t ∷ faces) =
    (face_of vertices first l ≡ Ok t) × WriteFaces vertices (first + 1) lines faces

-- of these lines the first ones write the mesh: its counts, its vertices and its faces; any may stand behind them
pub record WriteMesh (lines : List Line) (points : List Point) (faces : List Tri) : Type 0 where
  pub head : List Line
  pub vertex_lines : List Line
  pub face_lines : List Line
  pub rest : List Line
  pub whole : lines ≡ head ++ (vertex_lines ++ (face_lines ++ rest))
  pub counted : WriteCounts head (length points, length faces)
  pub placed : WriteVertices 0 vertex_lines points
  pub joined : WriteFaces (length points) 0 face_lines faces

-- the counts, these vertices and faces, and this fault behind them
abbrev pub stopped_reading : ℕ → ℕ → List Point → List Tri → MeshFault → Reading
stopped_reading vertices faces points triangles fault =
    record { items = Counts vertices faces ∷ (map (λ p. Vertex p) points ++ map (λ t. Face t) triangles); fault = Some fault }

-- the lines with words of a mesh's bytes, and the fault that stands where a further one is wanted
abbrev pub mesh_lines : List ℕ → List Line
mesh_lines bytes = filter has_words (told_lines true MOST_MESH_BYTES 0 1 bytes).lines

abbrev pub mesh_end : List ℕ → MeshFault
mesh_end bytes = end_fault (length bytes) (told_lines true MOST_MESH_BYTES 0 1 bytes).fault
