-- A mesh in binary PLY is read as itself.
use Rattle.std.proofs.Common.{◌≡◌, refl, ℕ, ◌+◌, ◌≤◌, false, List, [], ◌∷◌, ◌++◌, length, map, flat_map, None, codes, ap, sym, ◌∙◌, append_assoc, append-nil, arith}
use Rattle.std.specs.List.{AllByRecursion}
use Rattle.std.specs.Fmt.{decimal}
use Rattle.std.proofs.lemmas.List.Elements.{recursion_from_All}
use Rattle.oemm_limits.specs.declared.TheConstants.{MOST_ITEMS, MOST_MESH_BYTES}
use Rattle.oemm_octree.specs.declared.points.Point.{Point}
use Rattle.mesh_data.specs.declared.geometry.Tri.{Tri}
use Rattle.mesh_items.specs.declared.items.Item.TheVariants.{Counts, Vertex, Face}
use Rattle.mesh_items.specs.declared.items.MeshFault.{MeshFault}
use Rattle.mesh_items.specs.Reading.{item_then}
use Rattle.oemm_lists.specs.TextLine.{line}
use Rattle.oemm_lines.specs.Stream.{told_lines}
use Rattle.mesh_out.specs.declared.form.Form.TheVariants.{Ply}
use Rattle.mesh_out.specs.Form.{form_text}
use Rattle.mesh_out.specs.Ply.{ply_opening, ply_vertices, ply_faces, ply_head, ply_vertex, ply_face}
use Rattle.ply_header.specs.declared.layout.ScalarType.TheVariants.{I16}
use Rattle.ply_header.specs.declared.layout.Axis.TheVariants.{X, Y}
use Rattle.ply_header.specs.declared.layout.Property.TheVariants.{Coordinate}
use Rattle.mesh_items.specs.Faults.{end_fault}
use Rattle.ply_header.specs.Header.{nothing_declared}
use Rattle.ply_reader.specs.Mesh.{from_first, laid, ply_reading}
use Rattle.mesh_round_trip.specs.Whole.{IsWritable}
use Rattle.mesh_items.specs.Progress.{reading_of}
use Rattle.oemm_octree.specs.Octree.{IsOnGrid}
use Rattle.mesh_round_trip.proofs.Ink.{all_inked, decimal_inked}
use Rattle.mesh_round_trip.proofs.Lines.{IsWritten}
use Rattle.mesh_round_trip.proofs.Wholes.{IsFace, faces_held}
use Rattle.mesh_round_trip.proofs.PlyRecords.{rest_at, along_axes, of_corners, written_layout}
use Rattle.mesh_round_trip.proofs.PlyItems.{mesh_read}
use Rattle.mesh_round_trip.proofs.PlyHead.{header_at, with_order, with_vertex, with_face, Declares, declares, LaysOut, lays_out, Opens, opens, format_after, vertex_after, x_after, y_after, z_after, face_after, corners_after, layout_after}

-- the words of the lines
abbrev first_words : List (List ℕ)
first_words = codes "ply" ∷ []

abbrev format_words : List (List ℕ)
format_words = codes "format" ∷ codes "binary_little_endian" ∷ codes "1.0" ∷ []

abbrev vertex_words : ℕ → List (List ℕ)
vertex_words v = codes "element" ∷ codes "vertex" ∷ decimal v ∷ []

abbrev axis_words : List ℕ → List (List ℕ)
axis_words name = codes "property" ∷ codes "short" ∷ name ∷ []

abbrev face_words : ℕ → List (List ℕ)
face_words f = codes "element" ∷ codes "face" ∷ decimal f ∷ []

abbrev corners_words : List (List ℕ)
corners_words = codes "property" ∷ codes "list" ∷ codes "uchar" ∷ codes "int" ∷ codes "vertex_indices" ∷ []

abbrev end_words : List (List ℕ)
end_words = codes "end_header" ∷ []

-- the bytes from each line on
abbrev from_end : List ℕ → List ℕ
from_end tail = line end_words ++ tail

abbrev from_face : ℕ → List ℕ → List ℕ
from_face f tail = line (face_words f) ++ (line corners_words ++ from_end tail)

abbrev from_x : ℕ → List ℕ → List ℕ
from_x f tail = line (axis_words (codes "x")) ++ (line (axis_words (codes "y")) ++ (line (axis_words (codes "z")) ++ from_face f tail))

abbrev from_vertex : ℕ → ℕ → List ℕ → List ℕ
from_vertex v f tail = line (vertex_words v) ++ from_x f tail

middle : (text back more tail rest : List ℕ) → back ++ (more ++ tail) ≡ 10 ∷ rest → ((text ++ back) ++ more) ++ tail ≡ (text ++ 10 ∷ []) ++ rest
middle text back more tail rest same =
    append_assoc (text ++ back) more tail ∙ append_assoc text back (more ++ tail)
    ∙ ap (λ (t : List ℕ). text ++ t) same ∙ sym (append_assoc text (10 ∷ []) rest)

head_is : (v f : ℕ) (tail : List ℕ) → ply_head v f ++ tail ≡ line first_words ++ (line format_words ++ from_vertex v f tail)
unfolding ply_opening ply_vertices ply_faces
head_is v f tail =
    ap (λ (t : List ℕ). codes "ply\nformat binary_little_endian 1.0\nelement vertex " ++ t)
    (middle (decimal v) (codes "\nproperty short x\nproperty short y\nproperty short z\n") (ply_faces f ++ codes "end_header\n") tail (from_x f tail)
    (ap (λ (t : List ℕ). codes "\nproperty short x\nproperty short y\nproperty short z\nelement face " ++ t)
    (middle (decimal f) (codes "\nproperty list uchar int vertex_indices\n") (codes "end_header\n") tail (line corners_words ++ from_end tail) refl)))

first_written : IsWritten first_words
first_written = record { some = omega arith; few = omega arith; inked = all_inked first_words [] refl tt }

format_written : IsWritten format_words
format_written = record { some = omega arith; few = omega arith; inked = all_inked format_words [] refl tt }

vertex_written : (v : ℕ) → v ≤ MOST_ITEMS → IsWritten (vertex_words v)
vertex_written v few = record { some = omega arith; few = omega arith; inked = all_inked (codes "element" ∷ codes "vertex" ∷ []) (decimal v ∷ []) refl (decimal_inked v (omega arith), tt) }

x_written : IsWritten (axis_words (codes "x"))
x_written = record { some = omega arith; few = omega arith; inked = all_inked (axis_words (codes "x")) [] refl tt }

y_written : IsWritten (axis_words (codes "y"))
y_written = record { some = omega arith; few = omega arith; inked = all_inked (axis_words (codes "y")) [] refl tt }

z_written : IsWritten (axis_words (codes "z"))
z_written = record { some = omega arith; few = omega arith; inked = all_inked (axis_words (codes "z")) [] refl tt }

face_written : (f : ℕ) → f ≤ MOST_ITEMS → IsWritten (face_words f)
face_written f few = record { some = omega arith; few = omega arith; inked = all_inked (codes "element" ∷ codes "face" ∷ []) (decimal f ∷ []) refl (decimal_inked f (omega arith), tt) }

corners_written : IsWritten corners_words
corners_written = record { some = omega arith; few = omega arith; inked = all_inked corners_words [] refl tt }

end_written : IsWritten end_words
end_written = record { some = omega arith; few = omega arith; inked = all_inked end_words [] refl tt }

-- the lines from that of the faces on
faces_declared : (end : MeshFault) (v f at number : ℕ) (tail : List ℕ) → f ≤ MOST_ITEMS → at + 315 ≤ MOST_MESH_BYTES →
    (next : ℕ) × (next ≤ at + 315) × (header_at end at number (with_vertex v along_axes) (from_face f tail) ≡ laid (written_layout v f) (rest_at next tail))
faces_declared end v f at number tail few within =
    let face : Declares end at number (with_vertex v along_axes) (from_face f tail) (with_face v f []) (line corners_words ++ from_end tail) =
    declares end (face_words f) at number (line corners_words ++ from_end tail) (with_vertex v along_axes) (with_face v f []) (face_written f few) (omega arith) refl (face_after at v f few) in
    let near = face.near in
    let corners : Declares end face.next (number + 1) (with_face v f []) (line corners_words ++ from_end tail) (with_face v f of_corners) (from_end tail) =
    declares end corners_words face.next (number + 1) (from_end tail) (with_face v f []) (with_face v f of_corners) corners_written (omega arith) refl (corners_after face.next v f) in
    let nearer = corners.near in
    let last : LaysOut end corners.next (number + 1 + 1) (with_face v f of_corners) (from_end tail) (written_layout v f) tail =
    lays_out end end_words corners.next (number + 1 + 1) tail (with_face v f of_corners) (written_layout v f) end_written (omega arith) refl (layout_after corners.next v f) in
    let nearest = last.near in
    (last.next, omega arith, face.is ∙ corners.is ∙ last.is)

-- the lines of the coordinates
axes_declared : (end : MeshFault) (v f at number : ℕ) (tail : List ℕ) → at + 315 ≤ MOST_MESH_BYTES →
    (next : ℕ) × (next ≤ at + 315) × (header_at end at number (with_vertex v []) (from_x f tail) ≡ header_at end next (number + 1 + 1 + 1) (with_vertex v along_axes) (from_face f tail))
axes_declared end v f at number tail within =
    let from_z : List ℕ = line (axis_words (codes "z")) ++ from_face f tail in
    let from_y : List ℕ = line (axis_words (codes "y")) ++ from_z in
    let x : Declares end at number (with_vertex v []) (from_x f tail) (with_vertex v (Coordinate X I16 ∷ [])) from_y =
    declares end (axis_words (codes "x")) at number from_y (with_vertex v []) (with_vertex v (Coordinate X I16 ∷ [])) x_written (omega arith) refl (x_after at v) in
    let near = x.near in
    let y : Declares end x.next (number + 1) (with_vertex v (Coordinate X I16 ∷ [])) from_y (with_vertex v (Coordinate X I16 ∷ Coordinate Y I16 ∷ [])) from_z =
    declares end (axis_words (codes "y")) x.next (number + 1) from_z (with_vertex v (Coordinate X I16 ∷ [])) (with_vertex v (Coordinate X I16 ∷ Coordinate Y I16 ∷ [])) y_written (omega arith) refl (y_after x.next v) in
    let nearer = y.near in
    let z : Declares end y.next (number + 1 + 1) (with_vertex v (Coordinate X I16 ∷ Coordinate Y I16 ∷ [])) from_z (with_vertex v along_axes) (from_face f tail) =
    declares end (axis_words (codes "z")) y.next (number + 1 + 1) (from_face f tail) (with_vertex v (Coordinate X I16 ∷ Coordinate Y I16 ∷ [])) (with_vertex v along_axes) z_written (omega arith) refl (z_after y.next v) in
    let nearest = z.near in
    (z.next, omega arith, x.is ∙ y.is ∙ z.is)

-- the whole header
head_read : (end : MeshFault) (v f : ℕ) (tail : List ℕ) → v ≤ MOST_ITEMS → f ≤ MOST_ITEMS →
    (next : ℕ) × (next ≤ 945) × (from_first end (told_lines false MOST_MESH_BYTES 0 1 (ply_head v f ++ tail)).lines (rest_at 0 (ply_head v f ++ tail)) ≡ laid (written_layout v f) (rest_at next tail))
head_read end v f tail few fewer =
    let first : Opens end (line first_words ++ (line format_words ++ from_vertex v f tail)) (line format_words ++ from_vertex v f tail) =
    opens end first_words (line format_words ++ from_vertex v f tail) first_written refl in
    let near = first.near in
    let format : Declares end first.next 2 nothing_declared (line format_words ++ from_vertex v f tail) with_order (from_vertex v f tail) =
    declares end format_words first.next 2 (from_vertex v f tail) nothing_declared with_order format_written (omega arith) refl (format_after first.next) in
    let nearer = format.near in
    let vertex : Declares end format.next 3 with_order (from_vertex v f tail) (with_vertex v []) (from_x f tail) =
    declares end (vertex_words v) format.next 3 (from_x f tail) with_order (with_vertex v []) (vertex_written v few) (omega arith) refl (vertex_after format.next v few) in
    let nearest = vertex.near in
    let axes = axes_declared end v f vertex.next 4 tail (omega arith) in
    let faces = faces_declared end v f axes.0 7 tail fewer (omega (arith, axes.1)) in (
      faces.0,
      omega (arith, axes.1, faces.1),
      ap (λ bytes. from_first end (told_lines false MOST_MESH_BYTES 0 1 bytes).lines (rest_at 0 bytes)) (head_is v f tail)
          ∙ first.is ∙ format.is ∙ vertex.is ∙ axes.2 ∙ faces.2,
    )

whole_read : (end : MeshFault) (points : List Point) (faces : List Tri) → length points ≤ MOST_ITEMS → length faces ≤ MOST_ITEMS → AllByRecursion IsOnGrid points → AllByRecursion (IsFace (length points)) faces →
    from_first end (told_lines false MOST_MESH_BYTES 0 1 (form_text Ply points faces)).lines (rest_at 0 (form_text Ply points faces)) ≡ reading_of points faces
whole_read end points faces few fewer grid held =
    let head = head_read end (length points) (length faces) (flat_map ply_vertex points ++ flat_map ply_face faces) few fewer in
    head.2
    ∙ ap (item_then (Counts (length points) (length faces))) (mesh_read points faces few grid held head.0 (omega (arith, head.1)))
    ∙ ap (λ items. record { items = Counts (length points) (length faces) ∷ (map Vertex points ++ items); fault = None }) (append-nil (map Face faces))

pub ply_read : (points : List Point) (faces : List Tri) → IsWritable points faces → ply_reading (form_text Ply points faces) ≡ reading_of points faces
ply_read points faces writable =
    let bytes : List ℕ = form_text Ply points faces in
    whole_read (end_fault (length bytes) (told_lines false MOST_MESH_BYTES 0 1 bytes).fault) points faces writable.few_points writable.few_faces
    (recursion_from_All IsOnGrid points writable.points_on_grid) (faces_held points faces writable)
