-- The header of a PLY file, line by line.
use Rattle.std.proofs.Common.{◌≡◌, refl, ℕ, ◌+◌, ◌^◌, ◌<◌, ◌≤◌, true, false, if◌then◌else◌, List, [], ◌∷◌, ◌++◌, length, drop, Some, Ok, codes, ap, ◌∙◌, arith, lt-ltb, le-leb}
use Rattle.std.specs.Fmt.{decimal}
use Rattle.std.proofs.Math.Seq.{drop-append_seam, drop-append-add}
use Rattle.oemm_limits.specs.declared.TheConstants.{MOST_ITEMS, MOST_MESH_BYTES}
use Rattle.mesh_items.specs.declared.items.MeshFault.{MeshFault}
use Rattle.mesh_items.specs.Reading.{Reading}
use Rattle.oemm_lists.specs.TextLine.{line}
use Rattle.oemm_lines.specs.declared.parts.Line.{Line}
use Rattle.oemm_lines.specs.Numbers.{unsigned_of}
use Rattle.oemm_lines.specs.Stream.{Flow, line_of, told_lines, texts_of}
use Rattle.oemm_lines.proofs.NumberLaws.{unsigned_of-decimal}
use Rattle.ply_header.specs.declared.layout.ByteOrder.TheVariants.{Little}
use Rattle.ply_header.specs.declared.layout.ScalarType.TheVariants.{I16}
use Rattle.ply_header.specs.declared.layout.Axis.TheVariants.{X, Y}
use Rattle.ply_header.specs.declared.layout.Property.{Property}
use Rattle.ply_header.specs.declared.layout.Property.TheVariants.{Coordinate}
use Rattle.ply_header.specs.declared.layout.Role.{Role}
use Rattle.ply_header.specs.declared.layout.Role.TheVariants.{Vertices, Faces}
use Rattle.ply_header.specs.declared.layout.Element.{Element}
use Rattle.ply_header.specs.declared.layout.Layout.{Layout}
use Rattle.ply_header.specs.declared.layout.Header.{Header}
use Rattle.ply_header.specs.Layout.{scalar_named, axis_named, names_corners}
use Rattle.ply_header.specs.Header.{nothing_declared, order_of, role_named, limited, count_of, with_element, property_named, listed, property_of, with_property, declared_by, header_after, ends, missing, laid_out, layout_of}
use Rattle.ply_reader.specs.Body.{Rest, forward}
use Rattle.ply_reader.specs.Mesh.{counted, declared, laid, end_size, behind_line, is_first, from_header, from_first}
use Rattle.mesh_round_trip.proofs.Lines.{IsWritten, body, body_told, words_told, body_short, line_is_body}
use Rattle.mesh_round_trip.proofs.PlyRecords.{rest_at, along_axes, of_corners, written_layout}

-- what is left behind a line and its line feed
behind_text : (at : ℕ) (text rest : List ℕ) → forward (length text + end_size (drop (length text) (text ++ 10 ∷ rest))) (rest_at at (text ++ 10 ∷ rest)) ≡ rest_at (at + (length text + 1)) rest
behind_text at text rest =
    ap (λ (t : List ℕ). forward (length text + end_size t) (rest_at at (text ++ 10 ∷ rest))) (drop-append_seam text (10 ∷ rest))
    ∙ ap (λ (t : List ℕ). rest_at (at + (length text + 1)) t) (drop-append-add text (10 ∷ rest) 1)

behind_written : (words : List (List ℕ)) (at number : ℕ) (rest : List ℕ) → behind_line (line_of false at number (body words)) (rest_at at (line words ++ rest)) ≡ rest_at (at + (length (body words) + 1)) rest
behind_written words at number rest =
    ap (λ (t : List ℕ). behind_line (line_of false at number (body words)) (rest_at at t)) (line_is_body words rest)
    ∙ behind_text at (body words) rest

-- the lines of these bytes
abbrev lines_at : ℕ → ℕ → List ℕ → List Line
lines_at at number bytes = (told_lines false MOST_MESH_BYTES at number bytes).lines

lines_next : (words : List (List ℕ)) (at number : ℕ) (rest : List ℕ) → IsWritten words → at + 105 ≤ MOST_MESH_BYTES →
    lines_at at number (line words ++ rest) ≡ line_of false at number (body words) ∷ lines_at (at + (length (body words) + 1)) (number + 1) rest
lines_next words at number rest written within = ap (λ (f : Flow). f.lines) (body_told false MOST_MESH_BYTES words at number rest written within)

-- the reading of these bytes, behind lines that declared this much
abbrev pub header_at : MeshFault → ℕ → ℕ → Header → List ℕ → Reading
header_at end at number h bytes = from_header end (lines_at at number bytes) h (rest_at at bytes)

from_header-next : (end : MeshFault) (l : Line) (ls : List Line) (h g : Header) (r : Rest) (words : List (List ℕ)) → texts_of l ≡ words → ends h words ≡ false → header_after h l.at words ≡ Ok g → from_header end (l ∷ ls) h r ≡ from_header end ls g (behind_line l r)
unfolding from_header
from_header-next end l ls h g r words says on is =
    ap (λ ws. if ends h ws then counted (layout_of h l.at ws) (behind_line l r) else declared (header_after h l.at ws) (λ next. from_header end ls next (behind_line l r))) says
    ∙ ap (λ b. if b then counted (layout_of h l.at words) (behind_line l r) else declared (header_after h l.at words) (λ next. from_header end ls next (behind_line l r))) on
    ∙ ap (λ o. declared o (λ next. from_header end ls next (behind_line l r))) is

from_header-end : (end : MeshFault) (l : Line) (ls : List Line) (h : Header) (r : Rest) (words : List (List ℕ)) (layout : Layout) → texts_of l ≡ words → ends h words ≡ true → layout_of h l.at words ≡ Ok layout → from_header end (l ∷ ls) h r ≡ laid layout (behind_line l r)
unfolding from_header
from_header-end end l ls h r words layout says off is =
    ap (λ ws. if ends h ws then counted (layout_of h l.at ws) (behind_line l r) else declared (header_after h l.at ws) (λ next. from_header end ls next (behind_line l r))) says
    ∙ ap (λ b. if b then counted (layout_of h l.at words) (behind_line l r) else declared (header_after h l.at words) (λ next. from_header end ls next (behind_line l r))) off
    ∙ ap (λ o. counted o (behind_line l r)) is

from_first-on : (end : MeshFault) (l : Line) (ls : List Line) (r : Rest) (words : List (List ℕ)) → texts_of l ≡ words → is_first words ≡ true → from_first end (l ∷ ls) r ≡ from_header end ls nothing_declared (behind_line l r)
unfolding from_first
from_first-on end l ls r words says first =
    let is : is_first (texts_of l) ≡ true = ap is_first says ∙ first in
    rw is

-- a line that declares something, and what follows it
pub record Declares (end : MeshFault) (at number : ℕ) (h : Header) (bytes : List ℕ) (g : Header) (rest : List ℕ) : Type 0 where
  pub next : ℕ
  pub near : next ≤ at + 105
  pub is : header_at end at number h bytes ≡ header_at end next (number + 1) g rest

pub declares : (end : MeshFault) (words : List (List ℕ)) (at number : ℕ) (rest : List ℕ) (h g : Header) → IsWritten words → at + 105 ≤ MOST_MESH_BYTES → ends h words ≡ false → header_after h at words ≡ Ok g → Declares end at number h (line words ++ rest) g rest
declares end words at number rest h g written within on is =
    let short = body_short words written in
    let l : Line = line_of false at number (body words) in
    let next : ℕ = at + (length (body words) + 1) in
    record {
      next = next;
      near = omega arith;
      is = ap (λ ls. from_header end ls h (rest_at at (line words ++ rest))) (lines_next words at number rest written within)
          ∙ from_header-next end l (lines_at next (number + 1) rest) h g (rest_at at (line words ++ rest)) words (words_told false words written.inked) on is
          ∙ ap (from_header end (lines_at next (number + 1) rest) g) (behind_written words at number rest);
    }

-- the line that ends the header, and what follows it
pub record LaysOut (end : MeshFault) (at number : ℕ) (h : Header) (bytes : List ℕ) (layout : Layout) (rest : List ℕ) : Type 0 where
  pub next : ℕ
  pub near : next ≤ at + 105
  pub is : header_at end at number h bytes ≡ laid layout (rest_at next rest)

pub lays_out : (end : MeshFault) (words : List (List ℕ)) (at number : ℕ) (rest : List ℕ) (h : Header) (layout : Layout) → IsWritten words → at + 105 ≤ MOST_MESH_BYTES → ends h words ≡ true → layout_of h at words ≡ Ok layout → LaysOut end at number h (line words ++ rest) layout rest
lays_out end words at number rest h layout written within off is =
    let short = body_short words written in
    let l : Line = line_of false at number (body words) in
    let next : ℕ = at + (length (body words) + 1) in
    record {
      next = next;
      near = omega arith;
      is = ap (λ ls. from_header end ls h (rest_at at (line words ++ rest))) (lines_next words at number rest written within)
          ∙ from_header-end end l (lines_at next (number + 1) rest) h (rest_at at (line words ++ rest)) words layout (words_told false words written.inked) off is
          ∙ ap (laid layout) (behind_written words at number rest);
    }

-- the first line of a file, and what follows it
pub record Opens (end : MeshFault) (bytes rest : List ℕ) : Type 0 where
  pub next : ℕ
  pub near : next ≤ 105
  pub is : from_first end (lines_at 0 1 bytes) (rest_at 0 bytes) ≡ header_at end next 2 nothing_declared rest

pub opens : (end : MeshFault) (words : List (List ℕ)) (rest : List ℕ) → IsWritten words → is_first words ≡ true → Opens end (line words ++ rest) rest
opens end words rest written first =
    let short = body_short words written in
    let l : Line = line_of false 0 1 (body words) in
    let next : ℕ = 0 + (length (body words) + 1) in
    record {
      next = next;
      near = omega arith;
      is = ap (λ ls. from_first end ls (rest_at 0 (line words ++ rest))) (lines_next words 0 1 rest written (omega arith))
          ∙ from_first-on end l (lines_at next 2 rest) (rest_at 0 (line words ++ rest)) words (words_told false words written.inked) first
          ∙ ap (from_header end (lines_at next 2 rest) nothing_declared) (behind_written words 0 1 rest);
    }

-- the elements as they are declared
abbrev vertex_element : ℕ → List Property → Element
vertex_element v properties = record { role = Vertices; count = v; properties = properties }

abbrev face_element : ℕ → List Property → Element
face_element f properties = record { role = Faces; count = f; properties = properties }

-- what is declared behind the format, behind properties of a vertex, and behind those of a face
abbrev pub with_order : Header
with_order = record nothing_declared { order = Some Little }

abbrev pub with_vertex : ℕ → List Property → Header
with_vertex v properties = record with_order { last = Some (vertex_element v properties) }

abbrev pub with_face : ℕ → ℕ → List Property → Header
with_face v f properties = record with_order { vertex = Some (vertex_element v along_axes); last = Some (face_element f properties) }

pub format_after : (at : ℕ) → header_after nothing_declared at (codes "format" ∷ codes "binary_little_endian" ∷ codes "1.0" ∷ []) ≡ Ok with_order
unfolding header_after order_of
format_after at = refl

count_of-found : (at : ℕ) (role : Role) (word : List ℕ) (n : ℕ) → unsigned_of word ≡ Some n → n < 2 ^ 64 → limited at role n ≡ Ok n → count_of at role word ≡ Ok n
unfolding count_of
count_of-found at role word n found small within =
    rw (found, lt-ltb n (2 ^ 64) small) within

vertices_limited : (at n : ℕ) → n ≤ MOST_ITEMS → limited at Vertices n ≡ Ok n
vertices_limited at n few = rw (le-leb n MOST_ITEMS few)

faces_limited : (at n : ℕ) → n ≤ MOST_ITEMS → limited at Faces n ≡ Ok n
faces_limited at n few = rw (le-leb n MOST_ITEMS few)

pub vertex_after : (at v : ℕ) → v ≤ MOST_ITEMS → header_after with_order at (codes "element" ∷ codes "vertex" ∷ decimal v ∷ []) ≡ Ok (with_vertex v [])
unfolding header_after declared_by with_element role_named
vertex_after at v few =
    let count : count_of at Vertices (decimal v) ≡ Ok v = count_of-found at Vertices (decimal v) v (unsigned_of-decimal v (omega arith)) (omega arith) (vertices_limited at v few) in
    rw count

pub x_after : (at v : ℕ) → header_after (with_vertex v []) at (codes "property" ∷ codes "short" ∷ codes "x" ∷ []) ≡ Ok (with_vertex v (Coordinate X I16 ∷ []))
unfolding header_after declared_by with_property property_of scalar_named property_named axis_named
x_after at v = refl

pub y_after : (at v : ℕ) → header_after (with_vertex v (Coordinate X I16 ∷ [])) at (codes "property" ∷ codes "short" ∷ codes "y" ∷ []) ≡ Ok (with_vertex v (Coordinate X I16 ∷ Coordinate Y I16 ∷ []))
unfolding header_after declared_by with_property property_of scalar_named property_named axis_named
y_after at v = refl

pub z_after : (at v : ℕ) → header_after (with_vertex v (Coordinate X I16 ∷ Coordinate Y I16 ∷ [])) at (codes "property" ∷ codes "short" ∷ codes "z" ∷ []) ≡ Ok (with_vertex v along_axes)
unfolding header_after declared_by with_property property_of scalar_named property_named axis_named
z_after at v = refl

pub face_after : (at v f : ℕ) → f ≤ MOST_ITEMS → header_after (with_vertex v along_axes) at (codes "element" ∷ codes "face" ∷ decimal f ∷ []) ≡ Ok (with_face v f [])
unfolding header_after declared_by with_element role_named
face_after at v f few =
    let count : count_of at Faces (decimal f) ≡ Ok f = count_of-found at Faces (decimal f) f (unsigned_of-decimal f (omega arith)) (omega arith) (faces_limited at f few) in
    rw count

pub corners_after : (at v f : ℕ) → header_after (with_face v f []) at (codes "property" ∷ codes "list" ∷ codes "uchar" ∷ codes "int" ∷ codes "vertex_indices" ∷ []) ≡ Ok (with_face v f of_corners)
unfolding header_after declared_by with_property property_of listed scalar_named property_named names_corners
corners_after at v f = refl

pub layout_after : (at v f : ℕ) → layout_of (with_face v f of_corners) at (codes "end_header" ∷ []) ≡ Ok (written_layout v f)
unfolding laid_out missing
layout_after at v f = refl
