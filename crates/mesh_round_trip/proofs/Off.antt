-- A mesh in OFF is read as itself.
use Rattle.std.proofs.Common.{◌≡◌, refl, ℕ, ◌≤◌, true, List, [], ◌∷◌, ◌++◌, length, map, flat_map, None, Ok, ap, ◌∙◌, append_assoc, append-nil, arith, codes, le-ltb}
use Rattle.std.specs.List.{AllByRecursion, slice_get}
use Rattle.std.specs.Fmt.{decimal}
use Rattle.std.proofs.lemmas.List.{length-map}
use Rattle.std.proofs.lemmas.List.Elements.{recursion_from_All}
use Rattle.oemm_limits.specs.declared.TheConstants.{MOST_ITEMS, MOST_MESH_BYTES}
use Rattle.oemm_octree.specs.declared.points.Point.{Point}
use Rattle.mesh_data.specs.declared.geometry.Tri.{Tri}
use Rattle.mesh_items.specs.declared.items.Item.TheVariants.{Counts, Vertex, Face}
use Rattle.mesh_items.specs.declared.items.MeshFault.{MeshFault}
use Rattle.mesh_items.specs.Reading.{item_then}
use Rattle.oemm_lists.specs.TextLine.{line}
use Rattle.oemm_lines.specs.declared.parts.Line.{Line}
use Rattle.oemm_lines.specs.Stream.{told_lines, word_in, texts_of}
use Rattle.mesh_out.specs.declared.form.Form.TheVariants.{Off}
use Rattle.mesh_out.specs.Form.{form_text}
use Rattle.mesh_out.specs.Off.{point_line, face_line}
use Rattle.mesh_items.specs.Faults.{end_fault}
use Rattle.off_reader.specs.Grammar.{counts_of, body_of, from_counts, from_head, is_head, mesh_of, off_reading}
use Rattle.mesh_round_trip.specs.Whole.{IsWritable}
use Rattle.mesh_items.specs.Progress.{reading_of}
use Rattle.oemm_octree.specs.Octree.{IsOnGrid}
use Rattle.mesh_round_trip.proofs.Ink.{inked_by_test, decimal_inked}
use Rattle.mesh_round_trip.proofs.Lines.{IsWritten}
use Rattle.mesh_round_trip.proofs.OffLines.{Begins, begins, lines_at}
use Rattle.mesh_round_trip.proofs.Words.{counts_of-written}
use Rattle.mesh_round_trip.proofs.Items.{mesh_read}
use Rattle.mesh_round_trip.proofs.Wholes.{IsFace, faces_held}

from_counts-read : (end : MeshFault) (l : Line) (ls : List Line) (v f : ℕ) → counts_of 0 l ≡ Ok (v, f) → from_counts end (l ∷ ls) ≡ item_then (Counts v f) (body_of v f 0 end ls)
unfolding from_counts
from_counts-read end l ls v f is = rw is

from_head-alone : (l : Line) (end : MeshFault) (ls : List Line) → length l.words ≤ 1 → from_head l end ls ≡ from_counts end ls
unfolding from_head
from_head-alone l end ls one = rw (le-ltb 1 (length l.words) one)

mesh_of-headed : (end : MeshFault) (l : Line) (ls : List Line) → is_head (slice_get (texts_of l) 0) ≡ true → mesh_of end (l ∷ ls) ≡ from_head l end ls
unfolding mesh_of
mesh_of-headed end l ls head = rw head

-- the line of the word OFF
head_read : (end : MeshFault) (l : Line) (ls : List Line) → texts_of l ≡ codes "OFF" ∷ [] → mesh_of end (l ∷ ls) ≡ from_counts end ls
head_read end l ls says =
    mesh_of-headed end l ls (ap (λ t. is_head (slice_get t 0)) says)
    ∙ from_head-alone l end ls (omega (arith, ap length says, length-map l.words (word_in l.bytes)))

off_written : IsWritten (codes "OFF" ∷ [])
off_written = record {
  some = omega arith;
  few = omega arith;
  inked = (inked_by_test (codes "OFF") refl, tt);
}

counts_written : (v f : ℕ) → v ≤ MOST_ITEMS → f ≤ MOST_ITEMS → IsWritten (decimal v ∷ decimal f ∷ codes "0" ∷ [])
counts_written v f few fewer = record {
  some = omega arith;
  few = omega arith;
  inked = (decimal_inked v (omega arith), (decimal_inked f (omega arith), (inked_by_test (codes "0") refl, tt)));
}

-- the lines of a mesh, whatever stands behind them
whole_read : (end : MeshFault) (points : List Point) (faces : List Tri) → length points ≤ MOST_ITEMS → length faces ≤ MOST_ITEMS → AllByRecursion IsOnGrid points → AllByRecursion (IsFace (length points)) faces →
    mesh_of end (lines_at 0 1 (form_text Off points faces)) ≡ reading_of points faces
whole_read end points faces few fewer grid held =
    let v : ℕ = length points in
    let f : ℕ = length faces in
    let counts : List (List ℕ) = decimal v ∷ decimal f ∷ codes "0" ∷ [] in
    let tail : List ℕ = flat_map point_line points ++ flat_map face_line faces in
    let one : Begins (codes "OFF" ∷ []) 0 1 (line counts ++ tail) = begins (codes "OFF" ∷ []) 0 1 (line counts ++ tail) off_written (omega arith) in
    let near = one.near in
    let two : Begins counts one.next 2 tail = begins counts one.next 2 tail (counts_written v f few fewer) (omega arith) in
    let nearer = two.near in
    ap (λ bytes. mesh_of end (lines_at 0 1 bytes)) (append_assoc (line (codes "OFF" ∷ [])) (line counts) tail)
    ∙ ap (mesh_of end) one.is
    ∙ head_read end one.first (lines_at one.next 2 (line counts ++ tail)) one.says
    ∙ ap (from_counts end) two.is
    ∙ from_counts-read end two.first (lines_at two.next 3 tail) v f (counts_of-written two.first v f (codes "0" ∷ []) two.says few fewer)
    ∙ ap (item_then (Counts v f)) (mesh_read end points faces few grid held two.next 3 (omega arith))
    ∙ ap (λ items. record { items = Counts v f ∷ (map Vertex points ++ items); fault = None }) (append-nil (map Face faces))

pub off_read : (points : List Point) (faces : List Tri) → IsWritable points faces → off_reading (form_text Off points faces) ≡ reading_of points faces
off_read points faces writable =
    let bytes : List ℕ = form_text Off points faces in
    whole_read (end_fault (length bytes) (told_lines true MOST_MESH_BYTES 0 1 bytes).fault) points faces writable.few_points writable.few_faces
    (recursion_from_All IsOnGrid points writable.points_on_grid) (faces_held points faces writable)
