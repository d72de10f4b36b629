-- The lines of vertices and faces, one after another.
use Rattle.std.proofs.Common.{◌≡◌, refl, ℕ, ◌+◌, ◌-◌, ◌*◌, ◌<◌, ◌≤◌, List, [], ◌∷◌, ◌++◌, length, map, flat_map, Ok, ap, sym, ◌∙◌, append_assoc, append-nil, arith, codes, lt-ltb, le-ltb, ne_eqb, eq-eqb}
use Rattle.std.specs.List.{AllByRecursion}
use Rattle.std.specs.Fmt.{decimal, signed_decimal}
use Rattle.oemm_limits.specs.declared.TheConstants.{MOST_ITEMS, MOST_MESH_BYTES}
use Rattle.oemm_octree.specs.declared.points.Point.{Point}
use Rattle.mesh_data.specs.declared.geometry.Tri.{Tri}
use Rattle.mesh_items.specs.declared.items.Item.{Item}
use Rattle.mesh_items.specs.declared.items.Item.TheVariants.{Vertex, Face}
use Rattle.mesh_items.specs.declared.items.MeshFault.{MeshFault}
use Rattle.mesh_items.specs.Reading.{Reading, item_then, nothing_more}
use Rattle.oemm_lists.specs.TextLine.{line}
use Rattle.oemm_lines.specs.declared.parts.Line.{Line}
use Rattle.mesh_out.specs.Off.{point_line, face_line}
use Rattle.oemm_lines.specs.Stream.{texts_of}
use Rattle.off_reader.specs.Grammar.{vertex_of, face_of, item_of, body_of}
use Rattle.oemm_octree.specs.Octree.{IsOnGrid}
use Rattle.mesh_round_trip.proofs.Ink.{IsInked, inked_by_test, decimal_inked, coordinate_inked}
use Rattle.mesh_round_trip.proofs.Lines.{IsWritten}
use Rattle.mesh_round_trip.proofs.OffLines.{Begins, begins, lines_at}
use Rattle.mesh_round_trip.proofs.Wholes.{IsFace, led_by}
use Rattle.mesh_round_trip.proofs.Words.{vertex_of-written, face_of-written}

-- a line is read as its item
body_of-item : (vertices faces done : ℕ) (end : MeshFault) (l : Line) (ls : List Line) (item : Item) → done < vertices + faces → item_of vertices done l ≡ Ok item → body_of vertices faces done end (l ∷ ls) ≡ item_then item (body_of vertices faces (done + 1) end ls)
unfolding body_of
body_of-item vertices faces done end l ls item below is = rw (ne_eqb done (vertices + faces) (omega arith), is)

-- and behind the last nothing is read
body_of-end : (vertices faces done : ℕ) (end : MeshFault) (ls : List Line) → done ≡ vertices + faces → body_of vertices faces done end ls ≡ nothing_more
unfolding body_of
body_of-end vertices faces done end [] all = rw (eq-eqb done (vertices + faces) all)
body_of-end vertices faces done end (l ∷ ls) all = rw (eq-eqb done (vertices + faces) all)

item_of-vertex : (vertices done : ℕ) (l : Line) (p : Point) → done < vertices → vertex_of done l ≡ Ok p → item_of vertices done l ≡ Ok (Vertex p)
unfolding item_of
item_of-vertex vertices done l p below is = rw (lt-ltb done vertices below, is)

item_of-face : (vertices done : ℕ) (l : Line) (t : Tri) → vertices ≤ done → face_of vertices (done - vertices) l ≡ Ok t → item_of vertices done l ≡ Ok (Face t)
unfolding item_of
item_of-face vertices done l t item_then is = rw (le-ltb done vertices item_then, is)

-- things that are written on lines of these words, and read back as these items at these places
record IsReadBack {A : Type 0} (words_of : A → List (List ℕ)) (item : A → Item) (vertices low high : ℕ) (P : A → Type 0) : Type 0 where
  written : (a : A) → P a → IsWritten (words_of a)
  read : (a : A) (done : ℕ) (l : Line) → P a → low ≤ done → done < high → texts_of l ≡ words_of a → item_of vertices done l ≡ Ok (item a)

items_read :
    {A : Type 0} (words_of : A → List (List ℕ)) (item : A → Item) (vertices low high : ℕ) (P : A → Type 0) →
    IsReadBack words_of item vertices low high P → (faces : ℕ) (end : MeshFault) → high ≤ vertices + faces →
    (xs : List A) → AllByRecursion P xs → (at number done : ℕ) (rest : List ℕ) (r : Reading) →
    low ≤ done → done + length xs ≤ high → at + 105 * length xs ≤ MOST_MESH_BYTES →
    ((to item_then next : ℕ) → to ≤ at + 105 * length xs → next ≡ done + length xs →
    body_of vertices faces next end (lines_at to item_then rest) ≡ r) →
    body_of vertices faces done end (lines_at at number (flat_map (λ a. line (words_of a)) xs ++ rest)) ≡ led_by (map item xs) r
items_read words_of item vertices low high P back faces end all [] held at number done rest r above below within after =
    after at number done (omega arith) (omega arith)
items_read words_of item vertices low high P back faces end all (x ∷ xs) held at number done rest r above below within after =
    let tail : List ℕ = flat_map (λ a. line (words_of a)) xs ++ rest in
    let b : Begins (words_of x) at number tail = begins (words_of x) at number tail (back.written x held.0) (omega arith) in
    let near = b.near in
    ap (λ bytes. body_of vertices faces done end (lines_at at number bytes)) (append_assoc (line (words_of x)) (flat_map (λ a. line (words_of a)) xs) rest)
    ∙ ap (body_of vertices faces done end) b.is
    ∙ body_of-item vertices faces done end b.first (lines_at b.next (number + 1) tail) (item x) (omega arith)
    (back.read x done b.first held.0 above (omega arith) b.says)
    ∙ ap (item_then (item x))
    (items_read words_of item vertices low high P back faces end all xs held.1 b.next (number + 1) (done + 1) rest r
    (omega arith) (omega arith) (omega arith) (λ to count next h k. after to count next (omega arith) (omega arith)))

abbrev point_words : Point → List (List ℕ)
point_words p = signed_decimal p.x ∷ signed_decimal p.y ∷ signed_decimal p.z ∷ []

abbrev face_words : Tri → List (List ℕ)
face_words t = codes "3" ∷ decimal t.a ∷ decimal t.b ∷ decimal t.c ∷ []

points_back : (vertices : ℕ) → IsReadBack point_words Vertex vertices 0 vertices IsOnGrid
points_back vertices = record {
  written = λ p grid. record {
    some = omega arith;
    few = omega arith;
    inked = (coordinate_inked p.x grid.0, (coordinate_inked p.y grid.1, (coordinate_inked p.z grid.2, tt)));
  };
  read = λ p done l grid above below says. item_of-vertex vertices done l p below (vertex_of-written done l p says grid);
}

index_inked : (vertices n : ℕ) → vertices ≤ MOST_ITEMS → n < vertices → IsInked (decimal n)
index_inked vertices n few below = decimal_inked n (omega arith)

faces_back : (vertices high : ℕ) → vertices ≤ MOST_ITEMS → IsReadBack face_words Face vertices vertices high (IsFace vertices)
faces_back vertices high few = record {
  written = λ t face. record {
    some = omega arith;
    few = omega arith;
    inked = (inked_by_test (codes "3") refl, (index_inked vertices t.a few face.1.0, (index_inked vertices t.b few face.1.1, (index_inked vertices t.c few face.1.2, tt))));
  };
  read = λ t done l face above below says.
      item_of-face vertices done l t above (face_of-written vertices (done - vertices) l t says few face.0 face.1);
}

-- the lines of the faces, behind all vertices
faces_read : (vertices : ℕ) (end : MeshFault) (faces : List Tri) → vertices ≤ MOST_ITEMS → AllByRecursion (IsFace vertices) faces → (at number : ℕ) → at + 105 * length faces ≤ MOST_MESH_BYTES →
    body_of vertices (length faces) vertices end (lines_at at number (flat_map face_line faces)) ≡ led_by (map Face faces) nothing_more
faces_read vertices end faces few held at number within =
    ap (λ bytes. body_of vertices (length faces) vertices end (lines_at at number bytes)) (sym (append-nil (flat_map face_line faces)))
    ∙ items_read face_words Face vertices vertices (vertices + length faces) (IsFace vertices) (faces_back vertices (vertices + length faces) few)
    (length faces) end (omega arith) faces held at number vertices [] nothing_more (omega arith) (omega arith) within
    (λ to count next h k. body_of-end vertices (length faces) next end (lines_at to count []) k)

-- the lines of the vertices, and those of the faces behind them
pub mesh_read : (end : MeshFault) (points : List Point) (faces : List Tri) → length points ≤ MOST_ITEMS → AllByRecursion IsOnGrid points → AllByRecursion (IsFace (length points)) faces → (at number : ℕ) → at + 105 * length points + 105 * length faces ≤ MOST_MESH_BYTES →
    body_of (length points) (length faces) 0 end (lines_at at number (flat_map point_line points ++ flat_map face_line faces))
    ≡ led_by (map Vertex points) (led_by (map Face faces) nothing_more)
mesh_read end points faces few grid held at number within =
    items_read point_words Vertex (length points) 0 (length points) IsOnGrid (points_back (length points))
    (length faces) end (omega arith) points grid at number 0 (flat_map face_line faces) (led_by (map Face faces) nothing_more)
    (omega arith) (omega arith) (omega arith) (λ to count next h k. after to count next h k)
  where
    after : (to count next : ℕ) → to ≤ at + 105 * length points → next ≡ 0 + length points →
        body_of (length points) (length faces) next end (lines_at to count (flat_map face_line faces)) ≡ led_by (map Face faces) nothing_more
    after to count next h k =
        ap (λ n. body_of (length points) (length faces) n end (lines_at to count (flat_map face_line faces))) (omega arith)
        ∙ faces_read (length points) end faces few held to count (omega arith)
