-- What the words of a line that is written are read as.
use Rattle.std.proofs.Common.{◌≡◌, ℕ, ◌+◌, ◌<◌, ◌≤◌, true, false, List, [], ◌∷◌, length, drop, Some, None, Result, Ok, if◌then◌else◌, ℤ, pos, refl, ap, ◌∙◌, arith, codes, lt-ltb, ne_eqb}
use Rattle.std.specs.List.{AllByRecursion, list_all, slice_get}
use Rattle.std.specs.Fmt.{decimal, signed_decimal}
use Rattle.std.proofs.lemmas.List.{drop_all}
use Rattle.std.proofs.lemmas.Bool.Decides.{nat_tests}
use Rattle.oemm_limits.specs.declared.TheConstants.{MOST_ITEMS}
use Rattle.oemm_octree.specs.declared.points.Point.{Point}
use Rattle.mesh_data.specs.declared.geometry.Tri.{Tri}
use Rattle.oemm_limits.specs.declared.what.What.{What}
use Rattle.oemm_limits.specs.declared.what.What.TheVariants.{Vertices, Faces}
use Rattle.mesh_items.specs.declared.items.MeshFault.{MeshFault}
use Rattle.oemm_octree.specs.Octree.{on_grid, IsOnGrid}
use Rattle.mesh_data.specs.Triangles.{IsProper, IsBelow}
use Rattle.oemm_lines.specs.declared.parts.Line.{Line}
use Rattle.oemm_lines.specs.Numbers.{unsigned_of, integer_of}
use Rattle.oemm_lines.proofs.NumberLaws.{unsigned_of-decimal, integer_of-decimal}
use Rattle.off_reader.specs.Numbers.{signed_of, coordinate_in, is_point, is_zero, before_point, behind_point}
use Rattle.mesh_items.specs.Faces.{triangle_of}
use Rattle.oemm_lines.specs.Stream.{texts_of}
use Rattle.off_reader.specs.Grammar.{word_as, limited, count_of, counts_of, coordinate_of, vertex_of, corners_of, index_of, face_of}
use Rattle.mesh_round_trip.proofs.Ink.{IsInk, IsInked, decimal_inked, grid_small, coordinate_inked, signed_no_point}
use Rattle.mesh_round_trip.proofs.Lines.{place_of_none, before_none}

-- a word with no plus in front
signed_of-ink : (word : List ℕ) → AllByRecursion IsInk word → 0 < length word → signed_of word ≡ integer_of word
unfolding signed_of
signed_of-ink [] ink some = absurd (omega arith)
signed_of-ink (c ∷ cs) ink some = rw (ne_eqb c 43 (omega arith))

-- a word with no point
coordinate_in-whole : (word : List ℕ) → AllByRecursion (λ c. is_point c ≡ false) word → coordinate_in word ≡ signed_of word
unfolding coordinate_in
coordinate_in-whole word whole =
    let none : behind_point word ≡ [] =
    ap (λ n. drop (n + 1) word) (place_of_none is_point word whole) ∙ drop_all (length word + 1) word (omega arith) in
    ap (λ (t : List ℕ). if list_all is_zero t then signed_of (before_point word) else None) none
    ∙ ap signed_of (before_none is_point word whole)

-- a whole number is read as itself
coordinate_in-written : (z : ℤ) → on_grid z ≡ true → coordinate_in (signed_decimal z) ≡ Some z
coordinate_in-written z grid =
    let inked : IsInked (signed_decimal z) = coordinate_inked z grid in
    let small = grid_small z grid in
    coordinate_in-whole (signed_decimal z) (signed_no_point z small)
    ∙ signed_of-ink (signed_decimal z) inked.ink inked.some
    ∙ integer_of-decimal z (omega arith)

-- a word of a line by its place
word_as-at : {A : Type 0} (read : List ℕ → Result A MeshFault) (place : ℕ) (l : Line) (words : List (List ℕ)) (word : List ℕ) (a : A) → texts_of l ≡ words → slice_get words place ≡ Some word → read word ≡ Ok a → word_as read place l ≡ Ok a
unfolding word_as
word_as-at read place l words word a says there is =
    let found : slice_get (texts_of l) place ≡ Some word = ap (λ t. slice_get t place) says ∙ there in
    rw (found, is)

coordinate_of-found : (at vertex : ℕ) (word : List ℕ) (n : ℤ) → coordinate_in word ≡ Some n → on_grid n ≡ true → coordinate_of at vertex word ≡ Ok n
unfolding coordinate_of
coordinate_of-found at vertex word n found grid = rw (found, grid)

-- the line of a point
pub vertex_of-written : (vertex : ℕ) (l : Line) (p : Point) → texts_of l ≡ signed_decimal p.x ∷ signed_decimal p.y ∷ signed_decimal p.z ∷ [] → IsOnGrid p → vertex_of vertex l ≡ Ok p
unfolding vertex_of
vertex_of-written vertex l p says grid =
    let words : List (List ℕ) = signed_decimal p.x ∷ signed_decimal p.y ∷ signed_decimal p.z ∷ [] in
    let x = word_as-at (coordinate_of l.at vertex) 0 l words (signed_decimal p.x) p.x says refl (coordinate_of-found l.at vertex (signed_decimal p.x) p.x (coordinate_in-written p.x grid.0) grid.0) in
    let y = word_as-at (coordinate_of l.at vertex) 1 l words (signed_decimal p.y) p.y says refl (coordinate_of-found l.at vertex (signed_decimal p.y) p.y (coordinate_in-written p.y grid.1) grid.1) in
    let z = word_as-at (coordinate_of l.at vertex) 2 l words (signed_decimal p.z) p.z says refl (coordinate_of-found l.at vertex (signed_decimal p.z) p.z (coordinate_in-written p.z grid.2) grid.2) in
    rw (x, y, z)

limited-within : (at : ℕ) (what : What) (n : ℕ) → n ≤ MOST_ITEMS → limited at what n ≡ Ok n
limited-within at what n few = grind (arith, nat_tests)

count_of-found : (at : ℕ) (what : What) (word : List ℕ) (n : ℕ) → unsigned_of word ≡ Some n → n ≤ MOST_ITEMS → count_of at what word ≡ Ok n
unfolding count_of
count_of-found at what word n found few = rw found (limited-within at what n few)

count_of-written : (at : ℕ) (what : What) (n : ℕ) → n ≤ MOST_ITEMS → count_of at what (decimal n) ≡ Ok n
count_of-written at what n few = count_of-found at what (decimal n) n (unsigned_of-decimal n (omega arith)) few

-- the line of the counts
pub counts_of-written : (l : Line) (v f : ℕ) (words : List (List ℕ)) → texts_of l ≡ decimal v ∷ decimal f ∷ words → v ≤ MOST_ITEMS → f ≤ MOST_ITEMS → counts_of 0 l ≡ Ok (v, f)
unfolding counts_of
counts_of-written l v f words says few fewer =
    let all : List (List ℕ) = decimal v ∷ decimal f ∷ words in
    let vertices = word_as-at (count_of l.at Vertices) 0 l all (decimal v) v says refl (count_of-written l.at Vertices v few) in
    let faces = word_as-at (count_of l.at Faces) 1 l all (decimal f) f says refl (count_of-written l.at Faces f fewer) in
    rw (vertices, faces)

corners_of-three : (at face : ℕ) → corners_of at face (codes "3") ≡ Ok 3
unfolding corners_of unsigned_of
corners_of-three at face = refl

index_of-found : (at vertices : ℕ) (word : List ℕ) (n : ℕ) → signed_of word ≡ Some (pos n) → n < vertices → index_of at vertices word ≡ Ok (Some n)
unfolding index_of
index_of-found at vertices word n found below = rw (found, lt-ltb n vertices below)

index_of-written : (at vertices n : ℕ) → vertices ≤ MOST_ITEMS → n < vertices → index_of at vertices (decimal n) ≡ Ok (Some n)
index_of-written at vertices n few below =
    let inked : IsInked (decimal n) = decimal_inked n (omega arith) in
    index_of-found at vertices (decimal n) n
    (signed_of-ink (decimal n) inked.ink inked.some ∙ integer_of-decimal (pos n) (omega arith)) below

triangle_of-proper : (at face : ℕ) (t : Tri) → IsProper t → triangle_of at face (Some t.a) (Some t.b) (Some t.c) ≡ Ok t
unfolding triangle_of
triangle_of-proper at face t proper = rw (ne_eqb t.a t.b proper.0, ne_eqb t.b t.c proper.1, ne_eqb t.c t.a proper.2)

-- the line of a face
pub face_of-written : (vertices face : ℕ) (l : Line) (t : Tri) → texts_of l ≡ codes "3" ∷ decimal t.a ∷ decimal t.b ∷ decimal t.c ∷ [] → vertices ≤ MOST_ITEMS → IsProper t → IsBelow vertices t → face_of vertices face l ≡ Ok t
unfolding face_of
face_of-written vertices face l t says few proper below =
    let words : List (List ℕ) = codes "3" ∷ decimal t.a ∷ decimal t.b ∷ decimal t.c ∷ [] in
    let corners = word_as-at (corners_of l.at face) 0 l words (codes "3") 3 says refl (corners_of-three l.at face) in
    let i = word_as-at (index_of l.at vertices) 1 l words (decimal t.a) (Some t.a) says refl (index_of-written l.at vertices t.a few below.0) in
    let j = word_as-at (index_of l.at vertices) 2 l words (decimal t.b) (Some t.b) says refl (index_of-written l.at vertices t.b few below.1) in
    let k = word_as-at (index_of l.at vertices) 3 l words (decimal t.c) (Some t.c) says refl (index_of-written l.at vertices t.c few below.2) in
    rw (corners, i, j, k) (triangle_of-proper l.at face t proper)
