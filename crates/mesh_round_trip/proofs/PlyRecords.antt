-- The bytes of a vertex and of a face in PLY, and what is read of them.
use Rattle.std.proofs.Common.{◌≡◌, refl, ℕ, suc, ◌+◌, ◌-◌, ◌*◌, ◌^◌, ◌<◌, ◌≤◌, min, nat_lt, ◌==◌, if◌then◌else◌, Bool, true, false, List, [], ◌∷◌, ◌++◌, length, drop, Some, Result, Ok, Err, ℤ, pos, negsuc, ◌-ℤ◌, ap, sym, ◌∙◌, append_assoc, length-append, arith, lt-ltb, le-ltb, ne_eqb}
use Rattle.std.specs.Int.{w16, cast_unsigned}
use Rattle.std.proofs.lemmas.Int.{ints}
use Rattle.std.proofs.Math.Seq.{drop_at}
use Rattle.oemm_limits.specs.declared.TheConstants.{MOST_ITEMS, MOST_MESH_BYTES}
use Rattle.byteorder.specs.Endian.{little_number, twos_complement}
use Rattle.byteorder.specs.Numbers.{little_number-reads_back}
use Rattle.oemm_octree.specs.declared.points.Point.{Point}
use Rattle.mesh_data.specs.declared.geometry.Tri.{Tri}
use Rattle.mesh_items.specs.declared.items.Item.TheVariants as item
use Rattle.mesh_items.specs.declared.items.MeshFault.{MeshFault}
use Rattle.mesh_items.specs.declared.items.MeshFault.TheVariants.{Text}
use Rattle.mesh_items.specs.declared.items.MeshWhy.TheVariants.{NotTriangle}
use Rattle.oemm_octree.specs.Octree.{on_grid, IsOnGrid}
use Rattle.mesh_data.specs.Triangles.{IsProper, IsBelow}
use Rattle.mesh_out.specs.Ply.{short, int, ply_vertex, ply_face}
use Rattle.ply_header.specs.declared.layout.ByteOrder.TheVariants.{Little}
use Rattle.ply_header.specs.declared.layout.ScalarType.TheVariants.{U8, I16, I32}
use Rattle.ply_header.specs.declared.layout.Axis.{Axis}
use Rattle.ply_header.specs.declared.layout.Axis.TheVariants.{X, Y, Z}
use Rattle.ply_header.specs.declared.layout.Property.{Property}
use Rattle.ply_header.specs.declared.layout.Property.TheVariants.{Coordinate, Corners}
use Rattle.ply_header.specs.declared.layout.Role.TheVariants.{Vertices, Faces}
use Rattle.ply_header.specs.declared.layout.Layout.{Layout}
use Rattle.ply_reader.specs.declared.values.Values.{Values}
use Rattle.ply_reader.specs.declared.values.Record.{Record}
use Rattle.mesh_items.specs.Results.{◌>>=◌}
use Rattle.mesh_items.specs.Faces.{name_of, triangle_of}
use Rattle.ply_reader.specs.Body.{Rest, passed, number_of, number_in, no_values, moved_along, with_coordinate, count_in, list_count, index_at, triangle_at, indices_in, corners_in, property_in, properties_in, elements_passed, passed_if, led_to, vertex_in, face_of, face_in, record_in, item_in}
use Rattle.mesh_round_trip.proofs.Ink.{grid_small, grid_low}

-- what is left of a file at a place
abbrev pub rest_at : ℕ → List ℕ → Rest
rest_at at bytes = record { at = at; bytes = bytes }

-- bytes that are there are passed
passed_front : (n at : ℕ) (front tail : List ℕ) → length front ≡ n → at + n ≤ MOST_MESH_BYTES → passed n (rest_at at (front ++ tail)) ≡ Ok (rest_at (at + n) tail)
unfolding passed
passed_front n at front tail long within =
    let all : length (front ++ tail) ≡ n + length tail = length-append front tail ∙ ap (λ k. k + length tail) long in
    let inside : nat_lt MOST_MESH_BYTES (at + min n (length (front ++ tail))) ≡ false = le-ltb MOST_MESH_BYTES (at + min n (length (front ++ tail))) (omega arith) in
    let there : nat_lt (length (front ++ tail)) n ≡ false = le-ltb (length (front ++ tail)) n (omega arith) in
    let left : drop n (front ++ tail) ≡ tail = drop_at front tail n long in
    rw (inside, there, left)

-- two's complement
small_number : (k n : ℕ) → n < 2 ^ (8 * k - 1) → twos_complement k n ≡ pos n
small_number k n small = rw (lt-ltb n (2 ^ (8 * k - 1)) small)

below_zero : (n m : ℕ) → n ≤ 32767 → m ≡ 65536 - suc n → pos m -ℤ pos 65536 ≡ negsuc n
below_zero n m small is = omega (arith, ints)

large_number : (n m : ℕ) → n ≤ 32767 → m ≡ 65536 - suc n → twos_complement 2 m ≡ negsuc n
large_number n m small is = rw (le-ltb m 32768 (omega arith)) (below_zero n m small is)

complement : (x : ℤ) → on_grid x ≡ true → twos_complement 2 (cast_unsigned w16 x) ≡ x
complement (pos n) grid = let low = grid_low n grid in small_number 2 n (omega arith)
complement (negsuc n) grid = let small = grid_small (negsuc n) grid in large_number n (65536 - suc n) (omega arith) refl

fits_short : (x : ℤ) → on_grid x ≡ true → cast_unsigned w16 x < 256 ^ 2
fits_short (pos n) grid = let low = grid_low n grid in omega arith
fits_short (negsuc n) grid = omega arith

short_is : (x : ℤ) (tail : List ℕ) → on_grid x ≡ true → number_of Little I16 (short x ++ tail) ≡ x
unfolding short
short_is x tail grid = ap (twos_complement 2) (little_number-reads_back 2 (cast_unsigned w16 x) tail (fits_short x grid)) ∙ complement x grid

length-short : (x : ℤ) → length (short x) ≡ 2
unfolding short
length-short x = refl

number_passed : (x : ℤ) (at : ℕ) (tail : List ℕ) → on_grid x ≡ true → at + 2 ≤ MOST_MESH_BYTES → number_in Little I16 (rest_at at (short x ++ tail)) ≡ Ok (x, rest_at (at + 2) tail)
number_passed x at tail grid within =
    ap (λ (p : Result Rest MeshFault). p >>= λ behind. Ok (number_of Little I16 (short x ++ tail), behind)) (passed_front 2 at (short x) tail (length-short x) within)
    ∙ ap (λ z. Ok (z, rest_at (at + 2) tail)) (short_is x tail grid)

-- a record of a file with its low bytes first
abbrev little : ℕ → ℕ → ℕ → Record
little place number vertices = record { order = Little; at = place; number = number; vertices = vertices }

coordinate_read : (place number vertices : ℕ) (axis : Axis) (x : ℤ) (v : Values) (at : ℕ) (tail : List ℕ) → on_grid x ≡ true → at + 2 ≤ MOST_MESH_BYTES →
    property_in (little place number vertices) (Coordinate axis I16) v (rest_at at (short x ++ tail))
    ≡ Ok (record v { point = moved_along axis x v.point }, rest_at (at + 2) tail)
unfolding property_in
coordinate_read place number vertices axis x v at tail grid within =
    ap (λ (n : Result (ℤ × Rest) MeshFault). n >>= λ n. with_coordinate (little place number vertices) axis n.0 v >>= λ w. Ok (w, n.1)) (number_passed x at tail grid within)
    ∙ rw grid

properties_next : (rec : Record) (p : Property) (ps : List Property) (v w : Values) (r s : Rest) → property_in rec p v r ≡ Ok (w, s) → properties_in rec (p ∷ ps) v r ≡ properties_in rec ps w s
unfolding properties_in
properties_next rec p ps v w r s is = ap (λ (o : Result (Values × Rest) MeshFault). o >>= λ w. properties_in rec ps w.0 w.1) is

properties_none : (rec : Record) (v : Values) (r : Rest) → properties_in rec [] v r ≡ Ok (v, r)
unfolding properties_in
properties_none rec v r = refl

-- the coordinates of a vertex, and the indices of a face
abbrev pub along_axes : List Property
along_axes = Coordinate X I16 ∷ Coordinate Y I16 ∷ Coordinate Z I16 ∷ []

abbrev pub of_corners : List Property
of_corners = Corners U8 I32 ∷ []

-- what stands behind the header of a mesh
abbrev pub written_layout : ℕ → ℕ → Layout
written_layout v f = record {
  order = Little;
  before = [];
  vertex = record { role = Vertices; count = v; properties = along_axes };
  between = [];
  face = record { role = Faces; count = f; properties = of_corners };
}

abbrev pub with_point : Point → Values
with_point p = record no_values { point = p }

point_read : (place number vertices at : ℕ) (p : Point) (tail : List ℕ) → IsOnGrid p → at + 6 ≤ MOST_MESH_BYTES →
    properties_in (little place number vertices) along_axes no_values (rest_at at (short p.x ++ (short p.y ++ (short p.z ++ tail)))) ≡ Ok (with_point p, rest_at (at + 2 + 2 + 2) tail)
point_read place number vertices at p tail grid within =
    let rec : Record = little place number vertices in
    let one : Values = with_point (record { x = p.x; y = pos 0; z = pos 0 }) in
    let two : Values = with_point (record { x = p.x; y = p.y; z = pos 0 }) in
    properties_next rec (Coordinate X I16) (Coordinate Y I16 ∷ Coordinate Z I16 ∷ []) no_values one
    (rest_at at (short p.x ++ (short p.y ++ (short p.z ++ tail)))) (rest_at (at + 2) (short p.y ++ (short p.z ++ tail)))
    (coordinate_read place number vertices X p.x no_values at (short p.y ++ (short p.z ++ tail)) grid.0 (omega arith))
    ∙ properties_next rec (Coordinate Y I16) (Coordinate Z I16 ∷ []) one two
    (rest_at (at + 2) (short p.y ++ (short p.z ++ tail))) (rest_at (at + 2 + 2) (short p.z ++ tail))
    (coordinate_read place number vertices Y p.y one (at + 2) (short p.z ++ tail) grid.1 (omega arith))
    ∙ properties_next rec (Coordinate Z I16) [] two (with_point p)
    (rest_at (at + 2 + 2) (short p.z ++ tail)) (rest_at (at + 2 + 2 + 2) tail)
    (coordinate_read place number vertices Z p.z two (at + 2 + 2) tail grid.2 (omega arith))
    ∙ properties_none rec (with_point p) (rest_at (at + 2 + 2 + 2) tail)

vertex_parts : (p : Point) (tail : List ℕ) → ply_vertex p ++ tail ≡ short p.x ++ (short p.y ++ (short p.z ++ tail))
vertex_parts p tail = append_assoc (short p.x) (short p.y ++ short p.z) tail ∙ ap (λ (t : List ℕ). short p.x ++ t) (append_assoc (short p.y) (short p.z) tail)

vertex_read : (v f number at : ℕ) (p : Point) (tail : List ℕ) → IsOnGrid p → at + 6 ≤ MOST_MESH_BYTES →
    vertex_in (written_layout v f) number (rest_at at (ply_vertex p ++ tail)) ≡ Ok (item.Vertex p, rest_at (at + 2 + 2 + 2) tail)
unfolding vertex_in
vertex_read v f number at p tail grid within =
    ap (λ (o : Result (Values × Rest) MeshFault). o >>= λ w. Ok (item.Vertex w.0.point, w.1))
    (ap (λ (t : List ℕ). properties_in (little at number v) along_axes no_values (rest_at at t)) (vertex_parts p tail)
    ∙ point_read at number v at p tail grid within)

length-int : (a : ℕ) → length (int a) ≡ 4
unfolding int
length-int a = refl

index_read : (place number vertices a : ℕ) (tail : List ℕ) → a < vertices → vertices ≤ MOST_ITEMS → index_at (little place number vertices) I32 (int a ++ tail) ≡ Some a
unfolding int
index_read place number vertices a tail below few =
    let back : little_number 4 (int a ++ tail) ≡ a = little_number-reads_back 4 a tail (omega arith) in
    ap (λ n. name_of vertices (twos_complement 4 n)) back ∙ ap (name_of vertices) (small_number 4 a (omega arith)) ∙ rw (lt-ltb a vertices below)

triangle_proper : (at face : ℕ) (t : Tri) → IsProper t → triangle_of at face (Some t.a) (Some t.b) (Some t.c) ≡ Ok t
unfolding triangle_of
triangle_proper at face t proper = rw (ne_eqb t.a t.b proper.0, ne_eqb t.b t.c proper.1, ne_eqb t.c t.a proper.2)

triangle_read : (place number vertices : ℕ) (t : Tri) (tail : List ℕ) → IsProper t → IsBelow vertices t → vertices ≤ MOST_ITEMS →
    triangle_at (little place number vertices) I32 (int t.a ++ (int t.b ++ (int t.c ++ tail))) ≡ Ok t
triangle_read place number vertices t tail proper below few =
    let rec : Record = little place number vertices in
    let bytes : List ℕ = int t.a ++ (int t.b ++ (int t.c ++ tail)) in
    let i : index_at rec I32 bytes ≡ Some t.a = index_read place number vertices t.a (int t.b ++ (int t.c ++ tail)) below.0 few in
    let second : drop 4 bytes ≡ int t.b ++ (int t.c ++ tail) = drop_at (int t.a) (int t.b ++ (int t.c ++ tail)) 4 (length-int t.a) in
    let both : length (int t.a ++ int t.b) ≡ 8 = length-append (int t.a) (int t.b) ∙ omega (arith, length-int t.a, length-int t.b) in
    let third : drop 8 bytes ≡ int t.c ++ tail =
    ap (drop 8) (sym (append_assoc (int t.a) (int t.b) (int t.c ++ tail))) ∙ drop_at (int t.a ++ int t.b) (int t.c ++ tail) 8 both in
    let j : index_at rec I32 (drop 4 bytes) ≡ Some t.b =
    ap (index_at rec I32) second ∙ index_read place number vertices t.b (int t.c ++ tail) below.1 few in
    let k : index_at rec I32 (drop 8 bytes) ≡ Some t.c =
    ap (index_at rec I32) third ∙ index_read place number vertices t.c tail below.2 few in
    ap (λ o. triangle_of place number o (index_at rec I32 (drop 4 bytes)) (index_at rec I32 (drop 8 bytes))) i
    ∙ ap (λ o. triangle_of place number (Some t.a) o (index_at rec I32 (drop 8 bytes))) j
    ∙ ap (λ o. triangle_of place number (Some t.a) (Some t.b) o) k
    ∙ triangle_proper place number t proper

indices_parts : (t : Tri) (tail : List ℕ) → (int t.a ++ (int t.b ++ int t.c)) ++ tail ≡ int t.a ++ (int t.b ++ (int t.c ++ tail))
indices_parts t tail = append_assoc (int t.a) (int t.b ++ int t.c) tail ∙ ap (λ (s : List ℕ). int t.a ++ s) (append_assoc (int t.b) (int t.c) tail)

length-indices : (t : Tri) → length (int t.a ++ (int t.b ++ int t.c)) ≡ 12
length-indices t =
    omega (arith, length-append (int t.a) (int t.b ++ int t.c), length-append (int t.b) (int t.c), length-int t.a, length-int t.b, length-int t.c)

indices_read : (place number vertices at : ℕ) (t : Tri) (tail : List ℕ) → IsProper t → IsBelow vertices t → vertices ≤ MOST_ITEMS → at + 12 ≤ MOST_MESH_BYTES →
    indices_in (little place number vertices) I32 (rest_at at ((int t.a ++ (int t.b ++ int t.c)) ++ tail)) ≡ Ok (t, rest_at (at + 12) tail)
unfolding indices_in
indices_read place number vertices at t tail proper below few within =
    let rec : Record = little place number vertices in
    let bytes : List ℕ = (int t.a ++ (int t.b ++ int t.c)) ++ tail in
    ap (λ (p : Result Rest MeshFault). p >>= λ behind. triangle_at rec I32 bytes >>= λ t. Ok (t, behind))
    (passed_front 12 at (int t.a ++ (int t.b ++ int t.c)) tail (length-indices t) within)
    ∙ ap (λ (o : Result Tri MeshFault). o >>= λ t. Ok (t, rest_at (at + 12) tail))
    (ap (triangle_at rec I32) (indices_parts t tail) ∙ triangle_read place number vertices t tail proper below few)

three_passed : (at : ℕ) (more : List ℕ) → at + 1 ≤ MOST_MESH_BYTES → number_in Little U8 (rest_at at (3 ∷ more)) ≡ Ok (pos 3, rest_at (at + 1) more)
three_passed at more within =
    ap (λ (p : Result Rest MeshFault). p >>= λ behind. Ok (number_of Little U8 (3 ∷ more), behind)) (passed_front 1 at (3 ∷ []) more refl within)

count_read : (place number vertices at : ℕ) (more : List ℕ) → at + 1 ≤ MOST_MESH_BYTES → count_in (little place number vertices) U8 (rest_at at (3 ∷ more)) ≡ Ok (3, rest_at (at + 1) more)
count_read place number vertices at more within =
    ap (λ (c : Result (ℤ × Rest) MeshFault). c >>= λ c. list_count (little place number vertices) c.0 >>= λ n. Ok (n, c.1)) (three_passed at more within)

corners_read : (place number vertices at : ℕ) (t : Tri) (tail : List ℕ) → IsProper t → IsBelow vertices t → vertices ≤ MOST_ITEMS → at + 13 ≤ MOST_MESH_BYTES →
    corners_in (little place number vertices) U8 I32 (rest_at at (ply_face t ++ tail)) ≡ Ok (t, rest_at (at + 1 + 12) tail)
unfolding corners_in
corners_read place number vertices at t tail proper below few within =
    let rec : Record = little place number vertices in
    ap (λ (o : Result (ℕ × Rest) MeshFault). o >>= λ c. if c.0 == 3 then indices_in rec I32 c.1 else Err (Text rec.at (NotTriangle rec.number)))
    (count_read place number vertices at ((int t.a ++ (int t.b ++ int t.c)) ++ tail) (omega arith))
    ∙ indices_read place number vertices (at + 1) t tail proper below few (omega arith)

face_read : (v f number at : ℕ) (t : Tri) (tail : List ℕ) → IsProper t → IsBelow v t → v ≤ MOST_ITEMS → at + 13 ≤ MOST_MESH_BYTES →
    face_in (written_layout v f) number (rest_at at (ply_face t ++ tail)) ≡ Ok (item.Face t, rest_at (at + 1 + 12) tail)
unfolding face_in property_in
face_read v f number at t tail proper below few within =
    let rec : Record = little at number v in
    let held : Values = record no_values { face = Some t } in
    ap (λ (o : Result (Values × Rest) MeshFault). o >>= λ w. face_of at w.0 >>= λ face. Ok (face, w.1))
    (properties_next rec (Corners U8 I32) [] no_values held (rest_at at (ply_face t ++ tail)) (rest_at (at + 1 + 12) tail)
    (ap (λ (o : Result (Tri × Rest) MeshFault). o >>= λ t. Ok (record no_values { face = Some t.0 }, t.1)) (corners_read at number v at t tail proper below few within))
    ∙ properties_none rec held (rest_at (at + 1 + 12) tail))

-- no foreign element stands in front
none_foreign : (here : Bool) (r : Rest) → passed_if here Little [] r ≡ Ok r
unfolding elements_passed
none_foreign true r = refl
none_foreign false r = refl

led_straight : (v f done : ℕ) (r : Rest) → led_to (written_layout v f) done r ≡ Ok r
unfolding led_to
led_straight v f done r =
    ap (λ (o : Result Rest MeshFault). o >>= passed_if (done == v) Little []) (none_foreign (done == 0) r) ∙ none_foreign (done == v) r

item_straight : (v f done : ℕ) (r : Rest) → item_in (written_layout v f) done r ≡ record_in (written_layout v f) done r
unfolding item_in
item_straight v f done r = ap (λ (o : Result Rest MeshFault). o >>= record_in (written_layout v f) done) (led_straight v f done r)

-- the vertex behind so many, and the face behind so many vertices and faces
pub vertex_item : (v f done at : ℕ) (p : Point) (tail : List ℕ) → done < v → IsOnGrid p → at + 13 ≤ MOST_MESH_BYTES →
    item_in (written_layout v f) done (rest_at at (ply_vertex p ++ tail)) ≡ Ok (item.Vertex p, rest_at (at + 2 + 2 + 2) tail)
vertex_item v f done at p tail below grid within =
    item_straight v f done (rest_at at (ply_vertex p ++ tail))
    ∙ rw (lt-ltb done v below) (vertex_read v f done at p tail grid (omega arith))

pub face_item : (v f done at : ℕ) (t : Tri) (tail : List ℕ) → v ≤ done → IsProper t → IsBelow v t → v ≤ MOST_ITEMS → at + 13 ≤ MOST_MESH_BYTES →
    item_in (written_layout v f) done (rest_at at (ply_face t ++ tail)) ≡ Ok (item.Face t, rest_at (at + 1 + 12) tail)
face_item v f done at t tail behind proper below few within =
    item_straight v f done (rest_at at (ply_face t ++ tail))
    ∙ rw (le-ltb done v behind) (face_read v f (done - v) at t tail proper below few within)
