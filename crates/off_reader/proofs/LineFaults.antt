-- What the words of a line are read as, and why the line is refused.
use Rattle.std.proofs.Common.{◌≡◌, ◌≢◌, ℕ, zero, suc, ◌+◌, ◌^◌, ◌<◌, ◌≤◌, ◌||◌, ◌==◌, if◌then◌else◌, Bool, true, false, length, Option, Some, None, Result, Ok, Err, ℤ, pos, negsuc, refl, ap, ◌∙◌, ◌⊎◌, inl, inr, ne_eqb, eq-eqb, arith}
use Rattle.std.specs.Prelude.{slice_get}
use Rattle.std.specs.Option.{option_map}
use Rattle.std.proofs.lemmas.Bool.{false≢true, lt-ltb, le-ltb, lt-leb, le-leb}
use Rattle.std.proofs.lemmas.Option.{slice_get-map, slice_get_past}
use Rattle.oemm_limits.specs.declared.TheConstants.{MOST_ITEMS}
use Rattle.oemm_octree.specs.Octree.{on_grid, IsOnGrid}
use Rattle.mesh_data.specs.Triangles.{IsProper, IsBelow}
use Rattle.oemm_octree.specs.declared.points.Point.{Point}
use Rattle.mesh_data.specs.declared.geometry.Tri.{Tri}
use Rattle.oemm_limits.specs.declared.what.What.{What}
use Rattle.oemm_limits.specs.declared.what.What.TheVariants.{Vertices, Faces}
use Rattle.mesh_items.specs.declared.items.MeshFault.{MeshFault}
use Rattle.mesh_items.specs.declared.items.MeshFault.TheVariants.{Text, TooMany}
use Rattle.mesh_items.specs.declared.items.MeshWhy.TheVariants.{Words, Number, NotInteger, OutOfRange, NotTriangle, BadIndex, Repeated}
use Rattle.oemm_lines.specs.declared.parts.Line.{Line}
use Rattle.oemm_lines.specs.Stream.{texts_of, word_in}
use Rattle.mesh_items.specs.Faces.{name_of, triangle_of}
use Rattle.off_reader.specs.Grammar.{word_as, count_of, counts_of, limited, coordinate_of, vertex_of, corners_of, index_of, face_of}
use Rattle.off_reader.specs.LineWords.{NumberStandsAt, NoNumberStandsAt, CoordinateStandsAt, GridStandsAt, NoCoordinateStandsAt, GridStandsBefore, IndexStandsAt, NoIndexStandsAt, IndicesStandBefore, IndicesStandOn, IsNoVertex}

-- no word stands behind the last one
word_missing : (place : ℕ) (l : Line) → length l.words ≤ place → slice_get (texts_of l) place ≡ None
word_missing place l short = slice_get-map (word_in l.bytes) l.words place ∙ ap (option_map (word_in l.bytes)) (slice_get_past l.words place short)

-- the count at a place
abbrev pub count_at : What → ℕ → Line → Result ℕ MeshFault
count_at what place l = word_as (count_of l.at what) place l

pub count_missing : (what : What) (place : ℕ) (l : Line) → length l.words ≤ place → count_at what place l ≡ Err (Text l.at Words)
unfolding word_as
count_missing what place l short = rw (word_missing place l short) refl

pub count_no_number : (what : What) (place : ℕ) (l : Line) → NoNumberStandsAt l place → count_at what place l ≡ Err (Text l.at Number)
unfolding word_as count_of
count_no_number what place l (word, stands, is) = rw (stands, is) refl

count_number : (what : What) (place n : ℕ) (l : Line) → NumberStandsAt l place n → count_at what place l ≡ limited l.at what n
unfolding word_as count_of
count_number what place n l (word, stands, is) = rw (stands, is) refl

pub count_long : (what : What) (place n : ℕ) (l : Line) → NumberStandsAt l place n → 2 ^ 64 ≤ n → count_at what place l ≡ Err (Text l.at Number)
count_long what place n l stands long = count_number what place n l stands ∙ rw (le-leb (2 ^ 64) n long) refl

pub count_many : (what : What) (place n : ℕ) (l : Line) → NumberStandsAt l place n → MOST_ITEMS < n → n < 2 ^ 64 → count_at what place l ≡ Err (TooMany what n)
count_many what place n l stands many fits = count_number what place n l stands ∙ rw (lt-leb (2 ^ 64) n fits, lt-ltb MOST_ITEMS n many) refl

pub count_read : (what : What) (place n : ℕ) (l : Line) → NumberStandsAt l place n → n ≤ MOST_ITEMS → count_at what place l ≡ Ok n
count_read what place n l stands few = count_number what place n l stands ∙ rw (lt-leb (2 ^ 64) n (omega (arith, few)), le-ltb MOST_ITEMS n few) refl

-- the counts, once those of the words are known
pub counts_read : (place v f : ℕ) (l : Line) → count_at Vertices place l ≡ Ok v → count_at Faces (place + 1) l ≡ Ok f → counts_of place l ≡ Ok (v, f)
unfolding counts_of
counts_read place v f l vertices faces = rw (vertices, faces) refl

pub vertices_refused : (place : ℕ) (l : Line) (fault : MeshFault) → count_at Vertices place l ≡ Err fault → counts_of place l ≡ Err fault
unfolding counts_of
vertices_refused place l fault is = rw is refl

pub faces_refused : (place v : ℕ) (l : Line) (fault : MeshFault) → count_at Vertices place l ≡ Ok v → count_at Faces (place + 1) l ≡ Err fault → counts_of place l ≡ Err fault
unfolding counts_of
faces_refused place v l fault vertices is = rw (vertices, is) refl

-- a coordinate, and the first one that is refused
abbrev pub coordinate_at : ℕ → ℕ → Line → Result ℤ MeshFault
coordinate_at vertex place l = word_as (coordinate_of l.at vertex) place l

coordinate_read : (vertex place : ℕ) (n : ℤ) (l : Line) → CoordinateStandsAt l place n → on_grid n ≡ true → coordinate_at vertex place l ≡ Ok n
unfolding word_as coordinate_of
coordinate_read vertex place n l (word, stands, is) on = rw (stands, is, on) refl

pub point_read : (vertex : ℕ) (p : Point) (l : Line) → CoordinateStandsAt l 0 p.x → CoordinateStandsAt l 1 p.y → CoordinateStandsAt l 2 p.z → IsOnGrid p → vertex_of vertex l ≡ Ok p
unfolding vertex_of
point_read vertex p l x y z on = rw (coordinate_read vertex 0 p.x l x on.0, coordinate_read vertex 1 p.y l y on.1, coordinate_read vertex 2 p.z l z on.2) refl

pub coordinate_missing : (vertex place : ℕ) (l : Line) → length l.words ≤ place → coordinate_at vertex place l ≡ Err (Text l.at Words)
unfolding word_as
coordinate_missing vertex place l short = rw (word_missing place l short) refl

pub coordinate_not_whole : (vertex place : ℕ) (decimal : Bool) (l : Line) → NoCoordinateStandsAt l place decimal → coordinate_at vertex place l ≡ Err (Text l.at (if decimal then NotInteger vertex else Number))
unfolding word_as coordinate_of
coordinate_not_whole vertex place decimal l (word, stands, none, is) = rw (stands, none, is) refl

pub coordinate_off_grid : (vertex place : ℕ) (n : ℤ) (l : Line) → CoordinateStandsAt l place n → on_grid n ≡ false → coordinate_at vertex place l ≡ Err (Text l.at (OutOfRange vertex))
unfolding word_as coordinate_of
coordinate_off_grid vertex place n l (word, stands, is) off = rw (stands, is, off) refl

grid_read : (vertex place : ℕ) (l : Line) (stands : GridStandsAt l place) → coordinate_at vertex place l ≡ Ok stands.0
grid_read vertex place l stands = coordinate_read vertex place stands.0 l stands.1 stands.2

pub vertex_refused : (vertex place : ℕ) (l : Line) (fault : MeshFault) → place < 3 → GridStandsBefore l place → coordinate_at vertex place l ≡ Err fault → vertex_of vertex l ≡ Err fault
unfolding vertex_of
vertex_refused vertex zero l fault within before is = rw is refl
vertex_refused vertex (suc zero) l fault within before is = rw (grid_read vertex 0 l (before 0 (omega arith)), is) refl
vertex_refused vertex (suc (suc zero)) l fault within before is = rw (grid_read vertex 0 l (before 0 (omega arith)), grid_read vertex 1 l (before 1 (omega arith)), is) refl
vertex_refused vertex (suc (suc (suc place))) l fault within before is = absurd (omega (arith, within))

-- the count of corners, and the first index that is refused
corners_read : (face n : ℕ) (l : Line) → NumberStandsAt l 0 n → word_as (corners_of l.at face) 0 l ≡ (if n == 3 then Ok 3 else Err (Text l.at (NotTriangle face)))
unfolding word_as corners_of
corners_read face n l (word, stands, is) = rw (stands, is) refl

pub corners_missing : (face : ℕ) (l : Line) → length l.words ≡ 0 → word_as (corners_of l.at face) 0 l ≡ Err (Text l.at Words)
unfolding word_as
corners_missing face l none = rw (word_missing 0 l (omega (arith, none))) refl

pub corners_no_number : (face : ℕ) (l : Line) → NoNumberStandsAt l 0 → word_as (corners_of l.at face) 0 l ≡ Err (Text l.at Number)
unfolding word_as corners_of
corners_no_number face l (word, stands, is) = rw (stands, is) refl

pub corners_other : (face n : ℕ) (l : Line) → NumberStandsAt l 0 n → n ≢ 3 → word_as (corners_of l.at face) 0 l ≡ Err (Text l.at (NotTriangle face))
corners_other face n l stands other = corners_read face n l stands ∙ rw (ne_eqb n 3 other) refl

pub corners_refused : (vertices face : ℕ) (l : Line) (fault : MeshFault) → word_as (corners_of l.at face) 0 l ≡ Err fault → face_of vertices face l ≡ Err fault
unfolding face_of
corners_refused vertices face l fault is = rw is refl

abbrev pub index_at : ℕ → ℕ → Line → Result (Option ℕ) MeshFault
index_at vertices place l = word_as (index_of l.at vertices) place l

index_read : (vertices place : ℕ) (n : ℤ) (l : Line) → IndexStandsAt l place n → index_at vertices place l ≡ Ok (name_of vertices n)
unfolding word_as index_of
index_read vertices place n l (word, stands, is) = rw (stands, is) refl

pub index_missing : (vertices place : ℕ) (l : Line) → length l.words ≤ place → index_at vertices place l ≡ Err (Text l.at Words)
unfolding word_as
index_missing vertices place l short = rw (word_missing place l short) refl

pub index_no_number : (vertices place : ℕ) (l : Line) → NoIndexStandsAt l place → index_at vertices place l ≡ Err (Text l.at Number)
unfolding word_as index_of
index_no_number vertices place l (word, stands, is) = rw (stands, is) refl

before_read : (vertices place : ℕ) (l : Line) (stands : (n : ℤ) × IndexStandsAt l place n) → index_at vertices place l ≡ Ok (name_of vertices stands.0)
before_read vertices place l stands = index_read vertices place stands.0 l stands.1

pub index_refused : (vertices face place : ℕ) (l : Line) (fault : MeshFault) → 0 < place → place < 4 → IndicesStandBefore l place → index_at vertices place l ≡ Err fault → face_of vertices face l ≡ Err fault
unfolding face_of
index_refused vertices face zero l fault front within before is = absurd (omega (arith, front))
index_refused vertices face (suc zero) l fault front within before is = rw (corners_read face 3 l before.0, is) refl
index_refused vertices face (suc (suc zero)) l fault front within before is =
    rw (corners_read face 3 l before.0, before_read vertices 1 l (before.1 1 (omega arith) (omega arith)), is) refl
index_refused vertices face (suc (suc (suc zero))) l fault front within before is =
    rw (corners_read face 3 l before.0, before_read vertices 1 l (before.1 1 (omega arith) (omega arith)), before_read vertices 2 l (before.1 2 (omega arith) (omega arith)), is) refl
index_refused vertices face (suc (suc (suc (suc place)))) l fault front within before is = absurd (omega (arith, within))

-- three indices are read as what they mean
indices_read : (vertices face : ℕ) (l : Line) (i j k : ℤ) → IndicesStandOn l i j k → face_of vertices face l ≡ triangle_of l.at face (name_of vertices i) (name_of vertices j) (name_of vertices k)
unfolding face_of
indices_read vertices face l i j k stand =
    rw (corners_read face 3 l stand.0, index_read vertices 1 i l stand.1, index_read vertices 2 j l stand.2, index_read vertices 3 k l stand.3) refl

-- one of them is no vertex's
no_name : (vertices : ℕ) (i : ℤ) → IsNoVertex vertices i → name_of vertices i ≡ None
no_name vertices (pos n) past = rw (le-ltb n vertices past) refl
no_name vertices (negsuc n) negative = refl

one_unnamed : (at face : ℕ) (i j k : Option ℕ) → (i ≡ None) ⊎ (j ≡ None) ⊎ (k ≡ None) → triangle_of at face i j k ≡ Err (Text at (BadIndex face))
unfolding triangle_of
one_unnamed at face None j k none = refl
one_unnamed at face (Some a) None k none = refl
one_unnamed at face (Some a) (Some b) None none = refl
one_unnamed at face (Some a) (Some b) (Some c) none = elim none [ inl e ↦ cc | inr later ↦ elim later [ inl e ↦ cc | inr e ↦ cc ] ]

pub face_no_vertex : (vertices face : ℕ) (l : Line) (i j k : ℤ) → IndicesStandOn l i j k → IsNoVertex vertices i ⊎ IsNoVertex vertices j ⊎ IsNoVertex vertices k → face_of vertices face l ≡ Err (Text l.at (BadIndex face))
face_no_vertex vertices face l i j k stand none =
    indices_read vertices face l i j k stand
    ∙ one_unnamed l.at face (name_of vertices i) (name_of vertices j) (name_of vertices k)
    (elim none [ inl e ↦ inl (no_name vertices i e) | inr later ↦ inr (elim later [ inl e ↦ inl (no_name vertices j e) | inr e ↦ inr (no_name vertices k e) ]) ])

-- one comes twice, or none
some_test : (p q r : Bool) → (p ≡ true) ⊎ (q ≡ true) ⊎ (r ≡ true) → (p || q || r) ≡ true
some_test true q r is = refl
some_test false true r is = refl
some_test false false r is = elim is [ inl e ↦ absurd (false≢true e) | inr later ↦ elim later [ inl e ↦ absurd (false≢true e) | inr e ↦ e ] ]

one_again : (at face a b c : ℕ) → (a ≡ b) ⊎ (b ≡ c) ⊎ (c ≡ a) → triangle_of at face (Some a) (Some b) (Some c) ≡ Err (Text at (Repeated face))
unfolding triangle_of
one_again at face a b c same =
    rw (some_test (a == b) (b == c) (c == a) (elim same [ inl e ↦ inl (eq-eqb a b e) | inr later ↦ inr (elim later [ inl e ↦ inl (eq-eqb b c e) | inr e ↦ inr (eq-eqb c a e) ]) ])) refl

none_again : (at face : ℕ) (t : Tri) → IsProper t → triangle_of at face (Some t.a) (Some t.b) (Some t.c) ≡ Ok t
unfolding triangle_of
none_again at face t proper = rw (ne_eqb t.a t.b proper.0, ne_eqb t.b t.c proper.1, ne_eqb t.c t.a proper.2) refl

named : (vertices n : ℕ) → n < vertices → name_of vertices (pos n) ≡ Some n
named vertices n below = rw (lt-ltb n vertices below) refl

names_read : (vertices face : ℕ) (t : Tri) (l : Line) → IndicesStandOn l (pos t.a) (pos t.b) (pos t.c) → IsBelow vertices t → face_of vertices face l ≡ triangle_of l.at face (Some t.a) (Some t.b) (Some t.c)
names_read vertices face t l stand below =
    indices_read vertices face l (pos t.a) (pos t.b) (pos t.c) stand
    ∙ (λ i. triangle_of l.at face (named vertices t.a below.0 i) (named vertices t.b below.1 i) (named vertices t.c below.2 i))

pub face_repeated : (vertices face : ℕ) (t : Tri) (l : Line) → IndicesStandOn l (pos t.a) (pos t.b) (pos t.c) → IsBelow vertices t → (t.a ≡ t.b) ⊎ (t.b ≡ t.c) ⊎ (t.c ≡ t.a) → face_of vertices face l ≡ Err (Text l.at (Repeated face))
face_repeated vertices face t l stand below same = names_read vertices face t l stand below ∙ one_again l.at face t.a t.b t.c same

pub triangle_read : (vertices face : ℕ) (t : Tri) (l : Line) → IndicesStandOn l (pos t.a) (pos t.b) (pos t.c) → IsBelow vertices t → IsProper t → face_of vertices face l ≡ Ok t
triangle_read vertices face t l stand below proper = names_read vertices face t l stand below ∙ none_again l.at face t proper
