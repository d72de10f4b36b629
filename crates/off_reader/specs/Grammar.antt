-- What an OFF mesh says, as a function of its lines and of the fault that stands behind them.
-- Of each line, at is the number of bytes before it, and its words are looked at one by one.
use Rattle.std.specs.Prelude.{ℕ, ◌+◌, ◌-◌, ◌^◌, Bool, true, false, ◌==◌, nat_lt, nat_le, ℤ, List, [], ◌∷◌, length, slice_get, if◌then◌else◌, Option, Some, None, Result, Ok, Err}
use Rattle.std.specs.Option.{ok_or}
use Rattle.std.specs.List.{filter}
use Rattle.std.specs.Str.{bytes_eq}
use Rattle.oemm_limits.specs.declared.TheConstants.{MOST_ITEMS, MOST_MESH_BYTES}
use Rattle.oemm_octree.specs.Octree.{on_grid}
use Rattle.oemm_octree.specs.declared.points.Point.{Point}
use Rattle.mesh_data.specs.declared.geometry.Tri.{Tri}
use Rattle.mesh_items.specs.declared.items.Item.{Item}
use Rattle.mesh_items.specs.declared.items.Item.TheVariants.{Counts, Vertex, Face}
use Rattle.oemm_limits.specs.declared.what.What.{What}
use Rattle.oemm_limits.specs.declared.what.What.TheVariants.{Vertices, Faces}
use Rattle.mesh_items.specs.declared.items.MeshWhy.{MeshWhy}
use Rattle.mesh_items.specs.declared.items.MeshWhy.TheVariants.{Head, Words, Number, NotInteger, OutOfRange, NotTriangle}
use Rattle.mesh_items.specs.declared.items.MeshFault.{MeshFault}
use Rattle.mesh_items.specs.declared.items.MeshFault.TheVariants.{Text, TooMany}
use Rattle.mesh_items.specs.Reading.{Reading, item_then, fault_alone, nothing_more}
use Rattle.oemm_lines.specs.declared.parts.Word.{Word}
use Rattle.oemm_lines.specs.declared.parts.Line.{Line}
use Rattle.oemm_lines.specs.Numbers.{unsigned_of}
use Rattle.oemm_lines.specs.Stream.{Flow, texts_of, told_lines}
use Rattle.mesh_items.specs.Results.{◌>>=◌}
use Rattle.mesh_items.specs.Faults.{end_fault}
use Rattle.mesh_items.specs.Faces.{name_of, triangle_of}
use Rattle.off_reader.specs.Numbers.{signed_of, coordinate_in, is_decimal}

-- the word at this place of a line as it is read; a line in which none stands there has too few
unfoldable pub word_as : {A : Type 0} → (List ℕ → Result A MeshFault) → ℕ → Line → Result A MeshFault
word_as read place l = ok_or (slice_get (texts_of l) place) (Text l.at Words) >>= read

-- a number that is to keep the limits of a count
abbrev pub limited : ℕ → What → ℕ → Result ℕ MeshFault
limited at what n =
    if nat_le (2 ^ 64) n then Err (Text at Number)
    else if nat_lt MOST_ITEMS n then Err (TooMany what n)
    else Ok n

-- the count that a word writes in digits
unfoldable pub count_of : ℕ → What → List ℕ → Result ℕ MeshFault
count_of at what word = do
  n ← ok_or (unsigned_of word) (Text at Number)
  limited at what n

-- the number of vertices at this place, and that of faces behind it; further words aren't looked at
unfoldable pub counts_of : ℕ → Line → Result (ℕ × ℕ) MeshFault
counts_of place l = do
  vertices ← word_as (count_of l.at Vertices) place l
  faces ← word_as (count_of l.at Faces) (place + 1) l
  Ok (vertices, faces)

-- what is wrong with a word that is to write a whole number and doesn't
abbrev pub not_whole : ℕ → List ℕ → MeshWhy
not_whole vertex word = if is_decimal word then NotInteger vertex else Number

-- the coordinate of this vertex that a word writes
unfoldable pub coordinate_of : ℕ → ℕ → List ℕ → Result ℤ MeshFault
coordinate_of at vertex word = do
  n ← ok_or (coordinate_in word) (Text at (not_whole vertex word))
  if on_grid n then Ok n else Err (Text at (OutOfRange vertex))

-- the point of this vertex; further words aren't looked at
unfoldable pub vertex_of : ℕ → Line → Result Point MeshFault
vertex_of vertex l = do
  x ← word_as (coordinate_of l.at vertex) 0 l
  y ← word_as (coordinate_of l.at vertex) 1 l
  z ← word_as (coordinate_of l.at vertex) 2 l
  Ok (record { x = x; y = y; z = z })

-- the number of corners of this face that a word writes in digits, which is to be three
unfoldable pub corners_of : ℕ → ℕ → List ℕ → Result ℕ MeshFault
corners_of at face word = do
  n ← ok_or (unsigned_of word) (Text at Number)
  if n == 3 then Ok 3 else Err (Text at (NotTriangle face))

-- what the index means that a word writes with an optional sign and digits
unfoldable pub index_of : ℕ → ℕ → List ℕ → Result (Option ℕ) MeshFault
index_of at vertices word = do
  n ← ok_or (signed_of word) (Text at Number)
  Ok (name_of vertices n)

-- the triangle of this face among so many vertices; further words aren't looked at
unfoldable pub face_of : ℕ → ℕ → Line → Result Tri MeshFault
face_of vertices face l = do
  corners ← word_as (corners_of l.at face) 0 l
  i ← word_as (index_of l.at vertices) 1 l
  j ← word_as (index_of l.at vertices) 2 l
  k ← word_as (index_of l.at vertices) 3 l
  triangle_of l.at face i j k

-- the item of a line that follows so many vertices and faces
unfoldable pub item_of : ℕ → ℕ → Line → Result Item MeshFault
item_of vertices done l =
    if nat_lt done vertices
    then (vertex_of done l >>= λ p. Ok (Vertex p))
    else (face_of vertices (done - vertices) l >>= λ t. Ok (Face t))

-- the lines with words, and the fault that stands where a further one is wanted
pub record Filled : Type 0 where
  pub lines : List Line
  pub end : MeshFault

-- the reading with this item at its front, or the fault in the item's place
abbrev pub begun_by : Result Item MeshFault → Reading → Reading
begun_by (Ok item) reading = item_then item reading
begun_by (Err fault) reading = fault_alone fault

-- the vertices and faces on these lines, behind so many of them; nothing behind the last one is looked at
unfoldable pub body_of : ℕ → ℕ → ℕ → MeshFault → List Line → Reading
body_of vertices faces done end [] = if done == vertices + faces then nothing_more else fault_alone end
body_of vertices faces done end (l ∷ ls) =
    if done == vertices + faces then nothing_more
    else begun_by (item_of vertices done l) (body_of vertices faces (done + 1) end ls)

-- the counts, and the vertices and faces behind them
abbrev pub counted : Result (ℕ × ℕ) MeshFault → MeshFault → List Line → Reading
counted (Ok counts) end ls = item_then (Counts counts.0 counts.1) (body_of counts.0 counts.1 0 end ls)
counted (Err fault) end ls = fault_alone fault

-- a mesh from the line of its counts on
unfoldable pub from_counts : MeshFault → List Line → Reading
from_counts end [] = fault_alone end
from_counts end (l ∷ ls) = counted (counts_of 0 l) end ls

-- whether a word, if there is one, is OFF
abbrev pub is_head : Option (List ℕ) → Bool
is_head None = false
is_head (Some word) = bytes_eq word (79 ∷ 70 ∷ 70 ∷ [])

-- a mesh from the line of its first word on: further words of that line are the counts
unfoldable pub from_head : Line → MeshFault → List Line → Reading
from_head l end ls = if nat_lt 1 (length l.words) then counted (counts_of 1 l) end ls else from_counts end ls

-- a mesh from its first line with words on
unfoldable pub mesh_of : MeshFault → List Line → Reading
mesh_of end [] = fault_alone end
mesh_of end (l ∷ ls) = if is_head (slice_get (texts_of l) 0) then from_head l end ls else fault_alone (Text l.at Head)

-- whether there is a word
abbrev pub has_any : List Word → Bool
has_any [] = false
has_any (word ∷ words) = true

abbrev pub has_words : Line → Bool
has_words l = has_any l.words

-- the lines with words among those of a source of so many bytes
abbrev pub filled : ℕ → Flow → Filled
filled size f = record { lines = filter has_words f.lines; end = end_fault size f.fault }

-- what these lines say of a mesh
abbrev pub mesh_reading : Filled → Reading
mesh_reading f = mesh_of f.end f.lines

-- what all bytes of a source say
abbrev pub off_reading : List ℕ → Reading
off_reading bytes = mesh_reading (filled (length bytes) (told_lines true MOST_MESH_BYTES 0 1 bytes))
