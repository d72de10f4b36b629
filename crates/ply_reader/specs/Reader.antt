-- How far a PLY file was read, what was given, and what is left.
use Rattle.std.specs.Prelude.{◌≡◌, ℕ, ◌+◌, ◌-◌, ◌≤◌, ◌<◌, false, List, [], length, Option, Some, None, ⊤}
use Rattle.std.specs.Option.{option_map}
use Rattle.fault_counts.specs.Told.{Told}
use Rattle.mesh_items.specs.declared.items.MeshFault.{MeshFault}
use Rattle.mesh_items.specs.declared.items.MeshFault.TheVariants.{Read, Text, TooMany, Memory}
use Rattle.mesh_items.specs.Reading.{Reading, Given, item_then, fault_alone, nothing_more}
use Rattle.mesh_items.specs.declared.items.Item.{Item}
use Rattle.oemm_lines.specs.declared.parts.Line.{Line}
use Rattle.oemm_lines.specs.Stream.{Stream, left_of, flow_of}
use Rattle.mesh_items.specs.Faults.{end_fault}
use Rattle.mesh_items.specs.Progress.{MayFollow, given_by}
use Rattle.ply_header.specs.declared.layout.Layout.{Layout}
use Rattle.ply_header.specs.declared.layout.Header.{Header}
use Rattle.ply_header.specs.Limits.{IsLaidOut}
use Rattle.ply_reader.specs.Body.{Rest}
use Rattle.ply_reader.specs.Feed.{Feed, IsOpen, rest_left}
use Rattle.ply_reader.specs.Mesh.{from_first, from_header, items_of}

-- the same for whatever is left
abbrev pub only : {A B : Type 0} → B → A → B
only y x = y

-- the lines that a stream says, and the fault behind them
pub record Lined : Type 0 where
  pub lines : List Line
  pub end : MeshFault

abbrev pub lined : {S : Type 0} → Stream S → List ℕ → Lined
lined s bytes = record { lines = (flow_of s bytes).lines; end = end_fault (s.at + length bytes) (flow_of s bytes).fault }

abbrev pub rest_of : {S : Type 0} → Stream S → List ℕ → Rest
rest_of s bytes = record { at = s.at; bytes = bytes }

-- no line comes before the fault, where it is one of the text
abbrev pub only_end : {A : Type 0} → MeshFault → A → Lined
only_end fault x = record { lines = []; end = fault }

-- a call answered the fault that stands in the place of lines
abbrev pub StopsLines : {S : Type 0} → (S → Told) → Stream S → MeshFault → Stream S → Type 0
StopsLines told old Read new = ⊤
StopsLines told old Memory new = ⊤
StopsLines told old (Text at why) new = option_map (lined old) (left_of told old) ≡ option_map (only_end (Text at why)) (left_of told new)
StopsLines told old (TooMany what count) new = option_map (lined old) (left_of told old) ≡ option_map (only_end (TooMany what count)) (left_of told new)

-- the reading from the first line on, and from a line of the header on
abbrev pub first_of : {S : Type 0} → Stream S → List ℕ → Reading
first_of s bytes = from_first (lined s bytes).end (lined s bytes).lines (rest_of s bytes)

abbrev pub header_of : {S : Type 0} → Header → Stream S → List ℕ → Reading
header_of h s bytes = from_header (lined s bytes).end (lined s bytes).lines h (rest_of s bytes)

-- the vertices and faces that are left behind so many of them
abbrev pub items_left : Layout → ℕ → Rest → Reading
items_left l done r = items_of l (l.vertex.count + l.face.count - done) done r

-- the item behind so many vertices and faces was given, or there is none
abbrev pub GivesNext : Layout → ℕ → Option Rest → Option Rest → Option Item → Type 0
GivesNext l done old new None = (done ≡ l.vertex.count + l.face.count) × (new ≡ old) × (option_map (items_left l done) old ≡ option_map (only nothing_more) old)
GivesNext l done old new (Some i) =
    (done < l.vertex.count + l.face.count) × MayFollow l.vertex.count done i
    × (option_map (items_left l done) old ≡ option_map (item_then i) (option_map (items_left l (done + 1)) new))

-- a fault, whatever is left
abbrev pub only_fault : {A : Type 0} → MeshFault → A → Reading
only_fault fault x = fault_alone fault

-- what was said to come is the fault, where it is one of the text
abbrev pub Ends : Option Reading → MeshFault → Told → Type 0
Ends old Read left = ⊤
Ends old Memory left = ⊤
Ends old (Text at why) left = old ≡ option_map (only_fault (Text at why)) left
Ends old (TooMany what count) left = old ≡ option_map (only_fault (TooMany what count)) left

-- the lines of a header may come next
abbrev pub HasLines : {S : Type 0} → Feed S → Type 0
HasLines f = IsOpen f × (f.ahead ≡ []) × (f.stream.comments ≡ false)

-- the bytes, the layout once it was read, how many vertices and faces were given, and the fault that was answered
pub record Progress (S : Type 0) : Type 0 where
  pub feed : Feed S
  pub layout : Option Layout
  pub done : ℕ
  pub fault : Option MeshFault

-- how many vertices and how many faces the records are
abbrev pub counts_of : Layout → ℕ × ℕ
counts_of l = (l.vertex.count, l.face.count)

abbrev pub given_of : {S : Type 0} → Progress S → Given
given_of p = given_by (option_map counts_of p.layout) p.done p.fault

-- what is left to read, by the layout once it was read
abbrev pub reading_by : {S : Type 0} → (S → Told) → Option Layout → ℕ → Feed S → Option Reading
reading_by told None done f = option_map (first_of f.stream) (left_of told f.stream)
reading_by told (Some l) done f = option_map (items_left l done) (rest_left told f)

-- and behind a fault that fault again
abbrev pub reading_with : {S : Type 0} → (S → Told) → Option MeshFault → Option Layout → ℕ → Feed S → Option Reading
reading_with told None layout done f = reading_by told layout done f
reading_with told (Some fault) layout done f = option_map (only_fault fault) (left_of told f.stream)

abbrev pub reading_of : {S : Type 0} → (S → Told) → Progress S → Option Reading
reading_of told p = reading_with told p.fault p.layout p.done p.feed

-- the progress keeps the limits
abbrev pub IsReadyWith : {S : Type 0} → Option Layout → ℕ → Feed S → Type 0
IsReadyWith None done f = (done ≡ 0) × HasLines f
IsReadyWith (Some l) done f = IsLaidOut l × (done ≤ l.vertex.count + l.face.count) × IsOpen f

abbrev pub IsReadyBy : {S : Type 0} → Option MeshFault → Option Layout → ℕ → Feed S → Type 0
IsReadyBy None layout done f = IsReadyWith layout done f
IsReadyBy (Some fault) layout done f = ⊤

abbrev pub source_of : {S : Type 0} → Progress S → S
source_of p = p.feed.stream.source
