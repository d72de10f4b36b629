-- What a PLY file says, as a function of its bytes.
use Rattle.std.specs.Prelude.{◌≡◌, ℕ, zero, suc, ◌+◌, ◌==◌, false, List, [], ◌∷◌, length, take, drop, codes, if◌then◌else◌, Result, Ok, Err, Bool}
use Rattle.std.specs.Str.{bytes_eq}
use Rattle.oemm_limits.specs.declared.TheConstants.{MOST_MESH_BYTES}
use Rattle.mesh_items.specs.Reading.{Reading, item_then, fault_alone, nothing_more}
use Rattle.mesh_items.specs.declared.items.Item.{Item}
use Rattle.mesh_items.specs.declared.items.Item.TheVariants.{Counts}
use Rattle.mesh_items.specs.declared.items.MeshWhy.TheVariants.{Head}
use Rattle.mesh_items.specs.declared.items.MeshFault.{MeshFault}
use Rattle.mesh_items.specs.declared.items.MeshFault.TheVariants.{Text}
use Rattle.oemm_lines.specs.declared.parts.Line.{Line}
use Rattle.oemm_lines.specs.Stream.{Flow, texts_of, told_lines}
use Rattle.mesh_items.specs.Faults.{end_fault}
use Rattle.ply_header.specs.declared.layout.Layout.{Layout}
use Rattle.ply_header.specs.declared.layout.Header.{Header}
use Rattle.ply_header.specs.Header.{nothing_declared, header_after, ends, layout_of}
use Rattle.ply_reader.specs.Body.{Rest, forward, item_in}

-- whether the first three bytes are ply
abbrev pub begins_as_ply : List ℕ → Bool
begins_as_ply bytes = bytes_eq (take 3 bytes) (codes "ply")

-- the reading that begins with this item, or the fault in its place
abbrev pub begun_by : Result (Item × Rest) MeshFault → (Rest → Reading) → Reading
begun_by (Ok item) more = item_then item.0 (more item.1)
begun_by (Err fault) more = fault_alone fault

-- so many vertices and faces, behind so many of them; nothing behind the last one is looked at
unfoldable pub items_of : Layout → ℕ → ℕ → Rest → Reading
items_of l zero done r = nothing_more
items_of l (suc left) done r = begun_by (item_in l done r) (items_of l left (done + 1))

-- these items stand one behind another, the first of them behind so many vertices and faces, and leave the other rest
unfoldable pub Stand : Layout → ℕ → List Item → Rest → Rest → Type 0
Stand l done [] r s = r ≡ s
Stand l done (i ∷ items) r s = (mid : Rest) × (item_in l done r ≡ Ok (i, mid)) × Stand l (done + 1) items mid s

-- the counts, and the vertices and faces behind them
abbrev pub laid : Layout → Rest → Reading
laid l r = item_then (Counts l.vertex.count l.face.count) (items_of l (l.vertex.count + l.face.count) 0 r)

abbrev pub counted : Result Layout MeshFault → Rest → Reading
counted (Ok l) r = laid l r
counted (Err fault) r = fault_alone fault

-- how many bytes end a line, by what stands behind its text: a line feed, a carriage return in front of one, or nothing
abbrev pub end_size : List ℕ → ℕ
end_size [] = 0
end_size (c ∷ cs) = if c == 10 then 1 else 2

-- what is left behind a line that stands at the front
abbrev pub behind_line : Line → Rest → Rest
behind_line l r = forward (length l.bytes + end_size (drop (length l.bytes) r.bytes)) r

-- the reading with what a line declares, or its fault
abbrev pub declared : Result Header MeshFault → (Header → Reading) → Reading
declared (Ok h) more = more h
declared (Err fault) more = fault_alone fault

-- the reading behind the lines that declared this much, where further lines stand at the front of what is left
unfoldable pub from_header : MeshFault → List Line → Header → Rest → Reading
from_header end [] h r = fault_alone end
from_header end (l ∷ ls) h r =
    if ends h (texts_of l) then counted (layout_of h l.at (texts_of l)) (behind_line l r)
    else declared (header_after h l.at (texts_of l)) (λ next. from_header end ls next (behind_line l r))

-- whether a line has the one word ply
abbrev pub is_first : List (List ℕ) → Bool
is_first (word ∷ []) = bytes_eq word (codes "ply")
is_first words = false

-- the reading from the first line on
unfoldable pub from_first : MeshFault → List Line → Rest → Reading
from_first end [] r = fault_alone end
from_first end (l ∷ ls) r =
    if is_first (texts_of l) then from_header end ls nothing_declared (behind_line l r)
    else fault_alone (Text l.at Head)

-- what all bytes of a source say, by its lines
abbrev pub mesh_of : List ℕ → Flow → Reading
mesh_of bytes told = from_first (end_fault (length bytes) told.fault) told.lines (record { at = 0; bytes = bytes })

abbrev pub ply_reading : List ℕ → Reading
ply_reading bytes = mesh_of bytes (told_lines false MOST_MESH_BYTES 0 1 bytes)
