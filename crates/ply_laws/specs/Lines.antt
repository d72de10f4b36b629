-- A PLY file as its lines: the first, those that lead to what a header declares, and those behind them.
use Rattle.std.specs.Prelude.{◌≡◌, ℕ, ◌+◌, true, false, List, [], ◌∷◌, ◌++◌, length, Ok}
use Rattle.oemm_limits.specs.declared.TheConstants.{MOST_MESH_BYTES}
use Rattle.mesh_items.specs.declared.items.Item.{Item}
use Rattle.mesh_items.specs.declared.items.MeshFault.{MeshFault}
use Rattle.oemm_lines.specs.declared.parts.Line.{Line}
use Rattle.oemm_lines.specs.Stream.{texts_of, told_lines}
use Rattle.mesh_items.specs.Faults.{end_fault}
use Rattle.ply_header.specs.declared.layout.Layout.{Layout}
use Rattle.ply_header.specs.declared.layout.Header.{Header}
use Rattle.ply_header.specs.Header.{nothing_declared, header_after, ends, layout_of}
use Rattle.ply_reader.specs.Body.{Rest}
use Rattle.ply_reader.specs.Mesh.{behind_line, is_first, Stand}

-- the lines of a file's bytes, and the fault that stands where a further one is wanted
abbrev pub ply_lines : List ℕ → List Line
ply_lines bytes = (told_lines false MOST_MESH_BYTES 0 1 bytes).lines

abbrev pub ply_end : List ℕ → MeshFault
ply_end bytes = end_fault (length bytes) (told_lines false MOST_MESH_BYTES 0 1 bytes).fault

-- these lines, of which none ends the header, lead from what one header declares to what another does
unfoldable pub Lead : Header → List Line → Header → Type 0
Lead h [] g = h ≡ g
Lead h (l ∷ lines) g =
    (ends h (texts_of l) ≡ false) × ((next : Header) × (header_after h l.at (texts_of l) ≡ Ok next) × Lead next lines g)

-- the file's first line is the one word ply, the lines behind it lead to what this header declares, and the rest follow
pub record Leads (bytes : List ℕ) (first : Line) (lines rest : List Line) (h : Header) : Type 0 where
  pub whole : ply_lines bytes ≡ first ∷ (lines ++ rest)
  pub head : is_first (texts_of first) ≡ true
  pub lead : Lead nothing_declared lines h

-- what is left behind these lines
abbrev pub behind_lines : List Line → Rest → Rest
behind_lines [] r = r
behind_lines (l ∷ lines) r = behind_lines lines (behind_line l r)

-- what is left of a file behind its first line and others
abbrev pub left_behind : List ℕ → Line → List Line → Rest
left_behind bytes first lines = behind_lines lines (behind_line first (record { at = 0; bytes = bytes }))

-- the file has a header that declares this layout, and behind it these vertices and faces, all of them
pub record WritesPly (bytes : List ℕ) (layout : Layout) (items : List Item) : Type 0 where
  pub first : Line
  pub lines : List Line
  pub last : Line
  pub others : List Line
  pub header : Header
  pub left : Rest
  pub leads : Leads bytes first lines (last ∷ others) header
  pub off : ends header (texts_of last) ≡ true
  pub lays : layout_of header last.at (texts_of last) ≡ Ok layout
  pub stand : Stand layout 0 items (behind_line last (left_behind bytes first lines)) left
  pub all : length items ≡ layout.vertex.count + layout.face.count
