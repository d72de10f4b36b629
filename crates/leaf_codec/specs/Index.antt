-- The index of a store as bytes.
use Rattle.std.specs.Prelude.{◌≡◌, ℕ, ◌^◌, ◌<◌, ◌≤◌, ◌++◌, Bool, true, nat_lt, nat_le, ◌==◌, ◌&&◌, List, [], length, Result, FitsSigned}
use Rattle.std.specs.Int.{w32}
use Rattle.std.specs.List.{flat_map, AllByRecursion}
use Rattle.oemm_octree.specs.declared.cells.Cell.{Cell}
use Rattle.sheet_data.specs.declared.index.IndexSheet.{IndexSheet}
use Rattle.byte_grammar.specs.Reader.{Reader, ◌>>=◌, done, number, number_in, signed, unit, many}
use Rattle.byte_grammar.specs.Numbers.{u8_bytes, u16_bytes, u32_bytes, i32_bytes}
use Rattle.byte_grammar.specs.Keeps.{Keeps, Always}
use Rattle.leaf_codec.specs.Formats.{format}
use Rattle.leaf_codec.specs.declared.formats.TheConstants.{INDEX_TAG, NEWEST}
use Rattle.oemm_limits.specs.declared.TheConstants.{MOST_CAP, MOST_CORE, MOST_LEAVES}
use Rattle.oemm_limits.specs.declared.TheConstants.{MOST_DEPTH, MOST_ITEMS}

unfoldable pub cell_bytes : Cell → List ℕ
cell_bytes c = u8_bytes c.depth ++ (u8_bytes c.x ++ (u8_bytes c.y ++ u8_bytes c.z))

unfoldable pub index_bytes : ℕ → IndexSheet → List ℕ
index_bytes format s =
    u32_bytes INDEX_TAG ++ (u16_bytes format ++ (u32_bytes s.cap ++ (u32_bytes s.core ++ (u32_bytes s.vertices
    ++ (u32_bytes s.faces ++ (i32_bytes s.euler ++ (u32_bytes s.border ++ (u32_bytes (length s.cells)
    ++ flat_map cell_bytes s.cells))))))))

-- ---- rules

-- a cell that an octree can have: its depth isn't above the greatest, and its places are below 2^depth
unfoldable pub is_cell : Cell → Bool
is_cell c =
    nat_le c.depth MOST_DEPTH && (nat_lt c.x (2 ^ c.depth) && (nat_lt c.y (2 ^ c.depth) && nat_lt c.z (2 ^ c.depth)))

-- ---- reading

unfoldable pub cell : Reader Cell
cell = do
  depth ← number 1
  x ← number 1
  y ← number 1
  z ← number 1
  done (record { depth = depth; x = x; y = y; z = z })

unfoldable pub index : Reader IndexSheet
index = do
  tag ← unit (λ n. n == INDEX_TAG) (number 4)
  form ← format
  cap ← number_in 1 MOST_CAP 4
  core ← number_in 1 MOST_CORE 4
  vertices ← number_in 0 MOST_ITEMS 4
  faces ← number_in 0 MOST_ITEMS 4
  euler ← signed w32 4
  border ← number 4
  n ← number_in 1 MOST_LEAVES 4
  cells ← many (λ before. unit is_cell cell) n []
  done (record
      { cap = cap; core = core; vertices = vertices; faces = faces; euler = euler; border = border; cells = cells })

-- ---- spelling

abbrev pub FitsCell : Cell → Type 0
FitsCell c = Always × ((c.depth < 2 ^ 8) × ((c.x < 2 ^ 8) × ((c.y < 2 ^ 8) × (c.z < 2 ^ 8))))

-- each number of the index that has no narrower range fits its type
pub record FitsIndex (s : IndexSheet) : Type 0 where
  pub euler : FitsSigned w32 s.euler
  pub border : s.border < 2 ^ 32
  pub cells : AllByRecursion FitsCell s.cells

-- the rules of a spelling
pub record KeepsIndexRules (s : IndexSheet) : Type 0 where
  pub least_cap : 1 ≤ s.cap
  pub most_cap : s.cap ≤ MOST_CAP
  pub least_core : 1 ≤ s.core
  pub most_core : s.core ≤ MOST_CORE
  pub vertices : s.vertices ≤ MOST_ITEMS
  pub faces : s.faces ≤ MOST_ITEMS
  pub least_cells : 1 ≤ length s.cells
  pub most_cells : length s.cells ≤ MOST_LEAVES
  pub cells : Keeps (λ before c. is_cell c ≡ true) [] s.cells

-- the bytes are the spelling of the index in the format
pub record IsIndexSpelling (format : ℕ) (bytes : List ℕ) (s : IndexSheet) : Type 0 where
  pub from_first : 1 ≤ format
  pub to_newest : format ≤ NEWEST
  pub fits : FitsIndex s
  pub rules : KeepsIndexRules s
  pub spelled : bytes ≡ index_bytes format s
