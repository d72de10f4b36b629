-- Sheets of leaves as bytes.
use Rattle.std.specs.Prelude.{◌≡◌, ℕ, ◌<◌, ◌≤◌, ◌^◌, ◌-◌, ◌++◌, Bool, true, not, false, Option, Some, nat_lt, nat_eq, ◌==◌, ◌&&◌, ◌||◌, List, [], length, map, slice_index, slice_get, Result}
use Rattle.std.specs.Option.{option_map_or}
use Rattle.std.specs.List.{flat_map, AllByRecursion}
use Rattle.oemm_lists.specs.Numbers.{among}
use Rattle.std.specs.Ordering.{is_le}
use Rattle.mesh_data.specs.declared.geometry.Tri.{Tri}
use Rattle.mesh_data.specs.Triangles.{tri_cmp}
use Rattle.sheet_data.specs.Summed.{SummedVertex}
use Rattle.sheet_data.specs.declared.sheets.LeafSheet.{LeafSheet}
use Rattle.byte_grammar.specs.Reader.{Reader, ◌>>=◌, done, number, unit, many}
use Rattle.byte_grammar.specs.Numbers.{u16_bytes, u32_bytes}
use Rattle.byte_grammar.specs.Keeps.{Keeps, Always}
use Rattle.leaf_codec.specs.Formats.{format, count}
use Rattle.geometry_bytes.specs.Geometry.{point_bytes, FitsPoint, point, face_bytes, FitsTri, face, is_turned, sums_bytes, FitsSums, sums, is_bounded}
use Rattle.leaf_codec.specs.declared.formats.TheConstants.{LEAF_TAG, MOST_UNITS, NEWEST}

unfoldable pub vertex_bytes : SummedVertex → List ℕ
vertex_bytes v = u32_bytes v.name ++ (point_bytes v.point ++ sums_bytes v.quad)

unfoldable pub sheet_bytes : ℕ → LeafSheet → List ℕ
sheet_bytes format s =
    u32_bytes LEAF_TAG ++ (u16_bytes format ++ (u32_bytes s.leaf
    ++ (u32_bytes (length s.vertices) ++ (u32_bytes (length s.faces) ++ (u32_bytes (length s.near)
    ++ (flat_map vertex_bytes s.vertices ++ (flat_map face_bytes s.faces ++ flat_map u32_bytes s.near)))))))

-- ---- rules, each a test of a unit by those before it in its list

-- it lies above the last of these
unfoldable pub is_above : ℕ → List ℕ → Bool
is_above n ns = (length ns == 0) || nat_lt (slice_index ns (length ns - 1)) n

abbrev pub names_of : List SummedVertex → List ℕ
names_of vs = map (λ v. v.name) vs

-- names ascend strictly
unfoldable pub vertex_follows : List SummedVertex → SummedVertex → Bool
vertex_follows before v = is_above v.name (names_of before)

-- the last of these triangles, if there is one, doesn't lie above it
unfoldable pub is_in_order : Tri → List Tri → Bool
is_in_order t ts = option_map_or (λ s. is_le (tri_cmp s t)) (slice_get ts (length ts - 1)) true

-- a turned face with a name of the sheet, and not below the one before it
unfoldable pub face_follows : List ℕ → List Tri → Tri → Bool
face_follows names before t =
    is_turned t && ((among t.a names || (among t.b names || among t.c names)) && is_in_order t before)

-- a leaf above those before it, and not the one that is left out
unfoldable pub leaf_follows : Option ℕ → List ℕ → ℕ → Bool
leaf_follows out before n = is_above n before && not (option_map_or (nat_eq n) out false)

-- ---- reading

unfoldable pub vertex : Reader SummedVertex
vertex = do
  name ← number 4
  p ← point
  s ← unit is_bounded sums
  done (record { name = name; point = p; quad = s })

unfoldable pub sheet : Reader LeafSheet
sheet = do
  tag ← unit (λ n. n == LEAF_TAG) (number 4)
  form ← format
  leaf ← number 4
  nv ← count
  nf ← count
  nn ← count
  vertices ← many (λ before. unit (vertex_follows before) vertex) nv []
  faces ← many (λ before. unit (face_follows (names_of vertices) before) face) nf []
  near ← many (λ before. unit (leaf_follows (Some leaf) before) (number 4)) nn []
  done (record { leaf = leaf; vertices = vertices; faces = faces; near = near })

-- ---- spelling

abbrev pub FitsVertex : SummedVertex → Type 0
FitsVertex v = Always × ((v.name < 2 ^ 32) × (FitsPoint v.point × (FitsSums v.quad × (is_bounded v.quad ≡ true))))

-- each number of the sheet fits its type, and each quadric is within its bounds
pub record FitsSheet (s : LeafSheet) : Type 0 where
  pub leaf : s.leaf < 2 ^ 32
  pub vertices : AllByRecursion FitsVertex s.vertices
  pub faces : AllByRecursion FitsTri s.faces
  pub near : AllByRecursion (λ n. n < 2 ^ 32) s.near

-- the rules of a spelling
pub record KeepsSheetRules (s : LeafSheet) : Type 0 where
  pub vertex_count : length s.vertices ≤ MOST_UNITS
  pub face_count : length s.faces ≤ MOST_UNITS
  pub near_count : length s.near ≤ MOST_UNITS
  pub vertices : Keeps (λ before v. vertex_follows before v ≡ true) [] s.vertices
  pub faces : Keeps (λ before t. face_follows (names_of s.vertices) before t ≡ true) [] s.faces
  pub near : Keeps (λ before n. leaf_follows (Some s.leaf) before n ≡ true) [] s.near

-- the bytes are the spelling of the sheet in the format
pub record IsSheetSpelling (format : ℕ) (bytes : List ℕ) (s : LeafSheet) : Type 0 where
  pub from_first : 1 ≤ format
  pub to_newest : format ≤ NEWEST
  pub fits : FitsSheet s
  pub rules : KeepsSheetRules s
  pub spelled : bytes ≡ sheet_bytes format s
