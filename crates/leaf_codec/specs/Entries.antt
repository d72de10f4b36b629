-- Entries of the journal as bytes.
use Rattle.std.specs.Prelude.{◌≡◌, ℕ, ◌^◌, ◌<◌, ◌≤◌, ◌++◌, Bool, true, ◌==◌, ◌&&◌, if◌then◌else◌, int_le, None, List, [], length, Result}
use Rattle.std.specs.List.{flat_map, AllByRecursion}
use Rattle.oemm_octree.specs.declared.points.Point.{Point}
use Rattle.sheet_data.specs.declared.index.NumberedEntry.{NumberedEntry}
use Rattle.byte_grammar.specs.Reader.{Reader, ◌>>=◌, done, number, number_in, unit, many}
use Rattle.byte_grammar.specs.Numbers.{u8_bytes, u16_bytes, u32_bytes}
use Rattle.byte_grammar.specs.Keeps.{Keeps}
use Rattle.leaf_codec.specs.Formats.{format}
use Rattle.geometry_bytes.specs.Geometry.{point_bytes, FitsPoint, point}
use Rattle.leaf_codec.specs.Sheets.{leaf_follows}
use Rattle.leaf_codec.specs.Edits.{edit_bytes, FitsEdit, is_edit, edit}
use Rattle.leaf_codec.specs.Replies.{reply_bytes, FitsReply, reply_follows, reply}
use Rattle.leaf_codec.specs.declared.formats.TheConstants.{ENTRY_TAG, MOST_UNITS, NEWEST}
use Rattle.oemm_limits.specs.declared.TheConstants.{LAST_LANE, MOST_EDITS}

abbrev pub flag_number : Bool → ℕ
flag_number b = if b then 1 else 0

unfoldable pub flag_bytes : Bool → List ℕ
flag_bytes b = u8_bytes (flag_number b)

unfoldable pub box_bytes : Point × Point → List ℕ
box_bytes b = point_bytes b.0 ++ point_bytes b.1

unfoldable pub entry_bytes : ℕ → NumberedEntry → List ℕ
entry_bytes format n =
    let e = n.entry in
    let t = e.task in
    u32_bytes ENTRY_TAG ++ (u16_bytes format ++ (u32_bytes n.number ++ (u8_bytes t.lane ++ (u32_bytes t.number
    ++ (box_bytes (t.low, t.high) ++ (flag_bytes e.wide ++ (u32_bytes (length e.core) ++ (flat_map u32_bytes e.core
    ++ (u32_bytes (length t.edits) ++ (flat_map edit_bytes t.edits ++ flat_map reply_bytes e.replies))))))))))

-- ---- rules

-- the low corner is at most the high one along each axis
unfoldable pub is_box : Point × Point → Bool
is_box b = int_le b.0.x b.1.x && (int_le b.0.y b.1.y && int_le b.0.z b.1.z)

-- a core has leaves exactly where the entry isn't wide
abbrev pub least_leaves : Bool → ℕ
least_leaves wide = if wide then 0 else 1

abbrev pub most_leaves : Bool → ℕ
most_leaves wide = if wide then 0 else MOST_UNITS

-- so many edits have so many replies
abbrev pub replies_of : Bool → ℕ → ℕ
replies_of wide edits = if wide then 0 else edits

-- ---- reading

unfoldable pub flag : Reader Bool
flag = do
  n ← number_in 0 1 1
  done (n == 1)

unfoldable pub corners : Reader (Point × Point)
corners = do
  low ← point
  high ← point
  done (low, high)

unfoldable pub entry : Reader NumberedEntry
entry = do
  tag ← unit (λ n. n == ENTRY_TAG) (number 4)
  form ← format
  place ← number 4
  lane ← number_in 0 LAST_LANE 1
  task ← number 4
  box ← unit is_box corners
  wide ← flag
  nc ← number_in (least_leaves wide) (most_leaves wide) 4
  core ← many (λ before. unit (leaf_follows None before) (number 4)) nc []
  ne ← number_in 0 MOST_EDITS 4
  edits ← many (λ before. unit is_edit edit) ne []
  replies ← many (λ before. unit (reply_follows edits before) reply) (replies_of wide ne) []
  done (record {
    number = place;
    entry = record {
      task = record { lane = lane; number = task; low = box.0; high = box.1; edits = edits };
      wide = wide;
      replies = replies;
      core = core;
    };
  })

-- ---- spelling

-- each number of the entry fits its type
pub record FitsEntry (n : NumberedEntry) : Type 0 where
  pub number : n.number < 2 ^ 32
  pub task : n.entry.task.number < 2 ^ 32
  pub low : FitsPoint n.entry.task.low
  pub high : FitsPoint n.entry.task.high
  pub core : AllByRecursion (λ k. k < 2 ^ 32) n.entry.core
  pub edits : AllByRecursion FitsEdit n.entry.task.edits
  pub replies : AllByRecursion FitsReply n.entry.replies

-- the rules of a spelling
pub record KeepsEntryRules (n : NumberedEntry) : Type 0 where
  pub lane : n.entry.task.lane ≤ LAST_LANE
  pub box : is_box (n.entry.task.low, n.entry.task.high) ≡ true
  pub least_core : least_leaves n.entry.wide ≤ length n.entry.core
  pub most_core : length n.entry.core ≤ most_leaves n.entry.wide
  pub edit_count : length n.entry.task.edits ≤ MOST_EDITS
  pub reply_count : length n.entry.replies ≡ replies_of n.entry.wide (length n.entry.task.edits)
  pub core : Keeps (λ before k. leaf_follows None before k ≡ true) [] n.entry.core
  pub edits : Keeps (λ before k. is_edit k ≡ true) [] n.entry.task.edits
  pub replies : Keeps (λ before r. reply_follows n.entry.task.edits before r ≡ true) [] n.entry.replies

-- the bytes are the spelling of the entry in the format
pub record IsEntrySpelling (format : ℕ) (bytes : List ℕ) (n : NumberedEntry) : Type 0 where
  pub from_first : 1 ≤ format
  pub to_newest : format ≤ NEWEST
  pub fits : FitsEntry n
  pub rules : KeepsEntryRules n
  pub spelled : bytes ≡ entry_bytes format n
