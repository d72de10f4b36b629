-- What the bytes of a store spell.
use Rattle.std.specs.Prelude.{◌≡◌, ℕ, List, Option, Some, None, Result, Ok, Err}
use Rattle.std.specs.Result.{result_ok}
use Rattle.byte_grammar.specs.Reader.{Reader, whole}
use Rattle.byte_grammar.specs.declared.fault.CodecFault.{CodecFault}
use Rattle.byte_grammar.specs.declared.fault.CodecFault.TheVariants as faults
use Rattle.leaf_codec.specs.Entries as entries
use Rattle.leaf_codec.specs.Index as indexes
use Rattle.leaf_codec.specs.Sheets as sheets
use Rattle.stored_mesh.specs.Stored.{Spelling}

-- the value that all of the bytes are, as a reader reads them, and none where it stops or leaves some
abbrev pub read_as : {A : Type 0} → Reader A → List ℕ → Option A
read_as read bytes = result_ok (whole read bytes)

-- the spelling of indexes, sheets and entries in a store
abbrev pub store_spelling : Spelling
store_spelling = record {
  index = read_as indexes.index;
  sheet = read_as sheets.sheet;
  entry = read_as entries.entry;
}

-- a call that decodes answers what the bytes spell, or a fault where they spell nothing, unless memory ran out
abbrev pub Tells : {A : Type 0} → (List ℕ → Option A) → List ℕ → Result A CodecFault → Type 0
Tells spells bytes (Ok x) = spells bytes ≡ Some x
Tells spells bytes (Err (faults.Bad at)) = spells bytes ≡ None
Tells spells bytes (Err faults.Memory) = Unit {0}
