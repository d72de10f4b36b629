-- Formats of blobs, and counts of lists.
use Rattle.std.specs.Prelude.{ℕ}
use Rattle.byte_grammar.specs.Reader.{Reader, number_in}
use Rattle.leaf_codec.specs.declared.formats.TheConstants.{MOST_UNITS, NEWEST}

abbrev pub format : Reader ℕ
format = number_in 1 NEWEST 2

abbrev pub count : Reader ℕ
count = number_in 0 MOST_UNITS 4
