-- What the words of a line write.
use Rattle.std.specs.Prelude.{◌≡◌, ℕ, ◌<◌, ◌≤◌, Bool, true, ℤ, pos, negsuc, List, slice_get, Some, None, ⊤}
use Rattle.oemm_octree.specs.Octree.{on_grid}
use Rattle.oemm_lines.specs.declared.parts.Line.{Line}
use Rattle.oemm_lines.specs.Numbers.{unsigned_of}
use Rattle.oemm_lines.specs.Stream.{texts_of}
use Rattle.off_reader.specs.Numbers.{signed_of, coordinate_in, is_decimal}

-- the word at this place is this number in digits
abbrev pub NumberStandsAt : Line → ℕ → ℕ → Type 0
NumberStandsAt l place n = (word : List ℕ) × (slice_get (texts_of l) place ≡ Some word) × (unsigned_of word ≡ Some n)

-- the word at this place isn't digits alone
abbrev pub NoNumberStandsAt : Line → ℕ → Type 0
NoNumberStandsAt l place = (word : List ℕ) × (slice_get (texts_of l) place ≡ Some word) × (unsigned_of word ≡ None)

-- the word at this place is this whole number as a coordinate is written: a sign, digits, a point and zeros
abbrev pub CoordinateStandsAt : Line → ℕ → ℤ → Type 0
CoordinateStandsAt l place n = (word : List ℕ) × (slice_get (texts_of l) place ≡ Some word) × (coordinate_in word ≡ Some n)

-- it is a coordinate of the grid
abbrev pub GridStandsAt : Line → ℕ → Type 0
GridStandsAt l place = (n : ℤ) × CoordinateStandsAt l place n × (on_grid n ≡ true)

-- it is no whole number so written, and it is a decimal number, or not even that
abbrev pub NoCoordinateStandsAt : Line → ℕ → Bool → Type 0
NoCoordinateStandsAt l place decimal =
    (word : List ℕ) × (slice_get (texts_of l) place ≡ Some word) × (coordinate_in word ≡ None) × (is_decimal word ≡ decimal)

-- the word at this place is this whole number as an index is written: a sign and digits
abbrev pub IndexStandsAt : Line → ℕ → ℤ → Type 0
IndexStandsAt l place n = (word : List ℕ) × (slice_get (texts_of l) place ≡ Some word) × (signed_of word ≡ Some n)

-- it is no whole number so written
abbrev pub NoIndexStandsAt : Line → ℕ → Type 0
NoIndexStandsAt l place = (word : List ℕ) × (slice_get (texts_of l) place ≡ Some word) × (signed_of word ≡ None)

-- in front of this place stand coordinates of the grid
abbrev pub GridStandsBefore : Line → ℕ → Type 0
GridStandsBefore l place = (p : ℕ) → p < place → GridStandsAt l p

-- in front of this place stand the count 3 and indices
abbrev pub IndicesStandBefore : Line → ℕ → Type 0
IndicesStandBefore l place = NumberStandsAt l 0 3 × ((p : ℕ) → 0 < p → p < place → (n : ℤ) × IndexStandsAt l p n)

-- the count 3 and three indices stand on the line
abbrev pub IndicesStandOn : Line → ℤ → ℤ → ℤ → Type 0
IndicesStandOn l i j k = NumberStandsAt l 0 3 × IndexStandsAt l 1 i × IndexStandsAt l 2 j × IndexStandsAt l 3 k

-- the index is that of none of so many vertices
abbrev pub IsNoVertex : ℕ → ℤ → Type 0
IsNoVertex vertices (pos n) = vertices ≤ n
IsNoVertex vertices (negsuc n) = ⊤
