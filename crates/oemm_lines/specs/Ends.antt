-- Where the next line ends among the bytes that were read ahead.
use Rattle.std.specs.Prelude.{◌≡◌, ℕ, ◌+◌, ◌<◌, ◌≤◌, List, length, slice_index}
use Rattle.fault_counts.specs.Told.{Told, IsAtEnd}
use Rattle.oemm_lines.specs.Lines.{HasNoFeed}
use Rattle.oemm_lines.specs.declared.ends.Found.{Found}
use Rattle.oemm_lines.specs.declared.ends.Found.TheVariants.{Feed, Last, Long}

-- where the line ends that begins these bytes, behind which this is left; more than the limit isn't looked at
abbrev pub IsFound : ℕ → List ℕ → Told → Found → Type 0
IsFound limit ahead left (Feed n) = (n ≤ limit) × (n < length ahead) × HasNoFeed ahead n × (slice_index ahead n ≡ 10)
IsFound limit ahead left (Last n) = (n ≤ limit) × (n ≡ length ahead) × HasNoFeed ahead n × IsAtEnd left
IsFound limit ahead left Long = (limit < length ahead) × HasNoFeed ahead (limit + 1)
