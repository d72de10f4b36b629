use Rattle.std.proofs.Common.{◌≡◌, ◌<◌, ◌≤◌, ◌-◌, ◌++◌, false, length, get_or, drop}
use Rattle.oemm_lines.specs.Words.{is_blank}
use Rattle.oemm_lines.specs.Stream.{words_from}
use Rattle.oemm_lines.proofs.places.words_of_bytes.Given as goal

abbrev pub invariant-loop-at : goal.invariant-loop-at
invariant-loop-at l = record {
  in_range : l.at ≤ length l.text;
  begins : l.at < length l.text → is_blank (get_or l.text l.at 0) ≡ false;
  words : l.words.items ++ words_from l.at (drop l.at l.text) ≡ words_from 0 l.text;
}

abbrev pub decreases-loop-at : goal.decreases-loop-at
decreases-loop-at l = length l.text - l.at
