use Rattle.std.proofs.Common.{◌≡◌, true, take}
use Rattle.std.specs.Str.{all_ascii_digits}
use Rattle.std.specs.Str.Parse.{digits_value}
use Rattle.oemm_lines.specs.Numbers.{clamped_unsigned}
use Rattle.oemm_lines.proofs.numbers.unsigned.Given as goal

abbrev pub invariant-loop-c : goal.invariant-loop-c
invariant-loop-c l = record {
  digits : all_ascii_digits (take l.c-index l.word) ≡ true;
  value : l.value ≡ clamped_unsigned (digits_value 10 (take l.c-index l.word));
}
