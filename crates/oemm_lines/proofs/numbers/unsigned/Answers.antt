use Rattle.std.proofs.Common.{◌∙◌, sym, ap, option_map, arith}
use Rattle.std.proofs.lemmas.Bool.Decides.{nat_tests}
use Rattle.oemm_lines.specs.Numbers.{clamped_unsigned}
use Rattle.oemm_lines.proofs.NumberLaws.{unsigned_of-empty, unsigned_of-other, all_ascii_digits-other, all_ascii_digits-more, clamped_unsigned-step, unsigned_of-all, clamped_unsigned-all}
use Rattle.oemm_lines.proofs.numbers.unsigned.Goals as goal

pub returns-then-is_empty-clause-value : goal.returns-then-is_empty-clause-value
returns-then-is_empty-clause-value c = sym (ap (option_map clamped_unsigned) (unsigned_of-empty _ (grind (arith, nat_tests))))

pub returns-then-is_empty-clause-cases : goal.returns-then-is_empty-clause-cases
returns-then-is_empty-clause-cases c = unsigned_of-empty _ (grind (arith, nat_tests))

pub returns-then-not-is_ascii_digit-clause-value : goal.returns-then-not-is_ascii_digit-clause-value
returns-then-not-is_ascii_digit-clause-value c =
    sym (ap (option_map clamped_unsigned) (unsigned_of-other _ (all_ascii_digits-other _ _ c.loop-c-test.true (sym c.is_ascii_digit.ensures.value ∙ c.if-not-is_ascii_digit.true))))

pub returns-then-not-is_ascii_digit-clause-cases : goal.returns-then-not-is_ascii_digit-clause-cases
returns-then-not-is_ascii_digit-clause-cases c =
    unsigned_of-other _ (all_ascii_digits-other _ _ c.loop-c-test.true (sym c.is_ascii_digit.ensures.value ∙ c.if-not-is_ascii_digit.true))

pub loop-c-preserved : goal.loop-c-preserved
loop-c-preserved c = record {
  digits = all_ascii_digits-more _ _ c.loop-c-test.true c.loop-c.invariant.digits (sym c.is_ascii_digit.ensures.value ∙ c.if-not-is_ascii_digit.false);
  value = c.with_digit-value.ensures ∙ clamped_unsigned-step _ _ _ c.loop-c-test.true c.loop-c.invariant.value (sym c.is_ascii_digit.ensures.value ∙ c.if-not-is_ascii_digit.false);
}

pub returns-clause-value : goal.returns-clause-value
returns-clause-value c =
    clamped_unsigned-all _ _ _ (grind (arith, nat_tests)) (omega arith) c.loop-c.invariant.digits c.loop-c.invariant.value

pub returns-clause-cases : goal.returns-clause-cases
returns-clause-cases c =
    unsigned_of-all _ _ _ (grind (arith, nat_tests)) (omega arith) c.loop-c.invariant.digits c.loop-c.invariant.value
