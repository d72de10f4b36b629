use Rattle.std.proofs.Common.{◌∙◌, ap, pos, neg_ℤ, option_map, arith}
use Rattle.std.proofs.lemmas.Int.{to_z-of_z, ints}
use Rattle.oemm_lines.proofs.NumberLaws.{integer_of-empty, integer_of-minus, integer_of-plain, held_value, held_plain, held_minus}
use Rattle.oemm_lines.proofs.numbers.integer.Goals as goal

pub returns-in_err-first-clause-cases : goal.returns-in_err-first-clause-cases
returns-in_err-first-clause-cases c =
    rw c.from_residual.ensures (integer_of-empty _ c.in_err-first.ensures.cases)

pub returns-in_err-first-clause-value : goal.returns-in_err-first-clause-value
returns-in_err-first-clause-value c = held_value _ _ (returns-in_err-first-clause-cases c)

pub returns-in_err-unsigned-clause-cases : goal.returns-in_err-unsigned-clause-cases
returns-in_err-unsigned-clause-cases c =
    rw c.from_residual-in_err-unsigned.ensures
    (integer_of-minus _ _ _ c.in_ok-first.ensures.cases.0 c.if-first-eq45.true
    ∙ ap (option_map (λ n. neg_ℤ (pos n))) c.in_err-unsigned.ensures.cases)

pub returns-in_err-unsigned-clause-value : goal.returns-in_err-unsigned-clause-value
returns-in_err-unsigned-clause-value c = held_value _ _ (returns-in_err-unsigned-clause-cases c)

pub returns-in_err-unsigned-2-clause-cases : goal.returns-in_err-unsigned-2-clause-cases
returns-in_err-unsigned-2-clause-cases c =
    rw c.from_residual-in_err-unsigned-2.ensures
    (integer_of-plain _ _ _ c.in_ok-first.ensures.cases.0 c.if-first-eq45.false
    ∙ ap (option_map pos) c.in_err-unsigned-2.ensures.cases)

pub returns-in_err-unsigned-2-clause-value : goal.returns-in_err-unsigned-2-clause-value
returns-in_err-unsigned-2-clause-value c = held_value _ _ (returns-in_err-unsigned-2-clause-cases c)

pub returns-in_ok-unsigned-clause-cases : goal.returns-in_ok-unsigned-clause-cases
returns-in_ok-unsigned-clause-cases c =
    let number = c.in_ok-unsigned.ensures.cases in (
      neg_ℤ (pos number.0),
      integer_of-minus _ _ _ c.in_ok-first.ensures.cases.0 c.if-first-eq45.true
          ∙ ap (option_map (λ n. neg_ℤ (pos n))) number.1,
      (let same = c.clamped_below.ensures ∙ held_minus number.0 _ number.2 in search (arith, ints, to_z-of_z, same)),
    )

pub returns-in_ok-unsigned-clause-value : goal.returns-in_ok-unsigned-clause-value
returns-in_ok-unsigned-clause-value c = held_value _ _ (returns-in_ok-unsigned-clause-cases c)

pub returns-in_ok-unsigned-2-clause-cases : goal.returns-in_ok-unsigned-2-clause-cases
returns-in_ok-unsigned-2-clause-cases c =
    let number = c.in_ok-unsigned-2.ensures.cases in (
      pos number.0,
      integer_of-plain _ _ _ c.in_ok-first.ensures.cases.0 c.if-first-eq45.false ∙ ap (option_map pos) number.1,
      (let same = c.clamped.ensures ∙ held_plain number.0 _ number.2 in search (arith, ints, to_z-of_z, same)),
    )

pub returns-in_ok-unsigned-2-clause-value : goal.returns-in_ok-unsigned-2-clause-value
returns-in_ok-unsigned-2-clause-value c = held_value _ _ (returns-in_ok-unsigned-2-clause-cases c)
