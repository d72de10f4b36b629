use Rattle.std.proofs.Common.{◌∙◌, ap, pos, option_map, arith}
use Rattle.std.proofs.lemmas.Int.{to_z-of_z, ints}
use Rattle.oemm_lines.proofs.NumberLaws.{held_plain}
use Rattle.off_reader.proofs.NumberLaws.{signed_of-empty, signed_of-plus, signed_of-other}
use Rattle.off_reader.proofs.numbers.signed.Goals as goal

pub returns-in_err-first : goal.returns-in_err-first
returns-in_err-first c = rw c.from_residual.ensures (signed_of-empty _ c.in_err-first.ensures.cases)

pub returns-in_err-unsigned : goal.returns-in_err-unsigned
returns-in_err-unsigned c =
    rw c.from_residual-in_err-unsigned.ensures
    (signed_of-plus _ _ _ c.in_ok-first.ensures.cases.0 c.if-first-eq43.true ∙ ap (option_map pos) c.in_err-unsigned.ensures.cases)

pub returns-in_ok-unsigned : goal.returns-in_ok-unsigned
returns-in_ok-unsigned c =
    let number = c.in_ok-unsigned.ensures.cases in (
      pos number.0,
      signed_of-plus _ _ _ c.in_ok-first.ensures.cases.0 c.if-first-eq43.true ∙ ap (option_map pos) number.1,
      (let same = c.clamped.ensures ∙ held_plain number.0 _ number.2 in search (arith, ints, to_z-of_z, same)),
    )

pub returns-else-first-eq43 : goal.returns-else-first-eq43
returns-else-first-eq43 c =
    rw (signed_of-other _ _ _ c.in_ok-first.ensures.cases.0 c.if-first-eq43.false) c.integer.ensures.cases
