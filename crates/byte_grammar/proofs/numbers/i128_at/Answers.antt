use Rattle.std.proofs.Common.{◌∙◌, rules}
use Rattle.std.specs.Int.{w128}
use Rattle.std.proofs.lemmas.Int.{to_z-of_z}
use Rattle.std.proofs.lemmas.List.{take_rest}
use Rattle.byte_grammar.proofs.NumberSpells.{signed_found}
use Rattle.byte_grammar.proofs.numbers.i128_at.Goals as goal

pub returns : goal.returns
returns c =
    signed_found w128 16 c.args.bytes.now _ _ c.if-bytes-lt16.false
    (to_z-of_z w128 c.read_i128.result (search rules) ∙ c.read_i128.ensures) (take_rest c.args.bytes.now 16)
