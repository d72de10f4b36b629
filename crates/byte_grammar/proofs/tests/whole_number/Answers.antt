use Rattle.std.proofs.Common.{length}
use Rattle.byte_grammar.specs.Reader.{number}
use Rattle.byte_grammar.proofs.Decoding.{gives_within}
use Rattle.byte_grammar.proofs.Places.{Places-number}
use Rattle.byte_grammar.proofs.tests.whole_number.Goals as goal

pub whole_of-requires : goal.whole_of-requires
whole_of-requires c =
    let bytes = c.args.bytes.now in
    gives_within (λ x. (x.0, x.1.now)) (length bytes) c.number_at.result (number 4 bytes) c.number_at.ensures
    ((Places-number 4).within bytes (λ i. (c.type_inv.bytes i).fits))
