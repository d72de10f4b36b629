use Rattle.std.proofs.Common.{◌≤◌, ◌<◌, length, sym, ◌∙◌, arith}
use Rattle.byte_grammar.proofs.Decoding.{whole_followed, not_none}
use Rattle.byte_grammar.proofs.whole.whole_of.Goals as goal

pub returns-else-is_empty : goal.returns-else-is_empty
returns-else-is_empty g c reader gives =
    let le : length c.in-Ok.rest.now ≤ length c.args.bytes.now = rw c.in-Ok.is at c.requires in
    let some : 0 < length c.in-Ok.rest.now = not_none _ (sym c.is_empty.ensures ∙ c.if-is_empty.false) in (
      length c.in-Ok.rest.now,
      whole_followed reader c.args.bytes.now c.in-Ok.value c.in-Ok.rest.now
          (rw c.in-Ok.is at gives) some,
      omega arith,
    )
