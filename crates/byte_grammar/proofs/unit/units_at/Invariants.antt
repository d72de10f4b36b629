use Rattle.std.proofs.Common.{◌≡◌, ◌-◌, []}
use Rattle.byte_grammar.specs.Reader.{many}
use Rattle.byte_grammar.proofs.unit.units_at.Given as goal

abbrev pub invariant-loop : goal.invariant-loop
invariant-loop g l =
    many (g.U.Units.reading l.units) (l.count - l.counter) l.items.items l.rest ≡ many
    (g.U.Units.reading l.units) l.count [] l.bytes
