use Rattle.std.proofs.Common.{sym, subst}
use Rattle.byte_grammar.proofs.Items.{all_at}
use Rattle.byte_grammar.proofs.unit.put_all.Goals as goal

pub known-requires : goal.known-requires
known-requires g c =
    subst (λ x. g.U.Units.sound x) (sym c.item-item.is)
    (all_at g.U.Units.sound c.args.items.now c.requires c.loop-item.item-index c.item-item.result c.loop-item-test.true)

pub write-requires : goal.write-requires
write-requires g c =
    subst (λ x. g.U.Units.sound x) (sym c.item-item.is)
    (all_at g.U.Units.sound c.args.items.now c.requires c.loop-item.item-index c.item-item.result c.loop-item-test.true)
