use Rattle.std.proofs.Common.{◌≡◌, ◌++◌, take}
use Rattle.std.specs.List.{flat_map, AllByRecursion}
use Rattle.byte_grammar.proofs.unit.put_all.Given as goal

abbrev pub invariant-loop-item : goal.invariant-loop-item
invariant-loop-item g l =
    (l.out.items ≡ l.fn.out.items ++ flat_map g.U.Units.spelled (take l.item-index l.items))
    × AllByRecursion g.U.Units.fits (take l.item-index l.items)
