use Rattle.std.proofs.Common.{◌≡◌, take}
use Rattle.std.specs.List.{flat_map}
use Rattle.oemm_shelf.proofs.Several.{outside}
use Rattle.oemm_shelf.proofs.cores.named_outside.Given as goal

abbrev pub invariant-loop-sheet : goal.invariant-loop-sheet
invariant-loop-sheet l = l.leaves.items ≡ flat_map (λ s. outside l.core s.near) (take l.sheet-index l.inner)
