use Rattle.std.proofs.Common.{◌≡◌, length}
use Rattle.patch_assembly.specs.Clashes.{first_twice}
use Rattle.leaf_export.proofs.kept.first_twice.Given as goal

abbrev pub invariant-loop-left : goal.invariant-loop-left
invariant-loop-left l = first_twice l.left ≡ first_twice l.names

abbrev pub decreases-loop-left : goal.decreases-loop-left
decreases-loop-left l = length l.left
