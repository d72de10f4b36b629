use Rattle.std.proofs.Common.{◌≡◌, ℕ, List, ◌++◌, length, map, take}
use Rattle.leaf_audit.specs.Tallies.{AreTimes}
use Rattle.leaf_audit.proofs.names.count_names.Given as goal

abbrev pub invariant-loop-x : goal.invariant-loop-x
invariant-loop-x l = record {
  len : length l.times ≡ length l.initial.times;
  counted : (names : List ℕ) → AreTimes l.initial.times names
      → AreTimes l.times (names ++ map (λ x. x.name) (take l.x-index l.vertices));
}
