use Rattle.std.proofs.Common.{◌≡◌, ◌+◌, ◌<◌, ℕ, length, cond, take}
use Rattle.std.specs.Prelude.{slice_index}
use Rattle.oemm_octree.specs.Leaves.{is_one_of}
use Rattle.oemm_shelf.proofs.versions.raise.Given as goal

abbrev pub invariant-loop-leaf : goal.invariant-loop-leaf
invariant-loop-leaf l =
    record {
      each : length l.versions.items ≡ length l.initial.versions.items;
      is : (k : ℕ) → k < length l.initial.versions.items → slice_index l.versions.items k
          ≡ cond (is_one_of (take l.leaf-index l.leaf-items) k) (l.number + 1) (slice_index l.initial.versions.items k);
    }
