use Rattle.std.proofs.Common.{◌≡◌, ◌<◌, ℕ, length, take}
use Rattle.std.specs.Prelude.{slice_index}
use Rattle.stored_mesh.specs.Versions.{version}
use Rattle.oemm_shelf.proofs.versions.versions_by.Given as goal

abbrev pub invariant-loop-number : goal.invariant-loop-number
invariant-loop-number l =
    record {
      each : length l.versions.items ≡ l.count;
      is : (leaf : ℕ) → leaf < l.count → slice_index l.versions.items leaf ≡ version (take l.number l.entries) leaf;
    }
