use Rattle.std.proofs.Common.{◌≡◌, ◌≤◌, ◌+◌, take, Ok}
use Rattle.oemm_blobs.specs.Store.{ChangesInTurn}
use Rattle.oemm_blobs.proofs.in_turn.change_in_turn.Given as goal

abbrev pub invariant-loop-change : goal.invariant-loop-change
invariant-loop-change g l =
    let old = g.B.Blobs.store l.initial.blobs in
    let now = g.B.Blobs.store l.blobs in
    record {
      turn : ChangesInTurn {T = Unit {0}} (take l.change-index l.changes) old now (Ok tt);
      gets : now.gets ≡ old.gets;
      kept_puts : old.puts ≤ now.puts;
      puts : now.puts ≤ old.puts + l.change-index;
      faults : now.faults ≡ old.faults;
    }
