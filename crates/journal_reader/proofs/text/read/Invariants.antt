use Rattle.std.proofs.Common.{◌≡◌, ◌+◌, ◌≤◌, length}
use Rattle.std.specs.List.{slice_split}
use Rattle.journal_reader.specs.Drafts.{nothing, reading}
use Rattle.journal_reader.specs.Journal.{is_feed}
use Rattle.journal_reader.proofs.text.read.Given as goal

abbrev pub invariant-loop-line : goal.invariant-loop-line
invariant-loop-line l = record {
  reads : reading 1 nothing (slice_split is_feed l.text) ≡ reading l.number l.draft (slice_split is_feed l.rest);
  place : l.number + length l.rest ≤ length l.text + 1;
}

abbrev pub decreases-loop-line : goal.decreases-loop-line
decreases-loop-line l = length l.rest
