use Rattle.std.proofs.Common.{◌≡◌, ◌++◌, drop}
use Rattle.std.specs.Slice.Iter.{iter_rest}
use Rattle.std.specs.String.{string_bytes}
use Rattle.commit_journal.specs.Text.{answered_edits}
use Rattle.commit_journal.proofs.lines.put_edits.Given as goal

abbrev pub invariant-loop-edit : goal.invariant-loop-edit
invariant-loop-edit l =
    string_bytes l.text ++ answered_edits (drop l.edit-index l.edits) (iter_rest l.replies)
    ≡ string_bytes l.initial.text ++ answered_edits l.edits (iter_rest l.initial.replies)
