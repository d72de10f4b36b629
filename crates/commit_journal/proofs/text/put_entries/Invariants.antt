use Rattle.std.proofs.Common.{◌≡◌, ◌++◌, ◌+◌, drop}
use Rattle.std.specs.String.{string_bytes}
use Rattle.commit_journal.specs.Text.{journal_text}
use Rattle.commit_journal.proofs.text.put_entries.Given as goal

abbrev pub invariant-loop-place : goal.invariant-loop-place
invariant-loop-place l =
    string_bytes l.text ++ journal_text (l.first + l.place) (drop l.place l.entries)
    ≡ string_bytes l.initial.text ++ journal_text l.first l.entries
