use Rattle.std.proofs.Common.{◌≡◌, ◌++◌, drop, flat_map}
use Rattle.std.specs.String.{string_bytes}
use Rattle.commit_journal.specs.Text.{edit_line}
use Rattle.oemm_make.proofs.text.put_edits.Given as goal

abbrev pub invariant-loop-edit : goal.invariant-loop-edit
invariant-loop-edit l =
    string_bytes l.text ++ flat_map edit_line (drop l.edit-index l.edits)
    ≡ string_bytes l.initial.text ++ flat_map edit_line l.edits
