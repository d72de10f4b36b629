-- What a reader of whole texts answers.
use Rattle.std.specs.Prelude.{◌≡◌, ℕ, List, Result, Ok, Err}
use Rattle.mesh_data.specs.declared.edits.Entry.{Entry}
use Rattle.journal_reader.specs.declared.fault.JournalFault.{JournalFault}
use Rattle.journal_reader.specs.declared.fault.JournalFault.TheVariants.{Syntax, Memory}

-- what is answered is what the reading gives, unless memory ran out
abbrev pub Gives : Result (List Entry) JournalFault → Result (List Entry) ℕ → Type 0
Gives (Ok entries) reading = reading ≡ Ok entries
Gives (Err (Syntax line)) reading = reading ≡ Err line
Gives (Err Memory) reading = Unit {0}
