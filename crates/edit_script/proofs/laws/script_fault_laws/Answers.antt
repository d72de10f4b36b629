use Rattle.std.proofs.Common.{[], ◌∷◌, ◌++◌, refl, ◌+◌, arith}
use Rattle.oemm_limits.specs.declared.TheConstants.{MOST_EDITS, MOST_TASKS}
use Rattle.edit_script.specs.declared.fault.ScriptWhy.TheVariants.{NoTask}
use Rattle.oemm_limits.specs.declared.what.What.TheVariants.{Tasks, Edits}
use Rattle.edit_script.specs.declared.fault.ScriptFault.TheVariants.{Syntax, TooMany}
use Rattle.edit_script.proofs.Tellings.{script_stops, none_in_order, refused_line, refused_first, refused_task, refused_edit}
use Rattle.edit_script.proofs.laws.script_fault_laws.Goals as goal

pub returns-clause-line : goal.returns-clause-line
returns-clause-line c = λ bytes lines later l tasks why short spoken told says.
    script_stops bytes lines later l tasks (Syntax l.number why) short spoken told (refused_line l tasks why says)

pub returns-clause-no_task : goal.returns-clause-no_task
returns-clause-no_task c = λ bytes later l edit short spoken says.
    script_stops bytes [] later l [] (Syntax l.number NoTask) short spoken (refl, none_in_order) (refused_first l edit says)

pub returns-clause-tasks : goal.returns-clause-tasks
returns-clause-tasks c = λ bytes lines later l tasks lane low high short spoken told full says.
    script_stops bytes lines later l tasks (TooMany Tasks (MOST_TASKS + 1)) short spoken told (refused_task l tasks lane low high says (omega (arith, full)))

pub returns-clause-edits : goal.returns-clause-edits
returns-clause-edits c = λ bytes lines later l tasks task edit short spoken told full says.
    script_stops bytes lines later l (tasks ++ task ∷ []) (TooMany Edits (MOST_EDITS + 1)) short spoken told (refused_edit l tasks task edit says (omega (arith, full)))
