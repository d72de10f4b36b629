use Rattle.oemm_lines.specs.declared.parts.LineFault.TheVariants.{TooLong}
use Rattle.edit_script.proofs.Readings.{script_of_long}
use Rattle.edit_script.proofs.Tellings.{long_line}
use Rattle.edit_script.proofs.laws.script_limit_laws.Goals as goal

pub returns-clause-bytes : goal.returns-clause-bytes
returns-clause-bytes c = script_of_long

pub returns-clause-lines : goal.returns-clause-lines
returns-clause-lines c = λ bytes tasks at short told is. long_line bytes tasks (TooLong at) short told is
