use Rattle.edit_script.proofs.Tellings.{script_read, script_told}
use Rattle.edit_script.proofs.laws.script_laws.Goals as goal

pub returns-clause-read : goal.returns-clause-read
returns-clause-read c = script_read

pub returns-clause-told : goal.returns-clause-told
returns-clause-told c = script_told
