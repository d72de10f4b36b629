use Rattle.edit_script.proofs.Limits.{only_too_long}
use Rattle.edit_script.proofs.laws.line_limit_law.Goals as goal

pub returns : goal.returns
returns c = only_too_long
