use Rattle.oemm_make.proofs.Texts.{text_answered, text_read}
use Rattle.oemm_make.proofs.laws.script_text_laws.Goals as goal

pub returns-clause-read : goal.returns-clause-read
returns-clause-read c = text_read

pub returns-clause-answered : goal.returns-clause-answered
returns-clause-answered c = text_answered
