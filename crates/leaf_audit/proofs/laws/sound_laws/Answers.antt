use Rattle.leaf_audit.proofs.Sound.{audit_is, sheets_are}
use Rattle.leaf_audit.proofs.laws.sound_laws.Goals as goal

pub returns-clause-sheets : goal.returns-clause-sheets
returns-clause-sheets c = λ b journal m versions over. sheets_are b journal m versions over

pub returns-clause-audit : goal.returns-clause-audit
returns-clause-audit c = λ b journal m versions a over. audit_is b journal m versions over a
