use Rattle.face_audit.proofs.SameAudit.{audit_in_any_order}
use Rattle.face_audit.proofs.laws.order_laws.Goals as goal

pub returns : goal.returns
returns c = audit_in_any_order
