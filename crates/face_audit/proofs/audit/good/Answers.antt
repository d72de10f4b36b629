use Rattle.std.proofs.Common.{arith}
use Rattle.face_audit.proofs.Ranges.{border_fits}
use Rattle.face_audit.proofs.audit.good.Goals as goal

pub overflow_cast-result-3 : goal.overflow_cast-result-3
overflow_cast-result-3 c = omega (arith, c.requires.border, c.requires.few, border_fits c.args.faces.now)
