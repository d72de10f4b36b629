use Rattle.oemm_lists.specs.Ascending.{IsAboveLast}
use Rattle.face_audit.specs.Parts.{AreOfRange}
use Rattle.face_audit.proofs.parts.names_of.Given as goal

abbrev pub invariant-loop-v : goal.invariant-loop-v
invariant-loop-v l = record { above : IsAboveLast l.v l.names; names : AreOfRange l.low l.v l.names }
