use Rattle.geometry_bytes.specs.Parts.{sums_of_parts}
use Rattle.geometry_bytes.proofs.Bounds.{AreBounded-read}
use Rattle.geometry_bytes.proofs.sums.quad_of.Goals as goal

pub invariant_of-result : goal.invariant_of-result
invariant_of-result c = record { bounded = AreBounded-read (sums_of_parts c.args.p.now) c.requires }
