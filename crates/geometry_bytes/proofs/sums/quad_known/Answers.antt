use Rattle.mesh_data.specs.Quads.{sums_in}
use Rattle.geometry_bytes.proofs.Bounds.{AreBounded-passes, AreBounded-fits}
use Rattle.geometry_bytes.proofs.sums.quad_known.Goals as goal

pub returns : goal.returns
returns c =
    let q = c.args.q.now in
    (AreBounded-fits (sums_in q) q.bounded, AreBounded-passes (sums_in q) q.bounded)
