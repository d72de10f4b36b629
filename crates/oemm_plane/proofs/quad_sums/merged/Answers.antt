use Rattle.std.proofs.Common.{rules, refl, sym, subst}
use Rattle.mesh_data.specs.Planes.{AreBounded, added}
use Rattle.mesh_data.specs.Quads.{sums_in}
use Rattle.oemm_plane.proofs.SumsSizes.{read_sum, AreBounded-added}
use Rattle.oemm_plane.proofs.Sums.{sums_same}
use Rattle.oemm_plane.proofs.quad_sums.merged.Goals as goal

pub invariant_of-result : goal.invariant_of-result
invariant_of-result c =
    let p = c.args.p.now in
    let q = c.args.q.now in
    record {
      bounded = subst AreBounded (sym (sums_same _ (added (sums_in p) (sums_in q)) refl
          (read_sum p.aa q.aa c.sum.result (search rules) (search rules) (search rules) c.sum.ensures.value)
          (read_sum p.ab q.ab c.sum-2.result (search rules) (search rules) (search rules) c.sum-2.ensures.value)
          (read_sum p.ac q.ac c.sum-3.result (search rules) (search rules) (search rules) c.sum-3.ensures.value)
          (read_sum p.ad q.ad c.sum-4.result (search rules) (search rules) (search rules) c.sum-4.ensures.value)
          (read_sum p.bb q.bb c.sum-5.result (search rules) (search rules) (search rules) c.sum-5.ensures.value)
          (read_sum p.bc q.bc c.sum-6.result (search rules) (search rules) (search rules) c.sum-6.ensures.value)
          (read_sum p.bd q.bd c.sum-7.result (search rules) (search rules) (search rules) c.sum-7.ensures.value)
          (read_sum p.cc q.cc c.sum-8.result (search rules) (search rules) (search rules) c.sum-8.ensures.value)
          (read_sum p.cd q.cd c.sum-9.result (search rules) (search rules) (search rules) c.sum-9.ensures.value)
          (read_sum p.dd q.dd c.sum-10.result (search rules) (search rules) (search rules) c.sum-10.ensures.value))) (AreBounded-added (sums_in p) (sums_in q) p.bounded q.bounded c.requires);
    }

pub returns : goal.returns
returns c =
    let p = c.args.p.now in
    let q = c.args.q.now in
    sums_same _ (added (sums_in p) (sums_in q)) refl
    (read_sum p.aa q.aa c.sum.result (search rules) (search rules) (search rules) c.sum.ensures.value)
    (read_sum p.ab q.ab c.sum-2.result (search rules) (search rules) (search rules) c.sum-2.ensures.value)
    (read_sum p.ac q.ac c.sum-3.result (search rules) (search rules) (search rules) c.sum-3.ensures.value)
    (read_sum p.ad q.ad c.sum-4.result (search rules) (search rules) (search rules) c.sum-4.ensures.value)
    (read_sum p.bb q.bb c.sum-5.result (search rules) (search rules) (search rules) c.sum-5.ensures.value)
    (read_sum p.bc q.bc c.sum-6.result (search rules) (search rules) (search rules) c.sum-6.ensures.value)
    (read_sum p.bd q.bd c.sum-7.result (search rules) (search rules) (search rules) c.sum-7.ensures.value)
    (read_sum p.cc q.cc c.sum-8.result (search rules) (search rules) (search rules) c.sum-8.ensures.value)
    (read_sum p.cd q.cd c.sum-9.result (search rules) (search rules) (search rules) c.sum-9.ensures.value)
    (read_sum p.dd q.dd c.sum-10.result (search rules) (search rules) (search rules) c.sum-10.ensures.value)
