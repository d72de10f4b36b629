use Rattle.std.proofs.Common.{rules, sym, ◌∙◌, refl}
use Rattle.mesh_data.specs.Planes.{sums_value}
use Rattle.oemm_plane.proofs.SumsRead.{read_as, read_total}
use Rattle.oemm_plane.proofs.SumsRing.{two-mul}
use Rattle.oemm_plane.proofs.quad_sums.quad_value.Goals as goal

pub returns-clause-value : goal.returns-clause-value
unfolding sums_value
returns-clause-value c =
    let q = c.args.q.now in
    let half = read_as c.half_part-half.result _ (search rules) c.half_part-half.ensures.value in
    read_total c.sum-2.result q.dd c.sum-3.result _ _ (search rules) c.sum-3.ensures.value
    (read_total c.squares_part.result c.sum.result c.sum-2.result _ _ (search rules) c.sum-2.ensures.value
    (read_as c.squares_part.result _ (search rules) c.squares_part.ensures.value)
    (read_total c.half_part-half.result c.half_part-half.result c.sum.result _ _ (search rules) c.sum.ensures.value half half ∙ sym (two-mul _)))
    (read_as q.dd q.dd (search rules) refl)
