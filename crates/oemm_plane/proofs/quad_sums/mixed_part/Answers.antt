use Rattle.std.proofs.Common.{rules, arith}
use Rattle.oemm_plane.proofs.SumsRead.{read_total, read_twice, size_as, size_twice}
use Rattle.oemm_plane.proofs.quad_sums.mixed_part.Goals as goal

pub returns-clause-value : goal.returns-clause-value
returns-clause-value c =
    let q = c.args.q.now in
    let p = c.args.p.now in
    read_total c.sum.result c.twice-3.result c.sum-2.result _ _ (search rules) c.sum-2.ensures.value
    (read_total c.twice.result c.twice-2.result c.sum.result _ _ (search rules) c.sum.ensures.value
    (read_twice q.ab p.x p.y c.twice.result (search rules) (search rules) (search rules) (search rules) c.twice.ensures.value)
    (read_twice q.ac p.x p.z c.twice-2.result (search rules) (search rules) (search rules) (search rules) c.twice-2.ensures.value))
    (read_twice q.bc p.y p.z c.twice-3.result (search rules) (search rules) (search rules) (search rules) c.twice-3.ensures.value)

pub returns-clause-size : goal.returns-clause-size
returns-clause-size c =
    let q = c.args.q.now in
    let first = size_twice q.ab c.twice.result q.planes (search rules) (search rules) c.twice.ensures.size q.bounded.ab in
    let second = size_twice q.ac c.twice-2.result q.planes (search rules) (search rules) c.twice-2.ensures.size q.bounded.ac in
    let third = size_twice q.bc c.twice-3.result q.planes (search rules) (search rules) c.twice-3.ensures.size q.bounded.bc in
    let both = size_as c.sum.result _ (search rules) c.sum.ensures.size in
    let all = size_as c.sum-2.result _ (search rules) c.sum-2.ensures.size in
    omega arith
