use Rattle.std.proofs.Common.{rules, arith}
use Rattle.oemm_plane.proofs.SumsRead.{read_as, read_total, read_once, size_as, size_once}
use Rattle.oemm_plane.proofs.quad_sums.half_part.Goals as goal

pub sum-requires-3 : goal.sum-requires-3
sum-requires-3 c =
    let q = c.args.q.now in
    let few = q.bounded.planes in
    let mixed = size_as c.mixed_part.result _ (search rules) c.mixed_part.ensures.size in
    let first = size_once q.ad c.once.result q.planes (search rules) (search rules) c.once.ensures.size q.bounded.ad in
    let second = size_once q.bd c.once-2.result q.planes (search rules) (search rules) c.once-2.ensures.size q.bounded.bd in
    let third = size_once q.cd c.once-3.result q.planes (search rules) (search rules) c.once-3.ensures.size q.bounded.cd in
    let ones = size_as c.sum.result _ (search rules) c.sum.ensures.size in
    let both = size_as c.sum-2.result _ (search rules) c.sum-2.ensures.size in
    omega arith

pub returns-clause-value : goal.returns-clause-value
returns-clause-value c =
    let q = c.args.q.now in
    let p = c.args.p.now in
    read_total c.sum-2.result c.once-3.result c.sum-3.result _ _ (search rules) c.sum-3.ensures.value
    (read_total c.mixed_part.result c.sum.result c.sum-2.result _ _ (search rules) c.sum-2.ensures.value
    (read_as c.mixed_part.result _ (search rules) c.mixed_part.ensures.value)
    (read_total c.once.result c.once-2.result c.sum.result _ _ (search rules) c.sum.ensures.value
    (read_once q.ad p.x c.once.result (search rules) (search rules) (search rules) c.once.ensures.value)
    (read_once q.bd p.y c.once-2.result (search rules) (search rules) (search rules) c.once-2.ensures.value)))
    (read_once q.cd p.z c.once-3.result (search rules) (search rules) (search rules) c.once-3.ensures.value)

pub returns-clause-size : goal.returns-clause-size
returns-clause-size c =
    let q = c.args.q.now in
    let mixed = size_as c.mixed_part.result _ (search rules) c.mixed_part.ensures.size in
    let first = size_once q.ad c.once.result q.planes (search rules) (search rules) c.once.ensures.size q.bounded.ad in
    let second = size_once q.bd c.once-2.result q.planes (search rules) (search rules) c.once-2.ensures.size q.bounded.bd in
    let third = size_once q.cd c.once-3.result q.planes (search rules) (search rules) c.once-3.ensures.size q.bounded.cd in
    let ones = size_as c.sum.result _ (search rules) c.sum.ensures.size in
    let both = size_as c.sum-2.result _ (search rules) c.sum-2.ensures.size in
    let all = size_as c.sum-3.result _ (search rules) c.sum-3.ensures.size in
    omega arith
