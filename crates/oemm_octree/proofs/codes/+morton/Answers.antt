use Rattle.std.proofs.Common.{◌-◌, sym, ap, arith}
use Rattle.oemm_octree.specs.Morton.{morton}
use Rattle.oemm_octree.proofs.Numbers.{morton_is, morton_small, power_few}
use Rattle.oemm_octree.proofs.codes.+morton.Goals as goal

pub returns-then-depth-eq0-clause-number : goal.returns-then-depth-eq0-clause-number
unfolding morton
returns-then-depth-eq0-clause-number t c = sym (ap (λ n. morton n c.args.x c.args.y c.args.z) c.if-depth-eq0.true)

pub overflow_mul-result : goal.overflow_mul-result
overflow_mul-result t c = let few = power_few (c.args.depth - 1) (omega arith) in
    omega (arith, c.morton.ensures.small)

pub overflow_add-result : goal.overflow_add-result
overflow_add-result t c = let few = power_few (c.args.depth - 1) (omega arith) in
    omega (arith, c.morton.ensures.small, c.from.ensures, c.from-2.ensures, c.from-3.ensures)

pub returns-clause-number : goal.returns-clause-number
returns-clause-number t c = morton_is c.args.depth c.args.x c.args.y c.args.z _ _ _ _ c.if-depth-eq0.false
    c.from.ensures c.from-2.ensures c.from-3.ensures c.morton.ensures.number

pub returns-clause-small : goal.returns-clause-small
returns-clause-small t c = morton_small c.args.depth c.args.x c.args.y c.args.z _ _ _ _ c.if-depth-eq0.false
    c.from.ensures c.from-2.ensures c.from-3.ensures c.morton.ensures.small
