use Rattle.std.proofs.Common.{◌-◌, sym, ◌∙◌, arith}
use Rattle.oemm_octree.specs.Leaves.{octants}
use Rattle.oemm_octree.specs.Walks.{walk}
use Rattle.oemm_octree.proofs.Steps.{walk_none, walk_same, walk_ends, walk_down, each_next, each_stops, each_end}
use Rattle.oemm_octree.proofs.tiling.+walk.Goals as goal

pub returns-in-None : goal.returns-in-None
returns-in-None t c = walk_none c.args.more c.args.c c.args.cells.now c.in-None.ensures.cases

pub returns-then-eq : goal.returns-then-eq
returns-then-eq t c = walk_same c.args.more c.args.c _ c.args.cells.now _ c.in-Some.ensures.cases.0 c.if-eq.ensures

pub returns-then-more-eq0 : goal.returns-then-more-eq0
returns-then-more-eq0 t c = walk_ends c.args.more c.args.c _ c.args.cells.now _ c.in-Some.ensures.cases.0
    c.if-eq.ensures c.if-more-eq0.true

pub returns-in-None-walk : goal.returns-in-None-walk
returns-in-None-walk t c =
    walk_down c.args.more c.args.c _ c.args.cells.now _ c.in-Some.ensures.cases.0 c.if-eq.ensures c.if-more-eq0.false
    ∙ sym c.loop-number.invariant
    ∙ each_stops (walk (c.args.more - 1))
    (octants c.args.c) c.loop-number.number c.octant.result c.loop-number.left.now (omega (
      arith,
      c.loop-number-test.true,
    )) c.octant.ensures.octant c.in-None-walk.ensures

pub loop-number-preserved : goal.loop-number-preserved
loop-number-preserved t c =
    each_next (walk (c.args.more - 1))
    (octants c.args.c) c.loop-number.number c.octant.result c.loop-number.left.now c.in-Some-walk.rest.now
    (omega (arith, c.loop-number-test.true)) c.octant.ensures.octant c.in-Some-walk.ensures
    ∙ c.loop-number.invariant

pub returns : goal.returns
returns t c =
    walk_down c.args.more c.args.c _ c.args.cells.now _ c.in-Some.ensures.cases.0 c.if-eq.ensures c.if-more-eq0.false
    ∙ sym c.loop-number.invariant
    ∙ each_end (walk (c.args.more - 1))
    (octants c.args.c) c.loop-number.number c.loop-number.left.now (omega (arith, c.loop-number-test.false))
