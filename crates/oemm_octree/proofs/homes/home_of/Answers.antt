use Rattle.std.proofs.Common.{◌-◌, ◌+◌, ◌/◌, arith, ℕ}
use Rattle.oemm_octree.proofs.CellParts.{root_holds}
use Rattle.oemm_octree.proofs.Ranks.{home_ranked}
use Rattle.oemm_octree.proofs.Searches.{depth_at, not_behind, is_behind, few_tiles}
use Rattle.oemm_octree.proofs.homes.home_of.Goals as goal

pub loop-high-init : goal.loop-high-init
loop-high-init c = let there = (home_ranked c.args.cells.now c.args.p c.requires
    (root_holds c.args.p c.on_grid.ensures)).0 in
    record {
      from = omega arith;
      to = omega (arith, there, c.len-high.ensures);
      within = omega (
        arith,
        c.len-high.ensures,
      );
    }

pub is_up_to-requires : goal.is_up_to-requires
is_up_to-requires c = depth_at c.args.cells.now (c.loop-high.low + (c.loop-high.high - c.loop-high.low) / 2)
    c.at.result.now c.requires (omega (arith, c.loop-high.invariant.within, c.loop-high-test.true)) c.at.ensures

pub overflow_cast-result : goal.overflow_cast-result
overflow_cast-result c = omega (
  arith,
  c.loop-high.invariant.from,
  c.loop-high.invariant.to,
  c.loop-high.invariant.within,
  few_tiles c.args.cells.now c.requires,
)

abbrev mid : ℕ → ℕ → ℕ
mid low high = low + (high - low) / 2

pub loop-high-preserved-then-is_up_to : goal.loop-high-preserved-then-is_up_to
loop-high-preserved-then-is_up_to c =
    let k = mid c.loop-high.low c.loop-high.high in
    let told = not_behind c.args.cells.now c.args.p k c.at.result.now c.requires
    (root_holds c.args.p c.on_grid.ensures)
    (omega (arith, c.loop-high.invariant.within, c.loop-high-test.true)) c.at.ensures c.if-is_up_to.ensures in
    record { from = told; to = c.loop-high.invariant.to; within = c.loop-high.invariant.within }

pub loop-high-preserved : goal.loop-high-preserved
loop-high-preserved c =
    let k = mid c.loop-high.low c.loop-high.high in
    let told = is_behind c.args.cells.now c.args.p k c.at.result.now c.requires
    (root_holds c.args.p c.on_grid.ensures)
    (omega (arith, c.loop-high.invariant.within, c.loop-high-test.true)) c.at.ensures c.if-is_up_to.ensures in
    record {
      from = c.loop-high.invariant.from;
      to = told;
      within = omega (
        arith,
        c.loop-high.invariant.within,
        c.loop-high-test.true,
      );
    }
