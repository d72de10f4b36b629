use Rattle.std.proofs.Common.{◌≡◌, ◌+◌, ◌%◌, ◌<◌, length, get_or, arith, refl, sym, ◌∙◌}
use Rattle.std.proofs.lemmas.Grind.{get_or_default_zero}
use Rattle.oemm_octree.proofs.Searches.{depth_at}
use Rattle.oemm_shelf.proofs.Gathered.{below_at, item_is}
use Rattle.oemm_make.proofs.Lanes.{lane_small, lanes_more, no_lanes, placed_at, tiles_more}
use Rattle.oemm_make.proofs.leaf_tasks.tiles_of.Goals as goal

pub loop-leaf-init : goal.loop-leaf-init
loop-leaf-init c = record { tasks = c.new-tasks.ensures; lanes = no_lanes c.args.leaves.now }

pub at-requires : goal.at-requires
at-requires c =
    below_at (length c.args.cells.now) c.args.leaves.now c.loop-leaf.leaf-index c.leaf.inside.0 c.requires.below
    c.loop-leaf-test.true
    (item_is c.args.leaves.now c.loop-leaf.leaf-index c.leaf-item.result c.leaf.inside.0 c.leaf.view_is c.leaf-item.is)

pub task_of-requires-clause-depth : goal.task_of-requires-clause-depth
task_of-requires-clause-depth c =
    let lt : c.leaf.inside.0 < length c.args.cells.now =
    below_at (length c.args.cells.now) c.args.leaves.now c.loop-leaf.leaf-index c.leaf.inside.0 c.requires.below
    c.loop-leaf-test.true
    (item_is c.args.leaves.now c.loop-leaf.leaf-index c.leaf-item.result c.leaf.inside.0 c.leaf.view_is c.leaf-item.is) in
    depth_at c.args.cells.now c.leaf.inside.0 c.at.result.now c.requires.octree lt c.at.ensures

pub task_of-requires-clause-places : goal.task_of-requires-clause-places
task_of-requires-clause-places c =
    let lt : c.leaf.inside.0 < length c.args.cells.now =
    below_at (length c.args.cells.now) c.args.leaves.now c.loop-leaf.leaf-index c.leaf.inside.0 c.requires.below
    c.loop-leaf-test.true
    (item_is c.args.leaves.now c.loop-leaf.leaf-index c.leaf-item.result c.leaf.inside.0 c.leaf.view_is c.leaf-item.is) in
    placed_at c.args.cells.now c.leaf.inside.0 c.at.result.now c.requires.octree lt c.at.ensures

pub overflow_add-counts : goal.overflow_add-counts
overflow_add-counts c =
    omega (
      arith,
      lane_small c.loop-leaf.counts c.args.leaves.now c.loop-leaf.leaf-index (c.leaf.inside.0 % 64) (omega arith)
          c.loop-leaf.invariant.lanes c.requires.few,
    )

pub loop-leaf-preserved : goal.loop-leaf-preserved
loop-leaf-preserved c =
    let leaves = c.args.leaves.now in
    let n = c.loop-leaf.leaf-index in
    let leaf = c.leaf.inside.0 in
    let inv = c.loop-leaf.invariant in
    let at : get_or leaves n leaf ≡ leaf = item_is leaves n c.leaf-item.result leaf c.leaf.view_is c.leaf-item.is in
    let there : get_or leaves n 0 ≡ leaf = sym (get_or_default_zero leaves n leaf c.loop-leaf-test.true) ∙ at in
    let number = get_or c.loop-leaf.counts (leaf % 64) 0 in
    record {
      tasks = tiles_more c.args.cells.now leaves c.args.edit.now n leaf number c.at.result.now c.loop-leaf.counts
          c.loop-leaf.tasks c.add.new.self c.in_ok-task.task there c.at.ensures inv.lanes refl c.in_ok-task.ensures
          inv.tasks c.in_ok-add.ensures.ok;
      lanes = lanes_more c.loop-leaf.counts leaves n leaf c.loop-leaf-test.true at inv.lanes;
    }
