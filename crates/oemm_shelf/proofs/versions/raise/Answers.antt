use Rattle.std.proofs.Common.{◌<◌, ◌≡◌, length, get_or, sym, subst, arith, length-set}
use Rattle.oemm_octree.specs.Leaves.{AreBelow}
use Rattle.oemm_shelf.proofs.Gathered.{below_at, item_is, raised_more}
use Rattle.oemm_shelf.proofs.versions.raise.Goals as goal

pub index_mut-requires : goal.index_mut-requires
index_mut-requires c =
    let n = length c.args.versions.now.items in
    let lt : c.leaf.inside.0 < n =
    below_at n c.slice-leaf-items.result.now c.loop-leaf.leaf-index c.leaf.inside.0
    (subst (AreBelow n) (sym c.slice-leaf-items.ensures.items) c.requires.below) c.loop-leaf-test.true
    (item_is c.slice-leaf-items.result.now c.loop-leaf.leaf-index c.leaf-item.result c.leaf.inside.0 c.leaf.view_is c.leaf-item.is) in
    omega (arith, lt, c.loop-leaf.invariant.each, c.loop-leaf.versions.ok.0)

pub loop-leaf-preserved : goal.loop-leaf-preserved
loop-leaf-preserved c =
    let n = length c.args.versions.now.items in
    let at : get_or c.slice-leaf-items.result.now c.loop-leaf.leaf-index c.leaf.inside.0 ≡ c.leaf.inside.0 =
    item_is c.slice-leaf-items.result.now c.loop-leaf.leaf-index c.leaf-item.result c.leaf.inside.0 c.leaf.view_is c.leaf-item.is in
    let lt : c.leaf.inside.0 < n =
    below_at n c.slice-leaf-items.result.now c.loop-leaf.leaf-index c.leaf.inside.0
    (subst (AreBelow n) (sym c.slice-leaf-items.ensures.items) c.requires.below) c.loop-leaf-test.true at in
    record {
      each = rw length-set c.loop-leaf.invariant.each;
      is = raised_more c.slice-leaf-items.result.now c.loop-leaf.leaf-index c.leaf.inside.0 c.args.number
          c.args.versions.now.items c.loop-leaf.versions.items at c.loop-leaf-test.true
          (omega (arith, lt, c.loop-leaf.invariant.each)) c.loop-leaf.invariant.is;
    }
