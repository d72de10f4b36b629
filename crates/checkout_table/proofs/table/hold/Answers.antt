use Rattle.std.proofs.Common.{rules, ◌≡◌, ℕ, ◌<◌, length, sym, subst}
use Rattle.checkout_table.proofs.Cores.{turn, is_at, set_more}
use Rattle.checkout_table.proofs.table.hold.Goals as goal

pub bounds-holders-leaf-inside : goal.bounds-holders-leaf-inside
bounds-holders-leaf-inside c =
    let core = c.args.core.now in
    let i = c.loop-leaf.leaf-index in
    let n = c.leaf.inside.0 in
    let leaf : n ≡ c.leaf-item.result = search rules in
    let at = turn c.slice-leaf-items.result.now core i c.leaf-item.result n c.slice-leaf-items.ensures.items
    c.loop-leaf-test.true c.leaf-item.is leaf in
    subst (λ (k : ℕ). n < k) (sym c.loop-leaf.invariant.leaves) (c.requires n (is_at core i n at.0 at.1))

pub loop-leaf-preserved : goal.loop-leaf-preserved
loop-leaf-preserved c =
    let core = c.args.core.now in
    let i = c.loop-leaf.leaf-index in
    let n = c.leaf.inside.0 in
    let leaf : n ≡ c.leaf-item.result = search rules in
    let at = turn c.slice-leaf-items.result.now core i c.leaf-item.result n c.slice-leaf-items.ensures.items
    c.loop-leaf-test.true c.leaf-item.is leaf in
    let below : n < length c.loop-leaf.holders =
    subst (λ (k : ℕ). n < k) (sym c.loop-leaf.invariant.leaves) (c.requires n (is_at core i n at.0 at.1)) in
    set_more c.args.lane.now core c.args.holders.now c.loop-leaf.holders i n at.0 at.1 below c.loop-leaf.invariant
