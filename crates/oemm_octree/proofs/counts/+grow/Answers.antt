use Rattle.std.proofs.Common.{◌≡◌, ◌≤◌, ◌<◌, ◌-◌, ◌++◌, ℕ, sym, ap, ◌∙◌, subst, arith, length}
use Rattle.oemm_octree.specs.Morton.{morton}
use Rattle.oemm_octree.proofs.Counting.{morton_below, counter_is, grown_none, grown_more, grown_kept, grown_cut, total_is, rank_more}
use Rattle.oemm_octree.proofs.Numbers.{power_few, power_five}
use Rattle.oemm_octree.proofs.counts.+grow.Goals as goal

pub bounds-counters-number : goal.bounds-counters-number
bounds-counters-number t c =
    let below = morton_below c.args.c.depth c.args.c.x c.args.c.y c.args.c.z in
    let few = power_few c.args.c.depth (omega (arith, c.requires.depth)) in
    omega (arith, c.requires.number, c.requires.whole)

pub returns-then-more-eq0 : goal.returns-then-more-eq0
returns-then-more-eq0 t c = λ points few are. (
  counter_is c.args.counters.now points c.args.more c.args.c c.args.number are c.if-more-eq0.true c.requires.depth
      c.requires.placed c.requires.number,
  c.in_ok-push.ensures.items ∙ ap (λ xs. c.args.cells.now.items ++ xs)
      (sym (grown_none points c.args.cap c.args.more c.args.c c.if-more-eq0.true)),
)

few_numbers : (d x y z n : ℕ) → d ≤ 5 → n ≡ morton d x y z → n < 32768
few_numbers d x y z n le is = subst (λ n. n < 32768) (sym is)
    (let below = morton_below d x y z in let few = power_five d le in omega arith)

pub overflow_mul-number : goal.overflow_mul-number
overflow_mul-number t c =
    let few = few_numbers c.args.c.depth c.args.c.x c.args.c.y c.args.c.z c.args.number (omega (
      arith,
      c.requires.depth,
      c.if-more-eq0.false,
    )) c.requires.number in
    omega arith

pub overflow_add-number : goal.overflow_add-number
overflow_add-number t c =
    let few = few_numbers c.args.c.depth c.args.c.x c.args.c.y c.args.c.z c.args.number (omega (
      arith,
      c.requires.depth,
      c.if-more-eq0.false,
    )) c.requires.number in
    omega (arith, c.from.ensures, c.loop-i-test.true)

pub grow-requires : goal.grow-requires
grow-requires t c = (
  omega (arith, c.decreases, c.if-more-eq0.false),
  (
    c.requires.whole,
    (
      omega (arith, c.octant.ensures.deeper, c.requires.depth, c.if-more-eq0.false),
      (
        c.octant.ensures.placed,
        rank_more c.args.c c.octant.result c.loop-i.i c.from.result c.args.number (omega (
          arith,
          c.loop-i-test.true,
        )) c.octant.ensures.octant c.from.ensures c.requires.number,
      ),
    ),
  ),
)

pub loop-i-preserved : goal.loop-i-preserved
loop-i-preserved t c = λ points few are.
    grown_more points c.args.cap (c.args.more - 1) c.loop-i.i c.loop-i.total c.in_ok-n.n
    c.saturating_add-total.result c.args.c c.octant.result c.args.cells.now.items c.loop-i.cells.items
    c.grow.new.cells.items
    few (omega (arith, c.requires.depth))
    (omega (arith, c.loop-i-test.true)) c.octant.ensures.octant (c.loop-i.invariant points few are)
    (c.in_ok-n.ensures points few are) c.saturating_add-total.ensures

pub returns-in_ok-push-2 : goal.returns-in_ok-push-2
returns-in_ok-push-2 t c = λ points few are.
    let at = c.loop-i.invariant points few are in
    let total = total_is points c.args.cap c.loop-i.total c.loop-i.i c.args.c (omega (arith, c.requires.depth))
    (omega (arith, c.loop-i-test.false)) at.0 in (
      total,
      grown_cut points c.args.cap c.args.more (length c.as_slice-start.result.now) c.loop-i.total c.args.c
          c.args.cells.now.items _ c.loop-i.cells.items c.truncate.new.self.items c.push-then-total-cap.new.self.items
          c.if-more-eq0.false c.if-total-cap.true total (ap length c.as_slice-start.ensures.value) at.1
          c.truncate.ensures.items c.in_ok-push-2.ensures.items,
    )

pub returns-else-total-cap : goal.returns-else-total-cap
returns-else-total-cap t c = λ points few are.
    let at = c.loop-i.invariant points few are in
    let total = total_is points c.args.cap c.loop-i.total c.loop-i.i c.args.c (omega (arith, c.requires.depth))
    (omega (arith, c.loop-i-test.false)) at.0 in (
      total,
      grown_kept points c.args.cap c.args.more c.loop-i.i c.loop-i.total c.args.c c.args.cells.now.items
          c.loop-i.cells.items
          c.if-more-eq0.false (omega (arith, c.loop-i-test.false)) (omega (arith, c.if-total-cap.false)) total at.1,
    )
