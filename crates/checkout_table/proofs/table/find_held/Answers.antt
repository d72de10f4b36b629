use Rattle.std.proofs.Common.{rules, ◌≡◌, ◌<◌, ℕ, length, get_or, Option, Some, None, sym, ◌∙◌}
use Rattle.std.proofs.lemmas.List.{get_or_default}
use Rattle.checkout_table.specs.Holders.{holder}
use Rattle.checkout_table.proofs.Cores.{turn, is_at, free_below}
use Rattle.checkout_table.proofs.table.find_held.Goals as goal

pub bounds-holders-leaf-inside : goal.bounds-holders-leaf-inside
bounds-holders-leaf-inside c =
    let core = c.args.core.now in
    let i = c.loop-leaf.leaf-index in
    let n = c.leaf.inside.0 in
    let leaf : n ≡ c.leaf-item.result = search rules in
    let at = turn c.slice-leaf-items.result.now core i c.leaf-item.result n c.slice-leaf-items.ensures.items
    c.loop-leaf-test.true c.leaf-item.is leaf in
    c.requires n (is_at core i n at.0 at.1)

pub bounds : goal.bounds
bounds c =
    let core = c.args.core.now in
    let i = c.loop-leaf.leaf-index in
    let n = c.leaf.inside.0 in
    let leaf : n ≡ c.leaf-item.result = search rules in
    let at = turn c.slice-leaf-items.result.now core i c.leaf-item.result n c.slice-leaf-items.ensures.items
    c.loop-leaf-test.true c.leaf-item.is leaf in
    c.requires n (is_at core i n at.0 at.1)

pub bounds-holders-leaf-inside-in-Some-1 : goal.bounds-holders-leaf-inside-in-Some-1
bounds-holders-leaf-inside-in-Some-1 c =
    let core = c.args.core.now in
    let i = c.loop-leaf.leaf-index in
    let n = c.leaf.inside.0 in
    let leaf : n ≡ c.leaf-item.result = search rules in
    let at = turn c.slice-leaf-items.result.now core i c.leaf-item.result n c.slice-leaf-items.ensures.items
    c.loop-leaf-test.true c.leaf-item.is leaf in
    c.requires n (is_at core i n at.0 at.1)

pub returns-in-Some-clause-err : goal.returns-in-Some-clause-err
returns-in-Some-clause-err c =
    let core = c.args.core.now in
    let i = c.loop-leaf.leaf-index in
    let n = c.leaf.inside.0 in
    let leaf : n ≡ c.leaf-item.result = search rules in
    let at = turn c.slice-leaf-items.result.now core i c.leaf-item.result n c.slice-leaf-items.ensures.items
    c.loop-leaf-test.true c.leaf-item.is leaf in
    let os = c.args.holders.now in
    let below : n < length os = c.requires n (is_at core i n at.0 at.1) in
    let read : (d : Option ℕ) → get_or os n d ≡ Some c.in-Some.lane → holder os n ≡ Some c.in-Some.lane =
    λ d is. get_or_default os n None d below ∙ is in
    let read_back : (d : Option ℕ) → Some c.in-Some.lane ≡ get_or os n d → holder os n ≡ Some c.in-Some.lane =
    λ d is. get_or_default os n None d below ∙ sym is in
    record {
      asked = is_at core i n at.0 at.1;
      held = search (read, read_back, rules);
      least = free_below c.args.holders.now core i n at.0 at.1 c.slice-leaf-items.ensures.ascending
          c.loop-leaf.invariant;
    }
