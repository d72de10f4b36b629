use Rattle.std.proofs.Common.{rules, ◌≡◌, ap, ◌∙◌, sym, subst, List, ℕ, map}
use Rattle.std.proofs.lemmas.List.Sorted.{answers_always}
use Rattle.std.specs.List.Sorted.{IsStrictlyIncreasing, IsBinarySearchResult}
use Rattle.std.specs.Ordering.{nat_cmp}
use Rattle.oemm_lists.specs.Numbers.{among}
use Rattle.oemm_lists.proofs.Searches.{ascending_rises, found_by}
use Rattle.oemm_lists.proofs.ascending_set.AscendingSet.has.Goals as goal

-- the closure gives an item's number, and the numbers of the items ascend
pub returns : goal.returns
returns g c =
    let number = g.T.Numbered.number in
    let items = c.self.inside.items in
    let shown : c.slice.result.now ≡ items = c.slice.ensures in
    let numbers : map number c.slice.result.now ≡ c.args.self.now = ap (map number) shown ∙ sym (g.met.T.Numbered.each items) ∙ c.self.view_is in
    let found = c.binary_search_by_key.ensures in
    let by_number = found.position number (answers_always _ _ _ (λ f a r h called. search rules)) in
    c.is_ok.ensures.value
    ∙ found_by number c.slice.result.now c.number-number.result c.binary_search_by_key.result
    (ascending_rises _ (subst IsStrictlyIncreasing (g.met.T.Numbered.each items ∙ ap (map number) (sym shown)) c.self.invariant))
    found.bound by_number
    ∙ (λ i. among (c.number-number.ensures i) (numbers i))
