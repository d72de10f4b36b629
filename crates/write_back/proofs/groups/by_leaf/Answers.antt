use Rattle.std.proofs.Common.{◌≡◌, arith, length, rules}
use Rattle.std.proofs.lemmas.List.Sorted.{IsNonDecreasingBy-from_sort, answers_always}
use Rattle.write_back.proofs.Stable.{stable_same}
use Rattle.write_back.proofs.groups.by_leaf.Goals as goal

pub returns : goal.returns
returns g c =
    let sorts = c.in_ok-sort_by_key.ensures in
    let long : length c.sort_by_key.new.self.items ≡ length c.args.items.items =
    omega (arith, sorts.len, c.sort_by_key.new.self.ok.0, c.args.items.ok.0) in
    record {
      sorted = IsNonDecreasingBy-from_sort (λ x. x.0) c.sort_by_key.new.self.items
          (sorts.sorted (λ x. x.0) (answers_always _ _ _ (λ f a r h called. search rules)));
      same = stable_same c.args.items.items c.sort_by_key.new.self.items long
          (sorts.stable (λ x. x.0) (answers_always _ _ _ (λ f a r h called. search rules)));
    }
