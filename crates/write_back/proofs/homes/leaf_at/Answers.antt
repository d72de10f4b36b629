use Rattle.std.proofs.Common.{◌<◌, ℕ, List, ap, is_ok, length, rules, subst, sym}
use Rattle.std.proofs.lemmas.List.Sorted.{answers_always}
use Rattle.std.specs.List.Sorted.{IsBinarySearchResult, IsSearchInRange}
use Rattle.std.specs.Ordering.{nat_cmp}
use Rattle.write_back.proofs.Lookups.{leaf_found, leaf_missing}
use Rattle.write_back.proofs.homes.leaf_at.Goals as goal

pub returns-in-Ok : goal.returns-in-Ok
returns-in-Ok c =
    let homes : List (ℕ × ℕ) = c.args.homes.now in
    let found = c.binary_search_by_key.ensures in
    let by_name = found.position (λ h. h.0) (answers_always _ _ _ (λ f a r h called. search rules)) in
    let here = subst (IsBinarySearchResult (λ y. nat_cmp y.0 c.args.v) homes) c.in-Ok.is by_name in
    let below : c.in-Ok.place < length homes = subst (λ r. IsSearchInRange r (length homes)) c.in-Ok.is found.bound in
    sym (leaf_found homes c.args.none c.args.v c.in-Ok.place c.index-homes-place.result c.requires below
    (here c.index-homes-place.result))

pub returns-in-Err : goal.returns-in-Err
returns-in-Err c =
    let homes : List (ℕ × ℕ) = c.args.homes.now in
    let found = c.binary_search_by_key.ensures in
    let by_name = found.position (λ h. h.0) (answers_always _ _ _ (λ f a r h called. search rules)) in
    sym (leaf_missing homes c.args.none c.args.v c.binary_search_by_key.result c.requires found.bound by_name
    (ap is_ok c.in-Err.is))
