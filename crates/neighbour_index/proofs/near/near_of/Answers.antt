use Rattle.std.proofs.Common.{◌≡◌, ℕ, List, eqb, ap, ◌∙◌, subst, sym}
use Rattle.std.proofs.lemmas.List.Sorted.{IsNonDecreasingBy-from_sort, list_any-IsPermutation}
use Rattle.std.specs.List.Sorted.{IsNonDecreasing}
use Rattle.oemm_lists.specs.Numbers.{among}
use Rattle.oemm_octree.specs.Leaves.{is_one_of}
use Rattle.neighbour_index.specs.Neighbours.{is_listed}
use Rattle.neighbour_index.proofs.Members.{own_is, shared_is, near_is}
use Rattle.neighbour_index.proofs.near.near_of.Goals as goal

pub shared_with-requires : goal.shared_with-requires
shared_with-requires c =
    subst IsNonDecreasing (sym c.as_slice.ensures.value)
    (IsNonDecreasingBy-from_sort (λ x. x) c.sort_unstable.new.self.items c.sort_unstable.ensures.sorted)

pub others_of-requires : goal.others_of-requires
others_of-requires c =
    subst IsNonDecreasing (sym c.as_slice-2.ensures.value)
    (IsNonDecreasingBy-from_sort (λ x. x) c.sort_unstable-2.new.self.items c.sort_unstable-2.ensures.sorted)

pub returns : goal.returns
returns c =
    let homes = c.args.homes.now in
    let faces = c.args.faces.now in
    let leaf = c.args.leaf in
    let own = c.as_slice.result.now in
    let shared = c.as_slice-2.result.now in
    let owns : (v : ℕ) → among v own ≡ is_listed homes leaf v = λ v.
    ap (among v) c.as_slice.ensures.value
    ∙ sym (list_any-IsPermutation (λ n. eqb n v) c.in_ok-own.own.items c.sort_unstable.new.self.items
    c.sort_unstable.ensures.permutation)
    ∙ ap (among v) c.in_ok-own.ensures
    ∙ own_is homes leaf v in
    let shares = λ (w : ℕ).
    ap (among w) c.as_slice-2.ensures.value
    ∙ sym (list_any-IsPermutation (λ n. eqb n w) c.in_ok-shared.shared.items c.sort_unstable-2.new.self.items
    c.sort_unstable-2.ensures.permutation)
    ∙ ap (among w) c.in_ok-shared.ensures
    ∙ shared_is faces own w in
    λ l.
    c.set_of.ensures l
    ∙ ap (λ (xs : List ℕ). is_one_of xs l) c.in_ok-near.ensures
    ∙ near_is homes faces leaf own shared owns shares l
