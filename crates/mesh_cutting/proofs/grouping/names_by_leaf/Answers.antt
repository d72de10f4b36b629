use Rattle.std.proofs.Common.{ℕ, refl, rules, length}
use Rattle.std.proofs.lemmas.List.Sorted.{answers_always}
use Rattle.std.specs.Cmp.{nat_cmp_total}
use Rattle.std.specs.FinMap.{nat_cmp-IsAntisymmetric}
use Rattle.std.specs.List.{range_with_len}
use Rattle.mesh_cutting.proofs.Groups.{grouped, range_rises}
use Rattle.mesh_cutting.proofs.grouping.names_by_leaf.Goals as goal

pub returns : goal.returns
returns c =
    let all = range_with_len 0 (length c.args.homes.now) in
    grouped nat_cmp_total nat_cmp-IsAntisymmetric _ all all _ _
    (range_rises 0 (length c.args.homes.now)) (λ f. refl) c.in_ok-names.ensures
    (c.sort_unstable_by_key.ensures.sorted (λ (x : ℕ × ℕ). (x.0, x.1))
    (answers_always _ _ _ (λ f a r g h. search rules)))
    c.sort_unstable_by_key.ensures.permutation
