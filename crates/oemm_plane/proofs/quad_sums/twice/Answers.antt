use Rattle.std.proofs.Common.{rules, ◌*ℤ◌, ◌∙◌, ap, FitsSigned}
use Rattle.std.specs.Int.{w128}
use Rattle.std.proofs.lemmas.Int.{to_z-of_z}
use Rattle.oemm_plane.proofs.SumsRing.{mul_assoc}
use Rattle.oemm_plane.proofs.quad_sums.twice.Goals as goal

pub returns-clause-value : goal.returns-clause-value
returns-clause-value c =
    let k = c.ranges.k in
    let x = c.ranges.x in
    let y = c.ranges.y in
    let first : FitsSigned w128 c.once.result = search rules in
    let second : FitsSigned w128 c.once-2.result = search rules in
    simp to_z-of_z (
    simp to_z-of_z at c.once-2.ensures.value
    ∙ ap (λ z. z *ℤ c.args.y) (simp to_z-of_z at c.once.ensures.value)
    ∙ mul_assoc c.args.k c.args.x c.args.y)
