use Rattle.std.proofs.Common.{ℤ, ◌*◌, ◌≤◌, nat_abs, sym, subst}
use Rattle.oemm_plane.proofs.SumsSizes.{size_product, read_product}
use Rattle.oemm_plane.proofs.quad_sums.once.Goals as goal

pub returns-clause-size : goal.returns-clause-size
returns-clause-size c =
    subst (λ (z : ℤ). nat_abs z ≤ nat_abs c.args.k * 32768)
    (sym (read_product c.args.k c.args.x c.ranges.k c.ranges.x c.requires)) (size_product c.args.k c.args.x c.ranges.x)
