use Rattle.std.proofs.Common.{◌<◌, ◌≡◌, ◌+◌, min, ℕ, ◌++◌, ◌∷◌, [], length, set, subst, arith}
use Rattle.std.specs.Prelude.{slice_index}
use Rattle.leaf_audit.specs.Tallies.{AreTimes}
use Rattle.leaf_audit.proofs.Times.{times_more}
use Rattle.leaf_audit.proofs.names.count_name.Goals as goal

pub returns-clause-counted : goal.returns-clause-counted
returns-clause-counted c = λ names times.
    let table = c.args.times.now in
    let v = c.v.inside.0 in
    let lt : v < length table = omega (arith, c.requires, c.v.view_is) in
    let is : c.min.result ≡ min (slice_index table v + 1) 2 = omega (arith, c.min.ensures, c.saturating_add.ensures) in
    subst (λ (n : ℕ). AreTimes (set table v c.min.result) (names ++ n ∷ [])) c.v.view_is
    (times_more table names v c.min.result lt times is)
