use Rattle.std.proofs.Common.{◌≡◌, ◌≢◌, ◌<◌, ℕ, ◌∷◌, get_or}
use Rattle.link_test.proofs.neighbours.name_after.Given as goal

abbrev pub invariant-loop-name : goal.invariant-loop-name
invariant-loop-name l =
    let round = l.initial.before ∷ l.ring in
    (l.before ≡ get_or round l.name-index 0) × ((k : ℕ) → k < l.name-index → get_or round k 0 ≢ l.v)
