use Rattle.std.proofs.Common.{◌≡◌, ◌≢◌, ◌<◌, ℕ, ◌∷◌, get_or}
use Rattle.link_test.proofs.neighbours.name_before.Given as goal

abbrev pub invariant-loop-name : goal.invariant-loop-name
invariant-loop-name l = (l.before ≡ get_or (l.initial.before ∷ l.ring) l.name-index 0) × ((k : ℕ) → k < l.name-index → get_or l.ring k 0 ≢ l.v)
