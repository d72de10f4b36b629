-- Stamped candidates and their order.
use Rattle.std.specs.Prelude.{ℕ, ℤ, Bool, nat_le, List, [], ◌∷◌, map, if◌then◌else◌, refl}
use Rattle.std.specs.Coded.{Coded, code_by, coded×, coded_ℕ, coded_ℤ}
use Rattle.std.specs.FinMap as finite
use Rattle.std.specs.Option.{option_map_or}
use Rattle.std.specs.Ordering.{nat_cmp, int_cmp, ordering_then}
use Rattle.std.specs.declared.cmp.Ordering.{Ordering}
use Rattle.std.specs.declared.cmp.Reverse.{Reverse}
use Rattle.collapse_queue.specs.declared.candidate.Candidate.{Candidate}

-- candidates by their costs, then by their names, then by their stamps
abbrev pub candidate_cmp : Candidate → Candidate → Ordering
candidate_cmp c d =
    ordering_then (int_cmp c.cost d.cost)
    (ordering_then (nat_cmp c.u d.u) (ordering_then (nat_cmp c.v d.v) (nat_cmp c.stamp d.stamp)))

-- the order in which a heap has the least one on top
abbrev pub down_cmp : Reverse Candidate → Reverse Candidate → Ordering
down_cmp x y = candidate_cmp y.0 x.0

abbrev pub unreversed : List (Reverse Candidate) → List Candidate
unreversed rs = map (λ r. r.0) rs

-- the present stamp of a name, and 0 where it has none
abbrev pub stamp_in : finite.FinMap nat_cmp ℕ → ℕ → ℕ
stamp_in stamps u = option_map_or (λ s. s) (finite.get stamps u) 0

-- its stamp isn't below the present one of its first name
abbrev pub is_live : finite.FinMap nat_cmp ℕ → Candidate → Bool
is_live stamps c = nat_le (stamp_in stamps c.u) c.stamp

-- what stands behind the first that passes
abbrev pub behind : {X : Type 0} → (X → Bool) → List X → List X
behind p [] = []
behind p (x ∷ xs) = if p x then xs else behind p xs

abbrev pub candidate_code : Coded Candidate
candidate_code =
    code_by (ℤ × (ℕ × (ℕ × ℕ))) (coded× coded_ℤ (coded× coded_ℕ (coded× coded_ℕ coded_ℕ)))
    (λ c. (c.cost, (c.u, (c.v, c.stamp))))
    (λ q. record { cost = q.0; u = q.1.0; v = q.1.1.0; stamp = q.1.1.1 })
    (λ _. refl)
