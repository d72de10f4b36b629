-- Lists that climb: the names of a map's entries, ranges, and cores.
use Rattle.std.proofs.Common.{◌≡◌, ℕ, zero, suc, ◌+◌, ◌<◌, ◌≤◌, Bool, true, false, cond, List, [], ◌∷◌, map, get_or, ap, ◌∙◌, subst, arith, inl, inr}
use Rattle.std.proofs.lemmas.Bool.{and_parts, cases_order, false≢true}
use Rattle.std.specs.Cmp.{nat_cmp_is}
use Rattle.std.specs.FinMap.Entries.{is_sorted, below_all}
use Rattle.std.specs.List.{range_with_len}
use Rattle.std.specs.List.Sorted.{IsStrictlyIncreasing}
use Rattle.std.specs.Ordering.{nat_cmp, is_lt}
use Rattle.std.specs.declared.cmp.Ordering.TheVariants.{Equal, Greater}
use Rattle.oemm_octree.specs.declared.cells.Cell.{Cell}
use Rattle.oemm_octree.specs.declared.points.Point.{Point}
use Rattle.oemm_octree.specs.Octree.{core_of, leaves_from}

-- each number is above the one before it
abbrev pub Climbs : List ℕ → Type 0
Climbs [] = Unit {0}
Climbs (n ∷ []) = Unit {0}
Climbs (n ∷ k ∷ ns) = (n < k) × Climbs (k ∷ ns)

pub increasing : (ns : List ℕ) → Climbs ns → IsStrictlyIncreasing ns
increasing [] up k lt = absurd (omega arith)
increasing (n ∷ []) up k lt = absurd (omega arith)
increasing (n ∷ m ∷ ns) up zero lt = up.0
increasing (n ∷ m ∷ ns) up (suc k) lt =
    let next : suc (k + 1) ≡ suc k + 1 = omega arith in
    subst (λ (j : ℕ). get_or (m ∷ ns) k 0 < get_or (n ∷ m ∷ ns) j 0) next (increasing (m ∷ ns) up.1 k (omega arith))

less_is : (a b : ℕ) → is_lt (nat_cmp a b) ≡ true → a < b
less_is a b h =
    elim (cases_order a b) [
      | inl same ↦ absurd (false≢true (ap is_lt (nat_cmp_is a b Equal same) ∙ h))
      | inr other ↦ elim other [ inl lt ↦ lt | inr gt ↦ absurd (false≢true (ap is_lt (nat_cmp_is a b Greater gt) ∙ h)) ]
    ]

pub keys_climb : {X : Type 0} (es : List (ℕ × X)) → is_sorted nat_cmp es ≡ true → Climbs (map (λ e. e.0) es)
keys_climb [] h = tt
keys_climb (e ∷ []) h = tt
keys_climb (e ∷ f ∷ es) h =
    let parts = and_parts (below_all nat_cmp e.0 (f ∷ es)) (is_sorted nat_cmp (f ∷ es)) h in
    (less_is e.0 f.0 (and_parts (is_lt (nat_cmp e.0 f.0)) (below_all nat_cmp e.0 es) parts.0).0, keys_climb (f ∷ es) parts.1)

pub range_climbs : (a n : ℕ) → Climbs (range_with_len a n)
range_climbs a zero = tt
range_climbs a (suc zero) = tt
range_climbs a (suc (suc n)) = (omega arith, range_climbs (a + 1) (suc n))

-- ---- cores

-- they climb, from n on
abbrev ClimbFrom : ℕ → List ℕ → Type 0
ClimbFrom n [] = Unit {0}
ClimbFrom n (k ∷ ns) = (n ≤ k) × ClimbFrom (k + 1) ns

climb_sooner : (n : ℕ) (ns : List ℕ) → ClimbFrom (n + 1) ns → ClimbFrom n ns
climb_sooner n [] up = tt
climb_sooner n (k ∷ ns) up = (omega arith, up.1)

climbs : (n : ℕ) (ns : List ℕ) → ClimbFrom n ns → Climbs ns
climbs n [] up = tt
climbs n (k ∷ []) up = tt
climbs n (k ∷ j ∷ ns) up = (omega arith, climbs (k + 1) (j ∷ ns) up.1)

leaves_climb : (n : ℕ) (test : Cell → Bool) (cells : List Cell) → ClimbFrom n (leaves_from n test cells)
leaves_climb n test [] = tt
leaves_climb n test (c ∷ cells) =
    let rest = leaves_climb (n + 1) test cells in
    elim (test c) as (λ b. ClimbFrom n (cond b (n ∷ leaves_from (n + 1) test cells) (leaves_from (n + 1) test cells))) [
      | true ↦ (omega arith, rest)
      | false ↦ climb_sooner n (leaves_from (n + 1) test cells) rest
    ]

-- the leaves of a core ascend
pub core_ascends : (cells : List Cell) (low high : Point) → IsStrictlyIncreasing (core_of cells low high)
core_ascends cells low high = increasing (core_of cells low high) (climbs 0 (core_of cells low high) (leaves_climb 0 _ cells))
