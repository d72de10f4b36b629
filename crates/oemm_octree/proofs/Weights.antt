-- Sums over lists, by recursion.
use Rattle.std.proofs.Common.{◌≡◌, ℕ, ◌+◌, Bool, true, cond, eqb, List, [], ◌∷◌, ◌++◌, refl, arith}
use Rattle.std.proofs.lemmas.Bool.{eq-eqb, or_left}
use Rattle.oemm_octree.specs.Leaves.{is_one_of}

-- the sum of f over the items
abbrev pub weight : {X : Type 0} → (X → ℕ) → List X → ℕ
weight f [] = 0
weight f (x ∷ xs) = f x + weight f xs

-- one for what passes a test
abbrev pub one : Bool → ℕ
one b = cond b 1 0

pub weight-append : {X : Type 0} (f : X → ℕ) (xs ys : List X) → weight f (xs ++ ys) ≡ weight f xs + weight f ys
weight-append f [] ys = omega arith
weight-append f (x ∷ xs) ys = omega (arith, weight-append f xs ys)

pub is_one_of-head : (n : ℕ) (ns : List ℕ) → is_one_of (n ∷ ns) n ≡ true
is_one_of-head n ns = or_left (eqb n n) (is_one_of ns n) (eq-eqb n n refl)
