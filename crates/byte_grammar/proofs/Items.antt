-- What holds of each item of a list.
use Rattle.std.proofs.Common.{ℕ, zero, suc, ◌<◌, List, [], ◌∷◌, length, get_or, arith}
use Rattle.std.specs.List.{AllByRecursion}
use Rattle.byte_grammar.specs.Keeps.{IsAlways}

pub all_at : {A : Type 0} (F : A → Type 0) (xs : List A) → AllByRecursion F xs → (i : ℕ) (d : A) → i < length xs
    → F (get_or xs i d)
all_at F [] h i d lt = absurd (omega arith)
all_at F (x ∷ xs) h zero d lt = h.0
all_at F (x ∷ xs) h (suc i) d lt = all_at F xs h.1 i d (omega arith)

pub always : {A : Type 0} (xs : List A) → AllByRecursion IsAlways xs
always [] = tt
always (x ∷ xs) = (tt, always xs)
