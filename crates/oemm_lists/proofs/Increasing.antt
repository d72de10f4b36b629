-- Strictly increasing lists of numbers.
use Rattle.std.proofs.Common.{◌≡◌, ℕ, List, [], ◌∷◌, ◌++◌, arith, Result, Ok, Err, OnOk, IfErr, sym, subst}
use Rattle.std.proofs.lemmas.Grind.{common_steps}
use Rattle.std.specs.List.Sorted.{IsStrictlyIncreasing}
use Rattle.oemm_lists.specs.Ascending.{IsAboveLast}

-- a number above the last one goes on the list
pub IsStrictlyIncreasing-push : (xs : List ℕ) (y : ℕ) → IsStrictlyIncreasing xs → IsAboveLast y xs → IsStrictlyIncreasing (xs ++ y ∷ [])
IsStrictlyIncreasing-push xs y up above k h = grind (arith, common_steps, up k)

-- a push that may want memory keeps the order
pub IsStrictlyIncreasing-after_push : {T E : Type 0} (r : Result T E) (P : E → Type 0) (xs new : List ℕ) (y : ℕ) → IsStrictlyIncreasing xs → IsAboveLast y xs → OnOk r (new ≡ xs ++ y ∷ []) → IfErr r (λ e. P e × (new ≡ xs)) → IsStrictlyIncreasing new
IsStrictlyIncreasing-after_push (Ok x) P xs new y up above ok err = subst IsStrictlyIncreasing (sym ok) (IsStrictlyIncreasing-push xs y up above)
IsStrictlyIncreasing-after_push (Err e) P xs new y up above ok err = subst IsStrictlyIncreasing (sym err.1) up
