-- Bytes to which others are appended a piece at a time.
use Rattle.std.proofs.Common.{◌≡◌, ℕ, List, [], ◌∷◌, ◌++◌, arith}
use Rattle.std.proofs.lemmas.Grind.{common_steps}

-- a word, a number with the end of its line, and further lines
pub append_number :
    (old word number lines first second third : List ℕ) → first ≡ old ++ word →
    second ≡ first ++ (number ++ 10 ∷ []) → third ≡ second ++ lines →
    third ≡ old ++ (word ++ (number ++ 10 ∷ lines))
append_number old word number lines first second third a b c = grind (arith, common_steps)

-- four pieces
pub append_four :
    (old p q r s first second third last : List ℕ) → first ≡ old ++ p → second ≡ first ++ q →
    third ≡ second ++ r → last ≡ third ++ s → last ≡ old ++ (p ++ (q ++ (r ++ s)))
append_four old p q r s first second third last a b c d = grind (arith, common_steps)
