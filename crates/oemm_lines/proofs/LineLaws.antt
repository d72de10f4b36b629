-- What ends a line.
use Rattle.std.proofs.Common.{◌≡◌, ℕ, ◌<◌, ◌≢◌, List, [], ◌∷◌, ◌++◌, length, get_or, ap, eq-eqb, ne_eqb}
use Rattle.std.proofs.lemmas.List.Elements.{All-from_get_or, recursion_from_All}
use Rattle.std.specs.List.{AllByRecursion}
use Rattle.oemm_lines.specs.Lines.{without_return}

-- a line that ends in a carriage return
pub without_return-cut : (front : List ℕ) (c : ℕ) → c ≡ 13 → front ≡ without_return (front ++ c ∷ [])
without_return-cut [] c return = rw (eq-eqb c 13 return)
without_return-cut (x ∷ []) c return = ap (λ t. x ∷ t) (without_return-cut [] c return)
without_return-cut (x ∷ y ∷ ys) c return = ap (λ t. x ∷ t) (without_return-cut (y ∷ ys) c return)

-- a line that ends in another byte
pub without_return-kept : (front : List ℕ) (c : ℕ) → c ≢ 13 → front ++ c ∷ [] ≡ without_return (front ++ c ∷ [])
without_return-kept [] c other = rw (ne_eqb c 13 other)
without_return-kept (x ∷ []) c other = ap (λ t. x ∷ t) (without_return-kept [] c other)
without_return-kept (x ∷ y ∷ ys) c other = ap (λ t. x ∷ t) (without_return-kept (y ∷ ys) c other)

-- bytes of which none at an index is a line feed
pub no_feed : (body : List ℕ) → ((k : ℕ) → k < length body → get_or body k 0 ≢ 10) → AllByRecursion (λ c. c ≢ 10) body
no_feed body other = recursion_from_All (λ c. c ≢ 10) body (All-from_get_or (λ c. c ≢ 10) body 0 other)
