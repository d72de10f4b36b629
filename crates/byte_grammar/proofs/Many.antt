-- Units of a list, one after another.
use Rattle.std.proofs.Common.{◌≡◌, ℕ, suc, ◌+◌, ◌-◌, ◌<◌, ◌≤◌, List, [], ◌∷◌, ◌++◌, Result, Ok, Err, refl, sym, ◌∙◌, arith}
use Rattle.byte_grammar.specs.declared.stop.Stop.{Stop}
use Rattle.byte_grammar.specs.declared.stop.Stop.TheVariants as stop
use Rattle.byte_grammar.specs.Reader.{Reader, many}
use Rattle.byte_grammar.specs.Calls.{Stops}

-- one unit more
pub many_more : {A : Type 0} (item : List A → Reader A) (n i : ℕ) (before : List A) (left : List ℕ) (x : A)
    (after : List ℕ) (total : Result (List A × List ℕ) ℕ)
    → i < n → item before left ≡ Ok (x, after) → many item (n - i) before left ≡ total
    → many item (n - (i + 1)) (before ++ x ∷ []) after ≡ total
unfolding many
many_more item n i before left x after total lt h so_far =
    let k : n - i ≡ suc (n - (i + 1)) = omega arith in
    let one : many item (n - i) before left ≡ many item (n - (i + 1)) (before ++ x ∷ []) after = rw (k, h) refl in
    sym one ∙ so_far

pub many_stops : {A : Type 0} (s : Stop) (item : List A → Reader A) (n i : ℕ) (before : List A) (left : List ℕ)
    (total : Result (List A × List ℕ) ℕ)
    → i < n → Stops s (item before left) → many item (n - i) before left ≡ total → Stops s total
unfolding many
many_stops stop.Memory item n i before left total lt h so_far = tt
many_stops (stop.Bad m) item n i before left total lt h so_far =
    let k : n - i ≡ suc (n - (i + 1)) = omega arith in
    let one : many item (n - i) before left ≡ Err m = rw (k, h) refl in
    sym so_far ∙ one

pub many_all : {A : Type 0} (item : List A → Reader A) (n i : ℕ) (before : List A) (left : List ℕ)
    (total : Result (List A × List ℕ) ℕ)
    → n ≤ i → many item (n - i) before left ≡ total → total ≡ Ok (before, left)
unfolding many
many_all item n i before left total le so_far =
    let k : n - i ≡ 0 = omega arith in
    let one : many item (n - i) before left ≡ Ok (before, left) = rw k refl in
    sym so_far ∙ one
