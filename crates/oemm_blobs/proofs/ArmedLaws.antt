-- Which calls of a kind fail.
use Rattle.std.proofs.Common.{◌≡◌, ℕ, zero, suc, ◌+◌, ◌≤◌, ◌<◌, List, refl, ap, ◌∙◌, arith, eqb}
use Rattle.std.specs.List.{list_any}
use Rattle.fault_counts.specs.Counts.{last_count, next_count}
use Rattle.oemm_blobs.specs.Memory.{armed_with, after_calls, fails_next}

numbers_after : (numbers : List ℕ) (made : ℕ) → (after_calls made (armed_with numbers)).numbers ≡ numbers
numbers_after numbers zero = refl
numbers_after numbers (suc made) = numbers_after numbers made

next_below : (n : ℕ) → n < last_count → next_count n ≡ n + 1
next_below n below = omega arith

calls_after : (numbers : List ℕ) (made : ℕ) → made ≤ last_count → (after_calls made (armed_with numbers)).calls ≡ made
calls_after numbers zero le = refl
calls_after numbers (suc made) le =
    let next = ap next_count (calls_after numbers made (omega arith)) in
    let below : next_count made ≡ made + 1 = next_below made (omega arith) in
    let more : made + 1 ≡ suc made = omega arith in
    next ∙ below ∙ more

pub armed_fail :
    (numbers : List ℕ) (made : ℕ) → made < last_count →
    fails_next (after_calls made (armed_with numbers)) ≡ list_any (λ number. eqb number (made + 1)) numbers
armed_fail numbers made below =
    let calls : next_count (after_calls made (armed_with numbers)).calls ≡ made + 1 =
    ap next_count (calls_after numbers made (omega arith)) ∙ next_below made below in
    (λ i. list_any (λ number. eqb number (calls i)) (numbers_after numbers made i))
