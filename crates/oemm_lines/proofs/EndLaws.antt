-- Where a line feed stands among bytes of which a front was looked at.
use Rattle.std.proofs.Common.{◌≡◌, ℕ, ◌+◌, ◌-◌, ◌<◌, ◌≤◌, ◌⊎◌, inl, inr, true, List, length, get_or, drop, Some, None, ap, sym, ◌∙◌, arith, ◌==◌}
use Rattle.std.specs.List.{slice_range}
use Rattle.std.proofs.lemmas.Bool.Decides.{nat_tests}
use Rattle.std.proofs.lemmas.List.{get_or-take, get_or-drop, length-take, length-drop}
use Rattle.memchr.specs.Find.{IsFirstByte, is_byte}
use Rattle.oemm_lines.specs.Lines.{HasNoFeed}

same_byte : (bytes : List ℕ) (seen until k : ℕ) → k < until - seen → get_or (slice_range bytes seen until) k 0 ≡ get_or bytes (seen + k) 0
same_byte bytes seen until k h = get_or-take (until - seen) (drop seen bytes) k 0 h ∙ get_or-drop seen bytes k 0

size_of_part : (bytes : List ℕ) (seen until : ℕ) → until ≤ length bytes → length (slice_range bytes seen until) ≡ until - seen
size_of_part bytes seen until within = omega (arith, length-take (until - seen) (drop seen bytes), length-drop seen bytes)

is_ten : (c : ℕ) → (c == 10) ≡ true → c ≡ 10
is_ten c same = grind (arith, nat_tests)

ten_is : (c : ℕ) → c ≡ 10 → (c == 10) ≡ true
ten_is c same = grind (arith, nat_tests)

-- at a place that was looked at, and at one behind it
below_or : (seen k : ℕ) → (k < seen) ⊎ (seen ≤ k)
below_or seen k = grind arith

-- no line feed up to n, where none stands among those that were looked at nor among the next
no_feed_up_to : (bytes : List ℕ) (seen until n : ℕ) → n ≤ until → HasNoFeed bytes seen → ((k : ℕ) → 0 ≤ k → k < n - seen → ¬ (is_byte 10 (get_or (slice_range bytes seen until) k 0) ≡ true)) → HasNoFeed bytes n
no_feed_up_to bytes seen until n within before next k h =
    elim (below_or seen k) [
      | inl low ↦ before k low
      | inr high ↦
          let place : seen + (k - seen) ≡ k = omega arith in
          λ is. next (k - seen) (omega arith) (omega arith)
          (ten_is _ (same_byte bytes seen until (k - seen) (omega arith) ∙ ap (λ i. get_or bytes i 0) place ∙ is))
    ]

pub feed_none : (bytes : List ℕ) (seen until : ℕ) → seen ≤ until → until ≤ length bytes → HasNoFeed bytes seen → IsFirstByte (is_byte 10) (slice_range bytes seen until) None → HasNoFeed bytes until
feed_none bytes seen until order within before none =
    no_feed_up_to bytes seen until until (omega arith) before
    (λ k low high. none k low (omega (arith, size_of_part bytes seen until within)))

pub feed_some : (bytes : List ℕ) (seen until at : ℕ) → seen ≤ until → until ≤ length bytes → HasNoFeed bytes seen → IsFirstByte (is_byte 10) (slice_range bytes seen until) (Some at) → (seen + at < until) × HasNoFeed bytes (seen + at) × (get_or bytes (seen + at) 0 ≡ 10)
feed_some bytes seen until at order within before (first, passes) =
    let inner : at < until - seen = omega (arith, first.high, size_of_part bytes seen until within) in (
      omega arith,
      no_feed_up_to bytes seen until (seen + at) (omega arith) before
          (λ k low high. first.before k low (omega arith)),
      sym (same_byte bytes seen until at inner) ∙ is_ten _ passes,
    )
