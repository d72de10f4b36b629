-- Laws of whole numbers: products of sums and differences.
use Rattle.std.proofs.Common.{◌≡◌, ◌*◌, ap, ◌∙◌, arith}
use Rattle.std.proofs.Math.IntN.{ℤ, ◌+ℤ◌, ◌-ℤ◌, ◌*ℤ◌, neg_ℤ, *ℤ_comm}
use borrow.Author.Differences.{up, down, same_in, same_out, sum_is_lem, neg_is, product_is}

-- sums and signs alone: a product is one number
pub ruleset sums = (same_in, same_out, sum_is_lem, neg_is)

pub sum_times : (a b c : ℤ) → (a +ℤ b) *ℤ c ≡ (a *ℤ c) +ℤ (b *ℤ c)
sum_times a b c =
    let sum = sum_is_lem a b in
    let above = ap (λ x. x * up c) sum in
    let below = ap (λ x. x * down c) sum in
    same_in ((a +ℤ b) *ℤ c) ((a *ℤ c) +ℤ (b *ℤ c)) (omega (arith, product_is, sum_is_lem (a *ℤ c) (b *ℤ c)))

pub neg_times : (a c : ℤ) → neg_ℤ a *ℤ c ≡ neg_ℤ (a *ℤ c)
neg_times a c =
    let signs = neg_is a in
    let above = ap (λ x. x * up c) signs.0 in
    let below = ap (λ x. x * down c) signs.0 in
    let above_down = ap (λ x. x * up c) signs.1 in
    let below_down = ap (λ x. x * down c) signs.1 in
    same_in (neg_ℤ a *ℤ c) (neg_ℤ (a *ℤ c)) (omega (arith, product_is, neg_is (a *ℤ c)))

pub difference_times : (a b c : ℤ) → (a -ℤ b) *ℤ c ≡ (a *ℤ c) -ℤ (b *ℤ c)
difference_times a b c = sum_times a (neg_ℤ b) c ∙ ap (λ x. (a *ℤ c) +ℤ x) (neg_times b c)

pub times_difference : (a b c : ℤ) → a *ℤ (b -ℤ c) ≡ (a *ℤ b) -ℤ (a *ℤ c)
times_difference a b c =
    *ℤ_comm a (b -ℤ c) ∙ difference_times b c a ∙ ap (λ x. x -ℤ (c *ℤ a)) (*ℤ_comm b a) ∙ ap (λ x. (a *ℤ b) -ℤ x) (*ℤ_comm c a)

-- the product of two differences, with its four terms in one order
pub product_of_differences : (a b c d : ℤ) → (a -ℤ b) *ℤ (c -ℤ d) ≡ ((a *ℤ c) -ℤ (a *ℤ d)) -ℤ ((b *ℤ c) -ℤ (b *ℤ d))
product_of_differences a b c d =
    difference_times a b (c -ℤ d) ∙ ap (λ x. x -ℤ (b *ℤ (c -ℤ d))) (times_difference a c d) ∙ ap (λ x. ((a *ℤ c) -ℤ (a *ℤ d)) -ℤ x) (times_difference b c d)

pub outer_swapped : (a b c : ℤ) → (a *ℤ b) *ℤ c ≡ (c *ℤ b) *ℤ a
outer_swapped a b c =
    let first = product_is a b in
    let second = product_is c b in
    let first_above = ap (λ x. x * up c) first.0 in
    let first_below = ap (λ x. x * down c) first.0 in
    let first_above_down = ap (λ x. x * up c) first.1 in
    let first_below_down = ap (λ x. x * down c) first.1 in
    let second_above = ap (λ x. x * up a) second.0 in
    let second_below = ap (λ x. x * down a) second.0 in
    let second_above_down = ap (λ x. x * up a) second.1 in
    let second_below_down = ap (λ x. x * down a) second.1 in
    same_in ((a *ℤ b) *ℤ c) ((c *ℤ b) *ℤ a) (omega (arith, product_is (a *ℤ b) c, product_is (c *ℤ b) a))
