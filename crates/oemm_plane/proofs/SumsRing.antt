-- The integers are a commutative ring: a set of equations by which `simp` brings two sides to one form.
use Rattle.std.proofs.Common.{◌≡◌, ◌*◌, ℤ, pos, negsuc, ◌+ℤ◌, ◌*ℤ◌, ◌≤ℤ◌, sym, ◌∙◌, ap, arith}
use Rattle.std.proofs.Math.IntN.{+ℤ_assoc, +ℤ_comm, *ℤ_comm}
use Rattle.std.proofs.lemmas.Int.{ints}
use borrow.Author.Differences.{up, down, same_in, sum_is_lem, product_is}

pub mul-add : (a b c : ℤ) → a *ℤ (b +ℤ c) ≡ a *ℤ b +ℤ a *ℤ c
mul-add a b c =
    let sum = sum_is_lem b c in
    let above = ap (λ n. up a * n) sum in
    let below = ap (λ n. down a * n) sum in
    omega (arith, same_in, sum_is_lem, product_is)

pub add-mul : (a b c : ℤ) → (a +ℤ b) *ℤ c ≡ a *ℤ c +ℤ b *ℤ c
add-mul a b c = *ℤ_comm (a +ℤ b) c ∙ mul-add c a b ∙ (λ i. *ℤ_comm c a i +ℤ *ℤ_comm c b i)

pub mul_assoc : (a b c : ℤ) → (a *ℤ b) *ℤ c ≡ a *ℤ (b *ℤ c)
mul_assoc a b c =
    let first = product_is a b in
    let second = product_is b c in
    let e1 = ap (λ n. n * up c) first.0 in
    let e2 = ap (λ n. n * down c) first.1 in
    let e3 = ap (λ n. n * down c) first.0 in
    let e4 = ap (λ n. n * up c) first.1 in
    let f1 = ap (λ n. up a * n) second.0 in
    let f2 = ap (λ n. down a * n) second.1 in
    let f3 = ap (λ n. up a * n) second.1 in
    let f4 = ap (λ n. down a * n) second.0 in
    omega (arith, same_in, product_is)

pub add-swap : (a b c : ℤ) → a +ℤ (b +ℤ c) ≡ b +ℤ (a +ℤ c)
add-swap a b c = sym (+ℤ_assoc a b c) ∙ ap (λ s. s +ℤ c) (+ℤ_comm a b) ∙ +ℤ_assoc b a c

pub mul-swap : (a b c : ℤ) → a *ℤ (b *ℤ c) ≡ b *ℤ (a *ℤ c)
mul-swap a b c = sym (mul_assoc a b c) ∙ ap (λ p. p *ℤ c) (*ℤ_comm a b) ∙ mul_assoc b a c

pub two-mul : (a : ℤ) → pos 2 *ℤ a ≡ a +ℤ a
two-mul a = omega (arith, same_in, sum_is_lem, product_is)

pub ruleset ring = (mul-add, add-mul, mul_assoc, mul-swap, *ℤ_comm, +ℤ_assoc, add-swap, +ℤ_comm, two-mul)

-- the sum of two sums, term by term
pub pairs : (a a' b b' : ℤ) → (a +ℤ a') +ℤ (b +ℤ b') ≡ (a +ℤ b) +ℤ (a' +ℤ b')
pairs a a' b b' = simp ring

pub triples : (a a' b b' c c' : ℤ) → ((a +ℤ a') +ℤ (b +ℤ b')) +ℤ (c +ℤ c') ≡ ((a +ℤ b) +ℤ c) +ℤ ((a' +ℤ b') +ℤ c')
triples a a' b b' c c' = ap (λ s. s +ℤ (c +ℤ c')) (pairs a a' b b') ∙ pairs (a +ℤ b) (a' +ℤ b') c c'

pub sixes : (a a' b b' c c' d d' e e' f f' : ℤ)
    → ((((a +ℤ a') +ℤ (b +ℤ b')) +ℤ (c +ℤ c')) +ℤ ((d +ℤ d') +ℤ (e +ℤ e'))) +ℤ (f +ℤ f')
    ≡ ((((a +ℤ b) +ℤ c) +ℤ (d +ℤ e)) +ℤ f) +ℤ ((((a' +ℤ b') +ℤ c') +ℤ (d' +ℤ e')) +ℤ f')
sixes a a' b b' c c' d d' e e' f f' =
    (λ i. (triples a a' b b' c c' i +ℤ pairs d d' e e' i) +ℤ (f +ℤ f'))
    ∙ triples ((a +ℤ b) +ℤ c) ((a' +ℤ b') +ℤ c') (d +ℤ e) (d' +ℤ e') f f'

pub tens : (a a' b b' c c' d d' e e' f f' g g' h h' j j' k k' : ℤ)
    → ((((a +ℤ a') +ℤ (b +ℤ b')) +ℤ (c +ℤ c')) +ℤ (pos 2 *ℤ (((((d +ℤ d') +ℤ (e +ℤ e')) +ℤ (f +ℤ f')) +ℤ ((g +ℤ g') +ℤ (h +ℤ h'))) +ℤ (j +ℤ j')))) +ℤ (k +ℤ k')
    ≡ ((((a +ℤ b) +ℤ c) +ℤ (pos 2 *ℤ ((((d +ℤ e) +ℤ f) +ℤ (g +ℤ h)) +ℤ j))) +ℤ k) +ℤ ((((a' +ℤ b') +ℤ c') +ℤ (pos 2 *ℤ ((((d' +ℤ e') +ℤ f') +ℤ (g' +ℤ h')) +ℤ j'))) +ℤ k')
tens a a' b b' c c' d d' e e' f f' g g' h h' j j' k k' =
    let m = (((d +ℤ e) +ℤ f) +ℤ (g +ℤ h)) +ℤ j in
    let m' = (((d' +ℤ e') +ℤ f') +ℤ (g' +ℤ h')) +ℤ j' in
    (λ i. (triples a a' b b' c c' i +ℤ (pos 2 *ℤ sixes d d' e e' f f' g g' h h' j j' i)) +ℤ (k +ℤ k'))
    ∙ (λ i. ((((a +ℤ b) +ℤ c) +ℤ ((a' +ℤ b') +ℤ c')) +ℤ mul-add (pos 2) m m' i) +ℤ (k +ℤ k'))
    ∙ triples ((a +ℤ b) +ℤ c) ((a' +ℤ b') +ℤ c') (pos 2 *ℤ m) (pos 2 *ℤ m') k k'

-- a square isn't negative
pub square_not_negative : (a : ℤ) → pos 0 ≤ℤ (a *ℤ a)
square_not_negative (pos n) = omega (arith, ints)
square_not_negative (negsuc n) = omega (arith, ints)
