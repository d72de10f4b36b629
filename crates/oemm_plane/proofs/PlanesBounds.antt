-- Twice the area of a triangle in a square of the grid is at most the square of its side.
use Rattle.std.proofs.Common.{◌≡◌, ℕ, ◌+◌, ◌-◌, ◌*◌, ◌<◌, ◌≤◌, ◌^◌, ap, arith, ⊎_elim}
use Rattle.std.proofs.Math.Nat.{mul-le-mul, mul-le-mul_left, mul-le-mul_right}
use Rattle.std.proofs.Math.IntN.{ℤ, pos, ◌-ℤ◌, ◌*ℤ◌, nat_abs}
use Rattle.std.proofs.lemmas.Bool.{cases_lt}
use Rattle.std.proofs.lemmas.Int.{ints}
use Rattle.std.specs.Int.RustNames.{FitsSigned}
use mir.Syntax.{w16}
use borrow.Author.Differences.{up, down, abs_is}
use Rattle.oemm_plane.proofs.PlanesInts.{product_of_differences, sums}

-- over naturals, where the second coordinate of the first corner is 0
from_origin : (m a b c u v : ℕ) → a ≤ m → b ≤ m → u ≤ m → v ≤ m → a * u + b * v ≤ m * m + a * v + c * u
from_origin m a b c u v ha hb hu hv = ⊎_elim
    (λ lt. let p : b * v ≤ m * m = mul-le-mul hb hv in let q : a * u ≤ a * v = mul-le-mul_left a (omega arith) in omega arith)
    (λ ge. let w = u - v in
    let split : u ≡ v + w = omega arith in
    let whole : m * u ≤ m * m = mul-le-mul_left m hu in
    let p : b * v ≤ m * v = mul-le-mul_right v hb in
    let q : a * w ≤ m * w = mul-le-mul_right w ha in
    let r = ap (λ x. a * x) split in
    let s = ap (λ x. m * x) split in
    omega arith)
    (cases_lt u v)

-- over naturals, where the second coordinate of the first corner is the least
from_least : (m a b c a' b' c' : ℕ) → a ≤ m → b ≤ m → b' ≤ m → c' ≤ m → a' ≤ b' → a' ≤ c' → a * b' + b * c' + c * a' ≤ m * m + a * c' + b * a' + c * b'
from_least m a b c a' b' c' ha hb hb' hc' least-b least-c =
    let u = b' - a' in
    let v = c' - a' in
    let eu : b' ≡ a' + u = omega arith in
    let ev : c' ≡ a' + v = omega arith in
    let bound = from_origin m a b c u v ha hb (omega arith) (omega arith) in
    let au = ap (λ x. a * x) eu in
    let bv = ap (λ x. b * x) ev in
    let av = ap (λ x. a * x) ev in
    let cu = ap (λ x. c * x) eu in
    omega arith

-- over naturals
one_way : (m a b c a' b' c' : ℕ) → a ≤ m → b ≤ m → c ≤ m → a' ≤ m → b' ≤ m → c' ≤ m → a * b' + b * c' + c * a' ≤ m * m + a * c' + b * a' + c * b'
one_way m a b c a' b' c' ha hb hc ha' hb' hc' = ⊎_elim
    (λ ab. ⊎_elim
    (λ ac. from_least m a b c a' b' c' ha hb hb' hc' (omega arith) (omega arith))
    (λ ca. let h = from_least m c a b c' a' b' hc ha ha' hb' (omega arith) (omega arith) in omega arith)
    (cases_lt a' c'))
    (λ ba. ⊎_elim
    (λ bc. let h = from_least m b c a b' c' a' hb hc hc' ha' (omega arith) (omega arith) in omega arith)
    (λ cb. let h = from_least m c a b c' a' b' hc ha ha' hb' (omega arith) (omega arith) in omega arith)
    (cases_lt b' c'))
    (cases_lt a' b')

-- over whole numbers that aren't negative
of_naturals : (m a b c a' b' c' : ℕ) → a ≤ m → b ≤ m → c ≤ m → a' ≤ m → b' ≤ m → c' ≤ m → nat_abs (((pos b -ℤ pos a) *ℤ (pos c' -ℤ pos a')) -ℤ ((pos b' -ℤ pos a') *ℤ (pos c -ℤ pos a))) ≤ m * m
of_naturals m a b c a' b' c' ha hb hc ha' hb' hc' =
    let above = one_way m a b c a' b' c' ha hb hc ha' hb' hc' in
    let below = one_way m a' b' c' a b c ha' hb' hc' ha hb hc in
    let first = product_of_differences (pos b) (pos a) (pos c') (pos a') in
    let second = product_of_differences (pos b') (pos a') (pos c) (pos a) in
    let p = (pos b -ℤ pos a) *ℤ (pos c' -ℤ pos a') in
    let q = (pos b' -ℤ pos a') *ℤ (pos c -ℤ pos a) in
    omega (arith, sums, abs_is (p -ℤ q))

-- how far a coordinate lies above the least one
above_least : ℤ → ℕ
above_least x = up x + 32768 - down x

is_above_least : (x : ℤ) → FitsSigned w16 x → (above_least x ≤ 65535) × (x ≡ pos (above_least x) -ℤ pos 32768)
unfolding above_least
is_above_least x h = (omega (arith, ints), omega (arith, ints))

moved_difference : (x y m n : ℤ) → x ≡ m -ℤ pos 32768 → y ≡ n -ℤ pos 32768 → x -ℤ y ≡ m -ℤ n
moved_difference x y m n e f = omega (arith, sums)

pub twice_area_below : (a b c a' b' c' : ℤ) → FitsSigned w16 a → FitsSigned w16 b → FitsSigned w16 c → FitsSigned w16 a' → FitsSigned w16 b' → FitsSigned w16 c' → nat_abs (((b -ℤ a) *ℤ (c' -ℤ a')) -ℤ ((b' -ℤ a') *ℤ (c -ℤ a))) < 2 ^ 32
twice_area_below a b c a' b' c' fa fb fc fa' fb' fc' =
    let ga = is_above_least a fa in
    let gb = is_above_least b fb in
    let gc = is_above_least c fc in
    let ga' = is_above_least a' fa' in
    let gb' = is_above_least b' fb' in
    let gc' = is_above_least c' fc' in
    let bound = of_naturals 65535 (above_least a) (above_least b) (above_least c) (above_least a') (above_least b') (above_least c') ga.0 gb.0 gc.0 ga'.0 gb'.0 gc'.0 in
    let ba = moved_difference b a (pos (above_least b)) (pos (above_least a)) gb.1 ga.1 in
    let ca = moved_difference c a (pos (above_least c)) (pos (above_least a)) gc.1 ga.1 in
    let ba' = moved_difference b' a' (pos (above_least b')) (pos (above_least a')) gb'.1 ga'.1 in
    let ca' = moved_difference c' a' (pos (above_least c')) (pos (above_least a')) gc'.1 ga'.1 in
    let A = pos (above_least a) in
    let B = pos (above_least b) in
    let C = pos (above_least c) in
    let A' = pos (above_least a') in
    let B' = pos (above_least b') in
    let C' = pos (above_least c') in
    let whole : nat_abs (((b -ℤ a) *ℤ (c' -ℤ a')) -ℤ ((b' -ℤ a') *ℤ (c -ℤ a))) ≡ nat_abs (((B -ℤ A) *ℤ (C' -ℤ A')) -ℤ ((B' -ℤ A') *ℤ (C -ℤ A))) = λ i. nat_abs ((ba i *ℤ ca' i) -ℤ (ba' i *ℤ ca i)) in
    omega arith
