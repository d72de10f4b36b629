-- Numbers of 128 bits as the code reads them: the values and the sizes of its sums and products.
use Rattle.std.proofs.Common.{◌≡◌, ℕ, ◌*◌, ◌^◌, ◌≤◌, ℤ, ◌+ℤ◌, ◌*ℤ◌, nat_abs, FitsSigned, to_z, of_z, w16, ◌∙◌, ap, arith}
use Rattle.std.specs.Int.{w128}
use Rattle.std.proofs.lemmas.Int.{to_z-of_z}

abbrev pub read : ℤ → ℤ
read z = to_z w128 (of_z w128 z)

abbrev pub read16 : ℤ → ℤ
read16 z = to_z w16 (of_z w16 z)

pub read_as : (r a : ℤ) → FitsSigned w128 r → r ≡ a → read r ≡ a
read_as r a f e = to_z-of_z w128 r f ∙ e

pub read_total : (r s t a b : ℤ) → FitsSigned w128 t → t ≡ read r +ℤ read s → read r ≡ a → read s ≡ b → read t ≡ a +ℤ b
read_total r s t a b f e g h = to_z-of_z w128 t f ∙ e ∙ (λ i. g i +ℤ h i)

pub read_once : (k x r : ℤ) → FitsSigned w128 k → FitsSigned w16 x → FitsSigned w128 r → r ≡ read k *ℤ read16 x → read r ≡ k *ℤ x
read_once k x r f g h e = to_z-of_z w128 r h ∙ e ∙ (λ i. to_z-of_z w128 k f i *ℤ to_z-of_z w16 x g i)

pub read_twice : (k x y r : ℤ) → FitsSigned w128 k → FitsSigned w16 x → FitsSigned w16 y → FitsSigned w128 r
    → r ≡ read k *ℤ (read16 x *ℤ read16 y) → read r ≡ k *ℤ (x *ℤ y)
read_twice k x y r f g h j e =
    to_z-of_z w128 r j ∙ e ∙ (λ i. to_z-of_z w128 k f i *ℤ (to_z-of_z w16 x g i *ℤ to_z-of_z w16 y h i))

pub size_as : (r : ℤ) (n : ℕ) → FitsSigned w128 r → nat_abs r ≤ n → nat_abs (read r) ≤ n
size_as r n f h = let e = ap nat_abs (to_z-of_z w128 r f) in omega arith

pub size_once : (k r : ℤ) (n : ℕ) → FitsSigned w128 k → FitsSigned w128 r → nat_abs r ≤ nat_abs (read k) * 2 ^ 15
    → nat_abs k ≤ n * 2 ^ 81 → nat_abs (read r) ≤ n * 2 ^ 96
size_once k r n f g h j =
    let e = ap nat_abs (to_z-of_z w128 r g) in
    let d = ap nat_abs (to_z-of_z w128 k f) in
    omega arith

pub size_twice : (k r : ℤ) (n : ℕ) → FitsSigned w128 k → FitsSigned w128 r → nat_abs r ≤ nat_abs (read k) * 2 ^ 30
    → nat_abs k ≤ n * 2 ^ 64 → nat_abs (read r) ≤ n * 2 ^ 94
size_twice k r n f g h j =
    let e = ap nat_abs (to_z-of_z w128 r g) in
    let d = ap nat_abs (to_z-of_z w128 k f) in
    omega arith
