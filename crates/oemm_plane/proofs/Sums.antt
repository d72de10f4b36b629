-- The sums of lists of planes, and their value at a point.
use Rattle.std.proofs.Common.{◌≡◌, ℕ, ◌+◌, List, [], ◌∷◌, ◌++◌, length, sum_by, IsPermutation, ℤ, pos, ◌+ℤ◌, ◌*ℤ◌, ◌≤ℤ◌, sym, ◌∙◌, ap, subst, arith, refl}
use Rattle.std.proofs.Math.IntN.{+ℤ_assoc, +ℤ_comm, +ℤ_idl, zero-*ℤ}
use Rattle.std.proofs.Math.Nat.{add_assoc, add_comm, zero-add}
use Rattle.std.proofs.lemmas.Int.{ints}
use Rattle.std.proofs.lemmas.List.Sums.{sum_by-cons}
use Rattle.std.proofs.lemmas.List.Sorted.{sum_by-IsPermutation, length_permutation}
use borrow.Author.Differences.{up, down}
use Rattle.oemm_octree.specs.declared.points.Point.{Point}
use Rattle.mesh_data.specs.declared.planes.Plane.{Plane}
use Rattle.mesh_data.specs.Planes.{plane_value, squares, Sums, no_sums, products, added, sums_of, sums_value}
use Rattle.oemm_plane.proofs.SumsRing.{ring, add-mul, two-mul, tens, square_not_negative}

pub sums_value-products : (l : Plane) (p : Point) → sums_value (products l) p ≡ plane_value l p *ℤ plane_value l p
unfolding sums_value plane_value
sums_value-products l p = simp two-mul (simp ring)

pub sums_value-added : (s t : Sums) (p : Point) → sums_value (added s t) p ≡ sums_value s p +ℤ sums_value t p
unfolding sums_value
sums_value-added s t p =
    let x = p.x in
    let y = p.y in
    let z = p.z in
    simp add-mul (tens
    (s.aa *ℤ (x *ℤ x)) (t.aa *ℤ (x *ℤ x)) (s.bb *ℤ (y *ℤ y)) (t.bb *ℤ (y *ℤ y)) (s.cc *ℤ (z *ℤ z)) (t.cc *ℤ (z *ℤ z))
    (s.ab *ℤ (x *ℤ y)) (t.ab *ℤ (x *ℤ y)) (s.ac *ℤ (x *ℤ z)) (t.ac *ℤ (x *ℤ z)) (s.bc *ℤ (y *ℤ z)) (t.bc *ℤ (y *ℤ z))
    (s.ad *ℤ x) (t.ad *ℤ x) (s.bd *ℤ y) (t.bd *ℤ y) (s.cd *ℤ z) (t.cd *ℤ z) s.dd t.dd)

pub sums_value-none : (p : Point) → sums_value no_sums p ≡ pos 0
unfolding sums_value
sums_value-none p = simp (zero-*ℤ, +ℤ_idl)

-- the value of the sums is the sum of the squares
pub sums_value-sums_of : (ls : List Plane) (p : Point) → sums_value (sums_of ls) p ≡ squares ls p
unfolding squares
sums_value-sums_of [] p = sums_value-none p
sums_value-sums_of (l ∷ ls) p =
    sums_value-added (products l) (sums_of ls) p
    ∙ (λ i. sums_value-products l p i +ℤ sums_value-sums_of ls p i)

-- two records with the same parts
pub sums_same : (s t : Sums) → s.planes ≡ t.planes → s.aa ≡ t.aa → s.ab ≡ t.ab → s.ac ≡ t.ac → s.ad ≡ t.ad → s.bb ≡ t.bb
    → s.bc ≡ t.bc → s.bd ≡ t.bd → s.cc ≡ t.cc → s.cd ≡ t.cd → s.dd ≡ t.dd → s ≡ t
sums_same s t n aa ab ac ad bb bc bd cc cd dd = λ i. record {
  planes = n i;
  aa = aa i;
  ab = ab i;
  ac = ac i;
  ad = ad i;
  bb = bb i;
  bc = bc i;
  bd = bd i;
  cc = cc i;
  cd = cd i;
  dd = dd i;
}

pub added-no_sums : (s : Sums) → added no_sums s ≡ s
added-no_sums s = sums_same (added no_sums s) s (zero-add s.planes)
    (+ℤ_idl s.aa) (+ℤ_idl s.ab) (+ℤ_idl s.ac) (+ℤ_idl s.ad) (+ℤ_idl s.bb)
    (+ℤ_idl s.bc) (+ℤ_idl s.bd) (+ℤ_idl s.cc) (+ℤ_idl s.cd) (+ℤ_idl s.dd)

pub added_comm : (s t : Sums) → added s t ≡ added t s
added_comm s t = sums_same (added s t) (added t s) (add_comm s.planes t.planes)
    (+ℤ_comm s.aa t.aa) (+ℤ_comm s.ab t.ab) (+ℤ_comm s.ac t.ac) (+ℤ_comm s.ad t.ad) (+ℤ_comm s.bb t.bb)
    (+ℤ_comm s.bc t.bc) (+ℤ_comm s.bd t.bd) (+ℤ_comm s.cc t.cc) (+ℤ_comm s.cd t.cd) (+ℤ_comm s.dd t.dd)

pub added_assoc : (s t u : Sums) → added (added s t) u ≡ added s (added t u)
added_assoc s t u = sums_same (added (added s t) u) (added s (added t u)) (add_assoc s.planes t.planes u.planes)
    (+ℤ_assoc s.aa t.aa u.aa) (+ℤ_assoc s.ab t.ab u.ab) (+ℤ_assoc s.ac t.ac u.ac) (+ℤ_assoc s.ad t.ad u.ad) (+ℤ_assoc s.bb t.bb u.bb)
    (+ℤ_assoc s.bc t.bc u.bc) (+ℤ_assoc s.bd t.bd u.bd) (+ℤ_assoc s.cc t.cc u.cc) (+ℤ_assoc s.cd t.cd u.cd) (+ℤ_assoc s.dd t.dd u.dd)

pub sums_of-append : (ls ms : List Plane) → sums_of (ls ++ ms) ≡ added (sums_of ls) (sums_of ms)
sums_of-append [] ms = sym (added-no_sums (sums_of ms))
sums_of-append (l ∷ ls) ms = ap (added (products l)) (sums_of-append ls ms) ∙ sym (added_assoc (products l) (sums_of ls) (sums_of ms))

pub sums_of-push : (ls : List Plane) (l : Plane) → sums_of (ls ++ l ∷ []) ≡ added (products l) (sums_of ls)
sums_of-push ls l =
    sums_of-append ls (l ∷ [])
    ∙ ap (added (sums_of ls)) (added_comm (products l) no_sums ∙ added-no_sums (products l))
    ∙ added_comm (sums_of ls) (products l)

pub squares-not_negative : (ls : List Plane) (p : Point) → pos 0 ≤ℤ (squares ls p)
unfolding squares
squares-not_negative [] p = omega (arith, ints)
squares-not_negative (l ∷ ls) p =
    both (plane_value l p *ℤ plane_value l p) (squares ls p) (square_not_negative (plane_value l p)) (squares-not_negative ls p)
  where
    both : (a b : ℤ) → pos 0 ≤ℤ a → pos 0 ≤ℤ b → pos 0 ≤ℤ (a +ℤ b)
    both a b h k = omega (arith, ints)

pub sums_value-not_negative : (ls : List Plane) (p : Point) → pos 0 ≤ℤ (sums_value (sums_of ls) p)
sums_value-not_negative ls p = rw (sums_value-sums_of ls p) (squares-not_negative ls p)

-- the same of a value of sums that are those of a list
pub squares-held : (s : Sums) (ls : List Plane) (p : Point) (v : ℤ) → v ≡ sums_value s p → s ≡ sums_of ls → v ≡ squares ls p
squares-held s ls p v is held = is ∙ ap (λ t. sums_value t p) held ∙ sums_value-sums_of ls p

pub not_negative-held : (s : Sums) (ls : List Plane) (p : Point) (v : ℤ) → v ≡ sums_value s p → s ≡ sums_of ls → pos 0 ≤ℤ v
not_negative-held s ls p v is held =
    subst (λ z. pos 0 ≤ℤ z) (sym (squares-held s ls p v is held)) (squares-not_negative ls p)

pub planes-sums_of : (ls : List Plane) → (sums_of ls).planes ≡ length ls
planes-sums_of [] = refl
planes-sums_of (l ∷ ls) = let more = planes-sums_of ls in omega arith

-- one of the ten sums, by its parts above and below zero
module _ (part : Sums → ℤ) (none : part no_sums ≡ pos 0) (more : (s t : Sums) → part (added s t) ≡ part s +ℤ part t) where
  parts : (ls : List Plane) → part (sums_of ls) +ℤ pos (sum_by (λ l. down (part (products l))) ls) ≡ pos (sum_by (λ l. up (part (products l))) ls)
  parts [] = ap (λ z. z +ℤ pos 0) none
  parts (l ∷ ls) =
      let above = sum_by-cons (λ l. up (part (products l))) l ls in
      let below = sum_by-cons (λ l. down (part (products l))) l ls in
      let rest = parts ls in
      let sum = more (products l) (sums_of ls) in
      step (part (products l)) (part (sums_of ls)) _ _ _ _ _ sum rest above below
    where
      step : (a b c : ℤ) (m n m' n' : ℕ) → c ≡ a +ℤ b → b +ℤ pos n ≡ pos m → m' ≡ up a + m → n' ≡ down a + n → c +ℤ pos n' ≡ pos m'
      step a b c m n m' n' e f g h = omega (arith, ints)

  part-permutation : (ls ms : List Plane) → IsPermutation ls ms → part (sums_of ls) ≡ part (sums_of ms)
  part-permutation ls ms same =
      let above = sum_by-IsPermutation (λ l. up (part (products l))) ls ms same in
      let below = sum_by-IsPermutation (λ l. down (part (products l))) ls ms same in
      step (part (sums_of ls)) (part (sums_of ms)) _ _ _ _ (parts ls) (parts ms) above below
    where
      step : (a b : ℤ) (m n m' n' : ℕ) → a +ℤ pos n ≡ pos m → b +ℤ pos n' ≡ pos m' → m' ≡ m → n' ≡ n → a ≡ b
      step a b m n m' n' e f g h = omega (arith, ints)

pub sums_of-permutation : (ls ms : List Plane) → IsPermutation ls ms → sums_of ls ≡ sums_of ms
sums_of-permutation ls ms same = sums_same (sums_of ls) (sums_of ms)
    (planes-sums_of ls ∙ sym (length_permutation ls ms same) ∙ sym (planes-sums_of ms))
    (part-permutation (λ s. s.aa) refl (λ s t. refl) ls ms same)
    (part-permutation (λ s. s.ab) refl (λ s t. refl) ls ms same)
    (part-permutation (λ s. s.ac) refl (λ s t. refl) ls ms same)
    (part-permutation (λ s. s.ad) refl (λ s t. refl) ls ms same)
    (part-permutation (λ s. s.bb) refl (λ s t. refl) ls ms same)
    (part-permutation (λ s. s.bc) refl (λ s t. refl) ls ms same)
    (part-permutation (λ s. s.bd) refl (λ s t. refl) ls ms same)
    (part-permutation (λ s. s.cc) refl (λ s t. refl) ls ms same)
    (part-permutation (λ s. s.cd) refl (λ s t. refl) ls ms same)
    (part-permutation (λ s. s.dd) refl (λ s t. refl) ls ms same)
