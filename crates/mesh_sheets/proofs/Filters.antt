-- Filters of lists in order, and lists that are parted by a number.
use Rattle.std.proofs.Common.{◌≡◌, ℕ, ◌+◌, Bool, true, false, cond, ◌&&◌, ◌||◌, eqb, List, [], ◌∷◌, ◌++◌, map, sym, ap, ◌∙◌, refl, arith, flat_map, inl, inr}
use Rattle.std.proofs.lemmas.Bool.{false≢true, eqb-true, or_left, or_right, or_cases}
use Rattle.std.specs.Cmp.{IsTotalOrder}
use Rattle.std.specs.FinMap.{IsAntisymmetric}
use Rattle.std.specs.List.{filter, list_any, AllByRecursion}
use Rattle.std.specs.declared.cmp.Ordering.{Ordering}
use Rattle.oemm_lists.specs.Ascending.{in_order}
use Rattle.triangle_lists.proofs.Sorting.{Alike, Rises, IsLeast, Rises-alike, Rises-in_order, weight, weight-in_order}
use Rattle.oemm_octree.proofs.Weights.{is_one_of-head}
use Rattle.oemm_octree.specs.Leaves.{is_one_of}

-- ---- filters and maps

pub filter_all : {X : Type 0} (xs : List X) → filter (λ _. true) xs ≡ xs
filter_all [] = refl
filter_all {X = X} (x ∷ xs) = ap (λ (ys : List X). x ∷ ys) (filter_all xs)

pub map_itself : {X : Type 0} (xs : List X) → map (λ x. x) xs ≡ xs
map_itself [] = refl
map_itself {X = X} (x ∷ xs) = ap (λ (ys : List X). x ∷ ys) (map_itself xs)

pub map-map : {X Y Z : Type 0} (g : Y → Z) (f : X → Y) (xs : List X) → map g (map f xs) ≡ map (λ x. g (f x)) xs
map-map g f [] = refl
map-map {Z = Z} g f (x ∷ xs) = ap (λ (ys : List Z). g (f x) ∷ ys) (map-map g f xs)

-- functions that agree at each of these numbers
pub map_agree : {X : Type 0} (f g : ℕ → X) (ns : List ℕ) → ((n : ℕ) → is_one_of ns n ≡ true → f n ≡ g n) → map f ns ≡ map g ns
map_agree f g [] h = refl
map_agree f g (n ∷ ns) h =
    let here = h n (is_one_of-head n ns) in
    let rest = map_agree f g ns (λ k on. h k (or_right (eqb k n) (is_one_of ns k) on)) in
    λ i. here i ∷ rest i

pub any_filter : {X : Type 0} (p q : X → Bool) → ((x : X) → p x ≡ true → q x ≡ true) → (xs : List X) → list_any p (filter q xs) ≡ list_any p xs
any_filter p q implies [] = refl
any_filter p q implies (x ∷ xs) =
    let rest = any_filter p q implies xs in
    elim (p x) as (λ b. p x ≡ b → list_any p (cond (q x) (x ∷ filter q xs) (filter q xs)) ≡ (b || list_any p xs)) [
      | true ↦ λ yes. ap (λ c. list_any p (cond c (x ∷ filter q xs) (filter q xs))) (implies x yes) ∙ ap (λ c. c || list_any p (filter q xs)) yes
      | false ↦ λ out. elim (q x) as (λ c. list_any p (cond c (x ∷ filter q xs) (filter q xs)) ≡ list_any p xs) [
        | true ↦ ap (λ c. c || list_any p (filter q xs)) out ∙ rest
        | false ↦ rest
      ]
    ] refl

pub any_map : {X Y : Type 0} (p : Y → Bool) (f : X → Y) (xs : List X) → list_any p (map f xs) ≡ list_any (λ x. p (f x)) xs
any_map p f [] = refl
any_map p f (x ∷ xs) = ap (λ b. p (f x) || b) (any_map p f xs)

-- ---- lists in order

pub weight-append : {X : Type 0} (f : X → ℕ) (xs ys : List X) → weight f (xs ++ ys) ≡ weight f xs + weight f ys
weight-append f [] ys = omega arith
weight-append f (x ∷ xs) ys = omega (arith, weight-append f xs ys)

pub sum_filter : {X : Type 0} (f : X → ℕ) (p : X → Bool) (xs : List X) → weight f (filter p xs) ≡ weight (λ x. cond (p x) (f x) 0) xs
sum_filter f p [] = refl
sum_filter f p (x ∷ xs) =
    elim (p x) as (λ b. weight f (cond b (x ∷ filter p xs) (filter p xs)) ≡ cond b (f x) 0 + weight (λ y. cond (p y) (f y) 0) xs) [
      | true ↦ ap (λ n. f x + n) (sum_filter f p xs)
      | false ↦ omega (arith, sum_filter f p xs)
    ]

module _ {X : Type 0} {cmp : X → X → Ordering} (o : IsTotalOrder cmp) (same : IsAntisymmetric cmp) where
  alike : (xs ys : List X) → ((f : X → ℕ) → weight f xs ≡ weight f ys) → Alike o xs ys
  alike xs ys h f = h f

  -- two lists in order that weigh alike are one
  pub one_in_order : (xs ys : List X) → Rises o xs → Rises o ys → ((f : X → ℕ) → weight f xs ≡ weight f ys) → xs ≡ ys
  one_in_order xs ys r s h = Rises-alike o same xs ys r s (alike xs ys h)

  pub in_order_already : (xs : List X) → Rises o xs → in_order cmp xs ≡ xs
  in_order_already xs r = one_in_order _ xs (Rises-in_order o xs) r (λ f. weight-in_order o f xs)

  least_filter : (x : X) (p : X → Bool) (xs : List X) → IsLeast o x xs → IsLeast o x (filter p xs)
  least_filter x p [] h = tt
  least_filter x p (y ∷ ys) h =
      elim (p y) as (λ b. IsLeast o x (cond b (y ∷ filter p ys) (filter p ys))) [ true ↦ (h.0, least_filter x p ys h.1) | false ↦ least_filter x p ys h.1 ]

  pub rises_filter : (p : X → Bool) (xs : List X) → Rises o xs → Rises o (filter p xs)
  rises_filter p [] r = tt
  rises_filter p (x ∷ xs) r =
      elim (p x) as (λ b. Rises o (cond b (x ∷ filter p xs) (filter p xs))) [ true ↦ (least_filter x p xs r.0, rises_filter p xs r.1) | false ↦ rises_filter p xs r.1 ]

-- ---- lists that are parted by a number

-- none of these numbers comes twice
abbrev pub AreDistinct : List ℕ → Type 0
AreDistinct [] = Unit {0}
AreDistinct (n ∷ ns) = (is_one_of ns n ≡ false) × AreDistinct ns

one_or_other : (a b : Bool) (n : ℕ) → (a ≡ true → b ≡ false) → cond a n 0 + cond b n 0 ≡ cond (a || b) n 0
one_or_other true b n apart = ap (λ c. n + cond c n 0) (apart refl) ∙ omega arith
one_or_other false b n apart = omega arith

two_parts : {X : Type 0} (k : X → ℕ) (f : X → ℕ) (l : ℕ) (ls : List ℕ) → is_one_of ls l ≡ false → (xs : List X)
    → weight (λ x. cond (eqb (k x) l) (f x) 0) xs + weight (λ x. cond (is_one_of ls (k x)) (f x) 0) xs ≡ weight (λ x. cond (is_one_of (l ∷ ls) (k x)) (f x) 0) xs
two_parts k f l ls apart [] = omega arith
two_parts k f l ls apart (x ∷ xs) =
    let here : cond (eqb (k x) l) (f x) 0 + cond (is_one_of ls (k x)) (f x) 0 ≡ cond (eqb (k x) l || is_one_of ls (k x)) (f x) 0 = one_or_other (eqb (k x) l) (is_one_of ls (k x)) (f x) (λ is. ap (is_one_of ls) (eqb-true (k x) l is) ∙ apart) in
    omega (arith, here, two_parts k f l ls apart xs)

none_weigh : {X : Type 0} (f : X → ℕ) (xs : List X) → weight f (filter (λ _. false) xs) ≡ 0
none_weigh f [] = refl
none_weigh f (x ∷ xs) = none_weigh f xs

-- the parts by different numbers weigh what the items with one of these numbers weigh
pub parts_weigh : {X : Type 0} (k : X → ℕ) (xs : List X) (ls : List ℕ) → AreDistinct ls → (f : X → ℕ)
    → weight f (flat_map (λ l. filter (λ x. eqb (k x) l) xs) ls) ≡ weight f (filter (λ x. is_one_of ls (k x)) xs)
parts_weigh k xs [] d f = sym (none_weigh f xs)
parts_weigh k xs (l ∷ ls) d f =
    weight-append f (filter (λ x. eqb (k x) l) xs) (flat_map (λ l. filter (λ x. eqb (k x) l) xs) ls)
    ∙ (λ i. sum_filter f (λ x. eqb (k x) l) xs i + (parts_weigh k xs ls d.1 f ∙ sum_filter f (λ x. is_one_of ls (k x)) xs) i)
    ∙ two_parts k f l ls d.0 xs
    ∙ sym (sum_filter f (λ x. is_one_of (l ∷ ls) (k x)) xs)

-- ---- members

-- what a member passes, some item passes
abbrev pub IsMember : {X : Type 0} → List X → X → Type 0
IsMember {X} xs x = (q : X → Bool) → q x ≡ true → list_any q xs ≡ true

members_of : {X : Type 0} (ys xs : List X) → ((q : X → Bool) → list_any q xs ≡ true → list_any q ys ≡ true) → AllByRecursion (IsMember ys) xs
members_of ys [] h = tt
members_of ys (x ∷ xs) h = ((λ q on. h q (or_left (q x) (list_any q xs) on)), members_of ys xs (λ q on. h q (or_right (q x) (list_any q xs) on)))

pub members : {X : Type 0} (xs : List X) → AllByRecursion (IsMember xs) xs
members xs = members_of xs xs (λ q on. on)

-- a test that implies another for each item can be made behind it
pub filter_behind_on : {X : Type 0} (p q : X → Bool) (xs : List X) → AllByRecursion (λ x. p x ≡ true → q x ≡ true) xs → filter p (filter q xs) ≡ filter p xs
filter_behind_on p q [] all = refl
filter_behind_on {X = X} p q (x ∷ xs) all =
    let rest = filter_behind_on p q xs all.1 in
    elim (p x) as (λ b. p x ≡ b → filter p (cond (q x) (x ∷ filter q xs) (filter q xs)) ≡ cond b (x ∷ filter p xs) (filter p xs)) [
      | true ↦ λ yes. ap (λ c. filter p (cond c (x ∷ filter q xs) (filter q xs))) (all.0 yes) ∙ ap (λ c. cond c (x ∷ filter p (filter q xs)) (filter p (filter q xs))) yes ∙ ap (λ (ys : List X). x ∷ ys) rest
      | false ↦ λ out. elim (q x) as (λ c. filter p (cond c (x ∷ filter q xs) (filter q xs)) ≡ filter p xs) [
        | true ↦ ap (λ c. cond c (x ∷ filter p (filter q xs)) (filter p (filter q xs))) out ∙ rest
        | false ↦ rest
      ]
    ] refl

pub all_weaker : {X : Type 0} (P Q : X → Type 0) → ((x : X) → P x → Q x) → (xs : List X) → AllByRecursion P xs → AllByRecursion Q xs
all_weaker P Q h [] all = tt
all_weaker P Q h (x ∷ xs) all = (h x all.0, all_weaker P Q h xs all.1)

pub weight-map : {X Y : Type 0} (f : Y → ℕ) (g : X → Y) (xs : List X) → weight f (map g xs) ≡ weight (λ x. f (g x)) xs
weight-map f g [] = refl
weight-map f g (x ∷ xs) = ap (λ n. f (g x) + n) (weight-map f g xs)

pub is_one_of-left : (ns ms : List ℕ) (n : ℕ) → is_one_of ns n ≡ true → is_one_of (ns ++ ms) n ≡ true
is_one_of-left [] ms n h = absurd (false≢true h)
is_one_of-left (k ∷ ns) ms n h =
    elim (or_cases (eqb n k) (is_one_of ns n) h) [ inl here ↦ or_left (eqb n k) (is_one_of (ns ++ ms) n) here | inr more ↦ or_right (eqb n k) (is_one_of (ns ++ ms) n) (is_one_of-left ns ms n more) ]

pub is_one_of-right : (ns ms : List ℕ) (n : ℕ) → is_one_of ms n ≡ true → is_one_of (ns ++ ms) n ≡ true
is_one_of-right [] ms n h = h
is_one_of-right (k ∷ ns) ms n h = or_right (eqb n k) (is_one_of (ns ++ ms) n) (is_one_of-right ns ms n h)

-- tests that agree on what passes another
pub filter_agree_on : {X : Type 0} (p q w : X → Bool) → ((x : X) → w x ≡ true → p x ≡ q x) → (xs : List X) → filter p (filter w xs) ≡ filter q (filter w xs)
filter_agree_on p q w h [] = refl
filter_agree_on p q w h (x ∷ xs) =
    let rest = filter_agree_on p q w h xs in
    elim (w x) as (λ b. w x ≡ b → filter p (cond b (x ∷ filter w xs) (filter w xs)) ≡ filter q (cond b (x ∷ filter w xs) (filter w xs))) [
      | true ↦ λ on. let here = h x on in λ i. cond (here i) (x ∷ rest i) (rest i)
      | false ↦ λ _. rest
    ] refl

pub and_false : (b : Bool) → (b && false) ≡ false
and_false true = refl
and_false false = refl

-- a number is one of those that a filter keeps where it is one of them all and passes
pub one_of_filter : (p : ℕ → Bool) (ns : List ℕ) (l : ℕ) → is_one_of (filter p ns) l ≡ (p l && is_one_of ns l)
one_of_filter p [] l = sym (and_false (p l))
one_of_filter p (n ∷ ns) l =
    let rest = one_of_filter p ns l in
    elim (eqb l n) as (λ b. eqb l n ≡ b → is_one_of (cond (p n) (n ∷ filter p ns) (filter p ns)) l ≡ (p l && (b || is_one_of ns l))) [
      | true ↦ λ is.
          ap (λ b. is_one_of (cond b (n ∷ filter p ns) (filter p ns)) l) (ap p (sym (eqb-true l n is)))
          ∙ elim (p l) as (λ b. is_one_of (filter p ns) l ≡ (b && is_one_of ns l) → is_one_of (cond b (n ∷ filter p ns) (filter p ns)) l ≡ (b && true)) [
            | true ↦ λ _. ap (λ b. b || is_one_of (filter p ns) l) is
            | false ↦ λ h. h
          ] rest
      | false ↦ λ away. elim (p n) as (λ b. is_one_of (cond b (n ∷ filter p ns) (filter p ns)) l ≡ is_one_of (filter p ns) l) [
        | true ↦ ap (λ b. b || is_one_of (filter p ns) l) away
        | false ↦ refl
      ] ∙ rest
    ] refl

pub any_agree : {X : Type 0} (p q : X → Bool) → ((x : X) → p x ≡ q x) → (xs : List X) → list_any p xs ≡ list_any q xs
any_agree p q h [] = refl
any_agree p q h (x ∷ xs) = let here = h x in let rest = any_agree p q h xs in λ i. here i || rest i

pub any_none : {X : Type 0} (p : X → Bool) → ((x : X) → p x ≡ false) → (xs : List X) → list_any p xs ≡ false
any_none p h [] = refl
any_none p h (x ∷ xs) = let here = h x in let rest = any_none p h xs in λ i. here i || rest i

or_truth : (b c : Bool) → (b || (true || c)) ≡ true
or_truth true c = refl
or_truth false c = refl

-- some item passes where one does that is of one kind or of another
pub any_of_two : {X : Type 0} (q w x : X → Bool) → ((t : X) → q t ≡ true → w t ≡ false → x t ≡ true) → (ts : List X) → (list_any q (filter w ts) || list_any q (filter x ts)) ≡ list_any q ts
any_of_two q w x other [] = refl
any_of_two q w x other (t ∷ ts) =
    let ws = filter w ts in
    let xs = filter x ts in
    elim (q t) as (λ b. q t ≡ b → (list_any q (cond (w t) (t ∷ ws) ws) || list_any q (cond (x t) (t ∷ xs) xs)) ≡ (b || list_any q ts)) [
      | true ↦ λ on. elim (w t) as (λ c. w t ≡ c → (list_any q (cond c (t ∷ ws) ws) || list_any q (cond (x t) (t ∷ xs) xs)) ≡ true) [
        | true ↦ λ _. ap (λ d. (d || list_any q ws) || list_any q (cond (x t) (t ∷ xs) xs)) on
        | false ↦ λ out. ap (λ d. list_any q ws || list_any q (cond d (t ∷ xs) xs)) (other t on out) ∙ ap (λ d. list_any q ws || (d || list_any q xs)) on ∙ or_truth (list_any q ws) (list_any q xs)
      ] refl
      | false ↦ λ off.
          (λ i. skipped (w t) ws off i || skipped (x t) xs off i) ∙ any_of_two q w x other ts
    ] refl
  where
    skipped : (b : Bool) (ys : List _) → q t ≡ false → list_any q (cond b (t ∷ ys) ys) ≡ list_any q ys
    skipped true ys off = ap (λ d. d || list_any q ys) off
    skipped false ys off = refl

-- tests that agree at each item
pub filter_agree_each : {X : Type 0} (p q : X → Bool) (xs : List X) → AllByRecursion (λ x. p x ≡ q x) xs → filter p xs ≡ filter q xs
filter_agree_each p q [] all = refl
filter_agree_each p q (x ∷ xs) all = let here = all.0 in let rest = filter_agree_each p q xs all.1 in λ i. cond (here i) (x ∷ rest i) (rest i)
