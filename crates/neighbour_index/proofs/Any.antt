-- Whether an element passes a test, where the test is made of others.
use Rattle.std.proofs.Common.{◌≡◌, Bool, true, false, cond, ◌&&◌, ◌||◌, List, [], ◌∷◌, map, sym, ap, ◌∙◌, refl}
use Rattle.std.proofs.lemmas.List.Folds.{list_any-append}
use Rattle.std.specs.List.{list_any, filter, flat_map}

or_shuffle : (a b c d : Bool) → ((a || b) || (c || d)) ≡ ((a || c) || (b || d))
or_shuffle true b c d = refl
or_shuffle false true true d = refl
or_shuffle false true false d = refl
or_shuffle false false true d = refl
or_shuffle false false false d = refl

any_or : {X : Type 0} (f g : X → Bool) (xs : List X) → list_any (λ x. f x || g x) xs ≡ (list_any f xs || list_any g xs)
any_or f g [] = refl
any_or f g (x ∷ xs) =
    ap (λ (b : Bool). (f x || g x) || b) (any_or f g xs) ∙ or_shuffle (f x) (g x) (list_any f xs) (list_any g xs)

any_none : {X : Type 0} (xs : List X) → list_any (λ x. false) xs ≡ false
any_none [] = refl
any_none (x ∷ xs) = any_none xs

pub any_and : {X : Type 0} (b : Bool) (f : X → Bool) (xs : List X) → list_any (λ x. b && f x) xs ≡ (b && list_any f xs)
any_and true f xs = refl
any_and false f xs = any_none xs

-- some x and some y pass where some y and some x do
pub any_swap : {X Y : Type 0} (f : X → Y → Bool) (xs : List X) (ys : List Y)
    → list_any (λ x. list_any (f x) ys) xs ≡ list_any (λ y. list_any (λ x. f x y) xs) ys
any_swap f [] ys = sym (any_none ys)
any_swap f (x ∷ xs) ys =
    ap (λ (b : Bool). list_any (f x) ys || b) (any_swap f xs ys)
    ∙ sym (any_or (f x) (λ y. list_any (λ x. f x y) xs) ys)

pub any_kept : {X Y : Type 0} (p : Y → Bool) (f : X → Y) (q : X → Bool) (xs : List X)
    → list_any p (map f (filter q xs)) ≡ list_any (λ x. q x && p (f x)) xs
any_kept p f q [] = refl
any_kept p f q (x ∷ xs) =
    let kept = filter q xs in
    let rest = any_kept p f q xs in
    elim (q x) as (λ b. list_any p (map f (cond b (x ∷ kept) kept))
    ≡ ((b && p (f x)) || list_any (λ x. q x && p (f x)) xs)) [
      | true ↦ ap (λ (r : Bool). p (f x) || r) rest
      | false ↦ rest
    ]

pub any_flat : {X Y : Type 0} (p : Y → Bool) (f : X → List Y) (q : X → Bool) (xs : List X)
    → list_any p (flat_map f (filter q xs)) ≡ list_any (λ x. q x && list_any p (f x)) xs
any_flat p f q [] = refl
any_flat p f q (x ∷ xs) =
    let kept = filter q xs in
    let rest = any_flat p f q xs in
    elim (q x) as (λ b. list_any p (flat_map f (cond b (x ∷ kept) kept))
    ≡ ((b && list_any p (f x)) || list_any (λ x. q x && list_any p (f x)) xs)) [
      | true ↦ list_any-append p (f x) (flat_map f kept) ∙ ap (λ (r : Bool). list_any p (f x) || r) rest
      | false ↦ rest
    ]
