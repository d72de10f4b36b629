-- Filters of lists in order, of maps and of filters, and what is found in them.
use Rattle.std.proofs.Common.{◌≡◌, Bool, true, false, cond, find, List, [], ◌∷◌, map, Some, refl, sym, ap, ◌∙◌}
use Rattle.std.proofs.lemmas.Bool.{false≢true, false_from_ne_true}
use Rattle.std.specs.Cmp.{IsTotalOrder}
use Rattle.std.specs.List.{filter}
use Rattle.std.specs.Ordering.{is_le}
use Rattle.std.specs.declared.cmp.Ordering.{Ordering}
use Rattle.oemm_lists.specs.Ascending.{inserted, in_order}
use Rattle.triangle_lists.proofs.Sorting.{IsLeast, IsLeast-below, Rises, Rises-in_order, le_of, not_gt}

module _ {X : Type 0} {cmp : X → X → Ordering} (o : IsTotalOrder cmp) where
  IsLeast-filter : (p : X → Bool) (x : X) (ys : List X) → IsLeast o x ys → IsLeast o x (filter p ys)
  IsLeast-filter p x [] h = tt
  IsLeast-filter p x (y ∷ ys) h = elim (p y) as (λ b. IsLeast o x (cond b (y ∷ filter p ys) (filter p ys))) [ true ↦ (h.0, IsLeast-filter p x ys h.1) | false ↦ IsLeast-filter p x ys h.1 ]

  placed-least : (x : X) (ys : List X) → IsLeast o x ys → inserted cmp x ys ≡ x ∷ ys
  placed-least x [] h = refl
  placed-least x (y ∷ ys) h = ap (λ (b : Bool). cond b (x ∷ y ∷ ys) (y ∷ inserted cmp x ys)) (le_of (cmp x y) h.0)

  filter-placed : (p : X → Bool) (x : X) (ys : List X) → Rises o ys → filter p (inserted cmp x ys) ≡ cond (p x) (inserted cmp x (filter p ys)) (filter p ys)
  filter-placed p x [] r = refl
  filter-placed p x (y ∷ ys) r =
      let f = filter p ys in
      elim (is_le (cmp x y)) as (λ b. is_le (cmp x y) ≡ b → filter p (cond b (x ∷ y ∷ ys) (y ∷ inserted cmp x ys)) ≡ cond (p x) (inserted cmp x (filter p (y ∷ ys))) (filter p (y ∷ ys))) [
        | true ↦ λ e.
            let le = not_gt (cmp x y) e in
            let all : IsLeast o x (y ∷ ys) = (le, IsLeast-below o x y ys le r.0) in
            ap (λ (l : List X). cond (p x) l (filter p (y ∷ ys))) (sym (placed-least x (filter p (y ∷ ys)) (IsLeast-filter p x (y ∷ ys) all)))
        | false ↦ λ e.
            let rest : filter p (inserted cmp x ys) ≡ cond (p x) (inserted cmp x f) f = filter-placed p x ys r.1 in
            let behind : inserted cmp x (y ∷ f) ≡ y ∷ inserted cmp x f = ap (λ (b : Bool). cond b (x ∷ y ∷ f) (y ∷ inserted cmp x f)) e in
            ap (λ (l : List X). cond (p y) (y ∷ l) l) rest
            ∙ elim (p y) as (λ c. (let g = cond (p x) (inserted cmp x f) f in cond c (y ∷ g) g) ≡ cond (p x) (inserted cmp x (cond c (y ∷ f) f)) (cond c (y ∷ f) f)) [
              | true ↦ elim (p x) as (λ c. y ∷ cond c (inserted cmp x f) f ≡ cond c (inserted cmp x (y ∷ f)) (y ∷ f)) [ true ↦ sym behind | false ↦ refl ]
              | false ↦ refl
            ]
      ] refl

  -- to filter a list in order is to put in order what the filter keeps
  pub filter-in_order : (p : X → Bool) (xs : List X) → filter p (in_order cmp xs) ≡ in_order cmp (filter p xs)
  filter-in_order p [] = refl
  filter-in_order p (x ∷ xs) =
      filter-placed p x (in_order cmp xs) (Rises-in_order o xs)
      ∙ ap (λ (l : List X). cond (p x) (inserted cmp x l) l) (filter-in_order p xs)
      ∙ elim (p x) as (λ b. cond b (inserted cmp x (in_order cmp (filter p xs))) (in_order cmp (filter p xs)) ≡ in_order cmp (cond b (x ∷ filter p xs) (filter p xs))) [ true ↦ refl | false ↦ refl ]

-- to filter what f gives is to give what passes behind f
pub filter-map : {X Y : Type 0} (p : Y → Bool) (f : X → Y) (xs : List X) → filter p (map f xs) ≡ map f (filter (λ x. p (f x)) xs)
filter-map p f [] = refl
filter-map p f (x ∷ xs) =
    ap (λ l. cond (p (f x)) (f x ∷ l) l) (filter-map p f xs)
    ∙ elim (p (f x)) as (λ b. cond b (f x ∷ map f (filter (λ z. p (f z)) xs)) (map f (filter (λ z. p (f z)) xs)) ≡ map f (cond b (x ∷ filter (λ z. p (f z)) xs) (filter (λ z. p (f z)) xs))) [ true ↦ refl | false ↦ refl ]

-- filters one after another, in either order
pub filter-swap : {X : Type 0} (p q : X → Bool) (xs : List X) → filter p (filter q xs) ≡ filter q (filter p xs)
filter-swap p q [] = refl
filter-swap p q (x ∷ xs) =
    let rest = filter-swap p q xs in
    elim (p x) as (λ a. p x ≡ a → filter p (cond (q x) (x ∷ filter q xs) (filter q xs)) ≡ filter q (cond a (x ∷ filter p xs) (filter p xs))) [
      | true ↦ λ e. elim (q x) as (λ b. filter p (cond b (x ∷ filter q xs) (filter q xs)) ≡ cond b (x ∷ filter q (filter p xs)) (filter q (filter p xs))) [
        | true ↦ ap (λ (b : Bool). cond b (x ∷ filter p (filter q xs)) (filter p (filter q xs))) e ∙ ap (λ l. x ∷ l) rest
        | false ↦ rest
      ]
      | false ↦ λ e. elim (q x) as (λ b. filter p (cond b (x ∷ filter q xs) (filter q xs)) ≡ filter q (filter p xs)) [
        | true ↦ ap (λ (b : Bool). cond b (x ∷ filter p (filter q xs)) (filter p (filter q xs))) e ∙ rest
        | false ↦ rest
      ]
    ] refl

-- what is found among all that pass a weaker test
pub find-filter : {X : Type 0} (p q : X → Bool) → ((x : X) → p x ≡ true → q x ≡ true) → (xs : List X) → find p (filter q xs) ≡ find p xs
find-filter p q more [] = refl
find-filter p q more (x ∷ xs) =
    elim (q x) as (λ b. q x ≡ b → find p (cond b (x ∷ filter q xs) (filter q xs)) ≡ cond (p x) (Some x) (find p xs)) [
      | true ↦ λ _. ap (λ o. cond (p x) (Some x) o) (find-filter p q more xs)
      | false ↦ λ non. find-filter p q more xs ∙ ap (λ (b : Bool). cond b (Some x) (find p xs)) (sym (false_from_ne_true (p x) (λ aye. false≢true (sym non ∙ more x aye))))
    ] refl

-- a filter behind one that keeps all that it keeps
pub filter-weaker : {X : Type 0} (p q : X → Bool) → ((x : X) → p x ≡ true → q x ≡ true) → (xs : List X) → filter p (filter q xs) ≡ filter p xs
filter-weaker p q more [] = refl
filter-weaker p q more (x ∷ xs) =
    elim (q x) as (λ b. q x ≡ b → filter p (cond b (x ∷ filter q xs) (filter q xs)) ≡ cond (p x) (x ∷ filter p xs) (filter p xs)) [
      | true ↦ λ _. ap (λ o. cond (p x) (x ∷ o) o) (filter-weaker p q more xs)
      | false ↦ λ non. filter-weaker p q more xs ∙ ap (λ (b : Bool). cond b (x ∷ filter p xs) (filter p xs)) (sym (false_from_ne_true (p x) (λ aye. false≢true (sym non ∙ more x aye))))
    ] refl
