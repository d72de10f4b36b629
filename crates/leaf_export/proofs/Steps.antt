-- Loops over triangles, one step more.
use Rattle.std.proofs.Common.{◌≡◌, ◌∙◌, ℕ, ◌+◌, ◌<◌, ◌≤◌, ◌≢◌, Bool, List, [], ◌∷◌, ◌++◌, length, map, flat_map, take, drop, get_or, set, sym, ap, arith, Option, Some, None, append-nil}
use Rattle.std.specs.List.{find}
use Rattle.std.specs.Option.{option_or}
use Rattle.std.proofs.lemmas.Grind.{flat_map-append}
use Rattle.std.proofs.lemmas.List.{get_or-set_other, map_push, take-append-drop, take-append-le, take_all, take_more, take_more_set}
use Rattle.std.proofs.lemmas.List.Concat.{flat_map-cons}
use Rattle.std.proofs.lemmas.List.Folds.{find-append}

-- ---- a list that is changed in place

module _ {X : Type 0} (f : X → X) (ys xs : List X) (i : ℕ) (len : length xs ≡ length ys) (lt : i < length ys)
    (done : take i xs ≡ map f (take i ys)) (kept : (k : ℕ) (d : X) → i ≤ k → get_or xs k d ≡ get_or ys k d) where
  pub done_more : (x : X) → x ≡ get_or xs i x → (y : X) → y ≡ f x → take (i + 1) (set xs i y) ≡ map f (take (i + 1) ys)
  done_more x at y is =
      let here : y ≡ f (get_or ys i x) = is ∙ ap f (at ∙ kept i x (omega arith)) in
      take_more_set xs i y (omega (arith, len, lt))
      ∙ (λ j. done j ++ here j ∷ [])
      ∙ sym (map_push f (take i ys) (get_or ys i x))
      ∙ ap (map f) (sym (take_more ys i x lt))

pub kept_more : {X : Type 0} (ys xs : List X) (i : ℕ) → ((k : ℕ) (d : X) → i ≤ k → get_or xs k d ≡ get_or ys k d) → (y : X)
    → (k : ℕ) (d : X) → i + 1 ≤ k → get_or (set xs i y) k d ≡ get_or ys k d
kept_more ys xs i kept y k d le =
    let apart : k ≢ i = λ e. omega (arith, e, le) in
    get_or-set_other xs i k y d apart ∙ kept k d (omega (arith, le))

-- ---- the first that passes

flat_more : {X Y : Type 0} (f : X → List Y) (xs : List X) (x : X) → flat_map f (xs ++ x ∷ []) ≡ flat_map f xs ++ f x
flat_more f xs x =
    flat_map-append f xs (x ∷ [])
    ∙ ap (λ ys. flat_map f xs ++ ys) (flat_map-cons f x [] ∙ append-nil (f x))

module _ {X Y : Type 0} (p : Y → Bool) (f : X → List Y) (xs : List X) (i : ℕ) (lt : i < length xs)
    (none : find p (flat_map f (take i xs)) ≡ None) (x : X) (at : x ≡ get_or xs i x) where
  pub found_next : find p (flat_map f (take (i + 1) xs)) ≡ find p (f x)
  found_next =
      ap (λ (ys : List X). find p (flat_map f ys)) (take_more xs i x lt ∙ ap (λ (y : X). take i xs ++ y ∷ []) (sym at))
      ∙ ap (find p) (flat_more f (take i xs) x)
      ∙ find-append p (flat_map f (take i xs)) (f x)
      ∙ ap (λ (o : Option Y). option_or o (find p (f x))) none

  pub found_here : (y : Y) → find p (f x) ≡ Some y → find p (flat_map f xs) ≡ Some y
  found_here y is =
      let rest = flat_map f (drop (i + 1) xs) in
      ap (λ (ys : List X). find p (flat_map f ys)) (sym (take-append-drop (i + 1) xs))
      ∙ ap (find p) (flat_map-append f (take (i + 1) xs) (drop (i + 1) xs))
      ∙ find-append p (flat_map f (take (i + 1) xs)) rest
      ∙ ap (λ (o : Option Y). option_or o (find p rest)) (found_next ∙ is)

-- what a vector holds whose whole slice was written
pub written_back : {X : Type 0} (n : ℕ) (new old : List X) → length new ≡ n → take n (new ++ drop (length new) old) ≡ new
written_back n new old len = take-append-le n new (drop (length new) old) (omega (arith, len)) ∙ take_all n new (omega (arith, len))
