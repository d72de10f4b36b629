-- Lists in order.
use Rattle.std.specs.Prelude.{ℕ, ◌<◌, ◌-◌, List, [], ◌∷◌, if◌then◌else◌, length, slice_index}
use Rattle.std.specs.declared.cmp.Ordering.{Ordering}
use Rattle.std.specs.Ordering.{is_le}

-- the number lies above the last of these, if there is one
abbrev pub IsAboveLast : ℕ → List ℕ → Type 0
IsAboveLast n ns = 0 < length ns → slice_index ns (length ns - 1) < n

-- x at its place in a list that is in order
abbrev pub inserted : {X : Type 0} → (X → X → Ordering) → X → List X → List X
inserted cmp x [] = x ∷ []
inserted cmp x (y ∷ ys) = if is_le (cmp x y) then x ∷ y ∷ ys else y ∷ inserted cmp x ys

-- the same items in order
abbrev pub in_order : {X : Type 0} → (X → X → Ordering) → List X → List X
in_order cmp [] = []
in_order cmp (x ∷ xs) = inserted cmp x (in_order cmp xs)
