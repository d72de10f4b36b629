-- Which lane holds which leaf, by the list of the leaves' holders.
use Rattle.std.specs.Prelude.{◌≡◌, ℕ, ◌<◌, true, if◌then◌else◌, List, length, slice_index_or, Option, Some, None}
use Rattle.oemm_octree.specs.Leaves.{is_one_of}
use Rattle.checkout_table.specs.declared.table.Busy.{Busy}

-- the holder of a leaf; a leaf past the end has none
abbrev pub holder : List (Option ℕ) → ℕ → Option ℕ
holder holders leaf = slice_index_or holders leaf None

-- no leaf of the core is held
abbrev pub AreFree : List (Option ℕ) → List ℕ → Type 0
AreFree holders core = (leaf : ℕ) → is_one_of core leaf ≡ true → holder holders leaf ≡ None

-- the least leaf of the core that is held, and the lane that holds it
pub record IsLeastHeld (holders : List (Option ℕ)) (core : List ℕ) (busy : Busy) : Type 0 where
  pub asked : is_one_of core busy.leaf ≡ true
  pub held : holder holders busy.leaf ≡ Some busy.lane
  pub least : (leaf : ℕ) → is_one_of core leaf ≡ true → leaf < busy.leaf → holder holders leaf ≡ None

-- the leaves of the core have this holder, or none, and all others the one that they had
pub record HoldersSet (lane : Option ℕ) (core : List ℕ) (old new : List (Option ℕ)) : Type 0 where
  pub leaves : length new ≡ length old
  pub each : (leaf : ℕ) → holder new leaf ≡ (if is_one_of core leaf then lane else holder old leaf)
