-- What a lane holds.
use Rattle.std.proofs.Common.{◌≡◌, ◌≢◌, ℕ, Bool, true, false, cond, List, Option, Some, None, refl, sym, ap, ◌∙◌}
use Rattle.oemm_octree.specs.Leaves.{is_one_of}
use Rattle.checkout_table.specs.Holders.{HoldersSet, holder}
use Rattle.oemm_desk.specs.Desks.{AreHeld, HoldsJust, HoldsNone}

set_on : (o : Option ℕ) (core : List ℕ) (old new : List (Option ℕ)) (leaf : ℕ) (b : Bool) → HoldersSet o core old new
    → is_one_of core leaf ≡ b → holder new leaf ≡ cond b o (holder old leaf)
set_on o core old new leaf b set is = set.each leaf ∙ ap (λ b. cond b o (holder old leaf)) is

-- a lane that held nothing and has taken a core
pub just_taken : (old new : List (Option ℕ)) (lane : ℕ) (core : List ℕ) → HoldsNone old lane
    → HoldersSet (Some lane) core old new → HoldsJust new lane core
just_taken old new lane core none set = record {
  these = λ leaf on. set_on (Some lane) core old new leaf true set on;
  no_other = λ leaf is. elim (is_one_of core leaf) as (λ b. is_one_of core leaf ≡ b → b ≡ true) [
    | true ↦ λ on. refl
    | false ↦ λ off. absurd (none leaf (sym (set_on (Some lane) core old new leaf false set off) ∙ is))
  ] refl;
}

pub just_held : (holders : List (Option ℕ)) (lane : ℕ) (core : List ℕ) → HoldsJust holders lane core → AreHeld holders core
just_held holders lane core just = λ leaf on. (lane, just.these leaf on)

-- a lane that held a core and has given it back
pub none_left : (old new : List (Option ℕ)) (lane : ℕ) (core : List ℕ) → HoldsJust old lane core
    → HoldersSet None core old new → HoldsNone new lane
none_left old new lane core just set = λ leaf is.
    elim (is_one_of core leaf) as (λ b. is_one_of core leaf ≡ b → ⊥) [
      | true ↦ λ on. let e : None ≡ Some lane = sym (set_on None core old new leaf true set on) ∙ is in absurd (cc)
      | false ↦ λ off.
          let on = just.no_other leaf (sym (set_on None core old new leaf false set off) ∙ is) in
          let e : false ≡ true = sym off ∙ on in absurd (cc)
    ] refl
