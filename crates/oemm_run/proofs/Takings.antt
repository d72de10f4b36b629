-- What several calls take from a source.
use Rattle.std.proofs.Common.{◌≡◌, ℕ, List, [], ◌++◌, Some, None, refl, sym, ap, subst, ◌∙◌, append_assoc}
use Rattle.std.specs.Option.{option_map}
use Rattle.fault_counts.specs.Told.{Told, Takes, TakesSome}
use Rattle.fault_counts.proofs.InRow.{takes_none, takes_some_more}
use Rattle.oemm_run.specs.Outside.{HasTaken}

-- these bytes were taken, and nothing after them
pub taken_bytes : (old mid new : Told) (bytes : List ℕ) → Takes old mid bytes → new ≡ mid → HasTaken old new
taken_bytes old mid new bytes h same = record { some = (bytes, subst (λ (left : Told). Takes old left bytes) (sym same) h) }

-- some were taken behind a front that was taken before and given again
pub taken_behind :
    (before mid after : Told) (front head : List ℕ) → Takes before mid front →
    HasTaken (option_map (λ rest. front ++ rest) mid) (option_map (λ rest. head ++ rest) after) → HasTaken before after
taken_behind before mid None front head taken h = record { some = (h.some.0, taken ∙ h.some.1) }
taken_behind before mid (Some rest) front head taken h =
    record { some = (h.some.0 ++ head, taken ∙ h.some.1 ∙ ap Some (sym (append_assoc h.some.0 head rest))) }
