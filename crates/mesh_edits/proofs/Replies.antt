-- What an answer makes of a patch.
use Rattle.std.proofs.Common.{◌≡◌, Bool, true, false, cond, sym, ap, ◌∙◌}
use Rattle.sheet_data.specs.declared.patches.Patch.{Patch}

pub if_made : (old new next : Patch) (made asked : Bool) → asked ≡ made → asked ≡ true → next ≡ new → next ≡ cond made new old
if_made old new next made asked is on left = left ∙ sym (ap (λ b. cond b new old) (sym is ∙ on))

pub if_kept : (old new : Patch) (made asked : Bool) → asked ≡ made → asked ≡ false → old ≡ cond made new old
if_kept old new made asked is off = sym (ap (λ b. cond b new old) (sym is ∙ off))
