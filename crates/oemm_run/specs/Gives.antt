-- What the top call gives: the command that the words ask for.
use Rattle.std.specs.Prelude.{◌≡◌, ℕ, List, Option, Some, None, IsSome}
use Rattle.oemm_run.specs.declared.end.End.{End}
use Rattle.oemm_run.specs.declared.end.End.TheVariants.{Usage, Memory}
use Rattle.oemm_words.specs.declared.orders.Order.{Order}
use Rattle.oemm_words.specs.declared.orders.Order.TheVariants.{Run}
use Rattle.oemm_run.specs.Commands.Run.{RunGives}
use Rattle.oemm_run.specs.Outside.{Outside}
use Rattle.oemm_words.specs.Words.{order_of}

-- the words are in no form, or memory was wanting to read them, and nothing was touched
abbrev pub Refuses : Outside → Outside → End → Type 0
Refuses before after Usage = after ≡ before
Refuses before after Memory = after ≡ before
Refuses before after end = ⊥

-- what is given where this is asked for
abbrev pub GivesOrder : Option Order → Outside → Outside → End → Type 0
GivesOrder None before after end = Refuses before after end
GivesOrder (Some (Run mesh script out form cap core cache workers)) before after end =
    RunGives (record { form = form; core = core }) before after end

-- what the top call gives
pub record Gives (words : List (List ℕ)) (before after : Outside) (end : End) : Type 0 where
  pub given : GivesOrder (order_of words) before after end
