-- How the program ends on words in no form.
use Rattle.std.proofs.Common.{◌≡◌, ℕ, List, Option, None, refl, subst, sym, inl}
use Rattle.oemm_run.specs.declared.end.End.TheVariants.{Usage}
use Rattle.oemm_words.specs.declared.orders.Order.{Order}
use Rattle.oemm_run.specs.Gives.{GivesOrder}
use Rattle.oemm_words.specs.Words.{order_of}
use Rattle.oemm.specs.Program.{untouched, EndsOn}

-- words in no form leave the objects as they were
pub no_form : (words : List (List ℕ)) → order_of words ≡ None → EndsOn words Usage
no_form words none =
    inl (untouched, record { given = subst (λ (order : Option Order). GivesOrder order untouched untouched Usage) (sym none) refl })
