-- What the top call gives by what the words ask for.
use Rattle.std.proofs.Common.{◌≡◌, ℕ, List, Option, Some, None, refl, subst, sym, inl}
use Rattle.mesh_out.specs.declared.form.Form.{Form}
use Rattle.fault_counts.proofs.InRow.{takes_some_none}
use Rattle.oemm_run.specs.declared.end.End.{End}
use Rattle.oemm_run.specs.declared.end.End.TheVariants.{Usage, Memory}
use Rattle.oemm_words.specs.declared.orders.Order.{Order}
use Rattle.oemm_words.specs.declared.orders.Order.TheVariants.{Run}
use Rattle.oemm_run.specs.Commands.Run.{RunGives}
use Rattle.oemm_run.specs.Gives.{GivesOrder, Gives}
use Rattle.oemm_run.specs.Outside.{Outside}
use Rattle.oemm_words.specs.Words.{order_of}

-- words in no form are refused
pub no_form : (words : List (List ℕ)) (o : Outside) → order_of words ≡ None → Gives words o o Usage
no_form words o none = record { given = subst (λ (order : Option Order). GivesOrder order o o Usage) (sym none) refl }

memory_before : (order : Option Order) (o : Outside) → GivesOrder order o o Memory
memory_before None o = refl
memory_before (Some (Run m s out form cap core cache workers)) o = inl (record {
  mesh = record { taken = takes_some_none o.mesh.left; cause = refl };
  script = refl;
  sinks = record { out = refl; report = refl };
})

-- memory was wanting to read them
pub no_memory : (words : List (List ℕ)) (o : Outside) → Gives words o o Memory
no_memory words o = record { given = memory_before (order_of words) o }

-- they ask for a run
pub asked_run : (words : List (List ℕ)) (m s out : List ℕ) (form : Form) (cap core cache workers : ℕ) (before after : Outside) (end : End) → order_of words ≡ Some (Run m s out form cap core cache workers) → RunGives (record { form = form; core = core }) before after end → Gives words before after end
asked_run words m s out form cap core cache workers before after end asks gives =
    record { given = subst (λ (order : Option Order). GivesOrder order before after end) (sym asks) gives }
