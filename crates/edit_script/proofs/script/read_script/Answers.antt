use Rattle.std.proofs.Common.{◌≡◌, sym, subst, ap, ◌∙◌, List, ℕ, Result, Err, IfSome}
use Rattle.std.proofs.lemmas.Result.{IfOk-at_ok}
use Rattle.mesh_data.specs.declared.edits.Script.{Script}
use Rattle.edit_script.specs.declared.fault.ScriptFault.{ScriptFault}
use Rattle.edit_script.specs.Grammar.{script_of}
use Rattle.edit_script.specs.Script.{GivesScript, fault_of_take}
use Rattle.edit_script.proofs.Readings.{told_whole, told_fault, gives_script}
use Rattle.edit_script.proofs.script.read_script.Goals as goal
use Rattle.edit_script.proofs.script.read_script.Goals.{in-Ok, in-Err}

pub returns-clause-told : goal.returns-clause-told
returns-clause-told g c =
    let Told : Result Script ScriptFault → Type 0 = λ answer.
    IfSome (g.S.Source.left c.args.source) (λ bytes. GivesScript answer (script_of bytes)) in
    elim c.match-taken.branch [
      | in-Ok w ↦
          let answer = w.script_of_bytes-script.result in
          let whole = gives_script _ _ w.script_of_bytes-script.ensures.ok w.script_of_bytes-script.ensures.err in
          let here = subst (λ (bytes : List ℕ). GivesScript answer (script_of bytes)) w.deref.ensures.value whole in
          subst Told (sym w.script-is)
          (told_whole _ _ w.in-Ok.bytes.items (λ bytes. GivesScript answer (script_of bytes))
          (IfOk-at_ok _ w.in-Ok.is c.take_all-source.ensures.all)
          (IfOk-at_ok _ w.in-Ok.is c.take_all-source.ensures.end) here)
      | in-Err w ↦
          let answer : c.match-taken.script ≡ Err (fault_of_take w.in-Err.fault) = w.script-is ∙ ap Err w.fault_of_take.ensures in
          subst Told (sym answer)
          (told_fault _ w.in-Err.fault (λ many. c.take_all-source.ensures.too_many (w.in-Err.is ∙ ap Err many)))
    ]
