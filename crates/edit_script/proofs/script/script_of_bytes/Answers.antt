use Rattle.std.proofs.Common.{◌++◌, [], Some, Ok, refl, ap, sym, ◌∙◌, arith}
use Rattle.std.proofs.lemmas.Bool.{true≢false}
use Rattle.std.proofs.lemmas.Result.{err_from_is_err_and}
use Rattle.oemm_lines.specs.Stream.{flow_of}
use Rattle.edit_script.specs.declared.byte_source.ByteSource.{ByteSource}
use Rattle.edit_script.specs.Grammar.{tasks_of}
use Rattle.edit_script.proofs.Readings.{tasks_passed, tasks_read, tasks_fault, tasks_none, script_of_short}
use Rattle.edit_script.proofs.Flows.{fresh_flow, begins_there, line_told, line_given, none_told, never_read, fault_told}
use Rattle.edit_script.proofs.script.script_of_bytes.Goals as goal
use Rattle.edit_script.proofs.script.script_of_bytes.Goals.{then-not-is_empty+in_ok-read_line, else-not-is_empty}

pub loop-draft-init : goal.loop-draft-init
loop-draft-init c =
    let l = c.in_ok-lines.lines in
    let h = c.in_ok-lines.ensures in
    let there = begins_there l h.fresh in
    record {
      tasks = sym (ap (tasks_of []) (fresh_flow l l.source.left.now c.args.bytes.now h.fresh h.bytes))
          ∙ ap (λ ts. tasks_of ts (flow_of l (l.ahead ++ l.source.left.now))) (sym c.new-draft.ensures);
      calm = there.2;
      budget = there.3;
      place = omega (arith, there.0);
      count = omega (arith, there.0, there.1);
    }

pub loop-draft-preserved : goal.loop-draft-preserved
loop-draft-preserved c =
    let gives = line_given (λ (h : ByteSource). Some h.left.now) c.loop-draft.lines c.next.new.self c.in_ok-line.field-0 c.in-Some.line c.in-Some.is c.in_ok-line.ensures.gives in
    let told = line_told _ _ _ _ c.in-Some.is c.in_ok-line.ensures.says in
    let same = c.in_ok-line.ensures.same.0 in
    let before = c.loop-draft.invariant in
    let after = flow_of c.next.new.self (c.next.new.self.ahead ++ c.next.new.self.source.left.now) in
    record {
      tasks = before.tasks ∙ ap (tasks_of c.loop-draft.draft) told ∙ elim c.if-not-is_empty.branch [
        | then-not-is_empty+in_ok-read_line w ↦
            tasks_read _ _ _ after (λ none. true≢false (sym (w.if-not-is_empty.ensures.1 none))) w.in_ok-read_line.ensures.ok
            ∙ ap (λ ts. tasks_of ts after) (sym w.draft-is)
        | else-not-is_empty w ↦
            tasks_passed _ _ after (w.if-not-is_empty.ensures.0 refl)
            ∙ ap (λ ts. tasks_of ts after) (sym w.draft-is)
      ];
      calm = c.in_ok-line.ensures.stands;
      budget = same ∙ before.budget;
      place = omega (arith, gives.within, same, before.budget);
      count = omega (arith, gives.next_count, gives.rises, before.count);
    }

pub loop-draft-smaller : goal.loop-draft-smaller
loop-draft-smaller c =
    let gives = line_given (λ (h : ByteSource). Some h.left.now) c.loop-draft.lines c.next.new.self c.in_ok-line.field-0 c.in-Some.line c.in-Some.is c.in_ok-line.ensures.gives in
    let same = c.in_ok-line.ensures.same.0 in
    let before = c.loop-draft.invariant in
    omega (arith, gives.within, gives.rises, same, before.budget)

pub read_line-requires-clause-number : goal.read_line-requires-clause-number
read_line-requires-clause-number c =
    let gives = line_given (λ (h : ByteSource). Some h.left.now) c.loop-draft.lines c.next.new.self c.in_ok-line.field-0 c.in-Some.line c.in-Some.is c.in_ok-line.ensures.gives in
    let before = c.loop-draft.invariant in
    omega (arith, gives.count, before.count, before.place)

pub returns-clause-ok : goal.returns-clause-ok
returns-clause-ok c =
    script_of_short c.args.bytes.now c.requires
    ∙ c.loop-draft.invariant.tasks
    ∙ ap (tasks_of c.loop-draft.draft) (none_told _ _ _ c.in_default.is c.in_ok-line.ensures.says)
    ∙ tasks_none c.loop-draft.draft
    ∙ ap Ok (sym c.finish.ensures.tasks)

pub returns-in_err-line-clause-err : goal.returns-in_err-line-clause-err
returns-in_err-line-clause-err c =
    let p = err_from_is_err_and c.from_residual-in_err-line.result c.from_residual-in_err-line.ensures.1 in
    let lines = script_of_short c.args.bytes.now c.requires ∙ c.loop-draft.invariant.tasks in
    let other = never_read c.in_err-line.field-0.0 (c.in_err-line.ensures.cause c.loop-draft.invariant.calm) in
    rw (p.1, p.2) (rw lines (fault_told _ _ _ _ other c.in_err-line.ensures.says))

pub returns-in_err-read_line-clause-err : goal.returns-in_err-read_line-clause-err
returns-in_err-read_line-clause-err c =
    let p = err_from_is_err_and c.from_residual-in_err-read_line.result c.from_residual-in_err-read_line.ensures.1 in
    let told = line_told _ _ _ _ c.in-Some.is c.in_ok-line.ensures.says in
    let after = flow_of c.next.new.self (c.next.new.self.ahead ++ c.next.new.self.source.left.now) in
    let lines = script_of_short c.args.bytes.now c.requires ∙ c.loop-draft.invariant.tasks ∙ ap (tasks_of c.loop-draft.draft) told in
    rw (p.1, p.2) (rw lines (tasks_fault _ _ after _ (λ none. true≢false (sym (c.if-not-is_empty.ensures.1 none))) c.in_err-read_line.ensures.err))
