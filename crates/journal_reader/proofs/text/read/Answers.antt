use Rattle.std.proofs.Common.{◌≡◌, ◌∙◌, ◌∷◌, ◌++◌, [], None, Some, sym, ap, arith}
use Rattle.journal_reader.specs.Drafts.{after_bytes, reading}
use Rattle.journal_reader.proofs.Answering.{reading_next, reading_stuck}
use Rattle.journal_reader.proofs.text.read.Goals as goal

pub returns-in-Ok-None : goal.returns-in-Ok-None
returns-in-Ok-None c =
    let draft = c.loop-line.draft in
    let cut = c.in-Some.ensures.cut in
    let stuck : after_bytes draft (cut.0 ++ 10 ∷ []) ≡ None =
    ap (after_bytes draft) (sym cut.1) ∙ sym c.in-Ok-None.ensures ∙ c.in-Ok-None.field-0-is in
    c.loop-line.invariant.reads ∙ ap (reading c.loop-line.number draft) cut.2
    ∙ reading_stuck c.loop-line.number draft cut.0 c.in-Some.behind.now stuck

pub loop-line-preserved : goal.loop-line-preserved
loop-line-preserved c =
    let draft = c.loop-line.draft in
    let next = c.in-Ok-Some.next in
    let cut = c.in-Some.ensures.cut in
    let goes_on : after_bytes draft (cut.0 ++ 10 ∷ []) ≡ Some next =
    ap (after_bytes draft) (sym cut.1) ∙ sym c.in-Ok-Some.ensures ∙ c.in-Ok-Some.field-0-is in
    record {
      reads = c.loop-line.invariant.reads ∙ ap (reading c.loop-line.number draft) cut.2
          ∙ reading_next c.loop-line.number draft next cut.0 c.in-Some.behind.now goes_on;
      place = omega (arith, c.loop-line.invariant.place, c.in-Some.ensures.less);
    }
