use Rattle.std.proofs.Common.{ℕ, List, ◌∷◌, ◌∙◌, take, sym, ap}
use Rattle.std.specs.List.{slice_split}
use Rattle.journal_reader.specs.Journal.{is_feed}
use Rattle.journal_reader.proofs.Cutting.{cut_none, cut_some}
use Rattle.journal_reader.proofs.text.first_line.Goals as goal

pub returns-in-None-clause-cut : goal.returns-in-None-clause-cut
returns-in-None-clause-cut c = cut_none c.args.text.now c.in-None.ensures

pub returns-in-Some-clause-cut : goal.returns-in-Some-clause-cut
returns-in-Some-clause-cut c =
    let text = c.args.text.now in
    let end = c.in-Some.end in
    let cut = cut_some text end c.in-Some.ensures in (
      take end text,
      c.split_at.ensures.front ∙ cut.0,
      cut.1 ∙ ap (λ (rest : List ℕ). take end text ∷ slice_split is_feed rest) (sym c.split_at.ensures.back),
    )
