use Rattle.std.proofs.Common.{rules, ◌∙◌, sym, arith}
use Rattle.fault_counts.proofs.InRow.{takes_some_more}
use Rattle.mesh_items.proofs.Failures.{none_failed, uses_behind}
use Rattle.ply_reader.proofs.LineSteps.{header_next, header_ends, header_on, header_cut, after_ends, layout_ends, layout_told, ends_same, ends_failed}
use Rattle.std.proofs.lemmas.Grind.{common_steps}
use Rattle.mesh_items.specs.declared.items.MeshFault.TheVariants.{Read}
use Rattle.oemm_lines.specs.Stream.{UsesSource}
use Rattle.ply_reader.proofs.start.rest_of_header.Goals as goal

pub returns-in_err-line-clause-fault : goal.returns-in_err-line-clause-fault
returns-in_err-line-clause-fault g c =
    ends_failed _ _ _ _ c.from_residual.ensures.1
    (ends_same _ _ _ _ c.loop-header.invariant.same (header_cut g.S.Source.left c.loop-header.header c.loop-header.feed.stream c.line.new.self.stream c.in_err-line.field-0.0 c.in_err-line.ensures.stops))

pub returns-then-ends-clause-told : goal.returns-then-ends-clause-told
returns-then-ends-clause-told g c =
    let is = rw c.words_left.ensures at (sym c.ends.ensures ∙ c.if-ends.true) in
    let exact = rw c.words_left-then-ends.ensures at c.layout_of.ensures.exact in
    layout_told g.S.Source.left c.line.new.self _ c.layout_of.result _ c.in_ok-line.ensures.lines.1
    (sym c.loop-header.invariant.same ∙ header_ends g.S.Source.left c.loop-header.feed.stream c.loop-header.header c.in_ok-line.line c.line.new.self.stream c.in_ok-line.ensures.gives is)
    exact

pub returns-then-ends-clause-fault : goal.returns-then-ends-clause-fault
returns-then-ends-clause-fault g c =
    let is = rw c.words_left.ensures at (sym c.ends.ensures ∙ c.if-ends.true) in
    let exact = rw c.words_left-then-ends.ensures at c.layout_of.ensures.exact in
    layout_ends c.line.new.self.stream _ c.layout_of.result _ _
    (sym c.loop-header.invariant.same ∙ header_ends g.S.Source.left c.loop-header.feed.stream c.loop-header.header c.in_ok-line.line c.line.new.self.stream c.in_ok-line.ensures.gives is)
    exact

pub returns-in_err-header-clause-fault : goal.returns-in_err-header-clause-fault
returns-in_err-header-clause-fault g c =
    let is = rw c.words_left.ensures at (sym c.ends.ensures ∙ c.if-ends.false) in
    let answers = rw c.in_err-header.was at (rw c.words_left-in-loop-header.ensures at c.header_after.ensures.answers) in
    ends_failed _ _ _ _ c.from_residual-in_err-header.ensures.1
    (after_ends c.line.new.self.stream _ c.in_err-header.field-0.0 _ _
    (sym c.loop-header.invariant.same ∙ header_next g.S.Source.left c.loop-header.feed.stream c.loop-header.header c.in_ok-line.line c.line.new.self.stream c.in_ok-line.ensures.gives is)
    answers)

pub loop-header-preserved : goal.loop-header-preserved
loop-header-preserved g c =
    let is = rw c.words_left.ensures at (sym c.ends.ensures ∙ c.if-ends.false) in
    let answers = rw c.words_left-in-loop-header.ensures at c.in_ok-header.ensures.answers in
    record {
      same = sym (header_on c.line.new.self.stream _ c.in_ok-header.header _ answers)
          ∙ sym (header_next g.S.Source.left c.loop-header.feed.stream c.loop-header.header c.in_ok-line.line c.line.new.self.stream c.in_ok-line.ensures.gives is)
          ∙ c.loop-header.invariant.same;
      lines = c.in_ok-line.ensures.lines;
      few = c.in_ok-header.ensures.few;
      source = takes_some_more _ _ _ c.loop-header.invariant.source c.in_ok-line.ensures.uses.source;
      calm = none_failed _ _ _ _ c.in_ok-line.ensures.uses.cause ∙ c.loop-header.invariant.calm;
    }

pub returns-in_err-line-clause-uses : goal.returns-in_err-line-clause-uses
returns-in_err-line-clause-uses g c =
    let uses : UsesSource g.S.Source.left g.S.Source.faults Read c.loop-header.feed.stream c.line.new.self.stream c.from_residual.result = search rules in
    uses_behind _ _ _ _ _ _ _ c.loop-header.invariant.source c.loop-header.invariant.calm uses

pub returns-then-ends-clause-uses : goal.returns-then-ends-clause-uses
returns-then-ends-clause-uses g c =
    let uses : UsesSource g.S.Source.left g.S.Source.faults Read c.loop-header.feed.stream c.line.new.self.stream c.layout_of.result = first_of (search rules, grind (arith, common_steps)) in
    uses_behind _ _ _ _ _ _ _ c.loop-header.invariant.source c.loop-header.invariant.calm uses

pub returns-in_err-header-clause-uses : goal.returns-in_err-header-clause-uses
returns-in_err-header-clause-uses g c =
    let uses : UsesSource g.S.Source.left g.S.Source.faults Read c.loop-header.feed.stream c.line.new.self.stream c.from_residual-in_err-header.result = first_of (search rules, grind (arith, common_steps)) in
    uses_behind _ _ _ _ _ _ _ c.loop-header.invariant.source c.loop-header.invariant.calm uses
