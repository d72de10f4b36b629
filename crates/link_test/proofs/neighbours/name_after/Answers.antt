use Rattle.std.proofs.Common.{◌≡◌, ◌∷◌, true, get_or, sym, ◌∙◌}
use Rattle.std.proofs.lemmas.Bool.{eqb-true}
use Rattle.std.proofs.lemmas.List.{get_or_default}
use Rattle.link_test.specs.Links.{follows}
use Rattle.link_test.proofs.Rounds.{follows_last, last_told, not_among_later}
use Rattle.link_test.proofs.neighbours.name_after.Goals as goal

pub returns-then-eq-clause-found : goal.returns-then-eq-clause-found
returns-then-eq-clause-found c =
    let ring = c.args.ring.now in
    let last = c.in_ok-before.field-0.now in
    let i = c.loop-name.name-index in
    let name = c.name-item.result in
    let at : get_or ring i 0 ≡ name = sym (get_or_default ring i name 0 c.loop-name-test.true) ∙ sym c.name-item.is in
    let here : follows ring (get_or (last ∷ ring) i 0) (get_or ring i 0) ≡ true = follows_last ring last i (last_told ring last c.in_ok-before.ensures.value) c.loop-name-test.true in
    let v_is : c.args.v ≡ get_or (last ∷ ring) i 0 = sym (eqb-true c.loop-name.before c.args.v (sym c.eq.ensures ∙ c.if-eq.true)) ∙ c.loop-name.invariant.0 in
    (λ j. follows ring (v_is j) (sym at j)) ∙ here

pub returns-clause-none : goal.returns-clause-none
returns-clause-none c =
    let ring = c.args.ring.now in
    let last = c.in_ok-before.field-0.now in
    not_among_later ring last c.args.v c.loop-name.name-index (last_told ring last c.in_ok-before.ensures.value) c.loop-name-test.false c.loop-name.invariant.1
