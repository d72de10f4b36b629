use Rattle.std.proofs.Common.{ℕ, List, Option, length, refl, subst}
use Rattle.leaf_audit.specs.Tallies.{IsFirstTwice}
use Rattle.leaf_audit.proofs.Clashing.{are_many, are_planes, is_none, is_twice}
use Rattle.leaf_audit.proofs.tally.Tally.clash.Goals as goal

pub returns-in-Some : goal.returns-in-Some
returns-in-Some c = λ sheets cells tallies formed.
    let t = c.args.self.now in
    is_twice sheets cells (length t.times.items) formed c.requires t tallies refl c.in-Some.v
    (subst (λ (o : Option ℕ). IsFirstTwice t.times.items o) c.in-Some.is
    (subst (λ (table : List ℕ). IsFirstTwice table c.first_twice.result) c.as_slice.ensures.value c.first_twice.ensures))

pub returns-then-self-gt-MOST_PLANES : goal.returns-then-self-gt-MOST_PLANES
returns-then-self-gt-MOST_PLANES c = λ sheets cells tallies formed.
    let t = c.args.self.now in
    are_planes sheets cells (length t.times.items) formed c.requires t tallies refl
    (subst (λ (o : Option ℕ). IsFirstTwice t.times.items o) c.in_default.is
    (subst (λ (table : List ℕ). IsFirstTwice table c.first_twice.result) c.as_slice.ensures.value c.first_twice.ensures))
    c.if-self-gt-MOST_PLANES.true

pub returns-then-self-gt-MOST_ITEMS : goal.returns-then-self-gt-MOST_ITEMS
returns-then-self-gt-MOST_ITEMS c = λ sheets cells tallies formed.
    let t = c.args.self.now in
    are_many sheets cells (length t.times.items) formed c.requires t tallies refl
    (subst (λ (o : Option ℕ). IsFirstTwice t.times.items o) c.in_default.is
    (subst (λ (table : List ℕ). IsFirstTwice table c.first_twice.result) c.as_slice.ensures.value c.first_twice.ensures))
    c.if-self-gt-MOST_PLANES.false c.if-self-gt-MOST_ITEMS.true

pub returns : goal.returns
returns c = λ sheets cells tallies formed.
    let t = c.args.self.now in
    is_none sheets cells (length t.times.items) formed c.requires t tallies refl
    (subst (λ (o : Option ℕ). IsFirstTwice t.times.items o) c.in_default.is
    (subst (λ (table : List ℕ). IsFirstTwice table c.first_twice.result) c.as_slice.ensures.value c.first_twice.ensures))
    c.if-self-gt-MOST_PLANES.false c.if-self-gt-MOST_ITEMS.false
