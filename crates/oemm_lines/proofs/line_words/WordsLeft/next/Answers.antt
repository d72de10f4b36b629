use Rattle.std.proofs.lemmas.List.Elements.{All-rest}
use Rattle.oemm_lines.specs.Stream.{IsWordIn}
use Rattle.oemm_lines.proofs.line_words.WordsLeft.next.Goals as goal

pub invariant_of-self : goal.invariant_of-self
invariant_of-self c =
    All-rest (IsWordIn c.self.inside.bytes.now) c.in_ok-word.word.now c.in_ok-word.rest.now c.self.inside.words.now c.in_ok-word.ensures.cases.0 c.self.invariant
