use Rattle.std.proofs.Common.{◌≡◌, false, refl}
use Rattle.std.proofs.lemmas.List.Elements.{recursion_from_All}
use Rattle.oemm_lines.specs.Words.{is_blank}
use Rattle.oemm_lines.proofs.WordLaws.{word_first, word_last, words_of-blank, words_of-empty}
use Rattle.oemm_lines.proofs.laws.word_laws.Goals as goal

pub returns-clause-first : goal.returns-clause-first
returns-clause-first c = λ word rest b some dark blank.
    word_first word rest b (recursion_from_All (λ b. is_blank b ≡ false) word dark) blank some

pub returns-clause-last : goal.returns-clause-last
returns-clause-last c = λ word some dark. word_last word (recursion_from_All (λ b. is_blank b ≡ false) word dark) some

pub returns-clause-blank : goal.returns-clause-blank
returns-clause-blank c = words_of-blank

pub returns-clause-none : goal.returns-clause-none
returns-clause-none c = words_of-empty _ refl
