use Rattle.oemm_lines.proofs.WordPlaces.{word_texts, words_within}
use Rattle.oemm_lines.proofs.laws.word_place_laws.Goals as goal

pub returns-clause-texts : goal.returns-clause-texts
returns-clause-texts c = word_texts

pub returns-clause-within : goal.returns-clause-within
returns-clause-within c = words_within
