use Rattle.byte_grammar.proofs.Codecs.{one_value}
use Rattle.leaf_codec.proofs.laws.spelling_laws.Goals as goal

pub returns-clause-values : goal.returns-clause-values
returns-clause-values g c f k bytes x y p q = one_value c.codec_laws.ensures f k bytes x y p q

pub returns-clause-spellings : goal.returns-clause-spellings
returns-clause-spellings g c f a b x p q = c.codec_laws.ensures.once f a b x p q
