use Rattle.leaf_codec.proofs.IndexSpells.{index_codec}
use Rattle.leaf_codec.proofs.index.IndexSheetBlob.codec_laws.Goals as goal

pub returns : goal.returns
returns c = index_codec
