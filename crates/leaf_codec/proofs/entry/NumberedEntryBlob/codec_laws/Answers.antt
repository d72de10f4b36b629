use Rattle.leaf_codec.proofs.EntrySpells.{entry_codec}
use Rattle.leaf_codec.proofs.entry.NumberedEntryBlob.codec_laws.Goals as goal

pub returns : goal.returns
returns c = entry_codec
