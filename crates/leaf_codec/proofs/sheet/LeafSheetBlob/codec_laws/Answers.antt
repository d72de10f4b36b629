use Rattle.leaf_codec.proofs.SheetSpells.{sheet_codec}
use Rattle.leaf_codec.proofs.sheet.LeafSheetBlob.codec_laws.Goals as goal

pub returns : goal.returns
returns c = sheet_codec
