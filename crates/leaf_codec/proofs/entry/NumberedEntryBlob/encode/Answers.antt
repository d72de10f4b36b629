use Rattle.std.proofs.Common.{[]}
use Rattle.leaf_codec.proofs.EntrySpells.{replies_sound}
use Rattle.leaf_codec.proofs.entry.NumberedEntryBlob.encode.Goals as goal

pub entry_bytes-requires-clause-replies : goal.entry_bytes-requires-clause-replies
entry_bytes-requires-clause-replies c =
    replies_sound c.args.self.now.entry.task.edits c.args.self.now.entry.replies [] c.requires.replies
