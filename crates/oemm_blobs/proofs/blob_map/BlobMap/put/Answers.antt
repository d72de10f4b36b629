use Rattle.std.proofs.Common.{Some, ap, ◌∙◌}
use Rattle.oemm_blobs.specs.Content.{with_blob}
use Rattle.oemm_blobs.proofs.Entries.{one_changed}
use Rattle.oemm_blobs.proofs.blob_map.BlobMap.put.Goals as goal

pub returns-clause-ok : goal.returns-clause-ok
returns-clause-ok c =
    one_changed c.self.inside.blobs.entries c.insert.new.self.entries c.args.key
    (Some c.args.bytes) c.in_ok-insert.ensures.updates.0
    ∙ ap (with_blob c.args.key (Some c.args.bytes)) c.self.view_is
