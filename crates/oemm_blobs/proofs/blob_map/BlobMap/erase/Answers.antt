use Rattle.std.proofs.Common.{None, ap, ◌∙◌}
use Rattle.oemm_blobs.specs.Content.{with_blob}
use Rattle.oemm_blobs.proofs.Entries.{one_changed}
use Rattle.oemm_blobs.proofs.blob_map.BlobMap.erase.Goals as goal

pub returns : goal.returns
returns c =
    one_changed c.self.inside.blobs.entries c.remove.new.self.entries c.args.key None c.remove.ensures.updates.0
    ∙ ap (with_blob c.args.key None) c.self.view_is
