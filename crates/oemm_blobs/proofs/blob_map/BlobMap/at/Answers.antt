use Rattle.std.proofs.Common.{ap, ◌∙◌}
use Rattle.oemm_blobs.specs.Content.{Content, blob_at}
use Rattle.oemm_blobs.proofs.Entries.{lookup_same}
use Rattle.oemm_blobs.proofs.blob_map.BlobMap.at.Goals as goal

pub returns : goal.returns
returns c =
    c.get.ensures.value
    ∙ lookup_same c.self.inside.blobs.entries c.args.key
    ∙ ap (λ (m : Content). blob_at m c.args.key) c.self.view_is
