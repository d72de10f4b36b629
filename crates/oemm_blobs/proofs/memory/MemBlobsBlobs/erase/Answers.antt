use Rattle.std.proofs.Common.{None, Some, ap, ◌∙◌}
use Rattle.oemm_blobs.specs.Content.{with_blob}
use Rattle.oemm_blobs.proofs.Untold.{untold_changes}
use Rattle.oemm_blobs.proofs.memory.MemBlobsBlobs.erase.Goals as goal

pub returns-clause-changes : goal.returns-clause-changes
returns-clause-changes c =
    let erased = c.erase.ensures ∙ (λ i. with_blob c.args.key None (c.self.view_is i).content) in
    untold_changes _ _ (λ t left. tt) (λ t left. tt) _ _ (ap Some erased) tt
