use Rattle.std.proofs.Common.{Some, ap, ◌∙◌}
use Rattle.oemm_blobs.specs.Content.{with_blob}
use Rattle.oemm_blobs.proofs.Untold.{untold_changes}
use Rattle.oemm_blobs.proofs.memory.MemBlobsBlobs.put.Goals as goal

pub returns-clause-changes : goal.returns-clause-changes
returns-clause-changes c =
    let copied = c.from_vec.ensures ∙ c.in_ok-copy.ensures.items in
    let put = c.in_ok-put.ensures.ok
    ∙ (λ i. with_blob c.args.key (Some (copied i)) (c.self.view_is i).content) in
    untold_changes _ _ (λ t left. tt) (λ t left. tt) _ _ (ap Some put) tt
