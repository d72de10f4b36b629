use Rattle.std.proofs.Common.{◌∷◌, ◌++◌, [], None, ◌∙◌}
use Rattle.oemm_blobs.specs.declared.keys.Change.{Change}
use Rattle.oemm_blobs.proofs.HistoryLaws.{changes_push}
use Rattle.oemm_blobs.proofs.history.HistoryBlobsBlobs.erase.Goals as goal

pub returns-clause-changes : goal.returns-clause-changes
returns-clause-changes c =
    let gone : Change = record { key = c.args.key; bytes = None } in
    changes_push _ _ gone (c.in_ok-push.ensures.items ∙ (λ i. (c.self.view_is i).changes ++ gone ∷ [])) _

pub returns-clause-made : goal.returns-clause-made
returns-clause-made c =
    let gone : Change = record { key = c.args.key; bytes = None } in
    c.in_ok-push.ensures.items ∙ (λ i. (c.self.view_is i).changes ++ gone ∷ [])
