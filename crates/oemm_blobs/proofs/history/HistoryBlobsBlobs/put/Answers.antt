use Rattle.std.proofs.Common.{◌≡◌, ℕ, List, ◌∷◌, ◌++◌, [], Some, ◌∙◌}
use Rattle.oemm_blobs.specs.declared.keys.Change.{Change}
use Rattle.oemm_blobs.proofs.HistoryLaws.{time_push, changes_push}
use Rattle.oemm_blobs.proofs.history.HistoryBlobsBlobs.put.Goals as goal

pub returns-clause-changes : goal.returns-clause-changes
returns-clause-changes c =
    let put_of : List ℕ → Change = λ bytes. record { key = c.args.key; bytes = Some bytes } in
    let copied = c.from_vec.ensures ∙ c.in_ok-copy.ensures.items in
    let more : c.push.new.self.items ≡ c.args.self.now.changes ++ put_of c.args.bytes.now ∷ [] =
    c.in_ok-push.ensures.items ∙ (λ i. (c.self.view_is i).changes ++ put_of (copied i) ∷ []) in
    changes_push _ _ (put_of c.args.bytes.now) more _

pub returns-clause-time : goal.returns-clause-time
returns-clause-time c =
    let put_of : List ℕ → Change = λ bytes. record { key = c.args.key; bytes = Some bytes } in
    let copied = c.from_vec.ensures ∙ c.in_ok-copy.ensures.items in
    let more : c.push.new.self.items ≡ c.args.self.now.changes ++ put_of c.args.bytes.now ∷ [] =
    c.in_ok-push.ensures.items ∙ (λ i. (c.self.view_is i).changes ++ put_of (copied i) ∷ []) in
    time_push _ _ (put_of c.args.bytes.now) more

pub returns-clause-made : goal.returns-clause-made
returns-clause-made c =
    let put_of : List ℕ → Change = λ bytes. record { key = c.args.key; bytes = Some bytes } in
    let copied = c.from_vec.ensures ∙ c.in_ok-copy.ensures.items in
    c.in_ok-push.ensures.items ∙ (λ i. (c.self.view_is i).changes ++ put_of (copied i) ∷ [])
