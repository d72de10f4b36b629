use Rattle.std.proofs.Common.{◌≡◌, take}
use Rattle.oemm_blobs.specs.Content.{changed, no_content}
use Rattle.oemm_blobs.proofs.history.content_after.Given as goal

abbrev pub invariant-loop-change : goal.invariant-loop-change
invariant-loop-change l = l.content ≡ changed (take l.change-index l.changes) no_content
