use Rattle.std.proofs.Common.{ℕ, subst, IfOk, OnOk}
use Rattle.sheet_data.specs.declared.index.IndexSheet.{IndexSheet}
use Rattle.sheet_forms.specs.Formed.{IsPatchFor}
use Rattle.oemm_shelf.specs.Cached.{RoseBy, lacking}
use Rattle.oemm_shelf.proofs.Gathered.{least_gets, patch_shown}
use Rattle.oemm_shelf.proofs.shelf.Shelf.patch.Goals as goal

pub returns-clause-formed : goal.returns-clause-formed
returns-clause-formed g c =
    subst (λ (i : IndexSheet). IfOk c.read_patch.result (IsPatchFor i.cells c.args.core.now)) (λ j. (c.self.view_is j).index)
    (patch_shown c.self.inside.index c.as_slice.result.now c.args.core.now _ _ c.read_patch.result c.read_patch.ensures.shows)

pub returns-clause-each : goal.returns-clause-each
returns-clause-each g c =
    subst (λ (before : ℕ). OnOk c.read_patch.result (RoseBy (lacking c.args.self.now.cached c.args.self.now.versions c.args.core.now) before (g.B.Blobs.store c.read_patch.new.blobs).gets))
    (λ j. (g.B.Blobs.store (c.self.view_is j).blobs).gets)
    (least_gets c.read_patch.result c.args.self.now.cached c.args.self.now.versions c.args.core.now _ _ c.read_patch.ensures.each)
