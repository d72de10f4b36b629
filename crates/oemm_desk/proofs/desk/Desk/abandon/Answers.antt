use Rattle.std.proofs.Common.{◌≡◌, arith}
use Rattle.oemm_desk.proofs.Later.{later_kept}
use Rattle.oemm_desk.proofs.desk.Desk.abandon.Goals as goal

pub returns-clause-later : goal.returns-clause-later
returns-clause-later g c =
    let store = g.B.Blobs.store in
    let faults : (store c.self.inside.shelf.blobs).faults ≡ (store c.args.self.now.shelf.blobs).faults = λ j. (store (c.self.view_is j).shelf.blobs).faults in
    later_kept _ _ (λ j. (c.self.view_is j).shelf.index) (λ j. (c.self.view_is j).journal)
    (λ j. (store (c.self.view_is j).shelf.blobs).content) (omega (arith, faults))
