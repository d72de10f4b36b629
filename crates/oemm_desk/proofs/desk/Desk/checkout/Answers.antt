use Rattle.std.proofs.Common.{◌≡◌, ◌<◌, ◌≤◌, ℕ, true, List, length, OnOk, Result, sym, ap, ◌∙◌, subst, arith}
use Rattle.std.specs.List.Sorted.{IsStrictlyIncreasing}
use Rattle.oemm_octree.specs.Leaves.{AreBelow, is_one_of}
use Rattle.oemm_octree.specs.Octree.{core_of}
use Rattle.oemm_octree.specs.declared.cells.Cell.{Cell}
use Rattle.oemm_octree.proofs.CoreHomes.{core_below}
use Rattle.mesh_data.specs.declared.edits.Entry.{Entry}
use Rattle.mesh_sheets.specs.Sheets.{patch}
use Rattle.mesh_sheets.proofs.Climbing.{core_ascends}
use Rattle.sheet_data.specs.declared.patches.Patch.{Patch}
use Rattle.stored_mesh.specs.Stored.{mesh_of}
use Rattle.oemm_shelf.specs.Cached.{RoseBy, lacking}
use Rattle.oemm_shelf.specs.declared.fault.ShelfFault.{ShelfFault}
use Rattle.oemm_desk.specs.Answered.{AsksPatch, GivesPatch, box_core}
use Rattle.oemm_desk.specs.Desks.{DeskState, IsDesk, IsSoundAt}
use Rattle.oemm_desk.proofs.Given.{patch_given}
use Rattle.oemm_desk.proofs.Later.{later_kept, later_same}
use Rattle.oemm_desk.proofs.desk.Desk.checkout.Goals.{in-Ok-patch_or_release, in-Err-patch_or_release}
use Rattle.oemm_desk.proofs.desk.Desk.checkout.Goals as goal

pub returns-then-leaves-limit-clause-later : goal.returns-then-leaves-limit-clause-later
returns-then-leaves-limit-clause-later g c = later_same _

pub returns-in_default-clause-later : goal.returns-in_default-clause-later
returns-in_default-clause-later g c = later_same _

pub take-requires : goal.take-requires
take-requires g c = λ l on.
    let desk : IsDesk c.self.inside.shelf.index c.self.inside.shelf.versions c.self.inside.table c.self.inside.journal = c.self.invariant.0 in
    let below = core_below c.cells.result.now c.args.low c.args.high l (ap (λ (ls : List ℕ). is_one_of ls l) (sym c.in-Ok.ensures) ∙ on) in
    omega (arith, below, desk.places, ap length c.cells.ensures.cells)

pub returns-in-Err-clause-later : goal.returns-in-Err-clause-later
returns-in-Err-clause-later g c =
    let store = g.B.Blobs.store in
    let faults : (store c.self.inside.shelf.blobs).faults ≡ (store c.args.self.now.shelf.blobs).faults = λ j. (store (c.self.view_is j).shelf.blobs).faults in
    later_kept _ _ (λ j. (c.self.view_is j).shelf.index) (λ j. (c.self.view_is j).journal)
    (λ j. (store (c.self.view_is j).shelf.blobs).content) (omega (arith, faults))

pub returns-clause-sound : goal.returns-clause-sound
returns-clause-sound g c = λ b sound.
    let store = g.B.Blobs.store in
    let in_shelf = c.self.inside.shelf in
    let low = c.args.low in
    let high = c.args.high in
    let r = c.patch_or_release.result in
    let desk : IsDesk in_shelf.index in_shelf.versions c.self.inside.table c.self.inside.journal = c.self.invariant.0 in
    let core : c.in-Ok.core ≡ core_of in_shelf.index.cells low high = c.in-Ok.ensures ∙ ap (λ (cs : List Cell). core_of cs low high) c.cells.ensures.cells in
    let here : IsSoundAt (store in_shelf.blobs) in_shelf.index c.self.inside.journal b =
    subst (λ (d : DeskState g.row.B.Denot). IsSoundAt (store d.shelf.blobs) d.shelf.index d.journal b) (sym c.self.view_is) sound in
    let inside : GivesPatch (patch b.index.cells (mesh_of b c.self.inside.journal) c.in-Ok.core) r =
    patch_given (store in_shelf.blobs) in_shelf.index in_shelf.versions c.in-Ok.core c.self.inside.journal r desk.each
    (subst (AreBelow (length in_shelf.index.cells)) (sym core) (core_below in_shelf.index.cells low high))
    (subst IsStrictlyIncreasing (sym core) (core_ascends in_shelf.index.cells low high))
    c.patch_or_release.ensures.told b here in
    let want = patch b.index.cells (mesh_of b c.args.self.now.journal) (box_core c.args.self.now low high) in
    let given : GivesPatch want r =
    subst (λ (d : DeskState g.row.B.Denot). GivesPatch (patch b.index.cells (mesh_of b d.journal) (box_core d low high)) r) c.self.view_is
    (subst (λ (ls : List ℕ). GivesPatch (patch b.index.cells (mesh_of b c.self.inside.journal) ls) r) core inside) in
    elim c.match-patch_or_release.branch [
      | in-Ok-patch_or_release w ↦ subst (AsksPatch (GivesPatch want)) (sym w.result-is) (subst (GivesPatch want) w.in-Ok-patch_or_release.is given)
      | in-Err-patch_or_release w ↦ subst (AsksPatch (GivesPatch want)) (sym w.result-is) (subst (GivesPatch want) w.in-Err-patch_or_release.is given)
    ]

pub returns-clause-later : goal.returns-clause-later
returns-clause-later g c =
    let store = g.B.Blobs.store in
    let step = c.patch_or_release.ensures in
    let faults : (store c.self.inside.shelf.blobs).faults ≡ (store c.args.self.now.shelf.blobs).faults = λ j. (store (c.self.view_is j).shelf.blobs).faults in
    let content : (store c.self.inside.shelf.blobs).content ≡ (store c.args.self.now.shelf.blobs).content = λ j. (store (c.self.view_is j).shelf.blobs).content in
    let index : c.self.inside.shelf.index ≡ c.args.self.now.shelf.index = λ j. (c.self.view_is j).shelf.index in
    later_kept _ _ (step.same.index ∙ index) (λ j. (c.self.view_is j).journal) (step.keeps.content ∙ content)
    (omega (arith, faults, step.cause.kept))

pub returns-clause-each : goal.returns-clause-each
returns-clause-each g c =
    let store = g.B.Blobs.store in
    let in_shelf = c.self.inside.shelf in
    let low = c.args.low in
    let high = c.args.high in
    let r = c.patch_or_release.result in
    let new = (store c.patch_or_release.new.shelf.blobs).gets in
    let core : c.in-Ok.core ≡ core_of in_shelf.index.cells low high = c.in-Ok.ensures ∙ ap (λ (cs : List Cell). core_of cs low high) c.cells.ensures.cells in
    let rise = RoseBy (lacking c.args.self.now.shelf.cached c.args.self.now.shelf.versions (box_core c.args.self.now low high)) (store c.args.self.now.shelf.blobs).gets new in
    let rose : OnOk r rise =
    subst (λ (d : DeskState g.row.B.Denot). OnOk r (RoseBy (lacking d.shelf.cached d.shelf.versions (box_core d low high)) (store d.shelf.blobs).gets new)) c.self.view_is
    (subst (λ (ls : List ℕ). OnOk r (RoseBy (lacking in_shelf.cached in_shelf.versions ls) (store in_shelf.blobs).gets new)) core c.patch_or_release.ensures.each) in
    elim c.match-patch_or_release.branch [
      | in-Ok-patch_or_release w ↦ rw w.result-is (subst (λ (x : Result Patch ShelfFault). OnOk x rise) w.in-Ok-patch_or_release.is rose)
      | in-Err-patch_or_release w ↦ rw w.result-is tt
    ]
