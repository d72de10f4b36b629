-- What a desk is given of a sound store.
use Rattle.std.proofs.Common.{◌≡◌, ℕ, List, length, Option, Result, Ok, Err, sym, ap, ◌∙◌, refl, subst, inl, inr}
use Rattle.std.specs.List.Sorted.{IsStrictlyIncreasing}
use Rattle.oemm_octree.specs.Leaves.{AreBelow}
use Rattle.mesh_data.specs.declared.edits.Entry.{Entry}
use Rattle.sheet_data.specs.declared.index.IndexSheet.{IndexSheet}
use Rattle.sheet_data.specs.declared.patches.Patch.{Patch}
use Rattle.oemm_blobs.specs.Content.{Content}
use Rattle.oemm_blobs.specs.Store.{IfTold, StoreState}
use Rattle.mesh_sheets.specs.Sheets.{patch}
use Rattle.stored_mesh.specs.Stored.{Base, mesh_of}
use Rattle.oemm_shelf.specs.Readings.{Answers, current_patch}
use Rattle.oemm_shelf.specs.Shelves.{AreVersions, IsOver}
use Rattle.oemm_shelf.specs.declared.fault.ShelfFault.{ShelfFault}
use Rattle.oemm_shelf.specs.declared.fault.ShelfFault.TheVariants as fault
use Rattle.oemm_shelf.proofs.Sound.{patch_sound}
use Rattle.oemm_desk.specs.Answered.{GivesPatch}
use Rattle.oemm_desk.specs.Desks.{IsSoundAt}

-- what is answered where the answer is a patch
gives : (p : Patch) (r : Result Patch ShelfFault) (want : Result Patch ShelfFault) → want ≡ Ok p → Answers r want
    → GivesPatch p r
gives p (Ok q) want is answer = let e : Ok q ≡ Ok p = sym answer ∙ is in cc
gives p (Err fault.Store) want is answer = inl refl
gives p (Err fault.Memory) want is answer = inr refl
gives p (Err (fault.Damaged k bytes)) want is answer =
    let e : Err (fault.Damaged k bytes) ≡ Ok p = sym answer ∙ is in absurd (cc)
gives p (Err (fault.Absent k)) want is answer = let e : Err (fault.Absent k) ≡ Ok p = sym answer ∙ is in absurd (cc)
gives p (Err (fault.Clash clash)) want is answer = let e : Err (fault.Clash clash) ≡ Ok p = sym answer ∙ is in absurd (cc)

-- over a sound store the patch of a core is that of the stored mesh
pub patch_given : (store : StoreState) (i : IndexSheet) (versions core : List ℕ) (journal : List Entry)
    (r : Result Patch ShelfFault) → AreVersions i journal versions → AreBelow (length i.cells) core
    → IsStrictlyIncreasing core → IfTold store.content (λ m. Answers r (current_patch i versions m core))
    → (b : Base) → IsSoundAt store i journal b → GivesPatch (patch b.index.cells (mesh_of b journal) core) r
patch_given store i versions core journal r each below up told b sound =
    let over : IsOver b.index versions sound.content b journal = record {
      sound = sound.sound;
      index = refl;
      each = subst (λ (j : IndexSheet). AreVersions j journal versions) sound.index each;
    } in
    let is = patch_sound b journal sound.content versions over core
    (subst (λ (j : IndexSheet). AreBelow (length j.cells) core) sound.index below) up in
    gives (patch b.index.cells (mesh_of b journal) core) r (current_patch i versions sound.content core)
    (ap (λ (j : IndexSheet). current_patch j versions sound.content core) sound.index ∙ is)
    (told sound.content sound.told)
