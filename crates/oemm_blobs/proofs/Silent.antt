-- A store that tells nothing but its counts meets each clause on its content.
use Rattle.std.proofs.Common.{Result, Ok, Err, refl, arith}
use Rattle.oemm_blobs.specs.declared.blobs.StoreFail.{StoreFail}
use Rattle.oemm_blobs.specs.declared.keys.Change.{Change}
use Rattle.oemm_blobs.specs.Folder.{Folder, folder_store}
use Rattle.oemm_blobs.specs.Store.{Elapses, Changes, Keeps}
use Rattle.oemm_blobs.proofs.Untold.{untold_time, untold_changes, untold_keeps}

pub silent_time : (a b : Folder) → Elapses (folder_store a) (folder_store b)
silent_time a b = untold_time (folder_store a) (folder_store b) (λ t left. tt) (λ t left. tt) (omega arith)

pub silent_keeps : (a b : Folder) → Keeps (folder_store a) (folder_store b)
silent_keeps a b = untold_keeps (folder_store a) (folder_store b) (λ t left. tt) (λ t left. tt) refl

pub silent_changes :
    {T : Type 0} (a b : Folder) (change : Change) (r : Result T StoreFail) →
    Changes change (folder_store a) (folder_store b) r
silent_changes a b change (Ok v) =
    untold_changes (folder_store a) (folder_store b) (λ t left. tt) (λ t left. tt) change (Ok v) refl tt
silent_changes a b change (Err e) =
    untold_changes (folder_store a) (folder_store b) (λ t left. tt) (λ t left. tt) change (Err e) tt refl
