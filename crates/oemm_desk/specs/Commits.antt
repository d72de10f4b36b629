-- What a commit makes of a store: its sheets, and then its entry.
use Rattle.std.specs.Prelude.{◌≡◌, ◌⊎◌, ℕ, ◌+◌, ◌≤◌, Bool, true, List, [], ◌∷◌, ◌++◌, length, Some, None, Result, OnErr, OnOk}
use Rattle.mesh_data.specs.declared.edits.Entry.{Entry}
use Rattle.sheet_data.specs.declared.index.IndexSheet.{IndexSheet}
use Rattle.sheet_data.specs.declared.sheets.LeafSheet.{LeafSheet}
use Rattle.oemm_blobs.specs.Content.{Content, blob_at}
use Rattle.oemm_blobs.specs.Store.{IfTold, IsCalmWith, LeavesOnly, StoreState}
use Rattle.oemm_blobs.specs.declared.keys.Key.TheVariants as key
use Rattle.stored_mesh.specs.Commits.{IsPut, IsSameBut, IsUnderWay}
use Rattle.stored_mesh.specs.Stored.{Base, BytesAt, IsSound}
use Rattle.store_spelling.specs.Spelled.{store_spelling}
use Rattle.oemm_desk.specs.Desks.{IsSoundAt}

-- commit n has changed sheets of its own version alone, and its entry is as it was
pub record IsWithoutEntry (n : ℕ) (at now : BytesAt) : Type 0 where
  pub same : IsSameBut n at now
  pub entry : now (key.Entry n) ≡ at (key.Entry n)

-- commit n has put these sheets, and then this entry
pub record IsWithEntry (n : ℕ) (sheets : List LeafSheet) (e : Entry) (at now : BytesAt) : Type 0 where
  pub before : BytesAt
  pub way : IsUnderWay store_spelling at before n sheets
  pub bytes : List ℕ
  pub put : IsPut before (key.Entry n) bytes now
  pub spelled : store_spelling.entry bytes ≡ Some (record { number = n; entry = e })

-- what is told, if it was, has P of what was told
abbrev pub TellsAfter : StoreState → StoreState → (BytesAt → BytesAt → Type 0) → Type 0
TellsAfter old new P = IfTold old.content (λ m. (now : Content) × (new.content ≡ Some now) × P (blob_at m) (blob_at now))

-- commit n has put these sheets, and nothing else; a crash leaves some of them
pub record PutsSheets (n : ℕ) (sheets : List LeafSheet) (old new : StoreState) : Type 0 where
  pub told : TellsAfter old new (λ at now. IsUnderWay store_spelling at now n sheets)
  pub untold : old.content ≡ None → new.content ≡ None
  pub crash : (m : Content) → IsCalmWith old m → LeavesOnly old new (λ left. IsWithoutEntry n (blob_at m) (blob_at left))
  pub calm : (m : Content) → IsCalmWith old m → (now : Content) × IsCalmWith new now

-- Commit n was to put these sheets and then this entry. Ok has put all of them, and a refusal no entry; a crash leaves no
-- entry, or all of them. A calm store is calm after Ok.
pub record PutsCommit {T E : Type 0} (n : ℕ) (sheets : List LeafSheet) (e : Entry) (old new : StoreState)
    (result : Result T E) : Type 0 where
  pub done : OnOk result (TellsAfter old new (IsWithEntry n sheets e))
  pub refused : OnErr result (TellsAfter old new (IsWithoutEntry n))
  pub untold : old.content ≡ None → new.content ≡ None
  pub crash : (m : Content) → IsCalmWith old m → LeavesOnly old new
      (λ left. IsWithoutEntry n (blob_at m) (blob_at left) ⊎ IsWithEntry n sheets e (blob_at m) (blob_at left))
  pub calm : OnOk result ((m : Content) → IsCalmWith old m → (now : Content) × IsCalmWith new now)

-- at most so many puts were made, and no get
pub record CountsPuts (most : ℕ) (old new : StoreState) : Type 0 where
  pub gets : new.gets ≡ old.gets
  pub kept : old.puts ≤ new.puts
  pub most_puts : new.puts ≤ old.puts + most

-- The store is sound over the base with the journal as it is now. A crash leaves it sound with the journal as it was, or
-- with the entry behind it; after Ok a calm store is calm.
pub record CommitsSafely {T E : Type 0} (b : Base) (i : IndexSheet) (e : Entry) (before now : List Entry)
    (old new : StoreState) (result : Result T E) : Type 0 where
  pub sound : IsSoundAt new i now b
  pub crash : (m : Content) → IsCalmWith old m → LeavesOnly old new
      (λ left. IsSound store_spelling (blob_at left) b before
      ⊎ IsSound store_spelling (blob_at left) b (before ++ e ∷ []))
  pub calm : OnOk result ((m : Content) → IsCalmWith old m → (now : Content) × IsCalmWith new now)
