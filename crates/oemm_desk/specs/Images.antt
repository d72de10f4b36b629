-- What is seen of a desk from outside, and how a desk goes on.
use Rattle.std.specs.Prelude.{◌≡◌, ℕ, ◌<◌, ◌≤◌, List, ◌++◌, length, Option, Some, None}
use Rattle.mesh_data.specs.declared.edits.Entry.{Entry}
use Rattle.sheet_data.specs.declared.index.IndexSheet.{IndexSheet}
use Rattle.oemm_blobs.specs.Content.{Content, blob_at}
use Rattle.oemm_blobs.specs.Store.{IfTold, StoreState}
use Rattle.oemm_blobs.specs.declared.keys.Key.TheVariants as key
use Rattle.stored_mesh.specs.Stored.{BytesAt}
use Rattle.oemm_desk.specs.Desks.{DeskState}

-- the index, the holders, the journal, the content of the store, where it tells it, and how often the store has failed
pub record Image : Type 0 where
  pub index : IndexSheet
  pub holders : List (Option ℕ)
  pub journal : List Entry
  pub content : Option Content
  pub faults : ℕ

-- the image of a desk whose store is this one
abbrev pub image_of : {B : Type 0} → StoreState → DeskState B → Image
image_of store desk = record {
  index = desk.shelf.index;
  holders = desk.holders;
  journal = desk.journal;
  content = store.content;
  faults = store.faults;
}

-- the same under all that the first n commits and what was built before them have put
pub record AgreesBefore (n : ℕ) (at now : BytesAt) : Type 0 where
  pub index : now key.Index ≡ at key.Index
  pub entries : (k : ℕ) → k < n → now (key.Entry k) ≡ at (key.Entry k)
  pub leaves : (leaf version : ℕ) → version ≤ n → now (key.Leaf leaf version) ≡ at (key.Leaf leaf version)

-- the index is the same, the journal has gone on, no fault was forgotten, and what is told agrees with what was told on
-- the index, the entries of the earlier journal, and all that these have put
pub record IsLater (x y : Image) : Type 0 where
  pub index : y.index ≡ x.index
  pub more : List Entry
  pub journal : y.journal ≡ x.journal ++ more
  pub faults : x.faults ≤ y.faults
  pub untold : x.content ≡ None → y.content ≡ None
  pub told : IfTold x.content (λ m. (now : Content) × (y.content ≡ Some now)
      × AgreesBefore (length x.journal) (blob_at m) (blob_at now))
