-- A store while it is built, put by put.
use Rattle.std.specs.Prelude.{◌≡◌, ℕ, ◌<◌, Some, ⊤}
use Rattle.mesh_data.specs.Mesh.{start}
use Rattle.oemm_blobs.specs.declared.keys.Key.{Key}
use Rattle.oemm_blobs.specs.declared.keys.Key.TheVariants as key
use Rattle.mesh_sheets.specs.Sheets.{sheet}
use Rattle.stored_mesh.specs.Stored.{Base, BytesAt, Spelling, spelled}

-- the index and the entries are as they were
pub record IsAsBefore (at now : BytesAt) : Type 0 where
  pub index : now key.Index ≡ at key.Index
  pub entries : (n : ℕ) → now (key.Entry n) ≡ at (key.Entry n)

-- so they are, and the sheets of version 0 of the first n leaves stand there
pub record IsLaid (spell : Spelling) (at now : BytesAt) (b : Base) (n : ℕ) : Type 0 where
  pub before : IsAsBefore at now
  pub there : (leaf : ℕ) → leaf < n
      → spelled spell.sheet (now (key.Leaf leaf 0)) ≡ Some (sheet b.index.cells (start b.soup) leaf)

-- the key is that of a page or of a run, where a build may keep what it has read
abbrev pub IsDraft : Key → Type 0
IsDraft (key.Page n) = ⊤
IsDraft (key.Run leaf part) = ⊤
IsDraft _ = ⊥

-- the bytes are the same but those of pages and runs
abbrev pub IsSameButDrafts : BytesAt → BytesAt → Type 0
IsSameButDrafts now new = (k : Key) → (IsDraft k → ⊥) → new k ≡ now k
