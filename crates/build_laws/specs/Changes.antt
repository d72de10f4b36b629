-- The changes that a build makes.
use Rattle.std.specs.Prelude.{◌≡◌, ℕ, ◌+◌, Bool, true, false, List, [], ◌∷◌, length, Some}
use Rattle.mesh_data.specs.Mesh.{start}
use Rattle.oemm_blobs.specs.declared.keys.Change.{Change}
use Rattle.oemm_blobs.specs.declared.keys.Key.{Key}
use Rattle.oemm_blobs.specs.declared.keys.Key.TheVariants as key
use Rattle.mesh_sheets.specs.Sheets.{sheet}
use Rattle.stored_mesh.specs.Stored.{Base, Spelling, spelled}

-- the key is neither that of the index nor that of an entry
abbrev pub is_aside : Key → Bool
is_aside key.Index = false
is_aside (key.Entry n) = false
is_aside _ = true

-- a put of the leaf's sheet of the base in version 0
pub record IsSheetPut (spell : Spelling) (b : Base) (leaf : ℕ) (c : Change) : Type 0 where
  pub at : c.key ≡ key.Leaf leaf 0
  pub spells : spelled spell.sheet c.bytes ≡ Some (sheet b.index.cells (start b.soup) leaf)

-- puts of these sheets for all leaves from n on, in their order
abbrev pub AreSheetPuts : Spelling → Base → ℕ → List Change → Type 0
AreSheetPuts spell b n [] = n ≡ length b.index.cells
AreSheetPuts spell b n (c ∷ cs) = IsSheetPut spell b n c × AreSheetPuts spell b (n + 1) cs

-- a put of the index of the base
pub record IsIndexPut (spell : Spelling) (b : Base) (c : Change) : Type 0 where
  pub at : c.key ≡ key.Index
  pub spells : spelled spell.index c.bytes ≡ Some b.index
