-- What a build reads of the items, and what it plans by that.
use Rattle.std.specs.Prelude.{◌≡◌, ℕ, ◌<◌, length, Option, Some, Ok, IfSome, ⊤}
use Rattle.oemm_limits.specs.declared.TheConstants.{MOST_ITEMS}
use Rattle.oemm_octree.specs.Leaves.{AreTiles}
use Rattle.mesh_data.specs.declared.geometry.Soup.{Soup}
use Rattle.mesh_data.specs.declared.shapes.Audit.TheVariants.{Bad}
use Rattle.mesh_data.specs.Manifold.{Audits}
use Rattle.mesh_data.specs.Mesh.{start, start_tris}
use Rattle.mesh_items.specs.Reading.{Given, Reading, soup}
use Rattle.mesh_soup.specs.Soup.{GivesMeshFault, IsAllOf, limited}
use Rattle.leaf_codec.specs.Index.{KeepsIndexRules}
use Rattle.leaf_codec.specs.Sheets.{KeepsSheetRules}
use Rattle.mesh_cutting.specs.Cuts.{mesh_in}
use Rattle.mesh_sheets.specs.Sheets.{sheet}
use Rattle.stored_mesh.specs.Stored.{Base}
use Rattle.store_spelling.specs.Bases.{IsBase}
use Rattle.oemm_build.specs.declared.fault.BuildFault.{BuildFault}
use Rattle.oemm_build.specs.declared.fault.BuildFault.TheVariants as fault
use Rattle.oemm_build.specs.declared.planning.Plan.{Plan}
use Rattle.oemm_build.specs.Faults.{IsOfStore}

-- all points and faces of the items, as they are told and as they were given
pub record IsRead (reading : Option Reading) (g : Given) (s : Soup) : Type 0 where
  pub told : IfSome reading (λ r. soup r ≡ Ok s)
  pub given : IsAllOf g s

-- a base that a store can be built from, of all points and faces of the items, with this cap and this limit of cores
pub record IsBaseOf (reading : Option Reading) (g : Given) (cap core : ℕ) (b : Base) : Type 0 where
  pub read : IsRead reading g b.soup
  pub base : IsBase b
  pub asked_cap : b.index.cap ≡ cap
  pub asked_core : b.index.core ≡ core

-- The fault that the items have answered, and that stands behind them where they are told; or what the audit of the items
-- finds; or that there is an index; or a failure of the store; or want of memory.
abbrev pub ShowsFault : Option Reading → Given → BuildFault → Type 0
ShowsFault reading g (fault.Mesh why) =
    (g.fault ≡ Some why) × IfSome reading (λ r. GivesMeshFault why (soup (limited MOST_ITEMS r)))
ShowsFault reading g (fault.Shape shape) = (s : Soup) × IsRead reading g s × Audits (start s) (Bad shape)
ShowsFault reading g fault.AlreadyBuilt = ⊤
ShowsFault reading g (fault.Shelf why) = IsOfStore (fault.Shelf why)
ShowsFault reading g fault.Memory = ⊤

-- ---- plans

-- what is first wrong with these points and faces, or want of memory
abbrev pub IsOfSoup : Soup → BuildFault → Type 0
IsOfSoup s (fault.Shape shape) = Audits (start s) (Bad shape)
IsOfSoup s fault.Memory = ⊤
IsOfSoup s _ = ⊥

-- the index is that of a base of these points and faces, and the cut mesh is the start mesh
pub record IsPlanOf (cap core : ℕ) (s : Soup) (p : Plan) : Type 0 where
  pub base : IsBase (record { index = p.index; soup = s })
  pub asked_cap : p.index.cap ≡ cap
  pub asked_core : p.index.core ≡ core
  pub cut : p.cut ≡ record { cells = p.index.cells; points = s.points; tris = start_tris s }

-- the index can be put, and so can the sheet of each of its leaves
pub record IsFit (p : Plan) : Type 0 where
  pub tiles : AreTiles p.index.cells
  pub rules : KeepsIndexRules p.index
  pub same : p.cut.cells ≡ p.index.cells
  pub sheets : (leaf : ℕ) → leaf < length p.index.cells → KeepsSheetRules (sheet p.index.cells (mesh_in p.cut) leaf)
