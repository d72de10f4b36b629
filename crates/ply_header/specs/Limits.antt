-- Counts of vertices and faces that keep their limits.
use Rattle.std.specs.Prelude.{ℕ, ◌≤◌, IfSome, ⊤}
use Rattle.oemm_limits.specs.declared.TheConstants.{MOST_ITEMS}
use Rattle.mesh_items.specs.Progress.{AreLimited}
use Rattle.ply_header.specs.declared.layout.Role.{Role}
use Rattle.ply_header.specs.declared.layout.Role.TheVariants.{Vertices, Faces, Foreign}
use Rattle.ply_header.specs.declared.layout.Layout.{Layout}
use Rattle.ply_header.specs.declared.layout.Header.{Header}

-- so many records of this role may be
abbrev pub HasFew : Role → ℕ → Type 0
HasFew Vertices n = n ≤ MOST_ITEMS
HasFew Faces n = n ≤ MOST_ITEMS
HasFew Foreign n = ⊤

-- the vertices and faces whose properties are all declared are few enough
abbrev pub IsStored : Header → Type 0
IsStored h = IfSome h.vertex (λ e. e.count ≤ MOST_ITEMS) × IfSome h.face (λ e. e.count ≤ MOST_ITEMS)

-- and those of the last element
abbrev pub IsLimited : Header → Type 0
IsLimited h = IfSome h.last (λ e. HasFew e.role e.count) × IsStored h

abbrev pub IsLaidOut : Layout → Type 0
IsLaidOut l = AreLimited l.vertex.count l.face.count
