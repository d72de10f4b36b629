-- The points and faces of a reader of a mesh, up to a limit of vertices.
use Rattle.std.specs.Prelude.{◌≡◌, ◌⊎◌, ℕ, ◌≤◌, ◌<◌, ◌++◌, nat_lt, List, ◌∷◌, length, All, Option, Some, None, Result, Ok, Err, IfSome, ⊤, if◌then◌else◌}
use Rattle.oemm_limits.specs.declared.TheConstants.{MOST_ITEMS}
use Rattle.oemm_limits.specs.declared.what.What.TheVariants.{Vertices}
use Rattle.mesh_data.specs.declared.geometry.Soup.{Soup}
use Rattle.mesh_data.specs.Triangles.{IsProper, IsBelow}
use Rattle.mesh_items.specs.declared.items.Item.{Item}
use Rattle.mesh_items.specs.declared.items.Item.TheVariants.{Counts}
use Rattle.mesh_items.specs.declared.items.MeshFault.{MeshFault}
use Rattle.mesh_items.specs.declared.items.MeshFault.TheVariants.{Read, Text, TooMany, Memory}
use Rattle.mesh_items.specs.Progress.{given_by}
use Rattle.mesh_items.specs.Reading.{Reading, Given, fault_alone}
use Rattle.mesh_soup.specs.declared.soup.SoupFault.{SoupFault}
use Rattle.mesh_soup.specs.declared.soup.SoupFault.TheVariants as faults

-- the reading r of these items, which stops at a count of vertices above the limit
abbrev pub limited_by : ℕ → Reading → List Item → Reading
limited_by most r (Counts v f ∷ items) = if nat_lt most v then fault_alone (TooMany Vertices v) else r
limited_by most r items = r

abbrev pub limited : ℕ → Reading → Reading
limited most r = limited_by most r r.items

-- the reading with these items at its front
abbrev pub items_then : List Item → Reading → Reading
items_then front r = record { items = front ++ r.items; fault = r.fault }

-- no item was given yet
abbrev pub IsAtStart : Given → Type 0
IsAtStart g = g ≡ given_by None 0 g.fault

-- what was given once the counts, some vertices and some faces were
abbrev pub given_of : ℕ → ℕ → ℕ → ℕ → Given
given_of v f vertices faces = record { counts = Some (v, f); vertices = vertices; faces = faces; fault = None }

-- this fault of the text stands behind the items, where they are told
abbrev pub StandsBehind : Option Reading → MeshFault → Type 0
StandsBehind reading Read = ⊤
StandsBehind reading Memory = ⊤
StandsBehind reading (Text at why) = IfSome reading (λ r. r.fault ≡ Some (Text at why))
StandsBehind reading (TooMany what count) = IfSome reading (λ r. r.fault ≡ Some (TooMany what count))

abbrev pub StopsAt : Option Reading → SoupFault → Type 0
StopsAt reading (faults.Mesh fault) = StandsBehind reading fault
StopsAt reading faults.Memory = ⊤

-- the fault is what the reader has answered; where memory ran out beside it, it has answered none
abbrev pub IsAnswered : Given → SoupFault → Type 0
IsAnswered g (faults.Mesh fault) = g.fault ≡ Some fault
IsAnswered g faults.Memory = g.fault ≡ None

-- the fault is that of more vertices than the limit, of which the reader has told none
pub record IsPastLimit (most : ℕ) (g : Given) (fault : SoupFault) : Type 0 where
  pub vertices : ℕ
  pub past : most < vertices
  pub few : vertices ≤ MOST_ITEMS
  pub is : fault ≡ faults.Mesh (TooMany Vertices vertices)
  pub none : g.fault ≡ None

abbrev pub IsCause : ℕ → Given → SoupFault → Type 0
IsCause most g fault = IsAnswered g fault ⊎ IsPastLimit most g fault

-- the points and faces of a mesh within the limits
pub record IsSoup (most : ℕ) (s : Soup) : Type 0 where
  pub points : length s.points ≤ most
  pub faces : length s.faces ≤ MOST_ITEMS
  pub proper : All IsProper s.faces
  pub below : All (IsBelow (length s.points)) s.faces

-- all of these points and faces were given
abbrev pub IsAllOf : Given → Soup → Type 0
IsAllOf g s = g ≡ given_of (length s.points) (length s.faces) (length s.points) (length s.faces)

-- a fault that is answered is that of the text; one of the source and want of memory say nothing of the text
abbrev pub GivesMeshFault : {A : Type 0} → MeshFault → Result A MeshFault → Type 0
GivesMeshFault Read reading = ⊤
GivesMeshFault Memory reading = ⊤
GivesMeshFault (Text at why) reading = reading ≡ Err (Text at why)
GivesMeshFault (TooMany what count) reading = reading ≡ Err (TooMany what count)

abbrev pub GivesSoupFault : SoupFault → Result Soup MeshFault → Type 0
GivesSoupFault (faults.Mesh fault) reading = GivesMeshFault fault reading
GivesSoupFault faults.Memory reading = ⊤

-- what is answered is what the reading leads to
abbrev pub ReadsSoup : Result Soup SoupFault → Result Soup MeshFault → Type 0
ReadsSoup (Ok s) reading = reading ≡ Ok s
ReadsSoup (Err fault) reading = GivesSoupFault fault reading
