-- What a reader of a mesh has still to give, and what it has given.
use Rattle.std.specs.Prelude.{◌≡◌, ℕ, ◌+◌, ◌<◌, ◌≤◌, ◌⊎◌, List, [], ◌∷◌, Option, Some, None, Result, Ok, Err, IfSome, ⊤}
use Rattle.std.specs.Option.{option_map}
use Rattle.oemm_limits.specs.declared.TheConstants.{MOST_ITEMS}
use Rattle.mesh_items.specs.declared.items.Item.{Item}
use Rattle.mesh_items.specs.declared.items.Item.TheVariants.{Counts, Vertex, Face}
use Rattle.mesh_items.specs.declared.items.MeshFault.{MeshFault}
use Rattle.mesh_items.specs.declared.items.MeshFault.TheVariants.{Read, Text, TooMany, Memory}
use Rattle.mesh_data.specs.Triangles.{IsProper, IsBelow}
use Rattle.mesh_data.specs.declared.geometry.Soup.{Soup}

-- the items to come, and the fault that stands behind them, if one does
pub record Reading : Type 0 where
  pub items : List Item
  pub fault : Option MeshFault

-- the reading with one item more at its front
abbrev pub item_then : Item → Reading → Reading
item_then item r = record { items = item ∷ r.items; fault = r.fault }

abbrev pub fault_alone : MeshFault → Reading
fault_alone f = record { items = []; fault = Some f }

abbrev pub nothing_more : Reading
nothing_more = record { items = []; fault = None }

-- the counts once they were given, how many vertices and faces were given, and the fault that was answered
pub record Given : Type 0 where
  pub counts : Option (ℕ × ℕ)
  pub vertices : ℕ
  pub faces : ℕ
  pub fault : Option MeshFault

abbrev pub nothing_given : Given
nothing_given = record { counts = None; vertices = 0; faces = 0; fault = None }

-- the counts were given, and they meet the condition
abbrev pub IfCounted : Given → (ℕ → ℕ → Type 0) → Type 0
IfCounted g P = (v f : ℕ) × (g.counts ≡ Some (v, f)) × P v f

-- an item that may come next, and what was given with it
abbrev pub Gives : Given → Item → Given → Type 0
Gives old (Counts v f) new =
    (old.counts ≡ None) × (v ≤ MOST_ITEMS) × (f ≤ MOST_ITEMS)
    × (new ≡ record { counts = Some (v, f); vertices = old.vertices; faces = old.faces; fault = old.fault })
Gives old (Vertex p) new = IfCounted old (λ v f. (old.vertices < v)
    × (new ≡ record { counts = old.counts; vertices = old.vertices + 1; faces = old.faces; fault = old.fault }))
Gives old (Face t) new = IfCounted old (λ v f. (old.vertices ≡ v) × (old.faces < f) × IsProper t × IsBelow v t
    × (new ≡ record { counts = old.counts; vertices = old.vertices; faces = old.faces + 1; fault = old.fault }))

-- as many vertices and faces were given as were counted
abbrev pub IsComplete : Given → Type 0
IsComplete g = IfCounted g (λ v f. (g.vertices ≡ v) × (g.faces ≡ f))

abbrev pub stopped_by : Given → MeshFault → Given
stopped_by g f = record { counts = g.counts; vertices = g.vertices; faces = g.faces; fault = Some f }

-- what a call answers, by what was given before it, and what was given after it
abbrev pub Advances : Given → Result (Option Item) MeshFault → Given → Type 0
Advances old (Ok (Some item)) new = (old.fault ≡ None) × Gives old item new
Advances old (Ok None) new = (old.fault ≡ None) × IsComplete old × (new ≡ old)
Advances old (Err f) new = ((old.fault ≡ None) ⊎ (old.fault ≡ Some f)) × (new ≡ stopped_by old f)

-- what a call answers, by what is told, and what is told after it
abbrev pub ReadsFault : Option Reading → MeshFault → Option Reading → Type 0
ReadsFault old Read new = ⊤
ReadsFault old Memory new = ⊤
ReadsFault old (Text at why) new = IfSome old (λ r. r ≡ fault_alone (Text at why)) × (new ≡ old)
ReadsFault old (TooMany what count) new = IfSome old (λ r. r ≡ fault_alone (TooMany what count)) × (new ≡ old)

abbrev pub Reads : Option Reading → Result (Option Item) MeshFault → Option Reading → Type 0
Reads old (Ok (Some item)) new = old ≡ option_map (item_then item) new
Reads old (Ok None) new = IfSome old (λ r. r ≡ nothing_more) × (new ≡ old)
Reads old (Err f) new = ReadsFault old f new

-- the points and faces among the items
abbrev pub with_item : Item → Soup → Soup
with_item (Counts v f) s = s
with_item (Vertex p) s = record { points = p ∷ s.points; faces = s.faces }
with_item (Face t) s = record { points = s.points; faces = t ∷ s.faces }

abbrev pub soup_of_items : List Item → Soup
soup_of_items [] = record { points = []; faces = [] }
soup_of_items (item ∷ items) = with_item item (soup_of_items items)

-- what a reading leads to: the points and faces, or the fault that stands behind its items
abbrev pub soup_or : Soup → Option MeshFault → Result Soup MeshFault
soup_or s None = Ok s
soup_or s (Some f) = Err f

abbrev pub soup : Reading → Result Soup MeshFault
soup r = soup_or (soup_of_items r.items) r.fault
