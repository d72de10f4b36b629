-- How far a reader has come that counts vertices and faces together, the vertices first.
use Rattle.std.specs.Prelude.{ℕ, ◌-◌, ◌≤◌, ◌<◌, min, List, ◌∷◌, ◌++◌, length, map, Option, Some, None}
use Rattle.oemm_limits.specs.declared.TheConstants.{MOST_ITEMS}
use Rattle.mesh_items.specs.declared.items.Item.{Item}
use Rattle.mesh_items.specs.declared.items.Item.TheVariants.{Counts, Vertex, Face}
use Rattle.mesh_items.specs.declared.items.MeshFault.{MeshFault}
use Rattle.oemm_octree.specs.declared.points.Point.{Point}
use Rattle.mesh_data.specs.declared.geometry.Tri.{Tri}
use Rattle.mesh_items.specs.Reading.{Given, Reading}
use Rattle.mesh_data.specs.Triangles.{IsProper, IsBelow}

-- the counts keep their limits
abbrev pub AreLimited : ℕ → ℕ → Type 0
AreLimited vertices faces = (vertices ≤ MOST_ITEMS) × (faces ≤ MOST_ITEMS)

-- an item may stand behind so many vertices and faces
abbrev pub MayFollow : ℕ → ℕ → Item → Type 0
MayFollow vertices done (Counts v f) = ⊥
MayFollow vertices done (Vertex p) = done < vertices
MayFollow vertices done (Face t) = (vertices ≤ done) × IsProper t × IsBelow vertices t

-- what was given, by the counts once they were read
abbrev pub given_by : Option (ℕ × ℕ) → ℕ → Option MeshFault → Given
given_by None done fault = record { counts = None; vertices = 0; faces = 0; fault = fault }
given_by (Some counts) done fault =
    record { counts = Some counts; vertices = min done counts.0; faces = done - counts.0; fault = fault }

-- the reading of a whole mesh: the counts of its points and faces, then each point, then each face, and no fault
abbrev pub reading_of : List Point → List Tri → Reading
reading_of points faces =
    record { items = Counts (length points) (length faces) ∷ (map (λ p. Vertex p) points ++ map (λ t. Face t) faces); fault = None }
