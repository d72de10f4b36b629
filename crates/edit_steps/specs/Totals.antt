-- Sums over the vertices of a mesh.
use Rattle.std.specs.Prelude.{ℕ, ◌+◌, List, [], ◌∷◌}
use Rattle.std.specs.FinMap as finite
use Rattle.std.specs.Ordering.{nat_cmp}
use Rattle.mesh_data.specs.declared.geometry.Vertex.{Vertex}

-- the sum of f over the vertices of entries
abbrev pub total_in : (Vertex → ℕ) → List (ℕ × Vertex) → ℕ
total_in f [] = 0
total_in f (e ∷ es) = f e.1 + total_in f es

-- the sum of f over the vertices
abbrev pub total : (Vertex → ℕ) → finite.FinMap nat_cmp Vertex → ℕ
total f m = total_in f (finite.entries m)
