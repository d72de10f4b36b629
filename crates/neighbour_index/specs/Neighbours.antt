-- Neighbours of a leaf, by faces and by the homes that are listed of their corners.
use Rattle.std.specs.Prelude.{ℕ, Bool, not, ◌&&◌, ◌==◌, List}
use Rattle.std.specs.List.{list_any}
use Rattle.mesh_data.specs.declared.geometry.Tri.{Tri}
use Rattle.mesh_data.specs.Triangles.{corners}

-- the leaf is listed as a home of the name
abbrev pub is_listed : List (ℕ × ℕ) → ℕ → ℕ → Bool
is_listed homes leaf v = list_any (λ h. (h.0 == v) && (h.1 == leaf)) homes

-- the face has a corner whose listed home is the leaf
abbrev pub lives_in : List (ℕ × ℕ) → ℕ → Tri → Bool
lives_in homes leaf t = list_any (is_listed homes leaf) (corners t)

-- the leaves differ, and one of the faces has a corner in each
abbrev pub are_neighbours : List Tri → List (ℕ × ℕ) → ℕ → ℕ → Bool
are_neighbours faces homes leaf other =
    not (leaf == other) && list_any (λ t. lives_in homes leaf t && lives_in homes other t) faces
