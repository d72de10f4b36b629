-- Free vertices, by the triangles of a patch and its held vertices.
use Rattle.std.specs.Prelude.{ℕ, Bool, not, ◌&&◌, List}
use Rattle.std.specs.List.{list_all}
use Rattle.mesh_data.specs.declared.geometry.Tri.{Tri}
use Rattle.mesh_data.specs.Triangles.{corners, neighbours}
use Rattle.oemm_lists.specs.Numbers.{among}

-- the vertex and all its neighbours are held
abbrev pub is_free : List Tri → List ℕ → ℕ → Bool
is_free ts held v = among v held && list_all (λ w. among w held) (neighbours v ts)

-- a corner of the triangle isn't held
abbrev pub is_mixed : List ℕ → Tri → Bool
is_mixed held t = not (list_all (λ w. among w held) (corners t))
