-- Third names, a triangle at a time, and the names that two vertices share.
use Rattle.std.specs.Prelude.{◌≡◌, ℕ, Bool, false, not, ◌&&◌, ◌||◌, ◌==◌, List, Option, Some, None, if◌then◌else◌}
use Rattle.std.specs.List.{list_any, Contains}
use Rattle.mesh_data.specs.declared.geometry.Tri.{Tri}
use Rattle.mesh_data.specs.Links.{is_name, is_opposite}
use Rattle.mesh_data.specs.Triangles.{neighbours}

-- the third name of the triangle, if it has the directed edge from a to b
abbrev pub apex_in : Tri → ℕ → ℕ → Option ℕ
apex_in t a b =
    if t.a == a && t.b == b then Some t.c
    else if t.b == a && t.c == b then Some t.a
    else if t.c == a && t.a == b then Some t.b
    else None

-- w is one of the names, and neither of the two that may stand opposite
abbrev pub is_shared : List ℕ → Option ℕ → Option ℕ → ℕ → Bool
is_shared names one other w = list_any (λ x. x == w) names && not (is_name one w || is_name other w)

-- w is a neighbour of u and one of v, and doesn't lie opposite of their edge
abbrev pub IsSharedBeside : List Tri → ℕ → ℕ → ℕ → Type 0
IsSharedBeside ts u v w = Contains (neighbours u ts) w × Contains (neighbours v ts) w × (is_opposite ts u v w ≡ false)
