-- The faces of a list of triangles, from whichever name they are read, and the paths that they make round a name.
use Rattle.std.specs.Prelude.{◌≡◌, ◌⊎◌, ◌↔◌, ℕ, List, [], ◌∷◌}
use Rattle.mesh_data.specs.declared.geometry.Edge.{Edge}
use Rattle.mesh_data.specs.declared.geometry.Tri.{Tri}
use Rattle.mesh_data.specs.Rings.{path_edges}

-- the list has the value: `Contains`, by recursion on the list
infix 4 ◌∈◌
abbrev pub ◌∈◌ : {X : Type 0} → X → List X → Type 0
x ∈ [] = ⊥
x ∈ (y ∷ ys) = (x ≡ y) ⊎ (x ∈ ys)

-- the triangle (a, b, c)
abbrev pub tri : ℕ → ℕ → ℕ → Tri
tri a b c = record { a = a; b = b; c = c }

-- the triangle is (a, b, c), from some name on
abbrev pub Turns : Tri → ℕ → ℕ → ℕ → Type 0
Turns t a b c = (t ≡ tri a b c) ⊎ ((t ≡ tri b c a) ⊎ (t ≡ tri c a b))

-- some triangle of the list is (a, b, c), from some name on
abbrev pub Face : List Tri → ℕ → ℕ → ℕ → Type 0
Face ts a b c = (t : Tri) × (t ∈ ts) × Turns t a b c

-- the step from x to y is one of these
abbrev pub Leads : ℕ → ℕ → List Edge → Type 0
Leads x y es = let e : Edge = record { a = x; b = y } in e ∈ es

-- the faces at v are the steps of this path
abbrev pub IsFan : List Tri → ℕ → List ℕ → Type 0
IsFan ts v path = (x y : ℕ) → Face ts v x y ↔ Leads x y (path_edges path)

-- a face has the directed edge, and none has the one back
pub record IsBorder (ts : List Tri) (a b : ℕ) : Type 0 where
  pub there : (c : ℕ) × Face ts a b c
  pub alone : (c : ℕ) → Face ts b a c → ⊥
