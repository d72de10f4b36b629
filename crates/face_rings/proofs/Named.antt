-- Lists whose faces have three different names, and those in which one face has a directed edge.
use Rattle.std.proofs.Common.{◌≡◌, ◌≢◌, ℕ, List, [], ◌∷◌}
use Rattle.mesh_data.specs.declared.geometry.Tri.{Tri}
use Rattle.face_rings.specs.Faces.{Face, ◌∈◌}

-- no value stands twice
abbrev pub IsDistinct : {X : Type 0} → List X → Type 0
IsDistinct [] = Unit {0}
IsDistinct (x ∷ xs) = ¬ (x ∈ xs) × IsDistinct xs

-- each face has three different names
abbrev pub Different : List Tri → Type 0
Different ts = (a b c : ℕ) → Face ts a b c → (a ≢ b) × (b ≢ c) × (c ≢ a)

-- a directed edge is in one face
abbrev pub Unique : List Tri → Type 0
Unique ts = (a b c d : ℕ) → Face ts a b c → Face ts a b d → c ≡ d
