-- A mesh of half-edges, and the list of triangles that contracts see.
use Rattle.std.specs.Prelude.{◌≡◌, ℕ, Bool, ◌==◌, List, Option, Some, if◌then◌else◌, refl}
use Rattle.std.specs.BTreeMap.{BTreeMap, is_at}
use Rattle.std.specs.Coded.{Coded, code_by, coded×, coded_ℕ, coded_list}
use Rattle.std.specs.List.{list_any}
use Rattle.std.specs.Map.{lookup}
use Rattle.std.specs.Option.{option_map}
use Rattle.std.specs.Ordering.{nat_cmp}
use Rattle.mesh_data.specs.declared.geometry.Tri.{Tri}
use Rattle.mesh_data.specs.Manifold.{HasRing}
use Rattle.mesh_data.specs.Mesh.{tri_code}
use Rattle.mesh_data.specs.RingChanges.{IsOriented}
use Rattle.half_edge.specs.Halves.{Slots, Goes, IsSound, faces_of}

-- triangles, turned and in order, and those held names that are in one of them, ascending
pub record Faced : Type 0 where
  pub tris : List Tri
  pub held : List ℕ

abbrev pub faced_code : Coded Faced
faced_code = code_by (List Tri × List ℕ) (coded× (coded_list tri_code) (coded_list coded_ℕ)) (λ f. (f.tris, f.held))
    (λ p. record { tris = p.0; held = p.1 }) (λ _. refl)

-- the name is held and in a triangle
abbrev pub is_held : Faced → ℕ → Bool
is_held f v = list_any (λ w. w == v) f.held

-- the key that the map has at a name
abbrev pub out_at : BTreeMap ℕ ℕ → ℕ → Option ℕ
out_at m v = lookup (is_at (nat_cmp v)) m.entries

-- what is at w where v, if it is there, gets this key
abbrev pub set_at : ℕ → ℕ → ℕ → Option ℕ → Option ℕ
set_at v k w o = if w == v then option_map (λ (n : ℕ). k) o else o

-- each held name has a half-edge
abbrev pub IsFit : Slots → BTreeMap ℕ ℕ → Type 0
IsFit s m = (v k : ℕ) → out_at m v ≡ Some k → (y : ℕ) × Goes s k v y

-- half-edges of an oriented list, and for each held name one from it and a ring
pub record IsMesh (s : Slots) (m : BTreeMap ℕ ℕ) : Type 0 where
  pub sound : IsSound s
  pub oriented : IsOriented (faces_of s)
  pub fit : IsFit s m
  pub ringed : (v k : ℕ) → out_at m v ≡ Some k → HasRing (faces_of s) v
