-- Half-edges under keys, and the triangles that they make.
use Rattle.std.specs.Prelude.{◌≡◌, ℕ, Bool, true, ◌==◌, List, [], ◌∷◌, map, Option, Some, None, if◌then◌else◌}
use Rattle.std.specs.Prelude.{slice_index_or, ◌⊎◌, ◌≢◌, suc, ◌≤◌, length, count_by, is_some}
use Rattle.std.specs.List.{flat_map, list_any}
use Rattle.std.specs.Option.{option_map, option_map_or}
use Rattle.mesh_data.specs.declared.geometry.Tri.{Tri}
use Rattle.oemm_lists.specs.Ascending.{in_order}
use Rattle.mesh_data.specs.Edits.{substituted}
use Rattle.mesh_data.specs.Links.{is_name}
use Rattle.mesh_data.specs.Triangles.{IsProper, has_corner, tri_cmp, turned}
use Rattle.half_edge.specs.declared.surgery.Half.{Half}

-- half-edges or nothing, by their keys
abbrev pub Slots : Type 0
Slots = List (Option Half)

-- the half-edge at a key
abbrev pub at : Slots → ℕ → Option Half
at s k = slice_index_or s k None

-- what a change of the half-edge at k makes of what is at j
abbrev pub altered : ℕ → (Half → Half) → ℕ → Option Half → Option Half
altered k f j o = if j == k then option_map f o else o

-- a half-edge with another twin, with v for u in its triangle, with another next one
abbrev pub with_twin : Option ℕ → Half → Half
with_twin twin h = record h { twin = twin }

abbrev pub with_put : ℕ → ℕ → Half → Half
with_put u v h = record h { face = substituted u v h.face }

abbrev pub with_next : ℕ → Half → Half
with_next next h = record h { next = next }

-- a half-edge with all anew but its twin
abbrev pub reset : Tri → Bool → ℕ → Half → Half
reset face lead next h = record { face = face; lead = lead; next = next; twin = h.twin }

-- the triangle from its next corner on
abbrev pub from_next : Tri → Tri
from_next t = record { a = t.b; b = t.c; c = t.a }

-- the triangle for which a half-edge stands
abbrev pub led_face : Option Half → List Tri
led_face None = []
led_face (Some h) = if h.lead then h.face ∷ [] else []

-- the triangles, turned and in order
abbrev pub faces_of : Slots → List Tri
faces_of s = in_order tri_cmp (map turned (flat_map led_face s))

-- what is at j where the half-edges of these keys are gone
abbrev pub dropped : List ℕ → ℕ → Option Half → Option Half
dropped ks j o = if list_any (λ k. j == k) ks then None else o

-- the twin of the half-edge at j where those at p, if there is one, and at q are made twins
abbrev pub twin_joined : Option ℕ → ℕ → ℕ → Option ℕ → Option ℕ
twin_joined p q j twin = if is_name p j then Some q else if j == q then p else twin

abbrev pub joined : Option ℕ → ℕ → ℕ → Option Half → Option Half
joined p q j o = option_map (λ (h : Half). with_twin (twin_joined p q j h.twin) h) o

-- v for u in the triangle of a half-edge, where it has u and not v
abbrev pub put_beside : ℕ → ℕ → Option Half → Option Half
put_beside u v o = option_map (λ (h : Half). if has_corner v h.face then h else with_put u v h) o

-- some half-edge at this key has this triangle from its corner on
abbrev pub HasFace : Slots → ℕ → Tri → Type 0
HasFace s k t = (h : Half) × (at s k ≡ Some h) × (h.face ≡ t)

-- the half-edge at this key goes from a to b
abbrev pub Goes : Slots → ℕ → ℕ → ℕ → Type 0
Goes s k a b = (h : Half) × (at s k ≡ Some h) × (h.face.a ≡ a) × (h.face.b ≡ b)

-- where a twin is told, it goes from b to a, and where none is told, none does
abbrev pub IsTwin : Slots → ℕ → ℕ → Option ℕ → Type 0
IsTwin s a b None = (g : ℕ) → Goes s g b a → ⊥
IsTwin s a b (Some g) = Goes s g b a

-- one of the three half-edges of a triangle stands for it
abbrev pub HasLead : Slots → Half → Type 0
HasLead s h = (h.lead ≡ true) ⊎
    ((i : Half) × (at s h.next ≡ Some i) × ((i.lead ≡ true) ⊎ ((j : Half) × (at s i.next ≡ Some j) × (j.lead ≡ true))))

-- half-edges of triangles of three different names, each linked to the next of its triangle and to its twin, and none
-- goes the way of another
pub record IsSound (s : Slots) : Type 0 where
  pub proper : (k : ℕ) (h : Half) → at s k ≡ Some h → IsProper h.face
  pub turns : (k : ℕ) (h : Half) → at s k ≡ Some h → HasFace s h.next (from_next h.face)
  pub alone : (k g a b : ℕ) → Goes s k a b → Goes s g a b → k ≡ g
  pub twins : (k : ℕ) (h : Half) → at s k ≡ Some h → IsTwin s h.face.a h.face.b h.twin
  pub leads : (k : ℕ) (h : Half) → at s k ≡ Some h → HasLead s h

-- ---- round a name

-- the key of the half-edge that comes next in the triangle of k
abbrev pub next_key : Slots → ℕ → ℕ
next_key s k = option_map_or (λ (h : Half). h.next) (at s k) 0

-- the key of its twin, if it has one
abbrev pub twin_key : Slots → ℕ → Option ℕ
twin_key s k = option_map_or (λ (h : Half). h.twin) (at s k) None

-- the keys of a triangle
abbrev pub three : Slots → ℕ → List ℕ
three s k = k ∷ next_key s k ∷ next_key s (next_key s k) ∷ []

-- the key of the next half-edge round the first name of k
abbrev pub around : Slots → ℕ → Option ℕ
around s k = twin_key s (next_key s (next_key s k))

-- v for u in the triangle of a half-edge, if there is one
abbrev pub all_put : ℕ → ℕ → Option Half → Option Half
all_put u v o = option_map (with_put u v) o

-- what is at j where v is put for u in the triangle of these keys
abbrev pub put_in : List ℕ → ℕ → ℕ → ℕ → Option Half → Option Half
put_in ks u v j o = if list_any (λ k. j == k) ks then all_put u v o else o

-- there is a half-edge at this key
abbrev pub ContainsAt : Slots → ℕ → Type 0
ContainsAt s k = (h : Half) × (at s k ≡ Some h)

-- keys of half-edges one round after another, and then home again
abbrev pub IsLoop : Slots → ℕ → List ℕ → Type 0
IsLoop s home [] = ⊥
IsLoop s home (k ∷ []) = ContainsAt s k × (around s k ≡ Some home)
IsLoop s home (k ∷ g ∷ ks) = ContainsAt s k × (around s k ≡ Some g) × (g ≢ home) × IsLoop s home (g ∷ ks)

-- the half-edges from u, one round after another from home on, are all that have u
pub record IsRound (s : Slots) (home u : ℕ) : Type 0 where
  pub keys : List ℕ
  pub loop : IsLoop s home (home ∷ keys)
  pub fits : suc (length keys) ≤ count_by is_some s
  pub whole : (j : ℕ) (h : Half) → at s j ≡ Some h → has_corner u h.face ≡ true →
      list_any (λ k. j == k) (flat_map (three s) (home ∷ keys)) ≡ true
