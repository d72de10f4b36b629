-- The place of a name among names.
use Rattle.std.proofs.Common.{◌≡◌, ◌∙◌, ℕ, zero, suc, ◌<◌, eqb, List, [], ◌∷◌, length, get_or, sym, ap, refl, Some, slice_get, arith, inl, inr}
use Rattle.std.proofs.lemmas.Bool.{eqb-true, eq-eqb, cases_lt, both_ways}
use Rattle.std.proofs.lemmas.List.{length-map}
use Rattle.std.proofs.lemmas.List.Elements.{All-map}
use Rattle.std.proofs.lemmas.List.Sums.{fails_before_first, passes_at_first}
use Rattle.std.specs.List.{All, Contains}
use Rattle.std.specs.List.Sorted.{IsStrictlyIncreasing}
use Rattle.mesh_data.specs.declared.geometry.Tri.{Tri}
use Rattle.mesh_data.specs.Triangles.{IsBelow}
use Rattle.mesh_out.specs.MeshBytes.{IsNamedBy, position_of, renumbered}
use Rattle.mesh_out.proofs.Places.{position_is_place}
use Rattle.sheet_data.specs.Summed.{SummedVertex}
use Rattle.leaf_export.specs.OctreeBytes.{file_faces, place_in, placed, vertex_names}

-- the place of a name that is there is within
pub place_within : (names : List ℕ) (v : ℕ) → Contains names v → place_in names v < length names
place_within names v h =
    elim (cases_lt (place_in names v) (length names)) [
      | inl within ↦ within
      | inr past ↦ absurd (both_ways (eqb (get_or names h.0 v) v) (fails_before_first (λ n. eqb n v) names h.0 v (omega (arith, h.1))) (eq-eqb (get_or names h.0 v) v h.2))
    ]

some_at : (names : List ℕ) (k d : ℕ) → k < length names → slice_get names k ≡ Some (get_or names k d)
some_at [] k d lt = absurd (omega arith)
some_at (n ∷ ns) zero d lt = refl
some_at (n ∷ ns) (suc k) d lt = some_at ns k d (omega arith)

-- and the name stands there
pub name_there : (names : List ℕ) (v : ℕ) → Contains names v → slice_get names (place_in names v) ≡ Some v
name_there names v h =
    let within = place_within names v h in
    let here : get_or names (place_in names v) v ≡ v = eqb-true (get_or names (place_in names v) v) v (passes_at_first (λ n. eqb n v) names v within) in
    some_at names (place_in names v) v within ∙ ap (λ (n : ℕ). Some n) here

-- among ascending names the place is the number of names below
pub place_is : (names : List ℕ) (v : ℕ) → IsStrictlyIncreasing names → Contains names v → place_in names v ≡ position_of names v
place_is names v up h = sym (position_is_place names v (place_in names v) up (name_there names v h))

pub placed_is : (names : List ℕ) (t : Tri) → IsStrictlyIncreasing names → IsNamedBy names t → placed names t ≡ renumbered names t
placed_is names t up h =
    λ i. record { a = place_is names t.a up h.0 i; b = place_is names t.b up h.1 i; c = place_is names t.c up h.2 i }

pub all_within : (vertices : List SummedVertex) (tris : List Tri) → All (IsNamedBy (vertex_names vertices)) tris
    → All (IsBelow (length vertices)) (file_faces vertices tris)
all_within vertices tris named =
    let names = vertex_names vertices in
    let same : length names ≡ length vertices = length-map vertices (λ (x : SummedVertex). x.name) in
    All-map (IsBelow (length vertices)) (placed names) tris (λ k t lt.
    (omega (arith, same, place_within names _ (named k t lt).0), omega (arith, same, place_within names _ (named k t lt).1), omega (arith, same, place_within names _ (named k t lt).2)))
