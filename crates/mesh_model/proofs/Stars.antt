-- Neighbours, triangle by triangle.
use Rattle.std.proofs.Common.{◌≡◌, ℕ, Bool, true, false, cond, not, ◌&&◌, ◌||◌, ◌==◌, List, [], ◌∷◌, sym, ap, ◌∙◌, refl}
use Rattle.std.specs.List.{list_all, filter, flat_map}
use Rattle.std.proofs.lemmas.List.Folds.{list_all-append}
use Rattle.std.proofs.lemmas.List.Elements.{filter-append}
use Rattle.mesh_data.specs.declared.geometry.Tri.{Tri}
use Rattle.mesh_data.specs.Triangles.{corners, has_corner, neighbours}

-- a test holds of all neighbours if at each triangle that has the vertex it holds of the others
pub neighbours_by_triangle : (p : ℕ → Bool) (v : ℕ) (ts : List Tri) → list_all (λ t. not (has_corner v t) || list_all p (filter (λ w. not (w == v)) (corners t))) ts ≡ list_all p (neighbours v ts)
neighbours_by_triangle p v [] = refl
neighbours_by_triangle p v (t ∷ ts) =
    let other : ℕ → Bool = λ w. not (w == v) in
    let rest = neighbours_by_triangle p v ts in
    elim (has_corner v t) as (λ b. ((not b || list_all p (filter other (corners t))) && list_all (λ t. not (has_corner v t) || list_all p (filter other (corners t))) ts)
    ≡ list_all p (filter other (flat_map corners (cond b (t ∷ filter (has_corner v) ts) (filter (has_corner v) ts))))) [
      | true ↦ ap (λ (b : Bool). list_all p (filter other (corners t)) && b) rest
          ∙ sym (ap (list_all p) (filter-append other (corners t) (flat_map corners (filter (has_corner v) ts))) ∙ list_all-append p (filter other (corners t)) _)
      | false ↦ rest
    ]
