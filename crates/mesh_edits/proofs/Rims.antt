-- The names of the mixed triangles.
use Rattle.std.proofs.Common.{◌≡◌, ℕ, Bool, true, false, ◌||◌, eqb, List, [], ◌∷◌, ◌∙◌, refl}
use Rattle.std.proofs.lemmas.List.Folds.{list_any-append}
use Rattle.std.specs.List.{flat_map, list_any}
use Rattle.oemm_lists.specs.Numbers.{among}
use Rattle.mesh_data.specs.declared.geometry.Tri.{Tri}
use Rattle.mesh_data.specs.Triangles.{corners, has_corner}
use Rattle.sheet_data.specs.declared.patches.Mixed.{Mixed}

three_names : (v : ℕ) (t : Tri) → among v (corners t) ≡ has_corner v t
three_names v t = by (eqb t.a v) (eqb t.b v) (eqb t.c v)
  where
    by : (a b c : Bool) → (a || (b || (c || false))) ≡ ((a || b) || c)
    by true b c = refl
    by false true c = refl
    by false false true = refl
    by false false false = refl

pub rim_names : (v : ℕ) (xs : List Mixed) → among v (flat_map (λ (x : Mixed). corners x.tri) xs) ≡ list_any (λ (x : Mixed). has_corner v x.tri) xs
rim_names v [] = refl
rim_names v (x ∷ xs) =
    list_any-append (λ n. eqb n v) (corners x.tri) (flat_map (λ (x : Mixed). corners x.tri) xs) ∙ (λ i. three_names v x.tri i || rim_names v xs i)
