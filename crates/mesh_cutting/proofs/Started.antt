-- What the faces of a mesh keep when they are turned and put in order.
use Rattle.std.proofs.Common.{◌≡◌, Bool, true, false, cond, List, [], ◌∷◌, map}
use Rattle.std.proofs.lemmas.List.Elements.{All-from_recursion, recursion_from_All}
use Rattle.std.specs.List.{All, AllByRecursion}
use Rattle.std.specs.Ordering.{is_le}
use Rattle.std.specs.declared.cmp.Ordering.{Ordering}
use Rattle.oemm_lists.specs.Ascending.{in_order, inserted}
use Rattle.mesh_data.specs.declared.geometry.Tri.{Tri}
use Rattle.mesh_data.specs.Triangles.{tri_cmp, turned}
use Rattle.triangle_edits.proofs.Results.{turned_keeps}

each_inserted : {X : Type 0} (P : X → Type 0) (R : X → X → Ordering) (x : X) (xs : List X) → P x → AllByRecursion P xs
    → AllByRecursion P (inserted R x xs)
each_inserted P R x [] h all = (h, tt)
each_inserted P R x (y ∷ ys) h all =
    elim (is_le (R x y)) as (λ b. AllByRecursion P (cond b (x ∷ y ∷ ys) (y ∷ inserted R x ys))) [
      | true ↦ (h, all)
      | false ↦ (all.0, each_inserted P R x ys h all.1)
    ]

each_in_order : {X : Type 0} (P : X → Type 0) (R : X → X → Ordering) (xs : List X) → AllByRecursion P xs
    → AllByRecursion P (in_order R xs)
each_in_order P R [] all = tt
each_in_order P R (x ∷ xs) all = each_inserted P R x (in_order R xs) all.0 (each_in_order P R xs all.1)

module _ (P : Tri → Type 0) (turn : (t : Tri) → P t → P (record { a = t.b; b = t.c; c = t.a })) where
  each_turned : (ts : List Tri) → AllByRecursion P ts → AllByRecursion P (map turned ts)
  each_turned [] all = tt
  each_turned (t ∷ ts) all = (turned_keeps P turn t all.0, each_turned ts all.1)

  -- what holds of a triangle however it is turned holds of the triangles of a start mesh
  pub each_started : (ts : List Tri) → All P ts → All P (in_order tri_cmp (map turned ts))
  each_started ts all =
      All-from_recursion P _ (each_in_order P tri_cmp (map turned ts) (each_turned ts (recursion_from_All P ts all)))
