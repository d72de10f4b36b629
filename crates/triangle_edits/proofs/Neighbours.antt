-- Neighbours, a triangle at a time, and looked for among sorted names.
use Rattle.std.proofs.Common.{◌≡◌, ℕ, ◌+◌, ◌<◌, not, ◌&&◌, ◌||◌, eqb, List, [], ◌∷◌, ◌++◌, length, get_or, take, Option, Result, Ok, Err, is_ok, sym, ap, ◌∙◌, arith, inl, inr}
use Rattle.std.proofs.lemmas.Bool.{eq-eqb, ne_eqb, cases_lt}
use Rattle.std.proofs.lemmas.Grind.{flat_map-append}
use Rattle.std.proofs.lemmas.List.{take_more, get_or_default}
use Rattle.std.proofs.lemmas.List.Elements.{filter-append}
use Rattle.std.proofs.lemmas.List.Folds.{list_any_at, list_any_none}
use Rattle.std.proofs.lemmas.List.Sorted.{searched, list_any-IsPermutation, IsNonDecreasingBy-from_sort}
use Rattle.std.specs.List.{list_any, filter, flat_map, find}
use Rattle.std.specs.List.Sorted.{IsSorted, IsPermutation, IsBinarySearchResult}
use Rattle.std.specs.Ordering.{nat_cmp}
use Rattle.oemm_lists.specs.Ascending.{in_order}
use Rattle.mesh_data.specs.declared.geometry.Tri.{Tri}
use Rattle.mesh_data.specs.Links.{apex, is_name, link_violation}
use Rattle.mesh_data.specs.Triangles.{has_corner, star, corners, neighbours}
use Rattle.triangle_edits.specs.Links.{is_shared}

neighbours-append : (v : ℕ) (ss ts : List Tri) → neighbours v (ss ++ ts) ≡ neighbours v ss ++ neighbours v ts
neighbours-append v ss ts =
    ap (λ (us : List Tri). filter (λ w. not (eqb w v)) (flat_map corners us)) (filter-append (has_corner v) ss ts)
    ∙ ap (filter (λ w. not (eqb w v))) (flat_map-append corners (star v ss) (star v ts))
    ∙ filter-append (λ w. not (eqb w v)) (flat_map corners (star v ss)) (flat_map corners (star v ts))

-- a loop's step: one more triangle
pub neighbours_more : (v : ℕ) (ts : List Tri) (i : ℕ) (t : Tri) (ns more : List ℕ) → i < length ts → t ≡ get_or ts i t → ns ≡ neighbours v (take i ts) → more ≡ ns ++ neighbours v (t ∷ []) → more ≡ neighbours v (take (i + 1) ts)
neighbours_more v ts i t ns more lt at so_far one =
    one
    ∙ ap (λ ms. ms ++ neighbours v (t ∷ [])) so_far
    ∙ sym (neighbours-append v (take i ts) (t ∷ []))
    ∙ ap (λ (s : Tri). neighbours v (take i ts ++ s ∷ [])) at
    ∙ ap (neighbours v) (sym (take_more ts i t lt))

-- the least of the sorted neighbours of u that v has too and that don't stand opposite
pub least_by : (ts : List Tri) (u v : ℕ) (of_u of_v : List ℕ) (one other : Option ℕ) → of_u ≡ in_order nat_cmp (neighbours u ts) → IsPermutation (neighbours v ts) of_v → one ≡ apex ts u v → other ≡ apex ts v u → find (is_shared of_v one other) of_u ≡ link_violation ts u v
unfolding link_violation
least_by ts u v of_u of_v one other of is ahead behind =
    let among : (w : ℕ) → list_any (λ x. eqb x w) of_v ≡ list_any (λ x. eqb x w) (neighbours v ts) = λ w. sym (list_any-IsPermutation (λ x. eqb x w) (neighbours v ts) of_v is) in
    λ i. find (λ w. among w i && not (is_name (ahead i) w || is_name (behind i) w)) (of i)
