-- What collapses and flips make of a list, from the steps by which it is made.
use Rattle.std.proofs.Common.{◌≡◌, ℕ, not, List, [], ◌∷◌, map, ap, ◌∙◌, refl}
use Rattle.std.specs.List.{filter}
use Rattle.std.specs.List.Sorted.{IsSorted, IsPermutation}
use Rattle.oemm_lists.specs.Ascending.{in_order}
use Rattle.mesh_data.specs.declared.geometry.Tri.{Tri}
use Rattle.mesh_data.specs.Edits.{substituted, collapsed_tris, flipped_tris}
use Rattle.mesh_data.specs.Links.{has_both}
use Rattle.mesh_data.specs.Triangles.{turned, tri_cmp}
use Rattle.triangle_lists.proofs.Orders.{tri_cmp_total, tri_cmp-IsAntisymmetric}
use Rattle.triangle_lists.proofs.Sorting.{in_order_from_sort}

turned_put : (u v : ℕ) (ts : List Tri) → map turned (map (substituted u v) ts) ≡ map (λ t. turned (substituted u v t)) ts
turned_put u v [] = refl
turned_put u v (t ∷ ts) = ap (λ (us : List Tri). turned (substituted u v t) ∷ us) (turned_put u v ts)

pub collapsed_by : (u v : ℕ) (ts kept shown put faces : List Tri) → kept ≡ filter (λ t. not (has_both u v t)) ts → shown ≡ kept → put ≡ map (substituted u v) shown → faces ≡ put → in_order tri_cmp (map turned faces) ≡ collapsed_tris u v ts
unfolding collapsed_tris
collapsed_by u v ts kept shown put faces keeps shows puts is =
    ap (λ (us : List Tri). in_order tri_cmp (map turned us)) (is ∙ puts ∙ ap (map (substituted u v)) (shows ∙ keeps)) ∙ ap (in_order tri_cmp) (turned_put u v (filter (λ t. not (has_both u v t)) ts))

pub flipped_by : (a b c d : ℕ) (ts all sorted : List Tri) → all ≡ turned (record { a = a; b = d; c = c }) ∷ turned (record { a = d; b = b; c = c }) ∷ filter (λ t. not (has_both a b t)) ts → IsPermutation all sorted → IsSorted tri_cmp sorted → sorted ≡ flipped_tris a b c d ts
unfolding flipped_tris
flipped_by a b c d ts all sorted is moved up =
    in_order_from_sort tri_cmp_total tri_cmp-IsAntisymmetric all sorted moved up ∙ ap (in_order tri_cmp) is
