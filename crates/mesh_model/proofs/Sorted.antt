-- The triangles of a mesh are ascending: each list of them was put in order.
use Rattle.std.proofs.Common.{ℕ, not, List, ◌∷◌, map}
use Rattle.std.specs.List.{filter}
use Rattle.std.specs.List.Sorted.{IsSorted}
use Rattle.mesh_data.specs.declared.geometry.Tri.{Tri}
use Rattle.mesh_data.specs.Edits.{substituted, collapsed_tris, flipped_tris}
use Rattle.mesh_data.specs.Links.{has_both}
use Rattle.mesh_data.specs.Triangles.{turned, tri_cmp}
use Rattle.triangle_lists.proofs.Orders.{tri_cmp_total}
use Rattle.triangle_lists.proofs.Sorting.{IsSorted-in_order}

pub sorted_collapsed : (u v : ℕ) (ts : List Tri) → IsSorted tri_cmp (collapsed_tris u v ts)
unfolding collapsed_tris
sorted_collapsed u v ts = IsSorted-in_order tri_cmp_total (map (λ t. turned (substituted u v t)) (filter (λ t. not (has_both u v t)) ts))

pub sorted_flipped : (a b c d : ℕ) (ts : List Tri) → IsSorted tri_cmp (flipped_tris a b c d ts)
unfolding flipped_tris
sorted_flipped a b c d ts =
    IsSorted-in_order tri_cmp_total (turned (record { a = a; b = d; c = c }) ∷ turned (record { a = d; b = b; c = c }) ∷ filter (λ t. not (has_both a b t)) ts)
