-- What a patch that is well formed for some core tells.
use Rattle.std.proofs.Common.{◌≡◌, ℕ, true, not, List, All, sym, subst}
use Rattle.std.proofs.lemmas.List.Sorted.{All-permutation}
use Rattle.std.specs.List.{list_any}
use Rattle.std.specs.List.Sorted.{IsSorted}
use Rattle.oemm_lists.specs.Ascending.{in_order}
use Rattle.oemm_octree.specs.declared.cells.Cell.{Cell}
use Rattle.oemm_octree.specs.Octree.{is_inside}
use Rattle.mesh_data.specs.Edits.{is_free, is_held}
use Rattle.mesh_data.specs.Triangles.{IsProper, has_corner, star, tri_cmp, turned}
use Rattle.triangle_lists.proofs.Orders.{tri_cmp_total}
use Rattle.triangle_lists.proofs.Sorting.{IsPermutation-in_order, IsSorted-in_order}
use Rattle.sheet_data.specs.declared.patches.Mixed.{Mixed}
use Rattle.sheet_data.specs.declared.patches.Patch.{Patch}
use Rattle.mesh_sheets.specs.Assembled.{has_name}
use Rattle.mesh_sheets.specs.Written.{patch_tris}
use Rattle.patch_edits.specs.PatchMesh.{mesh_of}
use Rattle.patch_edits.proofs.Frees.{free_on_core, held_on_core, star_on_core}
use Rattle.mesh_edits.specs.Fragments.{IsPatchOn}

module _ (area : List Cell) (p : Patch) (on : IsPatchOn area p) where
  pub held_on : (v : ℕ) → is_held (is_inside area) (mesh_of p) v ≡ has_name p.vertices v
  held_on v =
      subst (λ (a : List Cell). is_held (is_inside a) (mesh_of p) v ≡ has_name p.vertices v) (sym on.is_area)
      (held_on_core on.cells on.core p v on.tiles on.below on.formed)

  pub free_on : (v : ℕ) → is_held (is_inside area) (mesh_of p) v ≡ true
      → is_free (is_inside area) (mesh_of p) v ≡ not (list_any (λ (x : Mixed). has_corner v x.tri) p.mixed)
  free_on v =
      subst (λ (a : List Cell). is_held (is_inside a) (mesh_of p) v ≡ true → is_free (is_inside a) (mesh_of p) v ≡ not (list_any (λ (x : Mixed). has_corner v x.tri) p.mixed)) (sym on.is_area)
      (free_on_core on.cells on.core p v on.tiles on.below on.formed)

  pub star_on : (v : ℕ) → is_free (is_inside area) (mesh_of p) v ≡ true → star v (mesh_of p).tris ≡ star v p.whole
  star_on v =
      subst (λ (a : List Cell). is_free (is_inside a) (mesh_of p) v ≡ true → star v (mesh_of p).tris ≡ star v p.whole) (sym on.is_area)
      (star_on_core on.cells on.core p v on.tiles on.below on.formed)

  pub shaped_on : All (λ t. IsProper t × (turned t ≡ t)) (mesh_of p).tris
  shaped_on =
      let ts = patch_tris p in
      All-permutation (λ t. IsProper t × (turned t ≡ t)) ts (in_order tri_cmp ts) (IsPermutation-in_order tri_cmp ts) on.formed.proper

  pub sorted_on : IsSorted tri_cmp (mesh_of p).tris
  sorted_on = IsSorted-in_order tri_cmp_total (patch_tris p)
