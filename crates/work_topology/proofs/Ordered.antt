-- Work keeps a manifold whose triangles stand in order.
use Rattle.std.proofs.Common.{◌≡◌, ℕ, Bool, true, false, cond, All, List, [], ◌∷◌, Option, Some, None, map}
use Rattle.std.proofs.lemmas.List.Elements.{recursion_from_All}
use Rattle.std.specs.List.Sorted.{IsSorted}
use Rattle.mesh_data.specs.declared.edits.Edit.{Edit}
use Rattle.mesh_data.specs.declared.edits.Edit.TheVariants.{Collapse, Flip, Move, Simplify}
use Rattle.mesh_data.specs.declared.edits.Reply.{Reply}
use Rattle.mesh_data.specs.declared.edits.Step.{Step}
use Rattle.oemm_octree.specs.declared.points.Point.{Point}
use Rattle.mesh_data.specs.declared.geometry.Soup.{Soup}
use Rattle.mesh_data.specs.Edits.{after, collapse_verdict, collapsed_by, collapsed, flip_verdict, flipped, flipped_tris, is_done, move_verdict, moved, simplified, verdict}
use Rattle.mesh_data.specs.Links.{opposites}
use Rattle.mesh_data.specs.Manifold.{IsManifold}
use Rattle.mesh_data.specs.Mesh.{Mesh, start}
use Rattle.mesh_data.specs.Triangles.{tri_cmp, turned}
use Rattle.mesh_data.specs.Work.{work}
use Rattle.std.specs.Option.{option_map_or}
use Rattle.triangle_lists.proofs.Orders.{tri_cmp_total}
use Rattle.triangle_lists.proofs.Sorting.{IsSorted-in_order}
use Rattle.edit_laws.specs.Away.{AreTurned}
use Rattle.work_topology.proofs.Kept.{collapsed_sorted, flipped_sorted}
use Rattle.work_topology.proofs.WorkKeeps.{edit_keeps}
use Rattle.work_topology.specs.Ordered.{IsOrderedManifold}

-- the triangles of a manifold are turned
pub turned_of : (m : Mesh) → IsManifold m → AreTurned m.tris
turned_of m manifold =
    let each : All (λ t. turned t ≡ t) m.tris = λ k t lt. (manifold.corners k t lt).is_turned in
    recursion_from_All (λ t. turned t ≡ t) m.tris each

-- ---- edits

-- an edit that is refused changes nothing
sorted_if : (m n : Mesh) (r : Reply) → IsSorted tri_cmp m.tris → IsSorted tri_cmp n.tris → IsSorted tri_cmp (cond (is_done r) n m).tris
sorted_if m n r old new = elim (is_done r) as (λ b. IsSorted tri_cmp (cond b n m).tris) [ true ↦ new | false ↦ old ]

-- the collapses of a simplification
steps_sorted : (ss : List Step) (m : Mesh) → IsSorted tri_cmp m.tris → IsSorted tri_cmp (collapsed_by m ss).tris
steps_sorted [] m sorted = sorted
steps_sorted (s ∷ ss) m sorted = steps_sorted ss (collapsed m s.u s.v) (collapsed_sorted s.u s.v m.tris)

-- a flip, if the edge has both opposite names
turn_sorted : (m : Mesh) (a b : ℕ) (o : Option (ℕ × ℕ)) → IsSorted tri_cmp m.tris → IsSorted tri_cmp (option_map_or {U = Mesh} (λ ends. record { vertices = m.vertices; tris = flipped_tris a b ends.0 ends.1 m.tris }) o m).tris
turn_sorted m a b None sorted = sorted
turn_sorted m a b (Some ends) sorted = flipped_sorted a b ends.0 ends.1 m.tris

-- each edit leaves the triangles sorted
edit_sorted : (inside : Point → Bool) (m : Mesh) (e : Edit) → IsSorted tri_cmp m.tris → IsSorted tri_cmp (after m e (verdict inside m e)).tris
edit_sorted inside m (Move v to) sorted = sorted_if m (moved m v to) (move_verdict inside m v to) sorted sorted
edit_sorted inside m (Collapse u v most) sorted = sorted_if m (collapsed m u v) (collapse_verdict inside m u v most) sorted (collapsed_sorted u v m.tris)
edit_sorted inside m (Flip a b) sorted = sorted_if m (flipped m a b) (flip_verdict inside m a b) sorted (turn_sorted m a b (opposites m.tris a b) sorted)
edit_sorted inside m (Simplify most target) sorted = steps_sorted (simplified inside m most target).steps m sorted

-- ---- edits in a row

-- each edit, and edits in a row
pub edit_ordered : (inside : Point → Bool) (m : Mesh) (e : Edit) → IsOrderedManifold m → IsOrderedManifold (after m e (verdict inside m e))
edit_ordered inside m e good = record { manifold = (edit_keeps inside m e good.manifold).manifold; sorted = edit_sorted inside m e good.sorted }

pub work_ordered : (inside : Point → Bool) (m : Mesh) (es : List Edit) → IsOrderedManifold m → IsOrderedManifold (work inside m es).mesh
work_ordered inside m [] good = good
work_ordered inside m (e ∷ es) good = work_ordered inside (after m e (verdict inside m e)) es (edit_ordered inside m e good)

-- a start mesh has its triangles in order
pub start_ordered : (s : Soup) → IsManifold (start s) → IsOrderedManifold (start s)
start_ordered s manifold = record { manifold = manifold; sorted = IsSorted-in_order tri_cmp_total (map turned s.faces) }
