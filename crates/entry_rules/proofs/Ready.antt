-- Edits and tasks of the grid leave meshes of the grid.
use Rattle.std.proofs.Common.{◌≡◌, ℕ, Bool, true, false, cond, List, [], ◌∷◌, length, ◌+◌, ◌<◌, ◌≤◌, All, Some, None, nat_lt, sym, subst, ◌∙◌, refl, arith}
use Rattle.std.proofs.lemmas.List.Elements.{recursion_from_All}
use Rattle.std.specs.Cmp.{nat_cmp_total}
use Rattle.std.specs.FinMap as finite
use Rattle.std.specs.FinMap.Entries.{find}
use Rattle.std.specs.List.{AllByRecursion}
use Rattle.std.specs.Ordering.{eq_by_cmp, nat_cmp}
use Rattle.oemm_limits.specs.declared.TheConstants.{MOST_ITEMS}
use Rattle.oemm_octree.specs.declared.cells.Cell.{Cell}
use Rattle.oemm_octree.specs.declared.points.Point.{Point}
use Rattle.oemm_octree.specs.Octree.{IsOnGrid, area_of, core_of, is_inside}
use Rattle.mesh_data.specs.declared.edits.Edit.{Edit}
use Rattle.mesh_data.specs.declared.edits.Edit.TheVariants.{Move, Collapse, Flip, Simplify}
use Rattle.mesh_data.specs.declared.edits.Task.{Task}
use Rattle.mesh_data.specs.declared.geometry.Soup.{Soup}
use Rattle.mesh_data.specs.declared.geometry.Vertex.{Vertex}
use Rattle.mesh_data.specs.declared.planes.Plane.{Plane}
use Rattle.mesh_data.specs.Edits.{after, collapse_verdict, collapsed, flip_verdict, flipped, is_done, move_verdict, moved, simplified, verdict}
use Rattle.mesh_data.specs.Manifold.{IsManifold}
use Rattle.mesh_data.specs.Mesh.{Mesh, named_from, planes_at, start, start_tris}
use Rattle.mesh_data.specs.Work.{Did, do_task, play, wide_entry, work}
use Rattle.plane_counts.proofs.Grid.{start_planed}
use Rattle.plane_counts.proofs.Planed.{planed_work}
use Rattle.work_topology.proofs.WorkKeeps.{edit_keeps}
use Rattle.sheet_forms.proofs.Each.{EachVertex, each_changed, each_collapsed, each_flipped, each_if, each_steps, each_work}
use Rattle.sheet_forms.proofs.Homed.{start_named}
use Rattle.entry_rules.specs.OnGrid.{IsEditOnGrid, IsMeshOnGrid, IsTaskOnGrid}

-- ---- at the start

points_on : (planes : ℕ → List Plane) (n : ℕ) (ps : List Point) → AllByRecursion IsOnGrid ps → (v : ℕ) (x : Vertex)
    → find nat_cmp v (named_from planes n ps) ≡ Some x → IsOnGrid x.point
points_on planes n [] all v x is = let none : None ≡ Some x = is in absurd (cc)
points_on planes n (p ∷ ps) all v x is =
    let y : Vertex = record { point = p; planes = planes n } in
    elim (eq_by_cmp nat_cmp v n) as (λ b. cond b (Some y) (find nat_cmp v (named_from planes (n + 1) ps)) ≡ Some x
    → IsOnGrid x.point) [
      | true ↦ λ h. let same : y ≡ x = cc in subst (λ (z : Vertex). IsOnGrid z.point) same all.0
      | false ↦ λ h. points_on planes (n + 1) ps all.1 v x h
    ] is

pub start_ready : (s : Soup) → All IsOnGrid s.points → length s.points ≤ MOST_ITEMS → length s.faces ≤ MOST_ITEMS
    → IsManifold (start s) → IsMeshOnGrid (start s)
start_ready s on few_points few_faces manifold =
    let planes = planes_at s.points (start_tris s) in
    record {
      manifold = manifold;
      named = λ v x is. let lt = start_named s v x is in omega arith;
      grid = λ v x is. points_on planes 0 s.points (recursion_from_All IsOnGrid s.points on) v x
          (sym (finite.get-from_entries nat_cmp_total (named_from planes 0 s.points) v) ∙ is);
      planes = start_planed s on few_faces;
    }

-- ---- through edits and tasks

abbrev On : ℕ → Vertex → Type 0
On v x = IsOnGrid x.point

same_point : (v : ℕ) (x : Vertex) (ls : List Plane) → On v x → On v (record { point = x.point; planes = ls })
same_point v x ls on = on

on_after : (inside : Point → Bool) (m : Mesh) (e : Edit) → IsEditOnGrid e → EachVertex On m.vertices
    → EachVertex On (after m e (verdict inside m e)).vertices
on_after inside m (Move v to) on grid =
    each_if On same_point m (moved m v to) (is_done (move_verdict inside m v to)) grid
    (λ _. each_changed On same_point (λ x. record x { point = to }) v m.vertices grid (λ x is. on))
on_after inside m (Collapse u v most) on grid =
    each_if On same_point m (collapsed m u v) (is_done (collapse_verdict inside m u v most)) grid
    (λ _. each_collapsed On same_point m u v grid)
on_after inside m (Flip a b) on grid =
    each_if On same_point m (flipped m a b) (is_done (flip_verdict inside m a b)) grid
    (λ _. each_flipped On same_point m a b grid)
on_after inside m (Simplify most target) on grid =
    each_steps On same_point (simplified inside m most target).steps m grid

pub ready_edit : (inside : Point → Bool) (m : Mesh) (e : Edit) → IsEditOnGrid e → IsMeshOnGrid m
    → IsMeshOnGrid (after m e (verdict inside m e))
ready_edit inside m e on ready = record {
  manifold = (edit_keeps inside m e ready.manifold).manifold;
  named = each_work (λ v x. v < MOST_ITEMS) (λ v x ls has. has) inside (λ v x to _ has. has) (e ∷ []) m ready.named;
  grid = on_after inside m e on ready.grid;
  planes = planed_work inside (e ∷ []) m ready.planes;
}

ready_work : (inside : Point → Bool) (es : List Edit) (m : Mesh) → AllByRecursion IsEditOnGrid es → IsMeshOnGrid m
    → IsMeshOnGrid (work inside m es).mesh
ready_work inside [] m on ready = ready
ready_work inside (e ∷ es) m on ready =
    ready_work inside es (after m e (verdict inside m e)) on.1 (ready_edit inside m e on.0 ready)

pub ready_task : (cells : List Cell) (limit : ℕ) (m : Mesh) (t : Task) → IsMeshOnGrid m → IsTaskOnGrid t
    → IsMeshOnGrid (do_task cells limit m t).mesh
ready_task cells limit m t ready task =
    let core = core_of cells t.low t.high in
    let inside = is_inside (area_of cells core) in
    let worked = work inside m t.edits in
    elim (nat_lt limit (length core)) as (λ b.
    let d : Did = cond b (record { mesh = m; entry = wide_entry t }) (record {
      mesh = worked.mesh;
      entry = record { task = t; wide = false; replies = worked.replies; core = core };
    }) in
    IsMeshOnGrid d.mesh) [
      | true ↦ ready
      | false ↦ ready_work inside t.edits m (recursion_from_All IsEditOnGrid t.edits task.edits) ready
    ]

ready_each : (cells : List Cell) (limit : ℕ) (ts : List Task) (m : Mesh) → IsMeshOnGrid m
    → AllByRecursion IsTaskOnGrid ts → IsMeshOnGrid (play cells limit m ts).mesh
ready_each cells limit [] m ready tasks = ready
ready_each cells limit (t ∷ ts) m ready tasks =
    ready_each cells limit ts (do_task cells limit m t).mesh (ready_task cells limit m t ready tasks.0) tasks.1

pub ready_play : (cells : List Cell) (limit : ℕ) (m : Mesh) (ts : List Task) → IsMeshOnGrid m → All IsTaskOnGrid ts
    → IsMeshOnGrid (play cells limit m ts).mesh
ready_play cells limit m ts ready tasks =
    ready_each cells limit ts m ready (recursion_from_All IsTaskOnGrid ts tasks)
