-- What is so of each vertex, and stays so.
use Rattle.std.proofs.Common.{◌≡◌, ℕ, Bool, true, false, cond, eqb, List, [], ◌∷◌, ◌++◌, length, Some, None, nat_lt, sym, ◌∙◌, refl, subst}
use Rattle.std.proofs.lemmas.Bool.{eqb-true}
use Rattle.std.specs.Cmp.{nat_cmp_total}
use Rattle.std.specs.FinMap as finite
use Rattle.std.specs.Option.{option_map, option_map_or}
use Rattle.std.specs.Ordering.{nat_cmp, eq_by_cmp}
use Rattle.oemm_octree.specs.declared.points.Point.{Point}
use Rattle.oemm_octree.specs.declared.cells.Cell.{Cell}
use Rattle.mesh_data.specs.declared.geometry.Vertex.{Vertex}
use Rattle.mesh_data.specs.declared.planes.Plane.{Plane}
use Rattle.mesh_data.specs.declared.edits.Edit.{Edit}
use Rattle.mesh_data.specs.declared.edits.Edit.TheVariants.{Move, Collapse, Flip, Simplify}
use Rattle.mesh_data.specs.declared.edits.Step.{Step}
use Rattle.mesh_data.specs.declared.edits.Task.{Task}
use Rattle.mesh_data.specs.Edits.{is_done, verdict, after, moved, collapsed, flipped, flipped_tris, collapsed_by, simplified, planes_or_none, move_verdict, collapse_verdict, flip_verdict}
use Rattle.mesh_data.specs.Links.{opposites}
use Rattle.mesh_data.specs.Mesh.{Mesh}
use Rattle.oemm_octree.specs.Octree.{core_of, area_of, is_inside}
use Rattle.mesh_data.specs.Work.{work, do_task, Did, wide_entry}
use Rattle.edit_steps.proofs.Vertices.{changed}
use Rattle.oemm_octree.specs.Leaves.{AreTiles, AreBelow, in_core}
use Rattle.sheet_frame.proofs.Frame.{get_changed}
use Rattle.sheet_frame.proofs.Free.{can_move}
use Rattle.oemm_octree.proofs.Tilings.{area_is_core}
use Rattle.oemm_octree.proofs.CoreHomes.{core_below}

abbrev pub EachVertex : (ℕ → Vertex → Type 0) → finite.FinMap nat_cmp Vertex → Type 0
EachVertex P vs = (v : ℕ) (x : Vertex) → finite.get vs v ≡ Some x → P v x

module _ (P : ℕ → Vertex → Type 0) (other_planes : (v : ℕ) (x : Vertex) (ls : List Plane) → P v x → P v (record { point = x.point; planes = ls })) where
  pub each_changed : (g : Vertex → Vertex) (v : ℕ) (vs : finite.FinMap nat_cmp Vertex) → EachVertex P vs → ((x : Vertex) → finite.get vs v ≡ Some x → P v (g x)) → EachVertex P (changed g v vs)
  each_changed g v vs each lands w x is =
      elim (eqb w v) as (λ b. eqb w v ≡ b → cond b (option_map g (finite.get vs v)) (finite.get vs w) ≡ Some x → P w x) [
        | true ↦ λ here h. elim (finite.get vs v) as (λ o. finite.get vs v ≡ o → option_map g o ≡ Some x → P w x) [
          | None ↦ λ _ e. absurd (cc)
          | Some y ↦ λ there e. let same : g y ≡ x = cc in subst (λ (k : ℕ). P k x) (sym (eqb-true w v here)) (subst (P v) same (lands y there))
        ] refl h
        | false ↦ λ _ h. each w x h
      ] refl (sym (get_changed g v w vs) ∙ is)

  each_removed : (u : ℕ) (vs : finite.FinMap nat_cmp Vertex) → EachVertex P vs → EachVertex P (finite.remove vs u)
  each_removed u vs each w x is =
      elim (eq_by_cmp nat_cmp w u) as (λ b. cond b None (finite.get vs w) ≡ Some x → P w x) [
        | true ↦ λ h. absurd (cc)
        | false ↦ λ h. each w x h
      ] (sym (finite.get-remove nat_cmp_total vs u w) ∙ is)

  pub each_collapsed : (m : Mesh) (u v : ℕ) → EachVertex P m.vertices → EachVertex P (collapsed m u v).vertices
  each_collapsed m u v each =
      let g : Vertex → Vertex = λ x. record x { planes = x.planes ++ planes_or_none m u } in
      each_removed u (changed g v m.vertices) (each_changed g v m.vertices each (λ x is. other_planes v x (x.planes ++ planes_or_none m u) (each v x is)))

  pub each_steps : (ss : List Step) (m : Mesh) → EachVertex P m.vertices → EachVertex P (collapsed_by m ss).vertices
  each_steps [] m each = each
  each_steps (s ∷ ss) m each = each_steps ss (collapsed m s.u s.v) (each_collapsed m s.u s.v each)

  pub each_if : (m n : Mesh) (b : Bool) → EachVertex P m.vertices → (b ≡ true → EachVertex P n.vertices) → EachVertex P (cond b n m).vertices
  each_if m n true each h = h refl
  each_if m n false each h = each

  pub each_flipped : (m : Mesh) (a b : ℕ) → EachVertex P m.vertices → EachVertex P (flipped m a b).vertices
  each_flipped m a b each =
      elim (opposites m.tris a b) as (λ o. EachVertex P (option_map_or (λ ends. let k : Mesh = record { vertices = m.vertices; tris = flipped_tris a b ends.0 ends.1 m.tris } in k) o m).vertices) [ None ↦ each | Some ends ↦ each ]

  module _ (inside : Point → Bool) (lands : (v : ℕ) (x : Vertex) (to : Point) → inside to ≡ true → P v x → P v (record { point = to; planes = x.planes })) where
    each_edit : (m : Mesh) (e : Edit) → EachVertex P m.vertices → EachVertex P (after m e (verdict inside m e)).vertices
    each_edit m (Move v to) each =
        each_if m (moved m v to) (is_done (move_verdict inside m v to)) each (λ done.
        each_changed (λ x. record x { point = to }) v m.vertices each (λ x is. lands v x to (can_move inside m v to done).lands (each v x is)))
    each_edit m (Collapse u v most) each =
        each_if m (collapsed m u v) (is_done (collapse_verdict inside m u v most)) each (λ done. each_collapsed m u v each)
    each_edit m (Flip a b) each =
        each_if m (flipped m a b) (is_done (flip_verdict inside m a b)) each (λ done. each_flipped m a b each)
    each_edit m (Simplify most target) each = each_steps (simplified inside m most target).steps m each

    pub each_work : (es : List Edit) (m : Mesh) → EachVertex P m.vertices → EachVertex P (work inside m es).mesh.vertices
    each_work [] m each = each
    each_work (e ∷ es) m each = each_work es (after m e (verdict inside m e)) (each_edit m e each)

  module _ (cells : List Cell) (tiles : AreTiles cells) (lands : (v : ℕ) (x : Vertex) (core : List ℕ) (to : Point) → AreBelow (length cells) core → in_core cells core to ≡ true → P v x → P v (record { point = to; planes = x.planes })) where
    pub each_task : (limit : ℕ) (m : Mesh) (t : Task) → EachVertex P m.vertices → EachVertex P (do_task cells limit m t).mesh.vertices
    each_task limit m t each =
        let core = core_of cells t.low t.high in
        let worked = work (is_inside (area_of cells core)) m t.edits in
        elim (nat_lt limit (length core)) as (λ b. let d : Did = cond b (record { mesh = m; entry = wide_entry t }) (record { mesh = worked.mesh; entry = record { task = t; wide = false; replies = worked.replies; core = core } }) in EachVertex P d.mesh.vertices) [
          | true ↦ each
          | false ↦
              let below = core_below cells t.low t.high in
              subst (λ (area : Point → Bool). EachVertex P (work area m t.edits).mesh.vertices) (sym (area_is_core cells core tiles below))
              (each_work (in_core cells core) (λ v x to on. lands v x core to below on) t.edits m each)
        ]
