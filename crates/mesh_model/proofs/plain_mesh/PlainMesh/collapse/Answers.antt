use Rattle.std.proofs.Common.{◌≡◌, ◌∙◌, true, All, ap, sym, subst, arith, length}
use Rattle.std.specs.FinMap as finite
use Rattle.std.specs.List.Sorted.{IsSorted}
use Rattle.std.specs.Ordering.{nat_cmp}
use Rattle.mesh_data.specs.declared.geometry.Vertex.{Vertex}
use Rattle.mesh_data.specs.Edits.{collapsed_tris}
use Rattle.mesh_data.specs.Manifold.{IsTriangleOf}
use Rattle.mesh_data.specs.Mesh.{Mesh}
use Rattle.mesh_data.specs.Triangles.{tri_cmp}
use Rattle.plane_counts.specs.Taken.{taken_over}
use Rattle.plane_counts.specs.PlaneCounts.{HasPlanes}
use Rattle.plane_counts.proofs.Shares.{planes_taken_over, kept_taken_over, len-taken_over}
use Rattle.mesh_model.proofs.Sorted.{sorted_collapsed}
use Rattle.triangle_edits.proofs.Results.{triangles_collapsed}
use Rattle.mesh_model.proofs.plain_mesh.PlainMesh.collapse.Goals as goal

pub invariant_of-self-2 : goal.invariant_of-self-2
invariant_of-self-2 c =
    let m = c.self.inside.vertices in
    let u = c.args.u in
    let v = c.args.v in
    let n = taken_over m u v in
    let there : finite.contains_key m v ≡ true = subst (λ (k : finite.FinMap nat_cmp Vertex). finite.contains_key k v ≡ true) (sym (ap (λ (k : Mesh). k.vertices) c.self.view_is)) c.requires.there in
    let vertices : c.take_over.new.self ≡ n = c.in_ok-take_over.ensures.ok in
    let tris : c.in_ok-tris.tris.items ≡ collapsed_tris u v c.self.inside.tris.items = c.in_ok-tris.ensures.tris ∙ ap (collapsed_tris u v) c.as_slice.ensures.value in
    let all : All (IsTriangleOf n) (collapsed_tris u v c.self.inside.tris.items) =
    triangles_collapsed (λ w. finite.contains_key m w ≡ true) (λ w. finite.contains_key n w ≡ true) u v c.self.inside.tris.items
    (λ w. kept_taken_over m u v w)
    (kept_taken_over m u v v there (λ is. c.requires.apart (sym is)))
    c.self.invariant.2 in
    let few = c.in_ok-tris.ensures.few in
    let long = c.as_slice.ensures.len in (
      omega (arith, ap finite.len vertices, len-taken_over m u v, c.self.invariant.0),
      omega (arith, few, ap length c.as_slice.ensures.value, c.self.invariant.1),
      subst (λ (k : finite.FinMap nat_cmp Vertex). All (IsTriangleOf k) c.in_ok-tris.tris.items) (sym vertices) (subst (All (IsTriangleOf n)) (sym tris) all),
      subst HasPlanes (sym vertices) (planes_taken_over m u v c.requires.apart there c.self.invariant.3),
      subst (IsSorted tri_cmp) (sym tris) (sorted_collapsed u v c.self.inside.tris.items),
    )
