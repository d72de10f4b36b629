use Rattle.std.proofs.Common.{◌≡◌, ◌∙◌, ℕ, List, [], length, get_or, All, map, ap, subst, sym, arith}
use Rattle.std.specs.FinMap as finite
use Rattle.std.specs.List.Sorted.{IsSorted}
use Rattle.std.specs.Ordering.{nat_cmp}
use Rattle.mesh_data.specs.declared.geometry.Tri.{Tri}
use Rattle.mesh_data.specs.declared.geometry.Vertex.{Vertex}
use Rattle.mesh_data.specs.declared.planes.Plane.{Plane}
use Rattle.oemm_lists.specs.Ascending.{in_order}
use Rattle.mesh_data.specs.Manifold.{IsTriangleOf}
use Rattle.mesh_data.specs.Mesh.{Mesh, named_from, planes_at}
use Rattle.mesh_data.specs.Triangles.{IsProper, IsBelow, tri_cmp, turned}
use Rattle.mesh_model.proofs.Starts.{proper_started, below_started, triangles_started}
use Rattle.plane_counts.specs.PlaneCounts.{HasPlanes}
use Rattle.plane_counts.proofs.Shares.{planes_started}
use Rattle.triangle_lists.proofs.Orders.{tri_cmp_total}
use Rattle.triangle_lists.proofs.Sorting.{IsSorted-in_order}
use Rattle.edit_steps.proofs.Vertices.{named_from-agree}
use Rattle.mesh_model.proofs.plain_mesh.PlainMesh.from_soup.Goals as goal

pub plane_lists-requires-clause-proper : goal.plane_lists-requires-clause-proper
plane_lists-requires-clause-proper c =
    subst (All IsProper) (sym (c.as_slice.ensures.value ∙ c.in_ok-tris.ensures.tris)) (proper_started c.args.faces.now c.requires.proper)

pub plane_lists-requires-clause-below : goal.plane_lists-requires-clause-below
plane_lists-requires-clause-below c =
    let n = length c.args.points.now in
    subst (All (IsBelow n)) (sym (c.as_slice.ensures.value ∙ c.in_ok-tris.ensures.tris)) (below_started n c.args.faces.now c.requires.below)

pub invariant_of-result : goal.invariant_of-result
invariant_of-result c =
    let ps = c.args.points.now in
    let ts = in_order tri_cmp (map turned c.args.faces.now) in
    let f : ℕ → List Plane = λ v. get_or c.in_ok-planes.planes.items v [] in
    let all : All (IsTriangleOf (finite.from_entries {R = nat_cmp} (named_from f 0 ps))) ts = triangles_started f ps c.args.faces.now c.requires.proper c.requires.below in
    let vertices : c.in_ok-vertices.vertices ≡ finite.from_entries (named_from f 0 ps) = c.in_ok-vertices.ensures.vertices in
    let tris : c.in_ok-tris.tris.items ≡ ts = c.in_ok-tris.ensures.tris in
    let listed : c.as_slice.result.now ≡ ts = c.as_slice.ensures.value ∙ tris in
    let agree : named_from f 0 ps ≡ named_from (planes_at ps ts) 0 ps =
    named_from-agree f (planes_at ps ts) 0 ps (λ v lt. c.in_ok-planes.ensures.planes v (omega arith) ∙ ap (λ (us : List Tri). planes_at ps us v) listed) in (
      omega (arith, c.in_ok-vertices.ensures.len, c.requires.points),
      omega (arith, c.in_ok-tris.ensures.len, c.requires.faces),
      subst (λ (m : finite.FinMap nat_cmp Vertex). All (IsTriangleOf m) c.in_ok-tris.tris.items) (sym vertices) (subst (All (IsTriangleOf (finite.from_entries {R = nat_cmp} (named_from f 0 ps)))) (sym tris) all),
      subst HasPlanes (sym vertices) (planes_started f ps ts agree (omega (arith, ap length (sym tris), c.in_ok-tris.ensures.len, c.requires.faces)) c.in_ok-planes.ensures.bounded),
      subst (IsSorted tri_cmp) (sym tris) (IsSorted-in_order tri_cmp_total (map turned c.args.faces.now)),
    )

pub returns : goal.returns
returns c =
    let ps = c.args.points.now in
    let ts = in_order tri_cmp (map turned c.args.faces.now) in
    let f : ℕ → List Plane = λ v. get_or c.in_ok-planes.planes.items v [] in
    let listed : c.as_slice.result.now ≡ ts = c.as_slice.ensures.value ∙ c.in_ok-tris.ensures.tris in
    let agree : named_from f 0 ps ≡ named_from (planes_at ps ts) 0 ps =
    named_from-agree f (planes_at ps ts) 0 ps (λ v lt. c.in_ok-planes.ensures.planes v (omega arith) ∙ ap (λ (us : List Tri). planes_at ps us v) listed) in
    λ i. let m : Mesh = record { vertices = (c.in_ok-vertices.ensures.vertices ∙ ap (λ (es : List (ℕ × Vertex)). finite.from_entries {R = nat_cmp} es) agree) i; tris = c.in_ok-tris.ensures.tris i } in m
