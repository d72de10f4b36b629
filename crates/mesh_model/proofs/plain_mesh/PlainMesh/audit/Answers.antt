use Rattle.std.proofs.Common.{◌≡◌, ◌∙◌, ap, subst, List, Option, Some, None}
use Rattle.mesh_data.specs.declared.geometry.Tri.{Tri}
use Rattle.mesh_data.specs.declared.shapes.Shape.{Shape}
use Rattle.triangle_lists.specs.Audit.{FindsShape}
use Rattle.mesh_model.proofs.Audits.{bad_shape}
use Rattle.mesh_model.proofs.plain_mesh.PlainMesh.audit.Goals as goal

pub counts-requires : goal.counts-requires
counts-requires c =
    let tris : c.as_slice.result.now ≡ c.args.self.now.tris = c.as_slice.ensures.value ∙ ap (λ m. m.tris) c.self.view_is in
    let none = subst (λ (found : Option Shape). FindsShape c.as_slice.result.now found) c.in-None.is c.in_ok-shape.ensures in
    let told = subst (λ (ts : List Tri). FindsShape ts None) tris none in
    record { edges = told.0; rings = told.1 }

pub returns-in-Some : goal.returns-in-Some
returns-in-Some c =
    let tris : c.as_slice.result.now ≡ c.args.self.now.tris = c.as_slice.ensures.value ∙ ap (λ m. m.tris) c.self.view_is in
    let some = subst (λ (found : Option Shape). FindsShape c.as_slice.result.now found) c.in-Some.is c.in_ok-shape.ensures in
    bad_shape c.args.self.now c.in-Some.shape (subst (λ (ts : List Tri). FindsShape ts (Some c.in-Some.shape)) tris some)
