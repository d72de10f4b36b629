use Rattle.std.proofs.Common.{◌∙◌, ap, arith}
use Rattle.std.specs.FinMap as finite
use Rattle.std.specs.Ordering.{nat_cmp}
use Rattle.mesh_data.specs.declared.geometry.Vertex.{Vertex}
use Rattle.edit_steps.proofs.Vertices.{contains-changed}
use Rattle.mesh_model.proofs.Starts.{triangles_of_same}
use Rattle.plane_counts.proofs.Shares.{planes_moved}
use Rattle.mesh_model.proofs.plain_mesh.PlainMesh.move_to.Goals as goal

pub invariant_of-self : goal.invariant_of-self
invariant_of-self c =
    let m = c.self.inside.vertices in (
      omega (arith, c.set_point.ensures.len, c.self.invariant.0),
      c.self.invariant.1,
      triangles_of_same m c.set_point.new.self c.self.inside.tris.items
          (λ v. ap (λ (n : finite.FinMap nat_cmp Vertex). finite.contains_key n v) c.set_point.ensures.vertices ∙ contains-changed (λ x. record x { point = c.args.to }) c.args.v v m)
          c.self.invariant.2,
      planes_moved c.args.v c.args.to m c.set_point.new.self c.set_point.ensures.vertices c.self.invariant.3,
      c.self.invariant.4,
    )
