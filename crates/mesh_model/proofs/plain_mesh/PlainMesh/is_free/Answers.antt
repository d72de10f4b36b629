use Rattle.std.proofs.Common.{◌&&◌, ap, sym, ◌∙◌}
use Rattle.std.specs.List.{list_all}
use Rattle.mesh_data.specs.Edits.{is_held}
use Rattle.oemm_octree.specs.Octree.{is_inside}
use Rattle.mesh_data.specs.Triangles.{neighbours}
use Rattle.mesh_model.proofs.Stars.{neighbours_by_triangle}
use Rattle.mesh_model.proofs.plain_mesh.PlainMesh.is_free.Goals as goal

pub returns-then-is_held : goal.returns-then-is_held
returns-then-is_held c =
    let held = is_held (is_inside c.args.area.now) c.args.self.now in
    let v = c.args.v in
    let ts = c.args.self.now.tris in
    c.all_free.ensures ∙ neighbours_by_triangle held v ts ∙ ap (λ b. b && list_all held (neighbours v ts)) (sym c.if-is_held.true ∙ c.is_held.ensures)
