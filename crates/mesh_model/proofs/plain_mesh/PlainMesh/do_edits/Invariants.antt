use Rattle.std.proofs.Common.{◌≡◌, ◌++◌, drop}
use Rattle.oemm_octree.specs.Octree.{is_inside}
use Rattle.mesh_data.specs.Work.{work}
use Rattle.mesh_model.proofs.plain_mesh.PlainMesh.do_edits.Given as goal

abbrev pub invariant-loop-edit : goal.invariant-loop-edit
invariant-loop-edit l =
    let rest = work (is_inside l.area) l.self (drop l.edit-index l.edits) in
    let all = work (is_inside l.area) l.fn.self l.edits in
    record {
      mesh : rest.mesh ≡ all.mesh;
      told : l.replies.items ++ rest.replies ≡ all.replies;
    }
