use Rattle.std.proofs.Common.{◌≡◌, ◌++◌}
use Rattle.std.specs.FinMap as finite
use Rattle.mesh_data.specs.Edits.{simplified}
use Rattle.oemm_octree.specs.Octree.{is_inside}
use Rattle.mesh_model.proofs.plain_mesh.PlainMesh.make_steps.Given as goal

abbrev pub invariant-loop-alloc : goal.invariant-loop-alloc
invariant-loop-alloc l =
    let rest = simplified (is_inside l.area) l.self l.max l.target in
    let all = simplified (is_inside l.area) l.fn.self l.max l.target in
    record {
      mesh : rest.mesh ≡ all.mesh;
      told : l.steps.items ++ rest.steps ≡ all.steps;
    }

abbrev pub decreases-loop-alloc : goal.decreases-loop-alloc
decreases-loop-alloc l = finite.len l.self.vertices
