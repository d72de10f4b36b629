use Rattle.std.proofs.Common.{◌≡◌, None, flat_map, take}
use Rattle.oemm_octree.specs.Octree.{is_inside}
use Rattle.edit_steps.specs.Steps.{best_of, both_ways, answer_of}
use Rattle.mesh_model.proofs.plain_mesh.PlainMesh.least_step.Given as goal

abbrev pub invariant-loop-t : goal.invariant-loop-t
invariant-loop-t l = record {
  told : l.best ≡ best_of (answer_of (is_inside l.area) l.self l.max) None (flat_map both_ways (take l.t-index l.self.tris));
}
