use Rattle.std.proofs.Common.{◌≡◌, ◌++◌}
use Rattle.mesh_edits.proofs.vertices.PatchVertices.to_list.Given as goal

abbrev pub invariant-loop-vertex : goal.invariant-loop-vertex
invariant-loop-vertex l = record {
  can : (goal.iterator-loop-vertex).can_next l.vertex-iterator;
  ends : (goal.iterator-loop-vertex).is_finite l.vertex-iterator;
  told : l.vertices.items ++ l.vertex-iterator ≡ l.self;
}
