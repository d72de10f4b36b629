use Rattle.std.proofs.Common.{◌≡◌, map, take}
use Rattle.mesh_edits.proofs.Entries.{keyed}
use Rattle.mesh_edits.proofs.vertices.PatchVertices.of.Given as goal

abbrev pub invariant-loop-vertex : goal.invariant-loop-vertex
invariant-loop-vertex l = l.by_name.entries ≡ map keyed (take l.vertex-index l.vertices)
