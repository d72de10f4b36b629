use Rattle.std.proofs.Common.{◌≡◌, take}
use Rattle.leaf_codec.specs.Sheets.{names_of}
use Rattle.leaf_codec.proofs.vertices.name_set.Lts.Given as goal

abbrev pub invariant-loop-vertex : goal.invariant-loop-vertex
invariant-loop-vertex l = l.names.items ≡ names_of (take l.vertex-index l.vertices)
