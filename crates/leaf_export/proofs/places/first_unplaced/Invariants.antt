use Rattle.std.proofs.Common.{◌≡◌, flat_map, take, None}
use Rattle.std.specs.List.{find}
use Rattle.mesh_data.specs.Triangles.{corners}
use Rattle.leaf_export.specs.Tables.{lacks}
use Rattle.leaf_export.proofs.places.first_unplaced.Given as goal

abbrev pub invariant-loop-t : goal.invariant-loop-t
invariant-loop-t l = find (lacks l.table) (flat_map corners (take l.t-index l.faces)) ≡ None
