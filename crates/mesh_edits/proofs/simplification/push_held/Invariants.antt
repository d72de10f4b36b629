use Rattle.std.proofs.Common.{◌≡◌, ◌++◌, filter, take}
use Rattle.mesh_sheets.specs.Assembled.{has_name}
use Rattle.mesh_edits.proofs.simplification.push_held.Given as goal

abbrev pub invariant-loop-name : goal.invariant-loop-name
invariant-loop-name l = l.names.items ≡ l.fn.names.items ++ filter (has_name l.vertices) (take l.name-index l.near)
