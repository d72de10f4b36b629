use Rattle.std.proofs.Common.{◌≡◌, take}
use Rattle.std.specs.List.{filter, flat_map}
use Rattle.mesh_data.specs.Triangles.{corners}
use Rattle.neighbour_index.proofs.Members.{touches}
use Rattle.neighbour_index.proofs.near.shared_with.Given as goal

abbrev pub invariant-loop-t : goal.invariant-loop-t
invariant-loop-t l = l.shared.items ≡ flat_map corners (filter (touches l.names) (take l.t-index l.faces))
