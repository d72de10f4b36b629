use Rattle.std.proofs.Common.{◌≡◌, take}
use Rattle.std.specs.List.{filter, flat_map}
use Rattle.mesh_data.specs.Triangles.{corners}
use Rattle.frozen_rim.specs.Free.{is_mixed}
use Rattle.frozen_rim.proofs.free.mixed_corners.Given as goal

abbrev pub invariant-loop-t : goal.invariant-loop-t
invariant-loop-t l = l.names.items ≡ flat_map corners (filter (is_mixed l.held) (take l.t-index l.faces))
