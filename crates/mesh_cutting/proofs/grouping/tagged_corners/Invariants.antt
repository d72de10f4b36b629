use Rattle.std.proofs.Common.{◌≡◌, take}
use Rattle.std.specs.List.{flat_map}
use Rattle.std.specs.Prelude.{slice_index_or}
use Rattle.mesh_data.specs.Rings.{from_each_corner}
use Rattle.mesh_cutting.specs.Cuts.{tagged}
use Rattle.mesh_cutting.proofs.grouping.tagged_corners.Given as goal

abbrev pub invariant-loop-t : goal.invariant-loop-t
invariant-loop-t l =
    l.corners.items ≡ flat_map (λ t. tagged (λ s. slice_index_or l.homes s.a l.none) (from_each_corner t)) (take l.t-index l.tris)
