use Rattle.std.proofs.Common.{ltb, true, false, ◌≡◌, arith, rules}
use Rattle.std.specs.List.Sorted.{IsPartitionPoint}
use Rattle.std.proofs.lemmas.List.Sorted.{IsPartitionPoint-from_clause}
use Rattle.mesh_out.proofs.Places.{IsPartitionedBy-increasing, place_le_name, count_by_front}
use Rattle.mesh_out.proofs.positions.position_of.Goals as goal

place_is : (c : goal.After-partition_point-place) → IsPartitionPoint (λ n. ltb n c.args.v ≡ true) (λ n. ltb n c.args.v ≡ false) c.args.names.now c.partition_point-place.result
place_is c =
    rw c.slice.ensures.items at (IsPartitionPoint-from_clause (λ y. ltb y c.args.v) c.slice.result.now _ c.partition_point-place.ensures.partitioned (rw c.slice.ensures.items (IsPartitionedBy-increasing _ c.args.v c.slice.ensures.ascending)) (λ a r g called. search rules))

pub overflow_cast-result : goal.overflow_cast-result
overflow_cast-result c = omega (arith, place_le_name _ c.args.v _ c.slice.ensures.ascending (rw c.slice.ensures.items at c.partition_point-place.ensures.bound) (place_is c))

pub returns : goal.returns
returns c = count_by_front _ c.args.v _ (rw c.slice.ensures.items at c.partition_point-place.ensures.bound) (place_is c)
