use Rattle.std.proofs.Common.{rules, ltb, leb}
use Rattle.std.proofs.lemmas.List.Sorted.{IsPartitionPoint-from_clause}
use Rattle.mesh_cutting.proofs.Together.{Below, UpTo, parted_below, parted_upto, run_by_parts}
use Rattle.mesh_cutting.proofs.runs.starting_at.Goals as goal

pub returns : goal.returns
returns c =
    let xs = c.args.corners.now in
    let v = c.args.v in
    let i = c.partition_point.result in
    let rest = c.split_at.result.1.now in
    let k = c.partition_point-2.result in
    let at : Below (λ x. x.1.a) v xs i =
    IsPartitionPoint-from_clause (λ x. ltb x.1.a v) xs i c.partition_point.ensures.partitioned
    (parted_below (λ x. x.1.a) v xs c.requires) (λ a r f called. search rules) in
    let upto : UpTo (λ x. x.1.a) v rest k =
    IsPartitionPoint-from_clause (λ x. leb x.1.a v) rest k c.partition_point-2.ensures.partitioned
    (parted_upto (λ x. x.1.a) v xs rest i c.requires c.split_at.ensures.back) (λ a r f called. search rules) in
    run_by_parts (λ x. x.1.a) v xs rest c.split_at-2.result.0.now i k at c.split_at.ensures.back upto
    c.partition_point.ensures.bound c.partition_point-2.ensures.bound c.split_at-2.ensures.front
