use Rattle.leaf_codec.proofs.Rising.{read_leaves_rise}
use Rattle.leaf_codec.proofs.leaves.leaves_at.Goals as goal

pub of-requires : goal.of-requires
of-requires c =
    rw c.from_vec.ensures
    (read_leaves_rise c.args.out c.args.count c.args.bytes.now _ c.in_ok-leaves.rest.now
    (λ i. (c.type_inv.bytes i).fits) c.in_ok-leaves.ensures)
