use Rattle.leaf_codec.proofs.Rising.{read_vertices_rise}
use Rattle.leaf_codec.proofs.sheet.vertices_at.Goals as goal

pub returns-clause-rise : goal.returns-clause-rise
returns-clause-rise c =
    rw c.from_vec.ensures
    (read_vertices_rise c.args.count c.args.bytes.now _ c.in_ok-vertices.rest.now
    (λ i. (c.type_inv.bytes i).fits) c.in_ok-vertices.ensures)
