use Rattle.std.proofs.Common.{◌∙◌, length, sym, subst}
use Rattle.std.specs.List.{All}
use Rattle.mesh_data.specs.Triangles.{IsBelow}
use Rattle.mesh_out.proofs.Places.{all_within}
use Rattle.mesh_out.proofs.positions.renumber.Goals as goal

pub returns-clause-within : goal.returns-clause-within
returns-clause-within c = λ named.
    subst (All (IsBelow (length c.args.names.now))) (sym (c.from_vec.ensures ∙ c.in_ok-renumber_all.ensures))
    (all_within c.args.names.now c.args.tris.now named)
