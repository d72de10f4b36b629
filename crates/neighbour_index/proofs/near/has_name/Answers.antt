use Rattle.std.proofs.Common.{◌∙◌}
use Rattle.oemm_lists.proofs.Searches.{found_number}
use Rattle.neighbour_index.proofs.near.has_name.Goals as goal

pub returns : goal.returns
returns c =
    c.is_ok.ensures.value
    ∙ found_number c.args.names.now c.args.v c.binary_search.result c.requires c.binary_search.ensures.position
