use Rattle.std.proofs.Common.{◌∙◌, rules, sym}
use Rattle.oemm_plane.proofs.SumsRead.{read_as}
use Rattle.queued_simplify.specs.Errors.{price}
use Rattle.mesh_edits.specs.Simplified.{seen_on}
use Rattle.mesh_edits.proofs.Seen.{price_is}
use Rattle.mesh_edits.proofs.simplification.FragmentSimplifiable.cost.Goals as goal

pub price-requires : goal.price-requires
price-requires c = c.requires.apart

pub returns : goal.returns
returns c =
    let p = c.args.self.now.patch in
    read_as c.price.result (price (seen_on p) c.args.u c.args.v) (search rules) (c.price.ensures ∙ sym (price_is p c.args.u c.args.v))
