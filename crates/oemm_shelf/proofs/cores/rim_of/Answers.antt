use Rattle.std.proofs.Common.{length}
use Rattle.std.proofs.lemmas.List.Elements.{recursion_from_All}
use Rattle.oemm_octree.specs.Leaves.{AreBelow}
use Rattle.oemm_shelf.proofs.Several.{rim_is}
use Rattle.oemm_shelf.proofs.cores.rim_of.Goals as goal

pub returns : goal.returns
returns c =
    rim_is c.args.index.now.cells c.args.core.now c.args.inner.now c.in_ok-named_outside.field-0.items c.set_of-rim.result
    (recursion_from_All (λ s. AreBelow (length c.args.index.now.cells) s.near) c.args.inner.now c.requires)
    c.in_ok-named_outside.ensures c.set_of-rim.ensures c.slice-ascending.ensures.ascending
