use Rattle.std.proofs.Common.{◌∙◌, ap}
use Rattle.patch_assembly.specs.Clashes.{first_twice}
use Rattle.patch_assembly.proofs.Sorted.{twice_told}
use Rattle.leaf_export.proofs.kept.least_twice.Goals as goal

pub returns : goal.returns
returns c =
    c.first_twice.ensures
    ∙ ap first_twice c.as_slice.ensures.value
    ∙ twice_told c.args.names.now c.in_ok-sorted.sorted.items c.in_ok-sorted.ensures.moved c.in_ok-sorted.ensures.rise
