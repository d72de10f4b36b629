use Rattle.std.proofs.Common.{◌∙◌}
use Rattle.patch_assembly.proofs.Sorted.{among_is}
use Rattle.patch_assembly.proofs.members.has_name.Goals as goal

pub returns : goal.returns
returns c = c.has.ensures ∙ among_is c.args.names.now c.args.v
