use Rattle.std.proofs.Common.{rules}
use Rattle.std.proofs.lemmas.Int.{to_z-of_z}
use Rattle.std.specs.Int.{w128}
use Rattle.oemm_octree.specs.Octree.{is_inside}
use Rattle.mesh_edits.proofs.Seen.{verdict_is}
use Rattle.mesh_edits.proofs.simplification.FragmentSimplifiable.verdict.Goals as goal

pub returns : goal.returns
returns c =
    let f = c.args.self.now in
    verdict_is (is_inside f.area) f.patch c.args.u c.args.v c.args.max _ (to_z-of_z w128 c.args.max (search rules)) c.collapse_reply.result c.collapse_reply.ensures.reply
