use Rattle.std.proofs.Common.{ℕ, ℤ, List, rules, subst}
use Rattle.std.proofs.lemmas.Int.{to_z-of_z}
use Rattle.std.specs.Int.{w128}
use Rattle.oemm_octree.specs.Octree.{is_inside}
use Rattle.mesh_data.specs.declared.edits.Step.{Step}
use Rattle.queued_simplify.specs.LeastSteps.{AreLeastStepsBy}
use Rattle.mesh_edits.specs.Fragments.{Fragmented}
use Rattle.mesh_edits.specs.Simplified.{seen_on}
use Rattle.mesh_edits.proofs.Counts.{few_tris}
use Rattle.mesh_edits.proofs.Simplifies.{in_order_on, patch_left, reply_left}
use Rattle.mesh_edits.proofs.fragment.Fragment.edit_simplify.Goals as goal

abbrev Least : Fragmented → ℕ → List Step → ℤ → Type 0
Least f target steps most = AreLeastStepsBy (is_inside f.area) (seen_on f.patch) most target steps

pub simplify-requires-clause-order : goal.simplify-requires-clause-order
simplify-requires-clause-order c = in_order_on c.args.self.now.area c.args.self.now.patch c.in_ok-parts.ensures.formed

pub simplify-requires-clause-few : goal.simplify-requires-clause-few
simplify-requires-clause-few c = few_tris c.args.self.now.area c.args.self.now.patch c.in_ok-parts.ensures.formed

pub returns-in-Ok-clause-patch : goal.returns-in-Ok-clause-patch
returns-in-Ok-clause-patch c =
    let f = c.args.self.now in
    let least = subst (Least f c.args.target c.in-Ok.steps) (to_z-of_z w128 c.args.max (search rules)) c.in-Ok.ensures.steps in
    patch_left f c.simplify.new.mesh c.in_ok-parts.ensures.formed c.args.max c.args.target c.in-Ok.steps least c.in-Ok.ensures.made

pub returns-in-Ok-clause-reply : goal.returns-in-Ok-clause-reply
returns-in-Ok-clause-reply c =
    let f = c.args.self.now in
    let least = subst (Least f c.args.target c.in-Ok.steps) (to_z-of_z w128 c.args.max (search rules)) c.in-Ok.ensures.steps in
    reply_left f c.simplify.new.mesh c.in_ok-parts.ensures.formed c.args.max c.args.target c.in-Ok.steps least c.in-Ok.ensures.made c.whole_left.result c.whole_left.ensures
