use Rattle.std.proofs.Common.{ap}
use Rattle.oemm_octree.specs.Octree.{is_inside}
use Rattle.mesh_data.specs.Edits.{is_done}
use Rattle.edit_steps.proofs.Passed.{collapse_passed_by}
use Rattle.queued_simplify.specs.Errors.{price}
use Rattle.patch_edits.specs.PatchMesh.{mesh_of}
use Rattle.mesh_edits.specs.Fragments.{Fragmented}
use Rattle.mesh_edits.specs.Simplified.{kept_of, seen_on}
use Rattle.mesh_edits.proofs.simplification.FragmentSimplifiable.collapse.Goals as goal

pub do_collapse-requires : goal.do_collapse-requires
do_collapse-requires c =
    let f = c.args.self.now in
    let u = c.args.u in
    let v = c.args.v in
    let cost = price (seen_on f.patch) u v in
    collapse_passed_by cost (is_inside f.area) (mesh_of f.patch) u v cost (ap is_done c.requires)

pub returns-clause-made : goal.returns-clause-made
returns-clause-made c = λ j. record { patch = c.do_collapse.ensures.patch j; area = c.do_collapse.ensures.area j }

pub returns-clause-rest : goal.returns-clause-rest
returns-clause-rest c = λ j. kept_of (let f : Fragmented = record { patch = c.do_collapse.ensures.patch j; area = c.do_collapse.ensures.area j } in f)
