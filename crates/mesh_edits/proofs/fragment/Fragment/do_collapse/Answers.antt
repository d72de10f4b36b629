use Rattle.std.proofs.Common.{ℕ, ◌-◌, ap, arith, sym, subst, length, ◌∙◌, List}
use Rattle.oemm_octree.specs.Octree.{is_inside}
use Rattle.edit_steps.specs.Passed.{CollapsePassed}
use Rattle.sheet_data.specs.declared.patches.Patch.{Patch}
use Rattle.sheet_data.specs.Summed.{SummedVertex}
use Rattle.patch_edits.specs.Edits.{collapsed_on}
use Rattle.patch_edits.specs.PatchMesh.{mesh_of}
use Rattle.mesh_edits.specs.Fragments.{Fragmented, IsCounted, patch_by}
use Rattle.mesh_edits.proofs.Done.{collapse_few, collapse_u, collapse_v, collapsed_parts, collapsed_patch, fewer, may_collapse}
use Rattle.mesh_edits.specs.Simplified.{seen_on}
use Rattle.mesh_edits.proofs.Parts.{on_now}
use Rattle.mesh_edits.proofs.Seen.{seen_then}
use Rattle.mesh_edits.proofs.fragment.Fragment.do_collapse.Goals as goal

abbrev Passed : ℕ → ℕ → Fragmented → Type 0
Passed u v f = CollapsePassed (is_inside f.area) (mesh_of f.patch) u v

pub collapse-requires-clause-u_held : goal.collapse-requires-clause-u_held
collapse-requires-clause-u_held c = collapse_u c.self.inside c.self.invariant.parts c.args.u c.args.v (subst (Passed c.args.u c.args.v) (sym c.self.view_is) c.requires)

pub collapse-requires-clause-v_held : goal.collapse-requires-clause-v_held
collapse-requires-clause-v_held c = collapse_v c.self.inside c.self.invariant.parts c.args.u c.args.v (subst (Passed c.args.u c.args.v) (sym c.self.view_is) c.requires)

pub collapse-requires-clause-may : goal.collapse-requires-clause-may
collapse-requires-clause-may c = may_collapse c.self.inside c.self.invariant.parts c.args.u c.args.v (subst (Passed c.args.u c.args.v) (sym c.self.view_is) c.requires)

pub take_over-requires : goal.take_over-requires
take_over-requires c = collapse_few c.self.inside c.self.invariant.parts c.args.u c.args.v (subst (Passed c.args.u c.args.v) (sym c.self.view_is) c.requires)

pub invariant_of-self : goal.invariant_of-self
invariant_of-self c =
    let i = c.self.inside in
    let passed = subst (Passed c.args.u c.args.v) (sym c.self.view_is) c.requires in
    subst (λ (vs : List SummedVertex). IsCounted vs c.collapse.new.self i.mixed i.rim i.near i.area (i.whole - 2)) (sym c.take_over.ensures)
    (record {
      parts = collapsed_parts i c.self.invariant.parts c.args.u c.args.v passed c.collapse.new.self c.collapse.ensures.faces c.collapse.ensures.held;
      count = omega (
        arith,
        c.self.invariant.count,
        fewer i c.self.invariant.parts c.args.u c.args.v passed,
        ap (λ (q : Patch). length q.whole) (collapsed_patch i c.self.invariant.parts c.args.u c.args.v passed c.collapse.new.self c.collapse.ensures.faces c.collapse.ensures.held),
      );
    })

pub returns-clause-patch : goal.returns-clause-patch
returns-clause-patch c =
    let i = c.self.inside in
    ap (λ (vs : List SummedVertex). patch_by vs c.collapse.new.self.tris i.mixed i.near) c.take_over.ensures
    ∙ collapsed_patch i c.self.invariant.parts c.args.u c.args.v (subst (Passed c.args.u c.args.v) (sym c.self.view_is) c.requires) c.collapse.new.self c.collapse.ensures.faces c.collapse.ensures.held
    ∙ ap (λ (f : Fragmented). collapsed_on f.patch c.args.u c.args.v) c.self.view_is

pub overflow_sub-self : goal.overflow_sub-self
overflow_sub-self c =
    omega (arith, c.self.invariant.count, fewer c.self.inside c.self.invariant.parts c.args.u c.args.v (subst (Passed c.args.u c.args.v) (sym c.self.view_is) c.requires))

pub returns-clause-seen : goal.returns-clause-seen
returns-clause-seen c =
    let now = c.args.self.now in
    ap (λ (q : Patch). seen_on q) (returns-clause-patch c)
    ∙ seen_then now.area now.patch (on_now c.self.inside c.self.invariant.parts now c.self.view_is) c.args.u c.args.v c.requires
