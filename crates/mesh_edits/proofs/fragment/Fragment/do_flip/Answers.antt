use Rattle.std.proofs.Common.{ℕ, ap, arith, sym, subst, length, ◌∙◌}
use Rattle.oemm_octree.specs.Octree.{is_inside}
use Rattle.edit_steps.specs.Passed.{FlipPassed}
use Rattle.sheet_data.specs.declared.patches.Patch.{Patch}
use Rattle.patch_edits.specs.Edits.{flipped_on}
use Rattle.patch_edits.specs.PatchMesh.{mesh_of}
use Rattle.mesh_edits.specs.Fragments.{Fragmented}
use Rattle.mesh_edits.proofs.Done.{flip_a, flip_b, flip_ends, flipped_parts, flipped_patch, may_turn, no_fewer}
use Rattle.mesh_edits.proofs.fragment.Fragment.do_flip.Goals as goal

abbrev Passed : ℕ → ℕ → Fragmented → Type 0
Passed a b f = FlipPassed (is_inside f.area) (mesh_of f.patch) a b

pub flip-requires-clause-a_held : goal.flip-requires-clause-a_held
flip-requires-clause-a_held c = flip_a c.self.inside c.self.invariant.parts c.args.a c.args.b (subst (Passed c.args.a c.args.b) (sym c.self.view_is) c.requires)

pub flip-requires-clause-b_held : goal.flip-requires-clause-b_held
flip-requires-clause-b_held c = flip_b c.self.inside c.self.invariant.parts c.args.a c.args.b (subst (Passed c.args.a c.args.b) (sym c.self.view_is) c.requires)

pub flip-requires-clause-may : goal.flip-requires-clause-may
flip-requires-clause-may c = may_turn c.self.inside c.self.invariant.parts c.args.a c.args.b (subst (Passed c.args.a c.args.b) (sym c.self.view_is) c.requires)

pub invariant_of-self : goal.invariant_of-self
invariant_of-self c =
    let passed = subst (Passed c.args.a c.args.b) (sym c.self.view_is) c.requires in
    let faces = c.flip.ensures.faces passed.c passed.d (flip_ends c.self.inside c.self.invariant.parts c.args.a c.args.b passed) in
    record {
      parts = flipped_parts c.self.inside c.self.invariant.parts c.args.a c.args.b passed c.flip.new.self faces c.flip.ensures.held;
      count = omega (
        arith,
        c.self.invariant.count,
        no_fewer c.self.inside c.self.invariant.parts c.args.a c.args.b passed,
        ap (λ (q : Patch). length q.whole) (flipped_patch c.self.inside c.self.invariant.parts c.args.a c.args.b passed c.flip.new.self faces c.flip.ensures.held),
      );
    }

pub returns-clause-patch : goal.returns-clause-patch
returns-clause-patch c =
    let passed = subst (Passed c.args.a c.args.b) (sym c.self.view_is) c.requires in
    flipped_patch c.self.inside c.self.invariant.parts c.args.a c.args.b passed c.flip.new.self (c.flip.ensures.faces passed.c passed.d (flip_ends c.self.inside c.self.invariant.parts c.args.a c.args.b passed)) c.flip.ensures.held
    ∙ ap (λ (f : Fragmented). flipped_on f.patch c.args.a c.args.b) c.self.view_is
