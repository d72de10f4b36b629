use Rattle.std.proofs.Common.{◌≡◌, true, ap, sym, subst, length, ◌∙◌, List}
use Rattle.oemm_octree.specs.Octree.{is_inside}
use Rattle.mesh_data.specs.Edits.{is_free}
use Rattle.sheet_data.specs.declared.patches.Patch.{Patch}
use Rattle.sheet_data.specs.Summed.{SummedVertex}
use Rattle.patch_edits.specs.Edits.{moved_on}
use Rattle.patch_edits.specs.PatchMesh.{mesh_of}
use Rattle.mesh_edits.specs.Fragments.{Fragmented, IsCounted, patch_by}
use Rattle.mesh_edits.proofs.Done.{moved_parts, moved_patch}
use Rattle.mesh_edits.proofs.fragment.Fragment.do_move.Goals as goal

pub invariant_of-self : goal.invariant_of-self
invariant_of-self c =
    let i = c.self.inside in
    let v = c.args.v in
    let free = subst (λ (f : Fragmented). is_free (is_inside f.area) (mesh_of f.patch) v ≡ true) (sym c.self.view_is) c.requires.free in
    let lands = subst (λ (f : Fragmented). is_inside f.area c.args.to ≡ true) (sym c.self.view_is) c.requires.lands in
    subst (λ (vs : List SummedVertex). IsCounted vs i.halves i.mixed i.rim i.near i.area i.whole) (sym c.set_point.ensures)
    (record {
      parts = moved_parts i c.self.invariant.parts v c.args.to free lands;
      count = c.self.invariant.count ∙ ap (λ (q : Patch). length q.whole) (sym (moved_patch i c.self.invariant.parts v c.args.to free lands));
    })

pub returns-clause-patch : goal.returns-clause-patch
returns-clause-patch c =
    let i = c.self.inside in
    let v = c.args.v in
    let free = subst (λ (f : Fragmented). is_free (is_inside f.area) (mesh_of f.patch) v ≡ true) (sym c.self.view_is) c.requires.free in
    let lands = subst (λ (f : Fragmented). is_inside f.area c.args.to ≡ true) (sym c.self.view_is) c.requires.lands in
    ap (λ (vs : List SummedVertex). patch_by vs i.halves.tris i.mixed i.near) c.set_point.ensures
    ∙ moved_patch i c.self.invariant.parts v c.args.to free lands
    ∙ ap (λ (f : Fragmented). moved_on f.patch v c.args.to) c.self.view_is
