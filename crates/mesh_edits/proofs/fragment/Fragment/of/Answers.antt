use Rattle.std.proofs.Common.{◌≡◌, ◌∙◌, All, List, ap, length, map, sym, subst}
use Rattle.std.specs.List.{list_any}
use Rattle.std.specs.List.Sorted.{IsStrictlyIncreasing}
use Rattle.mesh_data.specs.declared.geometry.Tri.{Tri}
use Rattle.mesh_data.specs.RingChanges.{IsOriented}
use Rattle.mesh_data.specs.Triangles.{IsProper, has_corner}
use Rattle.half_edge.proofs.Turned.{oriented_turned}
use Rattle.sheet_data.specs.declared.patches.Mixed.{Mixed}
use Rattle.sheet_data.specs.declared.patches.Patch.{Patch}
use Rattle.sheet_data.specs.Summed.{SummedVertex}
use Rattle.mesh_sheets.specs.Written.{patch_tris}
use Rattle.mesh_edits.specs.Fragments.{IsCounted, IsFragment, patch_by}
use Rattle.mesh_edits.proofs.Entries.{name}
use Rattle.mesh_edits.proofs.Settled.{fragment_settled, held_settled, patch_on, tris_on}
use Rattle.mesh_edits.proofs.fragment.Fragment.of.Goals as goal

pub halves_of-requires-clause-ascend : goal.halves_of-requires-clause-ascend
halves_of-requires-clause-ascend c = c.requires.formed.ascend

pub halves_of-requires-clause-proper : goal.halves_of-requires-clause-proper
halves_of-requires-clause-proper c = λ k d lt. (c.requires.formed.proper k d lt).0

pub of-requires : goal.of-requires
of-requires c = subst (λ (vs : List SummedVertex). IsStrictlyIncreasing (map name vs)) (sym c.slice.ensures) c.requires.formed.ascend

pub invariant_of-result : goal.invariant_of-result
invariant_of-result c =
    let p = c.args.patch in
    let area = c.args.area in
    let mesh = c.in_ok-halves.halves in
    let rim = c.in_ok-rim.rim in
    let vertices : c.in_ok-vertices.vertices ≡ p.vertices = c.in_ok-vertices.ensures ∙ c.slice.ensures in
    let tris = c.in_ok-halves.ensures.tris ∙ tris_on area p c.requires in
    let proper : All IsProper (patch_tris p) = λ k d lt. (c.requires.formed.proper k d lt).0 in
    let oriented : IsOriented mesh.tris = subst IsOriented (sym c.in_ok-halves.ensures.tris) (oriented_turned (patch_tris p) proper c.in_ok-halves.ensures.good.0) in
    let parts : IsFragment p.vertices mesh p.mixed rim p.near area = fragment_settled area p c.requires mesh rim tris oriented (held_settled p mesh tris c.in_ok-halves.ensures.held)
    (λ v. c.in_ok-rim.ensures v ∙ ap (λ (xs : List Mixed). list_any (λ (x : Mixed). has_corner v x.tri) xs) c.slice-2.ensures) in
    subst (λ (vs : List SummedVertex). IsCounted vs mesh p.mixed rim p.near area (length c.slice-3.result.now)) (sym vertices)
    (record {
      parts = parts;
      count = ap (λ (ts : List Tri). length ts) c.slice-3.ensures ∙ ap (λ (q : Patch). length q.whole) (sym (patch_on area p c.requires mesh.tris tris));
    })

pub returns-clause-patch : goal.returns-clause-patch
returns-clause-patch c =
    let p = c.args.patch in
    let mesh = c.in_ok-halves.halves in
    let vertices : c.in_ok-vertices.vertices ≡ p.vertices = c.in_ok-vertices.ensures ∙ c.slice.ensures in
    ap (λ (vs : List SummedVertex). patch_by vs mesh.tris p.mixed p.near) vertices
    ∙ patch_on c.args.area p c.requires mesh.tris (c.in_ok-halves.ensures.tris ∙ tris_on c.args.area p c.requires)
