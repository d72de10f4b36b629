use Rattle.std.proofs.Common.{◌≡◌, ◌∙◌, ap, sym, subst, List, ℕ}
use Rattle.std.specs.List.Sorted.{IsStrictlyIncreasing}
use Rattle.std.proofs.Common.{None, IfOk}
use Rattle.mesh_data.specs.declared.geometry.Tri.{Tri}
use Rattle.triangle_lists.specs.HeldAudit.{FindsHeldShape}
use Rattle.mesh_sheets.specs.Written.{patch_tris}
use Rattle.mesh_edits.specs.Faults.{names}
use Rattle.mesh_edits.proofs.made.halves_of.Goals as goal

pub of-held-requires : goal.of-held-requires
of-held-requires c =
    subst IsStrictlyIncreasing (sym (c.from_vec.ensures ∙ c.in_ok-names_of.ensures ∙ ap names c.slice.ensures)) c.requires.ascend

pub returns-clause-good : goal.returns-clause-good
returns-clause-good c =
    let tris : c.as_slice.result.now ≡ patch_tris c.args.patch.now = c.as_slice.ensures.value ∙ c.in_ok-tris.ensures in
    let held : c.of-held.result ≡ names c.args.patch.now.vertices = c.of-held.ensures ∙ c.from_vec.ensures ∙ c.in_ok-names_of.ensures ∙ ap names c.slice.ensures in
    subst (λ (q : List Tri × List ℕ). IfOk c.of_faces.result (λ m. FindsHeldShape q.0 q.1 None)) (λ j. (tris j, held j)) c.of_faces.ensures.good
