use Rattle.std.proofs.Common.{◌≡◌, ◌≤◌, ℕ, List, length, sym, ◌∙◌, subst, arith, Some, None, [], All}
use Rattle.oemm_limits.specs.declared.TheConstants.{MOST_ITEMS}
use Rattle.mesh_data.specs.declared.geometry.Tri.{Tri}
use Rattle.mesh_data.specs.Triangles.{IsBelow, IsProper}
use Rattle.sheet_data.specs.declared.sheets.LeafSheet.{LeafSheet}
use Rattle.sheet_forms.specs.Formed.{IsSheetOf}
use Rattle.patch_assembly.specs.Clashes.{clash_in}
use Rattle.face_audit.specs.Audit.{AuditsFaces}
use Rattle.leaf_audit.proofs.Answering.{agree, audits, below, clashes, faces_few, few_vertices, proper}
use Rattle.leaf_audit.proofs.auditing.audit.Goals as goal

pub returns-in-Some-clause-told : goal.returns-in-Some-clause-told
returns-in-Some-clause-told g c =
    let shelf = c.args.shelf.now in
    let read = c.in_ok-tally.ensures.tallies in
    let formed = subst (λ (n : ℕ). All (λ (s : LeafSheet). IsSheetOf shelf.index.cells n s.leaf s) read.0) (sym c.in_ok-tally.ensures.names) read.1.formed in
    let is : Some c.in-Some.clash ≡ clash_in read.0 [] = sym c.in-Some.is ∙ c.clash.ensures read.0 shelf.index.cells read.2 formed in
    λ m told. clashes shelf.index shelf.versions m read.0 (read.3 m told) c.in-Some.clash is

pub returns-in-Some-clause-shows : goal.returns-in-Some-clause-shows
returns-in-Some-clause-shows g c =
    let shelf = c.args.shelf.now in
    let read = c.in_ok-tally.ensures.tallies in
    let formed = subst (λ (n : ℕ). All (λ (s : LeafSheet). IsSheetOf shelf.index.cells n s.leaf s) read.0) (sym c.in_ok-tally.ensures.names) read.1.formed in
    let is : Some c.in-Some.clash ≡ clash_in read.0 [] = sym c.in-Some.is ∙ c.clash.ensures read.0 shelf.index.cells read.2 formed in
    (read.0, read.1, sym is)

pub overflow_cast-tally : goal.overflow_cast-tally
overflow_cast-tally g c =
    let shelf = c.args.shelf.now in
    let read = c.in_ok-tally.ensures.tallies in
    let few : shelf.index.vertices ≤ MOST_ITEMS = omega (arith, c.in_ok-tally.ensures.few, c.in_ok-tally.ensures.names) in
    let formed = subst (λ (n : ℕ). All (λ (s : LeafSheet). IsSheetOf shelf.index.cells n s.leaf s) read.0) (sym c.in_ok-tally.ensures.names) read.1.formed in
    let none : None ≡ clash_in read.0 [] = sym c.in_default.is ∙ c.clash.ensures read.0 shelf.index.cells read.2 formed in
    omega (arith, few_vertices shelf.index read.0 c.in_ok-tally.tally read.1 read.2 few none)

pub audit_faces-requires : goal.audit_faces-requires
audit_faces-requires g c =
    let shelf = c.args.shelf.now in
    let read = c.in_ok-tally.ensures.tallies in
    let t = c.in_ok-tally.tally in
    let few : shelf.index.vertices ≤ MOST_ITEMS = omega (arith, c.in_ok-tally.ensures.few, c.in_ok-tally.ensures.names) in
    let formed = subst (λ (n : ℕ). All (λ (s : LeafSheet). IsSheetOf shelf.index.cells n s.leaf s) read.0) (sym c.in_ok-tally.ensures.names) read.1.formed in
    let none : None ≡ clash_in read.0 [] = sym c.in_default.is ∙ c.clash.ensures read.0 shelf.index.cells read.2 formed in
    let kept = sym c.as_slice.ensures.value in
    record {
      vertices = few_vertices shelf.index read.0 t read.1 read.2 few none;
      few = subst (λ (ts : List Tri). length ts ≤ MOST_ITEMS) kept (faces_few shelf.index read.0 t read.1 read.2 few none);
      names = subst (λ (ts : List Tri). All (IsBelow MOST_ITEMS) ts) kept (below shelf.index read.0 t read.1 read.2 few none);
      proper = subst (λ (ts : List Tri). All IsProper ts) kept (proper shelf.index read.0 t read.1 read.2 few none);
    }

pub returns-in-Ok-clause-told : goal.returns-in-Ok-clause-told
returns-in-Ok-clause-told g c =
    let shelf = c.args.shelf.now in
    let read = c.in_ok-tally.ensures.tallies in
    let t = c.in_ok-tally.tally in
    let few : shelf.index.vertices ≤ MOST_ITEMS = omega (arith, c.in_ok-tally.ensures.few, c.in_ok-tally.ensures.names) in
    let formed = subst (λ (n : ℕ). All (λ (s : LeafSheet). IsSheetOf shelf.index.cells n s.leaf s) read.0) (sym c.in_ok-tally.ensures.names) read.1.formed in
    let none : None ≡ clash_in read.0 [] = sym c.in_default.is ∙ c.clash.ensures read.0 shelf.index.cells read.2 formed in
    let is = subst (λ (ts : List Tri). AuditsFaces t.vertices ts c.in-Ok.audit) c.as_slice.ensures.value c.in-Ok.ensures in
    λ m told. (
      read.0,
      agree shelf.index shelf.versions m read.0 (read.3 m told) none,
      audits shelf.index read.0 t read.1 read.2 few none c.in-Ok.audit is,
    )

pub returns-in-Ok-clause-shows : goal.returns-in-Ok-clause-shows
returns-in-Ok-clause-shows g c =
    let shelf = c.args.shelf.now in
    let read = c.in_ok-tally.ensures.tallies in
    let t = c.in_ok-tally.tally in
    let few : shelf.index.vertices ≤ MOST_ITEMS = omega (arith, c.in_ok-tally.ensures.few, c.in_ok-tally.ensures.names) in
    let formed = subst (λ (n : ℕ). All (λ (s : LeafSheet). IsSheetOf shelf.index.cells n s.leaf s) read.0) (sym c.in_ok-tally.ensures.names) read.1.formed in
    let none : None ≡ clash_in read.0 [] = sym c.in_default.is ∙ c.clash.ensures read.0 shelf.index.cells read.2 formed in
    let is = subst (λ (ts : List Tri). AuditsFaces t.vertices ts c.in-Ok.audit) c.as_slice.ensures.value c.in-Ok.ensures in
    (read.0, read.1, sym none, audits shelf.index read.0 t read.1 read.2 few none c.in-Ok.audit is)
