-- What is answered of the sheets that were read.
use Rattle.std.proofs.Common.{◌≡◌, ℕ, ◌<◌, ◌≤◌, List, [], true, length, get_or, sym, ap, ◌∙◌, subst, arith, Option, Some, None, Result, Ok, Err}
use Rattle.std.specs.List.{All, list_any}
use Rattle.oemm_limits.specs.declared.TheConstants.{MOST_ITEMS}
use Rattle.mesh_data.specs.declared.geometry.Tri.{Tri}
use Rattle.mesh_data.specs.declared.shapes.Audit.{Audit}
use Rattle.mesh_data.specs.Triangles.{IsBelow, IsProper, corners, turned}
use Rattle.sheet_data.specs.declared.index.IndexSheet.{IndexSheet}
use Rattle.sheet_data.specs.declared.sheets.LeafSheet.{LeafSheet}
use Rattle.oemm_blobs.specs.Content.{Content}
use Rattle.mesh_sheets.specs.Assembled.{has_name}
use Rattle.mesh_sheets.specs.Export.{all_leaves}
use Rattle.patch_assembly.specs.Clashes.{clash_in, names_in, unless}
use Rattle.patch_assembly.specs.declared.clash.Clash.{Clash}
use Rattle.patch_assembly.proofs.Agrees.{agrees, twice_none}
use Rattle.face_audit.specs.Audit.{AuditsFaces}
use Rattle.oemm_shelf.specs.Readings.{◌>>=◌, Answers, current_sheets, or_clash}
use Rattle.oemm_shelf.specs.Shown.{ShowsLeaf}
use Rattle.oemm_shelf.specs.declared.fault.ShelfFault.{ShelfFault}
use Rattle.oemm_shelf.specs.declared.fault.ShelfFault.TheVariants as fault
use Rattle.leaf_audit.specs.Audits.{AreOfAll, AuditsAll, AuditsSheets, ShowsAudit, agreed_sheets, all_faces}
use Rattle.leaf_audit.specs.Tallies.{Tallies}
use Rattle.leaf_audit.specs.declared.tally.Tally.{Tally}
use Rattle.leaf_audit.proofs.Clashing.{faces_are, of_sheets, vertices_few}

-- ---- a leaf's fault

abbrev then_agreed : Result (List LeafSheet) ShelfFault → Result (List LeafSheet) ShelfFault
then_agreed want = want >>= (λ sheets. or_clash (unless sheets (clash_in sheets [])))

pub not_read : (why : ShelfFault) (want : Result (List LeafSheet) ShelfFault) → Answers {T = List LeafSheet} (Err why) want
    → AuditsSheets (Err why) (want >>= (λ sheets. or_clash (unless sheets (clash_in sheets []))))
not_read fault.Store want is = tt
not_read fault.Memory want is = tt
not_read (fault.Damaged key bytes) want is = ap then_agreed is
not_read (fault.Absent key) want is = ap then_agreed is
not_read (fault.Clash clash) want is = ap then_agreed is

pub leaf_shown : (i : IndexSheet) (versions : List ℕ) (why : ShelfFault) → ShowsLeaf i versions why → ShowsAudit i versions (Err why)
leaf_shown i versions (fault.Damaged key bytes) shows = shows
leaf_shown i versions (fault.Absent key) shows = shows
leaf_shown i versions (fault.Clash clash) shows = absurd shows
leaf_shown i versions fault.Store shows = tt
leaf_shown i versions fault.Memory shows = tt

-- ---- sheets of all leaves

module _ (i : IndexSheet) (versions : List ℕ) (m : Content) (sheets : List LeafSheet)
    (read : current_sheets i versions m (all_leaves i.cells) ≡ Ok sheets) where
  pub clashes : (clash : Clash) → Some clash ≡ clash_in sheets [] → agreed_sheets i versions m ≡ Err (fault.Clash clash)
  clashes clash is = ap then_agreed read ∙ ap (λ (o : Option Clash). or_clash (unless sheets o)) (sym is)

  pub agree : None ≡ clash_in sheets [] → agreed_sheets i versions m ≡ Ok sheets
  agree is = ap then_agreed read ∙ ap (λ (o : Option Clash). or_clash (unless sheets o)) (sym is)

each_corner : (n : ℕ) (t : Tri) → All (λ v. v < n) (corners t) → n ≤ MOST_ITEMS → IsBelow MOST_ITEMS t
each_corner n t below few =
    let a : t.a < n = below 0 0 (omega arith) in
    let b : t.b < n = below 1 0 (omega arith) in
    let c : t.c < n = below 2 0 (omega arith) in
    (omega (arith, a, few), omega (arith, b, few), omega (arith, c, few))

each_weaker : {X : Type 0} (P Q : X → Type 0) → ((x : X) → P x → Q x) → (xs : List X) → All P xs → All Q xs
each_weaker P Q h xs all = λ k d lt. h (get_or xs k d) (all k d lt)

module _ (i : IndexSheet) (sheets : List LeafSheet) (t : Tally) (all : AreOfAll i sheets) (tallies : Tallies sheets t)
    (few : i.vertices ≤ MOST_ITEMS) (none : None ≡ clash_in sheets []) where
  pub count_few : t.count ≤ MOST_ITEMS
  count_few = let agreed = (agrees sheets []).0 (sym none) in omega (arith, agreed.few, faces_are sheets, tallies.count)

  pub kept : t.faces.items ≡ all_faces sheets
  kept = tallies.faces count_few

  pub faces_few : length t.faces.items ≤ MOST_ITEMS
  faces_few = subst (λ (ts : List Tri). length ts ≤ MOST_ITEMS) (sym kept) (omega (arith, count_few, tallies.count))

  pub few_vertices : t.vertices ≤ MOST_ITEMS
  few_vertices =
      let once = twice_none (names_in sheets) ((agrees sheets []).0 (sym none)).once in
      let le = vertices_few sheets i.cells i.vertices all.formed few once in
      omega (arith, le, few, tallies.vertices)

  pub below : All (IsBelow MOST_ITEMS) t.faces.items
  below =
      subst (λ (ts : List Tri). All (IsBelow MOST_ITEMS) ts) (sym kept)
      (of_sheets i.cells i.vertices (λ (s : LeafSheet). s.faces) (IsBelow MOST_ITEMS)
      (λ leaf s is. each_weaker (λ (t : Tri). All (λ v. v < i.vertices) (corners t)) (IsBelow MOST_ITEMS)
      (λ t h. each_corner i.vertices t h few) s.faces is.face_names) sheets all.formed)

  pub proper : All IsProper t.faces.items
  proper =
      subst (λ (ts : List Tri). All IsProper ts) (sym kept)
      (of_sheets i.cells i.vertices (λ (s : LeafSheet). s.faces) IsProper
      (λ leaf s is. each_weaker (λ t. IsProper t × (turned t ≡ t) × (list_any (has_name s.vertices) (corners t) ≡ true)) IsProper
      (λ t h. h.0) s.faces is.faces) sheets all.formed)

  pub audits : (a : Audit) → AuditsFaces t.vertices t.faces.items a → AuditsAll sheets a
  audits a is =
      subst (λ (n : ℕ). AuditsFaces n (all_faces sheets) a) tallies.vertices
      (subst (λ (ts : List Tri). AuditsFaces t.vertices ts a) kept is)
