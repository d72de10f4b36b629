-- The audit of a sound store.
use Rattle.std.proofs.Common.{◌≡◌, ℕ, true, eqb, List, [], ◌∷◌, ◌++◌, length, map, flat_map, refl, sym, ap, ◌∙◌, subst, arith, append-nil, Option, None, Result, Ok, Err}
use Rattle.std.specs.Prelude.{◌↔◌}
use Rattle.std.specs.FinMap as finite
use Rattle.std.specs.Cmp.{nat_cmp_total}
use Rattle.std.specs.List.{range_with_len}
use Rattle.std.specs.List.Sorted.{IsNonDecreasingBy, IsPermutation}
use Rattle.std.specs.Ordering.{nat_cmp, on}
use Rattle.std.proofs.lemmas.Bool.{or_right}
use Rattle.std.proofs.lemmas.Cmp.{on_total}
use Rattle.std.proofs.lemmas.List.{length-map}
use Rattle.std.proofs.lemmas.List.Sorted.{IsNonDecreasingBy-from_sort, length_permutation}
use Rattle.oemm_lists.specs.Ascending.{in_order}
use Rattle.oemm_octree.specs.Leaves.{AreBelow, is_one_of}
use Rattle.oemm_octree.proofs.Weights.{is_one_of-head}
use Rattle.mesh_data.specs.declared.edits.Entry.{Entry}
use Rattle.mesh_data.specs.declared.geometry.Tri.{Tri}
use Rattle.mesh_data.specs.declared.shapes.Audit.{Audit}
use Rattle.mesh_data.specs.Manifold.{Audits}
use Rattle.mesh_data.specs.Mesh.{Mesh}
use Rattle.mesh_data.specs.Triangles.{tri_cmp}
use Rattle.triangle_lists.proofs.Sorting.{IsPermutation-in_order, IsSorted-in_order}
use Rattle.sheet_data.specs.Summed.{SummedVertex}
use Rattle.sheet_data.specs.declared.sheets.LeafSheet.{LeafSheet}
use Rattle.mesh_sheets.specs.Assembled.{by_name}
use Rattle.mesh_sheets.specs.Export.{all_leaves, tris_by_keeper, vertices_by_home}
use Rattle.mesh_sheets.specs.Sheets.{sheet, summed}
use Rattle.mesh_sheets.proofs.Everything.{all_tris, all_vertices}
use Rattle.mesh_sheets.proofs.Filters.{AreDistinct, filter_all}
use Rattle.mesh_sheets.proofs.Rims.{distinct_range, range_below}
use Rattle.sheet_forms.specs.Formed.{AreAgreed}
use Rattle.sheet_forms.specs.Storable.{IsStorable}
use Rattle.sheet_forms.proofs.Storable.{storable_agree}
use Rattle.oemm_blobs.specs.Content.{Content, blob_at}
use Rattle.stored_mesh.specs.Stored.{Base, mesh_of}
use Rattle.stored_mesh.proofs.Sounds.{sound_storable}
use Rattle.store_spelling.specs.Spelled.{store_spelling}
use Rattle.patch_assembly.specs.Clashes.{clash_in, names_in, unless}
use Rattle.patch_assembly.proofs.Agrees.{agrees, twice_none}
use Rattle.patch_assembly.proofs.Vertices.{first_is, name, vertices_are}
use Rattle.patch_assembly.specs.declared.clash.Clash.{Clash}
use Rattle.face_audit.specs.Audit.{AuditsFaces}
use Rattle.face_audit.proofs.SameAudit.{audit_of_mesh}
use Rattle.oemm_shelf.specs.Readings.{◌>>=◌, current_sheets, or_clash}
use Rattle.oemm_shelf.specs.Shelves.{IsOver}
use Rattle.oemm_shelf.specs.declared.fault.ShelfFault.{ShelfFault}
use Rattle.oemm_shelf.proofs.Sound.{sheet_sound}
use Rattle.leaf_audit.specs.Audits.{AuditsAll, AuditsSheets, agreed_sheets, all_faces, vertices_in}

flat_of_map : {X Y Z : Type 0} (f : Y → List Z) (g : X → Y) (xs : List X) → flat_map f (map g xs) ≡ flat_map (λ x. f (g x)) xs
flat_of_map f g [] = refl
flat_of_map f g (x ∷ xs) = ap (λ zs. f (g x) ++ zs) (flat_of_map f g xs)

-- ---- all leaves

all_distinct : (n : ℕ) → AreDistinct (range_with_len 0 n ++ [])
all_distinct n =
    subst AreDistinct (filter_all (range_with_len 0 n) ∙ sym (append-nil (range_with_len 0 n))) (distinct_range (λ _. true) 0 n)

all_below : (n : ℕ) → AreBelow n (range_with_len 0 n)
all_below n l on =
    let lt = range_below (λ _. true) l 0 n (ap (λ (ls : List ℕ). is_one_of ls l) (filter_all (range_with_len 0 n)) ∙ on) in
    omega (arith, lt)

-- ---- the sheets of a mesh

module _ (b : Base) (m : Mesh) (good : IsStorable b.index.cells (length b.soup.points) m) where
  abbrev pub inner : List LeafSheet
  inner = map (sheet b.index.cells m) (all_leaves b.index.cells)

  agreed : AreAgreed inner []
  agreed =
      storable_agree b.index.cells (length b.soup.points) m (all_leaves b.index.cells) [] good
      (all_distinct (length b.index.cells))

  no_clash : clash_in inner [] ≡ None
  no_clash = (agrees inner []).1 agreed

  faces_are : all_faces inner ≡ tris_by_keeper b.index.cells m
  unfolding sheet
  faces_are = flat_of_map (λ (s : LeafSheet). s.faces) (sheet b.index.cells m) (all_leaves b.index.cells)

  vertices_by : flat_map (λ (s : LeafSheet). s.vertices) inner ≡ vertices_by_home b.index.cells m
  unfolding sheet
  vertices_by = flat_of_map (λ (s : LeafSheet). s.vertices) (sheet b.index.cells m) (all_leaves b.index.cells)

  faces_moved : IsPermutation (all_faces inner) m.tris
  faces_moved =
      subst (λ (ts : List Tri). IsPermutation ts m.tris) (sym faces_are)
      (subst (IsPermutation (tris_by_keeper b.index.cells m)) (all_tris b.index.cells m good.clean good.homed)
      (IsPermutation-in_order tri_cmp (tris_by_keeper b.index.cells m)))

  abbrev all : List SummedVertex
  all = flat_map (λ (s : LeafSheet). s.vertices) inner

  vertices_counted : vertices_in inner ≡ finite.len m.vertices
  vertices_counted =
      let vs = in_order (on name nat_cmp) all in
      let moved : IsPermutation all vs = IsPermutation-in_order (on name nat_cmp) all in
      let up : IsNonDecreasingBy name vs = IsNonDecreasingBy-from_sort name vs (IsSorted-in_order (on_total name nat_cmp_total) all) in
      let none = first_is inner vs (map name vs) moved up refl ∙ twice_none (names_in inner) agreed.once in
      let are : vs ≡ by_name all = vertices_are inner vs (map name vs) moved up refl none in
      let listed : by_name all ≡ map summed (finite.entries m.vertices) =
      ap by_name vertices_by ∙ all_vertices b.index.cells m good.homed in
      sym (length_permutation all vs moved)
      ∙ ap (λ (xs : List SummedVertex). length xs) (are ∙ listed)
      ∙ length-map (finite.entries m.vertices) summed
      ∙ sym (finite.len-entries m.vertices)

  pub audits_mesh : (a : Audit) → AuditsAll inner a ↔ Audits m a
  audits_mesh a =
      let both = audit_of_mesh m (all_faces inner) a good.clean.corners faces_moved in (
        λ is. both.0 (subst (λ (n : ℕ). AuditsFaces n (all_faces inner) a) vertices_counted is),
        λ is. subst (λ (n : ℕ). AuditsFaces n (all_faces inner) a) (sym vertices_counted) (both.1 is),
      )

-- ---- a sound store

abbrev sheets_or : List LeafSheet → Result (List LeafSheet) ShelfFault → List LeafSheet
sheets_or others (Ok sheets) = sheets
sheets_or others (Err why) = others

module _ (b : Base) (journal : List Entry) (m : Content) (versions : List ℕ) (over : IsOver b.index versions m b journal) where
  good : IsStorable b.index.cells (length b.soup.points) (mesh_of b journal)
  good = sound_storable store_spelling (blob_at m) b journal over.sound

  sheets_sound : (leaves : List ℕ) → AreBelow (length b.index.cells) leaves
      → current_sheets b.index versions m leaves ≡ Ok (map (sheet b.index.cells (mesh_of b journal)) leaves)
  sheets_sound [] below = refl
  sheets_sound (leaf ∷ leaves) below =
      let first = sheet_sound b journal m versions over leaf (below leaf (is_one_of-head leaf leaves)) in
      let rest = sheets_sound leaves (λ k on. below k (or_right (eqb k leaf) (is_one_of leaves k) on)) in
      λ j. first j >>= (λ s. rest j >>= (λ sheets. Ok (s ∷ sheets)))

  pub sheets_are : agreed_sheets b.index versions m
      ≡ Ok (map (sheet b.index.cells (mesh_of b journal)) (all_leaves b.index.cells))
  sheets_are =
      let inner = map (sheet b.index.cells (mesh_of b journal)) (all_leaves b.index.cells) in
      (λ j. sheets_sound (all_leaves b.index.cells) (all_below (length b.index.cells)) j
      >>= (λ sheets. or_clash (unless sheets (clash_in sheets []))))
      ∙ ap (λ (o : Option Clash). or_clash (unless inner o)) (no_clash b (mesh_of b journal) good)

  pub audit_is : (a : Audit) → AuditsSheets (Ok a) (agreed_sheets b.index versions m) ↔ Audits (mesh_of b journal) a
  audit_is a =
      let inner = map (sheet b.index.cells (mesh_of b journal)) (all_leaves b.index.cells) in
      let both = audits_mesh b (mesh_of b journal) good a in (
        λ h.
            let same : inner ≡ h.0 = ap (sheets_or inner) (sym sheets_are ∙ h.1) in
            both.0 (subst (λ (sheets : List LeafSheet). AuditsAll sheets a) (sym same) h.2),
        λ is. (inner, sheets_are, both.1 is),
      )
