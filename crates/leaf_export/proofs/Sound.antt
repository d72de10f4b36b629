-- The file of a sound store.
use Rattle.std.proofs.Common.{◌≡◌, ℕ, Bool, true, false, not, cond, eqb, List, [], ◌∷◌, ◌++◌, length, map, flat_map, refl, sym, ap, ◌∙◌, subst, arith, append-nil, Some, None, Result, Ok, Err}
use Rattle.std.specs.List.{AllByRecursion, Contains, find, range_with_len}
use Rattle.std.proofs.lemmas.Bool.{eq-eqb, or_right}
use Rattle.std.proofs.lemmas.List.Elements.{recursion_from_All}
use Rattle.std.proofs.lemmas.List.Folds.{list_any_at}
use Rattle.fault_counts.specs.Told.{Puts, PutsPrefix, Told}
use Rattle.oemm_octree.specs.Leaves.{AreBelow, is_one_of}
use Rattle.oemm_octree.proofs.Weights.{is_one_of-head}
use Rattle.mesh_data.specs.declared.edits.Entry.{Entry}
use Rattle.mesh_data.specs.declared.geometry.Tri.{Tri}
use Rattle.mesh_data.specs.Mesh.{Mesh}
use Rattle.mesh_data.specs.Triangles.{corners}
use Rattle.mesh_out.specs.MeshBytes.{IsNamedBy}
use Rattle.mesh_out.specs.declared.form.Form.{Form}
use Rattle.mesh_out.specs.Form.{form_text}
use Rattle.sheet_data.specs.declared.sheets.LeafSheet.{LeafSheet}
use Rattle.mesh_sheets.specs.Export.{all_leaves, tris_by_keeper, vertices_by_home}
use Rattle.mesh_sheets.specs.Sheets.{sheet}
use Rattle.mesh_sheets.proofs.Filters.{AreDistinct, filter_all}
use Rattle.mesh_sheets.proofs.Rims.{distinct_range, range_below}
use Rattle.sheet_forms.specs.Formed.{AreAgreed}
use Rattle.sheet_forms.specs.Storable.{IsStorable}
use Rattle.sheet_forms.proofs.Storable.{storable_agree}
use Rattle.oemm_blobs.specs.Content.{Content, blob_at}
use Rattle.oemm_blobs.specs.declared.keys.Key.{Key}
use Rattle.patch_assembly.specs.declared.clash.Clash.{Clash}
use Rattle.stored_mesh.specs.Stored.{Base, mesh_of}
use Rattle.stored_mesh.proofs.Sounds.{sound_storable}
use Rattle.store_spelling.specs.Spelled.{store_spelling}
use Rattle.patch_assembly.specs.Clashes.{clash_in, names_in}
use Rattle.patch_assembly.proofs.Agrees as patches
use Rattle.oemm_shelf.specs.Readings.{◌>>=◌, current_sheets, or_clash}
use Rattle.oemm_shelf.specs.Shelves.{IsOver}
use Rattle.oemm_shelf.specs.declared.fault.ShelfFault.{ShelfFault}
use Rattle.oemm_shelf.specs.declared.fault.ShelfFault.TheVariants as fault
use Rattle.oemm_shelf.proofs.Sound.{sheet_sound}
use Rattle.leaf_export.specs.Exported.{Exports, ExportsBytes, GivesParts, stored_parts}
use Rattle.leaf_export.specs.declared.fault.ExportFault.{ExportFault}
use Rattle.leaf_export.specs.declared.fault.ExportFault.TheVariants as export
use Rattle.leaf_export.specs.Files.{Parts, first_missing, mesh_parts, parts_in}
use Rattle.leaf_export.specs.OctreeBytes.{all_faces, file_faces, octree_bytes, vertex_names, vertex_points}
use Rattle.leaf_export.proofs.Clashing.{agrees}
use Rattle.leaf_export.proofs.Named as meshes
use Rattle.leaf_export.proofs.OneLeaf.{faces_are, vertices_are}

-- ---- no name is missing

held : (names : List ℕ) (v : ℕ) → Contains names v → not (is_one_of names v) ≡ false
held names v at =
    ap not (list_any_at (λ n. eqb v n) names at.0 v at.1 (eq-eqb v _ (sym at.2)))

skip : (p : ℕ → Bool) (v : ℕ) (vs : List ℕ) → p v ≡ false → find p (v ∷ vs) ≡ find p vs
skip p v vs out = ap (λ (b : Bool). cond b (Some v) (find p vs)) out

none_missing : (names : List ℕ) (tris : List Tri) → AllByRecursion (IsNamedBy names) tris → first_missing names tris ≡ None
none_missing names [] named = refl
none_missing names (t ∷ tris) named =
    let p = λ (v : ℕ). not (is_one_of names v) in
    skip p t.a (t.b ∷ t.c ∷ flat_map corners tris) (held names t.a named.0.0)
    ∙ skip p t.b (t.c ∷ flat_map corners tris) (held names t.b named.0.1)
    ∙ skip p t.c (flat_map corners tris) (held names t.c named.0.2)
    ∙ none_missing names tris named.1

-- ---- all leaves

all_distinct : (n : ℕ) → AreDistinct (range_with_len 0 n ++ [])
all_distinct n =
    subst AreDistinct (filter_all (range_with_len 0 n) ∙ sym (append-nil (range_with_len 0 n))) (distinct_range (λ _. true) 0 n)

all_below : (n : ℕ) → AreBelow n (range_with_len 0 n)
all_below n l on =
    let lt = range_below (λ _. true) l 0 n (ap (λ (ls : List ℕ). is_one_of ls l) (filter_all (range_with_len 0 n)) ∙ on) in
    omega (arith, lt)

-- ---- the sheets of a mesh

module _ (b : Base) (m : Mesh) (good : IsStorable b.index.cells (length b.soup.points) m) where
  abbrev inner : List LeafSheet
  inner = map (sheet b.index.cells m) (all_leaves b.index.cells)

  agreed : AreAgreed inner []
  agreed =
      storable_agree b.index.cells (length b.soup.points) m (all_leaves b.index.cells) [] good
      (all_distinct (length b.index.cells))

  no_clash : clash_in inner [] ≡ None
  no_clash = (patches.agrees inner []).1 agreed

  not_missing : first_missing (names_in inner) (all_faces inner) ≡ None
  not_missing =
      (λ j. first_missing (vertex_names (vertices_are b.index.cells m j)) (faces_are b.index.cells m j))
      ∙ none_missing (vertex_names (vertices_by_home b.index.cells m)) (tris_by_keeper b.index.cells m)
      (recursion_from_All (IsNamedBy (vertex_names (vertices_by_home b.index.cells m))) (tris_by_keeper b.index.cells m)
      (meshes.all_named b.index.cells m good.clean good.homed))

  pub mesh_file : parts_in inner ≡ Ok (mesh_parts b.index.cells m)
  mesh_file =
      agrees inner (sym no_clash) not_missing
      ∙ (λ j. Ok (vertex_points (vertices_are b.index.cells m j), file_faces (vertices_are b.index.cells m j) (faces_are b.index.cells m j)))

-- ---- a sound store

abbrev parts_or : Parts → Result Parts ShelfFault → Parts
parts_or other (Ok p) = p
parts_or other (Err why) = other

module _ (b : Base) (journal : List Entry) (m : Content) (versions : List ℕ) (over : IsOver b.index versions m b journal) where
  good : IsStorable b.index.cells (length b.soup.points) (mesh_of b journal)
  good = sound_storable store_spelling (blob_at m) b journal over.sound

  sheets_sound : (leaves : List ℕ) → AreBelow (length b.index.cells) leaves
      → current_sheets b.index versions m leaves ≡ Ok (map (sheet b.index.cells (mesh_of b journal)) leaves)
  sheets_sound [] below = refl
  sheets_sound (leaf ∷ leaves) below =
      let first = sheet_sound b journal m versions over leaf (below leaf (is_one_of-head leaf leaves)) in
      let rest = sheets_sound leaves (λ k on. below k (or_right (eqb k leaf) (is_one_of leaves k) on)) in
      λ j. first j >>= (λ s. rest j >>= (λ sheets. Ok (s ∷ sheets)))

  pub parts_sound : stored_parts b.index versions m ≡ Ok (mesh_parts b.index.cells (mesh_of b journal))
  parts_sound =
      (λ j. sheets_sound (all_leaves b.index.cells) (all_below (length b.index.cells)) j >>= (λ sheets. or_clash (parts_in sheets)))
      ∙ ap or_clash (mesh_file b (mesh_of b journal) good)

  -- what is given there is the file of the mesh
  given_sound : (p : Parts) → GivesParts (Some m) b.index versions (Ok p) → p ≡ mesh_parts b.index.cells (mesh_of b journal)
  given_sound p gives = ap (parts_or p) (sym (gives.told m refl) ∙ parts_sound)

  -- and no fault of the sheets
  never_damaged : (key : Key) (bytes : List ℕ) → GivesParts (Some m) b.index versions (Err (fault.Damaged key bytes)) → ⊥
  never_damaged key bytes gives = let told = gives.told m refl in let is = parts_sound in absurd (cc)

  never_absent : (key : Key) → GivesParts (Some m) b.index versions (Err (fault.Absent key)) → ⊥
  never_absent key gives = let told = gives.told m refl in let is = parts_sound in absurd (cc)

  never_clash : (clash : Clash) → GivesParts (Some m) b.index versions (Err (fault.Clash clash)) → ⊥
  never_clash clash gives = let told = gives.told m refl in let is = parts_sound in absurd (cc)

  pub export_sound : {T : Type 0} (form : Form) (old new : Told) (done : Result T ExportFault)
      → Exports (Some m) b.index versions form old new done
      → ExportsBytes old new (octree_bytes form b.index.cells (mesh_of b journal)) done
  export_sound form old new (Ok x) exports = subst (λ (q : Parts). Puts old new (form_text form q.0 q.1)) (given_sound exports.0 exports.1) exports.2
  export_sound form old new (Err export.Write) exports = subst (λ (q : Parts). PutsPrefix old new (form_text form q.0 q.1)) (given_sound exports.0 exports.1) exports.2
  export_sound form old new (Err export.Memory) exports = tt
  export_sound form old new (Err (export.Shelf fault.Store)) exports = refl
  export_sound form old new (Err (export.Shelf fault.Memory)) exports = absurd exports
  export_sound form old new (Err (export.Shelf (fault.Damaged key bytes))) exports = absurd (never_damaged key bytes exports)
  export_sound form old new (Err (export.Shelf (fault.Absent key))) exports = absurd (never_absent key exports)
  export_sound form old new (Err (export.Shelf (fault.Clash clash))) exports = absurd (never_clash clash exports)
