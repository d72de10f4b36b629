-- What a shelf answers over a sound store.
use Rattle.std.proofs.Common.{◌≡◌, ℕ, ◌<◌, Bool, true, cond, ◌&&◌, eqb, ltb, List, [], ◌∷◌, length, map, refl, sym, ap, ◌∙◌, subst, Option, Some, None, Ok}
use Rattle.std.specs.List.{All, AllByRecursion, list_all}
use Rattle.std.specs.List.Sorted.{IsStrictlyIncreasing}
use Rattle.std.proofs.lemmas.Bool.{and_from, eq-eqb, lt-ltb, or_right}
use Rattle.std.proofs.lemmas.List.Elements.{recursion_from_All}
use Rattle.oemm_octree.specs.Leaves.{AreBelow, AreTiles, home, is_one_of}
use Rattle.oemm_octree.proofs.Tilings.{leaves_tile}
use Rattle.oemm_octree.proofs.Weights.{is_one_of-head}
use Rattle.mesh_data.specs.declared.edits.Entry.{Entry}
use Rattle.mesh_data.specs.declared.geometry.Tri.{Tri}
use Rattle.mesh_data.specs.Mesh.{start}
use Rattle.mesh_data.specs.Triangles.{corners}
use Rattle.mesh_sheets.specs.Assembled.{assembled, rim_of}
use Rattle.mesh_sheets.specs.Sheets.{patch, sheet}
use Rattle.mesh_sheets.proofs.Rims.{patch_from_sheets, rim_distinct}
use Rattle.oemm_blobs.specs.Content.{Content, blob_at}
use Rattle.oemm_blobs.specs.declared.keys.Key.{Key}
use Rattle.oemm_blobs.specs.declared.keys.Key.TheVariants as key
use Rattle.patch_assembly.specs.Clashes.{clash_in, made, unless}
use Rattle.patch_assembly.proofs.Agrees.{agrees}
use Rattle.sheet_data.specs.Summed.{SummedVertex}
use Rattle.sheet_data.specs.declared.index.IndexSheet.{IndexSheet}
use Rattle.sheet_data.specs.declared.sheets.LeafSheet.{LeafSheet}
use Rattle.sheet_forms.specs.Formed.{IsSheetOf}
use Rattle.sheet_forms.proofs.Storable.{rim_below, start_storable, storable_agree, storable_sheet}
use Rattle.store_spelling.specs.Spelled.{store_spelling}
use Rattle.store_spelling.proofs.IndexRules.{vertices_started}
use Rattle.stored_mesh.specs.Stored.{Base, IsBuilt, mesh_of, spelled}
use Rattle.stored_mesh.specs.Versions.{version}
use Rattle.stored_mesh.proofs.Sounds.{sound_storable}
use Rattle.oemm_shelf.specs.Readings.{◌>>=◌, current_patch, current_sheet, current_sheets, if_passes, is_of_leaf, or_clash, or_damaged, sheet_answer, sheet_at}
use Rattle.oemm_shelf.specs.Shelves.{IsOver}

pub all_of_each : {X : Type 0} (p : X → Bool) (xs : List X) → AllByRecursion (λ x. p x ≡ true) xs → list_all p xs ≡ true
all_of_each p [] all = refl
all_of_each p (x ∷ xs) all = and_from (p x) (list_all p xs) all.0 (all_of_each p xs all.1)

each_weaker : {X : Type 0} (P Q : X → Type 0) → ((x : X) → P x → Q x) → (xs : List X) → AllByRecursion P xs → AllByRecursion Q xs
each_weaker P Q h [] all = tt
each_weaker P Q h (x ∷ xs) all = (h x all.0, each_weaker P Q h xs all.1)

each_both : {X : Type 0} (P Q : X → Type 0) (xs : List X) → AllByRecursion P xs → AllByRecursion Q xs → AllByRecursion (λ x. P x × Q x) xs
each_both P Q [] all more = tt
each_both P Q (x ∷ xs) all more = ((all.0, more.0), each_both P Q xs all.1 more.1)

pub each_below : (n : ℕ) (ls : List ℕ) → AreBelow n ls → AllByRecursion (λ l. ltb l n ≡ true) ls
each_below n [] below = tt
each_below n (l ∷ ls) below =
    (lt-ltb l n (below l (is_one_of-head l ls)), each_below n ls (λ k on. below k (or_right (eqb k l) (is_one_of ls k) on)))

-- a sheet that the leaf can have passes the tests
formed_passes : (i : IndexSheet) (names leaf : ℕ) (s : LeafSheet) → names ≡ i.vertices → IsSheetOf i.cells names leaf s
    → is_of_leaf i leaf s ≡ true
formed_passes i names leaf s same formed =
    let both = each_both (λ (x : SummedVertex). x.name < names) (λ x. home i.cells x.point ≡ leaf) s.vertices
    (recursion_from_All (λ x. x.name < names) s.vertices formed.below)
    (recursion_from_All (λ x. home i.cells x.point ≡ leaf) s.vertices formed.homes) in
    let vertices = all_of_each (λ (x : SummedVertex). ltb x.name i.vertices && eqb (home i.cells x.point) leaf) s.vertices
    (each_weaker _ (λ (x : SummedVertex). (ltb x.name i.vertices && eqb (home i.cells x.point) leaf) ≡ true)
    (λ x h. and_from _ _ (lt-ltb x.name i.vertices (subst (λ (n : ℕ). x.name < n) same h.0)) (eq-eqb (home i.cells x.point) leaf h.1)) s.vertices both) in
    let faces = all_of_each (λ (t : Tri). list_all (λ v. ltb v i.vertices) (corners t)) s.faces
    (each_weaker _ (λ (t : Tri). list_all (λ v. ltb v i.vertices) (corners t) ≡ true)
    (λ t h. all_of_each (λ (v : ℕ). ltb v i.vertices) (corners t)
    (each_weaker _ (λ (v : ℕ). ltb v i.vertices ≡ true) (λ v k. lt-ltb v i.vertices (subst (λ (n : ℕ). v < n) same k)) (corners t)
    (recursion_from_All (λ v. v < names) (corners t) h))) s.faces
    (recursion_from_All (λ t. All (λ v. v < names) (corners t)) s.faces formed.face_names)) in
    let near = all_of_each (λ (l : ℕ). ltb l (length i.cells)) s.near (each_below (length i.cells) s.near formed.near_below) in
    and_from _ _ (eq-eqb s.leaf leaf formed.is_leaf) (and_from _ _ vertices (and_from _ _ faces near))

answered : (i : IndexSheet) (leaf : ℕ) (k : Key) (o : Option (List ℕ)) (s : LeafSheet)
    → spelled store_spelling.sheet o ≡ Some s → is_of_leaf i leaf s ≡ true → sheet_answer i leaf k o ≡ Ok s
answered i leaf k None s is passes = absurd (cc)
answered i leaf k (Some bytes) s is passes =
    ap (λ (o : Option LeafSheet). or_damaged k bytes (if_passes (is_of_leaf i leaf) o)) is
    ∙ ap (λ (b : Bool). or_damaged k bytes (cond b (Some s) None)) passes

pub base_sound : (b : Base) (m : Content) (leaf : ℕ) → IsBuilt store_spelling (blob_at m) b → leaf < length b.index.cells
    → sheet_at b.index m leaf 0 ≡ Ok (sheet b.index.cells (start b.soup) leaf)
base_sound b m leaf built lt =
    let tiles = subst AreTiles (sym built.cells) (leaves_tile b.soup.points b.index.cap) in
    let names = sym (built.good.2.of_vertices ∙ vertices_started b.soup) in
    answered b.index leaf (key.Leaf leaf 0) (blob_at m (key.Leaf leaf 0)) (sheet b.index.cells (start b.soup) leaf)
    (built.sheets leaf lt)
    (formed_passes b.index (length b.soup.points) leaf (sheet b.index.cells (start b.soup) leaf) names
    (storable_sheet b.index.cells (length b.soup.points) (start b.soup) leaf
    (start_storable b.index.cells b.soup tiles built.grid built.few_faces built.good.0) lt))

module _ (b : Base) (journal : List Entry) (m : Content) (versions : List ℕ) (over : IsOver b.index versions m b journal) where
  same_names : length b.soup.points ≡ b.index.vertices
  same_names = sym (over.sound.stored.built.good.2.of_vertices ∙ vertices_started b.soup)

  passes : (leaf : ℕ) → leaf < length b.index.cells → is_of_leaf b.index leaf (sheet b.index.cells (mesh_of b journal) leaf) ≡ true
  passes leaf lt =
      formed_passes b.index (length b.soup.points) leaf (sheet b.index.cells (mesh_of b journal) leaf) same_names
      (storable_sheet b.index.cells (length b.soup.points) (mesh_of b journal) leaf
      (sound_storable store_spelling (blob_at m) b journal over.sound) lt)

  pub sheet_sound : (leaf : ℕ) → leaf < length b.index.cells
      → current_sheet b.index versions m leaf ≡ Ok (sheet b.index.cells (mesh_of b journal) leaf)
  sheet_sound leaf lt =
      ap (λ (v : ℕ). sheet_answer b.index leaf (key.Leaf leaf v) (blob_at m (key.Leaf leaf v))) (over.each leaf lt)
      ∙ answered b.index leaf (key.Leaf leaf (version journal leaf)) (blob_at m (key.Leaf leaf (version journal leaf)))
      (sheet b.index.cells (mesh_of b journal) leaf) (over.sound.stored.sheets leaf lt) (passes leaf lt)

  sheets_sound : (leaves : List ℕ) → AreBelow (length b.index.cells) leaves
      → current_sheets b.index versions m leaves ≡ Ok (map (sheet b.index.cells (mesh_of b journal)) leaves)
  sheets_sound [] below = refl
  sheets_sound (leaf ∷ leaves) below =
      let first = sheet_sound leaf (below leaf (is_one_of-head leaf leaves)) in
      let rest = sheets_sound leaves (λ k on. below k (or_right (eqb k leaf) (is_one_of leaves k) on)) in
      λ j. first j >>= (λ s. rest j >>= (λ sheets. Ok (s ∷ sheets)))

  pub patch_sound : (core : List ℕ) → AreBelow (length b.index.cells) core → IsStrictlyIncreasing core
      → current_patch b.index versions m core ≡ Ok (patch b.index.cells (mesh_of b journal) core)
  patch_sound core below up =
      let cells = b.index.cells in
      let mesh = mesh_of b journal in
      let inner = map (sheet cells mesh) core in
      let rim = rim_of cells core inner in
      let outer = map (sheet cells mesh) rim in
      let good = sound_storable store_spelling (blob_at m) b journal over.sound in
      let agreed = storable_agree cells (length b.soup.points) mesh core rim good (rim_distinct cells core inner up) in
      let none : clash_in inner outer ≡ None = (agrees inner outer).1 agreed in
      let is_made : made core inner outer ≡ Ok (patch cells mesh core) =
      ap (unless (assembled core inner outer)) none
      ∙ ap Ok (patch_from_sheets cells mesh core below up good.clean.sorted) in
      (λ j. sheets_sound core below j >>= (λ inner. current_sheets b.index versions m (rim_of cells core inner) >>= (λ outer. or_clash (made core inner outer))))
      ∙ (λ j. sheets_sound rim (rim_below cells core inner) j >>= (λ outer. or_clash (made core inner outer)))
      ∙ ap or_clash is_made
