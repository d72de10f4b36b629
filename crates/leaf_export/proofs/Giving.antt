-- What is answered of the sheets that were read, and of the file that was written.
use Rattle.std.proofs.Common.{◌≡◌, inl, inr, ⊎_elim, ℕ, ◌≤◌, List, [], length, get_or, refl, sym, ap, ◌∙◌, subst, arith, Option, Some, None, Result, Ok, Err, IfOk, OnErr, OnOk, IsErrOf}
use Rattle.std.specs.Prelude.{◌⊎◌}
use Rattle.std.specs.List.{All}
use Rattle.std.specs.Option.{option_map, option_or}
use Rattle.std.proofs.lemmas.List.{length-map}
use Rattle.fault_counts.specs.Counts.{TellsFailure}
use Rattle.fault_counts.specs.Told.{Puts, PutsPrefix, Told}
use Rattle.oemm_limits.specs.declared.TheConstants.{MOST_ITEMS}
use Rattle.oemm_octree.specs.declared.cells.Cell.{Cell}
use Rattle.mesh_data.specs.declared.shapes.Shape.TheVariants.{Vertex}
use Rattle.mesh_data.specs.Triangles.{IsBelow}
use Rattle.mesh_out.specs.declared.form.Form.{Form}
use Rattle.mesh_out.specs.declared.form.OutFault.{OutFault}
use Rattle.mesh_out.specs.declared.form.OutFault.TheVariants as out
use Rattle.mesh_out.specs.Form.{form_text}
use Rattle.sheet_data.specs.declared.index.IndexSheet.{IndexSheet}
use Rattle.sheet_data.specs.declared.sheets.LeafSheet.{LeafSheet}
use Rattle.oemm_blobs.specs.Content.{Content}
use Rattle.oemm_blobs.specs.Store.{IfTold}
use Rattle.mesh_sheets.specs.Export.{all_leaves}
use Rattle.sheet_forms.specs.Formed.{IsSheetOf}
use Rattle.patch_assembly.specs.Clashes.{Makes, clash_in, names_in, unless}
use Rattle.patch_assembly.specs.declared.clash.AssemblyFault.{AssemblyFault}
use Rattle.patch_assembly.specs.declared.clash.AssemblyFault.TheVariants as assembly
use Rattle.patch_assembly.specs.declared.clash.Clash.{Clash}
use Rattle.patch_assembly.specs.declared.clash.Clash.TheVariants.{Shape}
use Rattle.patch_assembly.proofs.Agrees.{twice_none}
use Rattle.patch_assembly.proofs.Agrees as patches
use Rattle.oemm_shelf.specs.Readings.{◌>>=◌, Answers, current_sheets, or_clash}
use Rattle.oemm_shelf.specs.Shown.{ShowsLeaf}
use Rattle.oemm_shelf.specs.declared.fault.ShelfFault.{ShelfFault}
use Rattle.oemm_shelf.specs.declared.fault.ShelfFault.TheVariants as fault
use Rattle.oemm_shelf.proofs.Told.{same_count, tells_other}
use Rattle.leaf_export.specs.Exported.{AreFew, AreOfAll, Exports, GivesParts, ShowsParts, export_fault, or_assembly, or_out}
use Rattle.leaf_export.specs.Files.{Parts, file_clash, first_missing, parts_in}
use Rattle.leaf_export.specs.OctreeBytes.{all_faces, all_vertices, placed, vertex_names}
use Rattle.leaf_export.specs.declared.fault.ExportFault.TheVariants as export
use Rattle.leaf_export.proofs.Clashing.{faces_are, parts, vertices_few}
use Rattle.leaf_export.proofs.Looking.{all_named}
use Rattle.leaf_export.proofs.Positions.{all_within}

-- ---- a leaf's fault

abbrev then_parts : Result (List LeafSheet) ShelfFault → Result Parts ShelfFault
then_parts want = want >>= (λ sheets. or_clash (parts_in sheets))

not_read : (why : ShelfFault) (want : Result (List LeafSheet) ShelfFault) → Answers {T = List LeafSheet} (Err why) want
    → Answers {T = Parts} (Err why) (then_parts want)
not_read fault.Store want is = tt
not_read fault.Memory want is = tt
not_read (fault.Damaged key bytes) want is = ap then_parts is
not_read (fault.Absent key) want is = ap then_parts is
not_read (fault.Clash clash) want is = ap then_parts is

leaf_shown : (i : IndexSheet) (versions : List ℕ) (why : ShelfFault) → ShowsLeaf i versions why → ShowsParts i versions (Err why)
leaf_shown i versions (fault.Damaged key bytes) shows = shows
leaf_shown i versions (fault.Absent key) shows = shows
leaf_shown i versions (fault.Clash clash) shows = absurd shows
leaf_shown i versions fault.Store shows = tt
leaf_shown i versions fault.Memory shows = tt

pub leaf_given : (content : Option Content) (i : IndexSheet) (versions : List ℕ) (why : ShelfFault)
    → IfTold content (λ m. Answers {T = List LeafSheet} (Err why) (current_sheets i versions m (all_leaves i.cells)))
    → ShowsLeaf i versions why → GivesParts content i versions (Err why)
leaf_given content i versions why told shows = record {
  told = λ m is. not_read why (current_sheets i versions m (all_leaves i.cells)) (told m is);
  shows = leaf_shown i versions why shows;
}

-- ---- the file of sheets of all leaves

no_clash : {T : Type 0} (q : T) (o : Option Clash) (p : T) → unless q o ≡ Ok p → o ≡ None
no_clash q None p is = refl
no_clash q (Some clash) p is = absurd (cc)

same_parts : {T : Type 0} (q : T) (o : Option Clash) (p : T) → unless q o ≡ Ok p → q ≡ p
same_parts q None p is = cc
same_parts q (Some clash) p is = absurd (cc)

none_of : (a b : Option Clash) → option_or a b ≡ None → (a ≡ None) × (b ≡ None)
none_of None b none = (refl, none)
none_of (Some x) b none = absurd (cc)

none_mapped : (o : Option ℕ) → option_map (λ (v : ℕ). Shape (Vertex v)) o ≡ None → o ≡ None
none_mapped None none = refl
none_mapped (Some v) none = absurd (cc)

all_weaker : {X : Type 0} (P Q : X → Type 0) → ((x : X) → P x → Q x) → (xs : List X) → All P xs → All Q xs
all_weaker P Q h xs all = λ k d lt. h (get_or xs k d) (all k d lt)

module _ (sheets : List LeafSheet) (made : Parts) (is : parts_in sheets ≡ Ok made) where
  none : (clash_in sheets [] ≡ None) × (option_map (λ v. Shape (Vertex v)) (first_missing (names_in sheets) (all_faces sheets)) ≡ None)
  none =
      none_of (clash_in sheets []) (option_map (λ v. Shape (Vertex v)) (first_missing (names_in sheets) (all_faces sheets)))
      (no_clash (parts sheets) (file_clash sheets) made is)

  -- no index of a file is out of range
  pub indices_within : All (IsBelow (length made.0)) made.1
  indices_within =
      let within = all_within (all_vertices sheets) (all_faces sheets) (all_named (names_in sheets) (all_faces sheets) (none_mapped _ none.1)) in
      let count : length (all_vertices sheets) ≡ length (parts sheets).0 = sym (length-map (all_vertices sheets) (λ x. x.point)) in
      subst (λ (p : Parts). All (IsBelow (length p.0)) p.1) (same_parts (parts sheets) (file_clash sheets) made is)
      (subst (λ (n : ℕ). All (IsBelow n) (parts sheets).1) count within)

  -- a file of such sheets has no more vertices and faces than a mesh may have
  few_parts : (cells : List Cell) (names : ℕ) → All (λ s. IsSheetOf cells names s.leaf s) sheets → names ≤ MOST_ITEMS → AreFew made
  few_parts cells names formed few =
      let agreed = (patches.agrees sheets []).0 none.0 in
      let count = vertices_few sheets cells names formed (twice_none (names_in sheets) agreed.once) in
      let points = length-map (all_vertices sheets) (λ x. x.point) in
      let same = length-map (all_faces sheets) (placed (vertex_names (all_vertices sheets))) in
      let vertices : length made.0 ≤ MOST_ITEMS =
      subst (λ (p : Parts). length p.0 ≤ MOST_ITEMS) (same_parts (parts sheets) (file_clash sheets) made is) (omega (arith, points, count, few)) in
      record {
        points = vertices;
        faces = subst (λ (p : Parts). length p.1 ≤ MOST_ITEMS) (same_parts (parts sheets) (file_clash sheets) made is)
            (omega (arith, same, agreed.few, faces_are sheets));
        names = all_weaker (IsBelow (length made.0)) (IsBelow MOST_ITEMS)
            (λ t lt. (omega (arith, lt.0, vertices), omega (arith, lt.1, vertices), omega (arith, lt.2, vertices))) made.1 indices_within;
      }

module _ (content : Option Content) (i : IndexSheet) (versions : List ℕ) (sheets : List LeafSheet) (all : AreOfAll i sheets)
    (read : IfTold content (λ m. current_sheets i versions m (all_leaves i.cells) ≡ Ok sheets)) where
  pub made_given : (made : Result Parts AssemblyFault) → Makes made (parts_in sheets) → GivesParts content i versions (or_assembly made)
  made_given (Ok p) makes = record {
    told = λ m is. ap then_parts (read m is) ∙ ap or_clash makes;
    shows = (sheets, all, makes);
  }
  made_given (Err (assembly.Clash clash)) makes = record {
    told = λ m is. ap then_parts (read m is) ∙ ap or_clash makes;
    shows = (sheets, all, makes);
  }
  made_given (Err assembly.Memory) makes = record { told = λ m is. tt; shows = tt }

  pub made_few : (made : Result Parts AssemblyFault) → i.vertices ≤ MOST_ITEMS → Makes made (parts_in sheets) → IfOk (or_assembly made) AreFew
  made_few (Ok p) few makes = few_parts sheets p makes i.cells i.vertices all.formed few
  made_few (Err why) few makes = tt

never_store : {T : Type 0} (made : Result T AssemblyFault) → or_assembly made ≡ Err fault.Store → ⊥
never_store (Ok x) is = cc
never_store (Err (assembly.Clash clash)) is = cc
never_store (Err assembly.Memory) is = cc

pub made_tells : {S T : Type 0} (a b : ℕ) (x : S) (made : Result T AssemblyFault) → TellsFailure fault.Store a b (Ok x)
    → TellsFailure fault.Store a b (or_assembly made)
made_tells a b x made tells = tells_other fault.Store a b x (or_assembly made) (never_store made) tells

-- ---- the file that was written

module _ (content : Option Content) (i : IndexSheet) (versions : List ℕ) (form : Form) (old new : Told) where
  pub fault_exported : (T : Type 0) (why : ShelfFault) → GivesParts content i versions (Err why)
      → Exports {T = T} content i versions form old new (Err (export_fault why))
  fault_exported T fault.Memory gives = tt
  fault_exported T fault.Store gives = gives
  fault_exported T (fault.Damaged key bytes) gives = gives
  fault_exported T (fault.Absent key) gives = gives
  fault_exported T (fault.Clash clash) gives = gives

  pub out_exported : {T : Type 0} (made : Parts) (done : Result T OutFault) → GivesParts content i versions (Ok made)
      → OnOk done (Puts old new (form_text form made.0 made.1)) → PutsPrefix old new (form_text form made.0 made.1)
      → Exports content i versions form old new (or_out done)
  out_exported made (Ok x) gives puts front = (made, gives, puts)
  out_exported made (Err out.Write) gives puts front = (made, gives, front)
  out_exported made (Err out.Memory) gives puts front = tt

-- ---- which count rose

pub sink_calm : (T : Type 0) (n : ℕ) (why : ShelfFault) → TellsFailure {T = T} export.Write n n (Err (export_fault why))
sink_calm T n fault.Memory = record { kept = omega arith; cause = λ e. absurd (cc); calm = inr refl }
sink_calm T n fault.Store = record { kept = omega arith; cause = λ e. absurd (cc); calm = inr refl }
sink_calm T n (fault.Damaged key bytes) = record { kept = omega arith; cause = λ e. absurd (cc); calm = inr refl }
sink_calm T n (fault.Absent key) = record { kept = omega arith; cause = λ e. absurd (cc); calm = inr refl }
sink_calm T n (fault.Clash clash) = record { kept = omega arith; cause = λ e. absurd (cc); calm = inr refl }

pub sink_tells : {T : Type 0} (a b : ℕ) (done : Result T OutFault) → TellsFailure out.Write a b done → TellsFailure export.Write a b (or_out done)
sink_tells a b (Ok x) tells = record {
  kept = tells.kept;
  cause = λ e. absurd (cc);
  calm = inr (same_count out.Write a b x tells);
}
sink_tells a b (Err out.Write) tells = record { kept = tells.kept; cause = λ e. tells.cause refl; calm = inl refl }
sink_tells a b (Err out.Memory) tells = record {
  kept = tells.kept;
  cause = λ e. absurd (cc);
  calm = ⊎_elim (λ no. absurd (cc)) (λ same. inr same) tells.calm;
}

pub store_tells : {S : Type 0} (T : Type 0) (a b : ℕ) (why : ShelfFault) → TellsFailure {T = S} fault.Store a b (Err why)
    → TellsFailure {T = T} (export.Shelf fault.Store) a b (Err (export_fault why))
store_tells T a b fault.Store tells = record { kept = tells.kept; cause = λ e. tells.cause refl; calm = inl refl }
store_tells T a b fault.Memory tells = record { kept = tells.kept; cause = λ e. absurd (cc); calm = ⊎_elim (λ no. absurd (cc)) (λ same. inr same) tells.calm }
store_tells T a b (fault.Damaged key bytes) tells = record { kept = tells.kept; cause = λ e. absurd (cc); calm = ⊎_elim (λ no. absurd (cc)) (λ same. inr same) tells.calm }
store_tells T a b (fault.Absent key) tells = record { kept = tells.kept; cause = λ e. absurd (cc); calm = ⊎_elim (λ no. absurd (cc)) (λ same. inr same) tells.calm }
store_tells T a b (fault.Clash clash) tells = record { kept = tells.kept; cause = λ e. absurd (cc); calm = ⊎_elim (λ no. absurd (cc)) (λ same. inr same) tells.calm }

pub store_calm : {S T : Type 0} (a b : ℕ) (x : S) (done : Result T OutFault) → TellsFailure fault.Store a b (Ok x)
    → TellsFailure (export.Shelf fault.Store) a b (or_out done)
store_calm a b x (Ok y) tells = record { kept = tells.kept; cause = λ e. absurd (cc); calm = inr (same_count fault.Store a b x tells) }
store_calm a b x (Err out.Write) tells = record { kept = tells.kept; cause = λ e. absurd (cc); calm = inr (same_count fault.Store a b x tells) }
store_calm a b x (Err out.Memory) tells = record { kept = tells.kept; cause = λ e. absurd (cc); calm = inr (same_count fault.Store a b x tells) }

-- ---- a sink that isn't written to

pub untouched : {S T : Type 0} (old new : S) (done : Result T OutFault) → (IsErrOf done out.Memory → new ≡ old)
    → OnErr (or_out done) (IsErrOf (or_out done) export.Write ⊎ (new ≡ old))
untouched old new (Ok x) memory = tt
untouched old new (Err out.Write) memory = inl refl
untouched old new (Err out.Memory) memory = inr (memory refl)
