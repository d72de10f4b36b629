-- What is told of sheets by what is kept of them.
use Rattle.std.proofs.Common.{◌≡◌, ℕ, zero, suc, ◌+◌, ◌<◌, ◌≤◌, ◌^◌, ◌-◌, List, [], ◌∷◌, ◌++◌, length, map, flat_map, get_or, refl, sym, ap, ◌∙◌, arith, append-nil, length-append, Option, Some, None, Ok, Err}
use Rattle.std.specs.List.{All, AllByRecursion}
use Rattle.std.specs.List.Sorted.{IsNonDecreasing, IsStrictlyIncreasing}
use Rattle.std.specs.Cmp.{nat_cmp_total}
use Rattle.std.specs.Option.{option_map, option_or}
use Rattle.std.specs.Ordering.{nat_cmp}
use Rattle.std.proofs.lemmas.List.{length-map}
use Rattle.std.proofs.lemmas.List.Elements.{All-from_recursion, recursion_from_All}
use Rattle.std.proofs.lemmas.List.Sorted.{All-permutation, IsNonDecreasingBy-from_sort, length_permutation}
use Rattle.std.proofs.lemmas.List.Sums.{sum_by-le}
use Rattle.oemm_limits.specs.declared.TheConstants.{MOST_ITEMS}
use Rattle.oemm_lists.specs.Ascending.{in_order}
use Rattle.oemm_octree.specs.declared.cells.Cell.{Cell}
use Rattle.mesh_data.specs.declared.geometry.Tri.{Tri}
use Rattle.mesh_data.specs.declared.shapes.Shape.TheVariants.{Vertex}
use Rattle.mesh_data.specs.Planes.{AreBounded, most_planes}
use Rattle.mesh_data.specs.Triangles.{IsBelow, corners}
use Rattle.mesh_sheets.specs.Assembled.{faces_of}
use Rattle.mesh_sheets.proofs.Climbing.{increasing}
use Rattle.sheet_data.specs.Summed.{SummedVertex}
use Rattle.sheet_data.specs.declared.patches.Mixed.{Mixed}
use Rattle.sheet_data.specs.declared.sheets.LeafSheet.{LeafSheet}
use Rattle.sheet_forms.specs.Formed.{IsSheetOf}
use Rattle.sheet_forms.proofs.Counts.{few_climbing}
use Rattle.triangle_lists.proofs.Sorting.{IsPermutation-in_order, IsSorted-in_order}
use Rattle.patch_assembly.specs.Clashes.{clash_in, faces_in, if_above, least_twice, names_in, own_clash, planes_in, unless}
use Rattle.patch_assembly.specs.declared.clash.Clash.{Clash}
use Rattle.patch_assembly.specs.declared.clash.Clash.TheVariants.{Many, Planes, Shape, Twice}
use Rattle.patch_assembly.proofs.Sorted.{once_climbs, twice_told, up_from}
use Rattle.patch_assembly.proofs.Vertices.{if_not_above, when_above}
use Rattle.leaf_export.specs.Files.{Parts, first_missing, parts_in}
use Rattle.leaf_export.specs.Kept.{Keeps}
use Rattle.leaf_export.specs.OctreeBytes.{all_faces, all_vertices, file_faces, vertex_points}
use Rattle.leaf_export.specs.declared.kept.Kept.{Kept}

each_append : {X : Type 0} (P : X → Type 0) (xs ys : List X) → AllByRecursion P xs → AllByRecursion P ys → AllByRecursion P (xs ++ ys)
each_append P [] ys all more = more
each_append P (x ∷ xs) ys all more = (all.0, each_append P xs ys all.1 more)

each_flat : {X Y : Type 0} (f : X → List Y) (P : Y → Type 0) (xs : List X) → AllByRecursion (λ x. All P (f x)) xs
    → AllByRecursion P (flat_map f xs)
each_flat f P [] all = tt
each_flat f P (x ∷ xs) all =
    each_append P (f x) (flat_map f xs) (recursion_from_All P (f x) all.0) (each_flat f P xs all.1)

each_weaker : {X : Type 0} (P Q : X → Type 0) → ((x : X) → P x → Q x) → (xs : List X) → AllByRecursion P xs → AllByRecursion Q xs
each_weaker P Q h [] all = tt
each_weaker P Q h (x ∷ xs) all = (h x all.0, each_weaker P Q h xs all.1)

each_map : {X : Type 0} (f : X → ℕ) (P : ℕ → Type 0) (xs : List X) → AllByRecursion (λ x. P (f x)) xs → AllByRecursion P (map f xs)
each_map f P [] all = tt
each_map f P (x ∷ xs) all = (all.0, each_map f P xs all.1)

all_weaker : {X : Type 0} (P Q : X → Type 0) → ((x : X) → P x → Q x) → (xs : List X) → All P xs → All Q xs
all_weaker P Q h xs all = λ k d lt. h (get_or xs k d) (all k d lt)

-- what each sheet's parts have, as each leaf's sheet can have it, all of them have
of_sheets : {Y : Type 0} (cells : List Cell) (names : ℕ) (f : LeafSheet → List Y) (P : Y → Type 0)
    → ((leaf : ℕ) (s : LeafSheet) → IsSheetOf cells names leaf s → All P (f s)) → (sheets : List LeafSheet)
    → All (λ s. IsSheetOf cells names s.leaf s) sheets → All P (flat_map f sheets)
of_sheets cells names f P h sheets formed =
    All-from_recursion P (flat_map f sheets)
    (each_flat f P sheets
    (each_weaker (λ (s : LeafSheet). IsSheetOf cells names s.leaf s) (λ s. All P (f s)) (λ s is. h s.leaf s is) sheets
    (recursion_from_All (λ (s : LeafSheet). IsSheetOf cells names s.leaf s) sheets formed)))

-- as many faces, with their leaves or without
faces_counted : (sheets : List LeafSheet) → length (flat_map faces_of sheets) ≡ length (all_faces sheets)
faces_counted [] = refl
faces_counted (s ∷ sheets) =
    length-append (faces_of s) (flat_map faces_of sheets)
    ∙ (λ j. length-map s.faces (λ (t : Tri). let x : Mixed = record { leaf = s.leaf; tri = t } in x) j + faces_counted sheets j)
    ∙ sym (length-append s.faces (all_faces sheets))

pub faces_are : (sheets : List LeafSheet) → faces_in (sheets ++ []) ≡ length (all_faces sheets)
faces_are sheets = ap (λ (ss : List LeafSheet). faces_in ss) (append-nil sheets) ∙ faces_counted sheets

-- ---- names that differ are few

module _ (ns : List ℕ) (n : ℕ) (below : All (λ m. m < n) ns) where
  rising : IsNonDecreasing (in_order nat_cmp ns)
  rising = IsNonDecreasingBy-from_sort (λ x. x) (in_order nat_cmp ns) (IsSorted-in_order nat_cmp_total ns)

  ordered_below : AllByRecursion (λ m. m < n) (in_order nat_cmp ns)
  ordered_below =
      recursion_from_All (λ m. m < n) (in_order nat_cmp ns)
      (All-permutation (λ m. m < n) ns (in_order nat_cmp ns) (IsPermutation-in_order nat_cmp ns) below)

  -- names below n, none of which comes twice, are at most n
  pub few_names : least_twice ns ≡ None → length ns ≤ n
  few_names none =
      let told = twice_told ns (in_order nat_cmp ns) (IsPermutation-in_order nat_cmp ns) rising in
      let up : IsStrictlyIncreasing (in_order nat_cmp ns) =
      increasing (in_order nat_cmp ns) (once_climbs (in_order nat_cmp ns) (up_from (in_order nat_cmp ns) rising) (told ∙ none)) in
      let le = few_climbing n (in_order nat_cmp ns) up (at_each (in_order nat_cmp ns) ordered_below) in
      let same = length_permutation ns (in_order nat_cmp ns) (IsPermutation-in_order nat_cmp ns) in
      omega (arith, le, same)
    where
      at_each : (ms : List ℕ) → AllByRecursion (λ m. m < n) ms → (k : ℕ) → k < length ms → get_or ms k 0 < n
      at_each [] all k lt = absurd (omega arith)
      at_each (m ∷ ms) all zero lt = all.0
      at_each (m ∷ ms) all (suc k) lt = at_each ms all.1 k (omega arith)

-- ---- sheets of leaves

each_corner : (n : ℕ) (t : Tri) → All (λ v. v < n) (corners t) → IsBelow n t
each_corner n t below = (below 0 0 (omega arith), below 1 0 (omega arith), below 2 0 (omega arith))

module _ (sheets : List LeafSheet) (cells : List Cell) (names : ℕ) (formed : All (λ s. IsSheetOf cells names s.leaf s) sheets) where
  pub names_below : All (λ n. n < names) (names_in sheets)
  names_below =
      All-from_recursion (λ n. n < names) (names_in sheets)
      (each_map (λ (x : SummedVertex). x.name) (λ n. n < names) (all_vertices sheets)
      (recursion_from_All (λ (x : SummedVertex). x.name < names) (all_vertices sheets)
      (of_sheets cells names (λ (s : LeafSheet). s.vertices) (λ (x : SummedVertex). x.name < names) (λ leaf s is. is.below) sheets formed)))

  pub faces_below : All (IsBelow names) (all_faces sheets)
  faces_below =
      of_sheets cells names (λ (s : LeafSheet). s.faces) (IsBelow names)
      (λ leaf s is. all_weaker (λ (t : Tri). All (λ v. v < names) (corners t)) (IsBelow names) (each_corner names) s.faces is.face_names)
      sheets formed

  planes_each : All (λ (x : SummedVertex). x.quad.planes ≤ most_planes) (all_vertices sheets)
  planes_each =
      of_sheets cells names (λ (s : LeafSheet). s.vertices) (λ (x : SummedVertex). x.quad.planes ≤ most_planes)
      (λ leaf s is. all_weaker (λ (x : SummedVertex). AreBounded x.quad) (λ x. x.quad.planes ≤ most_planes) (λ x bounded. bounded.planes) s.vertices is.bounded)
      sheets formed

  pub vertices_few : least_twice (names_in sheets) ≡ None → length (all_vertices sheets) ≤ names
  vertices_few none =
      let le = few_names (names_in sheets) names names_below none in
      let same = length-map (all_vertices sheets) (λ (x : SummedVertex). x.name) in
      omega (arith, le, same)

  planes_few : names ≤ MOST_ITEMS → least_twice (names_in sheets) ≡ None → planes_in sheets < 2 ^ 64 - 1
  planes_few few none =
      let le = sum_by-le (λ (x : SummedVertex). x.quad.planes) most_planes (all_vertices sheets) planes_each in
      let count = vertices_few none in
      omega (arith, le, count, few)

module _ (sheets : List LeafSheet) (kept : Kept) (keeps : Keeps sheets kept) where
  pub is_twice : (v : ℕ) → Some v ≡ least_twice kept.names.items → Some (Twice v) ≡ clash_in sheets []
  is_twice v is =
      ap (λ (o : Option ℕ). option_or (option_or (option_map Twice o) (if_above most_planes Planes (planes_in sheets))) (if_above MOST_ITEMS Many (faces_in (sheets ++ []))))
      (is ∙ ap least_twice keeps.names)

  module _ (cells : List Cell) (names : ℕ) (formed : All (λ s. IsSheetOf cells names s.leaf s) sheets) (few : names ≤ MOST_ITEMS)
      (none : least_twice kept.names.items ≡ None) where
    none_twice : least_twice (names_in sheets) ≡ None
    none_twice = ap least_twice (sym keeps.names) ∙ none

    planes_are : kept.planes ≡ planes_in sheets
    planes_are = let lt = planes_few sheets cells names formed few none_twice in omega (arith, keeps.planes, lt)

    count_is : length kept.faces.items ≡ length (all_faces sheets)
    count_is = ap (λ (ts : List Tri). length ts) keeps.faces

    own : own_clash sheets ≡ if_above most_planes Planes kept.planes
    own =
        ap (λ (o : Option ℕ). option_or (option_map Twice o) (if_above most_planes Planes (planes_in sheets))) none_twice
        ∙ ap (if_above most_planes Planes) (sym planes_are)

    whole : clash_in sheets [] ≡ option_or (if_above most_planes Planes kept.planes) (if_above MOST_ITEMS Many (length kept.faces.items))
    whole = (λ j. option_or (own j) (if_above MOST_ITEMS Many ((faces_are sheets ∙ sym count_is) j)))

    pub are_planes : most_planes < kept.planes → Some (Planes kept.planes) ≡ clash_in sheets []
    are_planes lt =
        sym (whole ∙ ap (λ (o : Option Clash). option_or o (if_above MOST_ITEMS Many (length kept.faces.items))) (when_above most_planes Planes kept.planes lt))

    pub are_many : kept.planes ≤ most_planes → MOST_ITEMS < length kept.faces.items → Some (Many (length kept.faces.items)) ≡ clash_in sheets []
    are_many le lt =
        sym (whole
        ∙ ap (λ (o : Option Clash). option_or o (if_above MOST_ITEMS Many (length kept.faces.items))) (if_not_above most_planes Planes kept.planes le)
        ∙ when_above MOST_ITEMS Many (length kept.faces.items) lt)

    pub is_none : kept.planes ≤ most_planes → length kept.faces.items ≤ MOST_ITEMS → None ≡ clash_in sheets []
    is_none le few_faces =
        sym (whole
        ∙ ap (λ (o : Option Clash). option_or o (if_above MOST_ITEMS Many (length kept.faces.items))) (if_not_above most_planes Planes kept.planes le)
        ∙ if_not_above MOST_ITEMS Many (length kept.faces.items) few_faces)

-- ---- the file of sheets

abbrev pub parts : List LeafSheet → Parts
parts sheets = (vertex_points (all_vertices sheets), file_faces (all_vertices sheets) (all_faces sheets))

abbrev unless_missing : List LeafSheet → Option Clash → Option ℕ → Option Clash
unless_missing sheets clash missing = option_or clash (option_map (λ v. Shape (Vertex v)) missing)

module _ (sheets : List LeafSheet) where
  pub clashes : (clash : Clash) → Some clash ≡ clash_in sheets [] → parts_in sheets ≡ Err clash
  clashes clash is = ap (λ (o : Option Clash). unless (parts sheets) (unless_missing sheets o (first_missing (names_in sheets) (all_faces sheets)))) (sym is)

  module _ (none : None ≡ clash_in sheets []) where
    pub misses : (v : ℕ) → first_missing (names_in sheets) (all_faces sheets) ≡ Some v → parts_in sheets ≡ Err (Shape (Vertex v))
    misses v is =
        ap (λ (o : Option Clash). unless (parts sheets) (unless_missing sheets o (first_missing (names_in sheets) (all_faces sheets)))) (sym none)
        ∙ ap (λ (o : Option ℕ). unless (parts sheets) (unless_missing sheets None o)) is

    pub agrees : first_missing (names_in sheets) (all_faces sheets) ≡ None → parts_in sheets ≡ Ok (parts sheets)
    agrees is =
        ap (λ (o : Option Clash). unless (parts sheets) (unless_missing sheets o (first_missing (names_in sheets) (all_faces sheets)))) (sym none)
        ∙ ap (λ (o : Option ℕ). unless (parts sheets) (unless_missing sheets None o)) is
