-- What is told of sheets by what is kept of them.
use Rattle.std.proofs.Common.{◌≡◌, ℕ, ◌+◌, ◌<◌, ◌≤◌, ◌^◌, ◌-◌, List, [], ◌∷◌, ◌++◌, length, map, flat_map, refl, sym, ap, ◌∙◌, subst, arith, append-nil, length-append, Option, Some, None}
use Rattle.std.specs.List.{All, AllByRecursion}
use Rattle.std.specs.Option.{option_map, option_or}
use Rattle.std.proofs.lemmas.List.{length-map}
use Rattle.std.proofs.lemmas.List.Elements.{All-from_recursion, recursion_from_All}
use Rattle.std.proofs.lemmas.List.Sums.{sum_by-le}
use Rattle.oemm_limits.specs.declared.TheConstants.{MOST_ITEMS}
use Rattle.oemm_octree.specs.declared.cells.Cell.{Cell}
use Rattle.mesh_data.specs.declared.geometry.Tri.{Tri}
use Rattle.mesh_data.specs.Planes.{AreBounded, most_planes}
use Rattle.sheet_data.specs.Summed.{SummedVertex}
use Rattle.sheet_data.specs.declared.patches.Mixed.{Mixed}
use Rattle.sheet_data.specs.declared.sheets.LeafSheet.{LeafSheet}
use Rattle.mesh_sheets.specs.Assembled.{faces_of}
use Rattle.sheet_forms.specs.Formed.{IsSheetOf}
use Rattle.patch_assembly.specs.Clashes.{clash_in, faces_in, if_above, least_twice, names_in, own_clash, planes_in}
use Rattle.patch_assembly.specs.declared.clash.Clash.{Clash}
use Rattle.patch_assembly.specs.declared.clash.Clash.TheVariants.{Twice, Planes, Many}
use Rattle.patch_assembly.proofs.Vertices.{if_not_above, when_above}
use Rattle.leaf_audit.specs.Audits.{all_faces, vertices_in}
use Rattle.leaf_audit.specs.Tallies.{IsFirstTwice, Tallies}
use Rattle.leaf_audit.specs.declared.tally.Tally.{Tally}
use Rattle.leaf_audit.proofs.Times.{few_names, told_twice}

each_append : {X : Type 0} (P : X → Type 0) (xs ys : List X) → AllByRecursion P xs → AllByRecursion P ys → AllByRecursion P (xs ++ ys)
each_append P [] ys all more = more
each_append P (x ∷ xs) ys all more = (all.0, each_append P xs ys all.1 more)

-- what holds of each item of the parts holds of all of them together
each_flat : {X Y : Type 0} (f : X → List Y) (P : Y → Type 0) (xs : List X) → AllByRecursion (λ x. All P (f x)) xs
    → AllByRecursion P (flat_map f xs)
each_flat f P [] all = tt
each_flat f P (x ∷ xs) all =
    each_append P (f x) (flat_map f xs) (recursion_from_All P (f x) all.0) (each_flat f P xs all.1)

each_weaker : {X : Type 0} (P Q : X → Type 0) → ((x : X) → P x → Q x) → (xs : List X) → AllByRecursion P xs → AllByRecursion Q xs
each_weaker P Q h [] all = tt
each_weaker P Q h (x ∷ xs) all = (h x all.0, each_weaker P Q h xs all.1)

-- what each sheet's parts have, as each leaf's sheet can have it, all of them have
pub of_sheets : {Y : Type 0} (cells : List Cell) (names : ℕ) (f : LeafSheet → List Y) (P : Y → Type 0)
    → ((leaf : ℕ) (s : LeafSheet) → IsSheetOf cells names leaf s → All P (f s)) → (sheets : List LeafSheet)
    → All (λ s. IsSheetOf cells names s.leaf s) sheets → All P (flat_map f sheets)
of_sheets cells names f P h sheets formed =
    All-from_recursion P (flat_map f sheets)
    (each_flat f P sheets
    (each_weaker (λ (s : LeafSheet). IsSheetOf cells names s.leaf s) (λ s. All P (f s)) (λ s is. h s.leaf s is) sheets
    (recursion_from_All (λ (s : LeafSheet). IsSheetOf cells names s.leaf s) sheets formed)))

each_map : {X : Type 0} (f : X → ℕ) (P : ℕ → Type 0) (xs : List X) → AllByRecursion (λ x. P (f x)) xs → AllByRecursion P (map f xs)
each_map f P [] all = tt
each_map f P (x ∷ xs) all = (all.0, each_map f P xs all.1)

-- as many faces, with their leaves or without
faces_counted : (sheets : List LeafSheet) → length (flat_map faces_of sheets) ≡ length (all_faces sheets)
faces_counted [] = refl
faces_counted (s ∷ sheets) =
    length-append (faces_of s) (flat_map faces_of sheets)
    ∙ (λ j. length-map s.faces (λ (t : Tri). let x : Mixed = record { leaf = s.leaf; tri = t } in x) j + faces_counted sheets j)
    ∙ sym (length-append s.faces (all_faces sheets))

pub faces_are : (sheets : List LeafSheet) → faces_in (sheets ++ []) ≡ length (all_faces sheets)
faces_are sheets = ap (λ (ss : List LeafSheet). faces_in ss) (append-nil sheets) ∙ faces_counted sheets

module _ (sheets : List LeafSheet) (cells : List Cell) (names : ℕ)
    (formed : All (λ s. IsSheetOf cells names s.leaf s) sheets) (few : names ≤ MOST_ITEMS) where
  pub names_below : All (λ n. n < names) (names_in sheets)
  names_below =
      All-from_recursion (λ n. n < names) (names_in sheets)
      (each_map (λ (x : SummedVertex). x.name) (λ n. n < names) (flat_map (λ (s : LeafSheet). s.vertices) sheets)
      (recursion_from_All (λ (x : SummedVertex). x.name < names) (flat_map (λ (s : LeafSheet). s.vertices) sheets)
      (of_sheets cells names (λ (s : LeafSheet). s.vertices) (λ (x : SummedVertex). x.name < names) (λ leaf s is. is.below) sheets formed)))

  planes_each : All (λ (x : SummedVertex). x.quad.planes ≤ most_planes) (flat_map (λ (s : LeafSheet). s.vertices) sheets)
  planes_each =
      of_sheets cells names (λ (s : LeafSheet). s.vertices) (λ (x : SummedVertex). x.quad.planes ≤ most_planes)
      (λ leaf s is. All-from_recursion (λ (x : SummedVertex). x.quad.planes ≤ most_planes) s.vertices
      (each_weaker (λ (x : SummedVertex). AreBounded x.quad) (λ x. x.quad.planes ≤ most_planes) (λ x bounded. bounded.planes) s.vertices
      (recursion_from_All (λ (x : SummedVertex). AreBounded x.quad) s.vertices is.bounded))) sheets formed

  pub vertices_few : least_twice (names_in sheets) ≡ None → vertices_in sheets ≤ names
  vertices_few none =
      let le = few_names (names_in sheets) names names_below none in
      let same = length-map (flat_map (λ (s : LeafSheet). s.vertices) sheets) (λ (x : SummedVertex). x.name) in
      omega (arith, le, same)

  planes_few : least_twice (names_in sheets) ≡ None → planes_in sheets < 2 ^ 64 - 1
  planes_few none =
      let le = sum_by-le (λ (x : SummedVertex). x.quad.planes) most_planes (flat_map (λ (s : LeafSheet). s.vertices) sheets) planes_each in
      let count = vertices_few none in
      omega (arith, le, count, few)

  module _ (t : Tally) (tallies : Tallies sheets t) (len : length t.times.items ≡ names) where
    told : (o : Option ℕ) → IsFirstTwice t.times.items o → least_twice (names_in sheets) ≡ o
    told o first =
        told_twice t.times.items (names_in sheets) tallies.times
        (subst (λ (n : ℕ). All (λ m. m < n) (names_in sheets)) (sym len) names_below) o first

    pub is_twice : (v : ℕ) → IsFirstTwice t.times.items (Some v) → Some (Twice v) ≡ clash_in sheets []
    is_twice v first =
        ap (λ (o : Option ℕ). option_or (option_or (option_map Twice o) (if_above most_planes Planes (planes_in sheets))) (if_above MOST_ITEMS Many (faces_in (sheets ++ []))))
        (sym (told (Some v) first))

    module _ (first : IsFirstTwice t.times.items None) where
      pub none_twice : least_twice (names_in sheets) ≡ None
      none_twice = told None first

      planes_are : t.planes ≡ planes_in sheets
      planes_are = let lt = planes_few none_twice in omega (arith, tallies.planes, lt)

      own : own_clash sheets ≡ if_above most_planes Planes t.planes
      own =
          ap (λ (o : Option ℕ). option_or (option_map Twice o) (if_above most_planes Planes (planes_in sheets))) none_twice
          ∙ ap (if_above most_planes Planes) (sym planes_are)

      whole : clash_in sheets [] ≡ option_or (if_above most_planes Planes t.planes) (if_above MOST_ITEMS Many t.count)
      whole =
          (λ j. option_or (own j) (if_above MOST_ITEMS Many ((faces_are sheets ∙ sym tallies.count) j)))

      pub are_planes : most_planes < t.planes → Some (Planes t.planes) ≡ clash_in sheets []
      are_planes lt =
          sym (whole ∙ ap (λ (o : Option Clash). option_or o (if_above MOST_ITEMS Many t.count)) (when_above most_planes Planes t.planes lt))

      pub are_many : t.planes ≤ most_planes → MOST_ITEMS < t.count → Some (Many t.count) ≡ clash_in sheets []
      are_many le lt =
          sym (whole
          ∙ ap (λ (o : Option Clash). option_or o (if_above MOST_ITEMS Many t.count)) (if_not_above most_planes Planes t.planes le)
          ∙ when_above MOST_ITEMS Many t.count lt)

      pub is_none : t.planes ≤ most_planes → t.count ≤ MOST_ITEMS → None ≡ clash_in sheets []
      is_none le few_faces =
          sym (whole
          ∙ ap (λ (o : Option Clash). option_or o (if_above MOST_ITEMS Many t.count)) (if_not_above most_planes Planes t.planes le)
          ∙ if_not_above MOST_ITEMS Many t.count few_faces)
