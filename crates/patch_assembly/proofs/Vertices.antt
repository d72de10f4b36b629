-- The vertices of a core's sheets, sorted by name.
use Rattle.std.proofs.Common.{◌≡◌, ℕ, ◌<◌, ◌≤◌, Bool, cond, ltb, List, [], ◌∷◌, ◌++◌, length, map, flat_map, sym, ap, ◌∙◌, subst, arith, Option, Some, None}
use Rattle.std.specs.List.{All, AllByRecursion, sum_by}
use Rattle.std.specs.List.Sorted.{IsPermutation, IsNonDecreasing, IsNonDecreasingBy, IsStrictlyIncreasing}
use Rattle.std.specs.Option.{option_map, option_or}
use Rattle.std.proofs.lemmas.Bool.{ltb-true, lt-ltb, false_from_ne_true}
use Rattle.std.proofs.lemmas.List.{length-map}
use Rattle.std.proofs.lemmas.List.Elements.{recursion_from_All, All-from_recursion}
use Rattle.std.proofs.lemmas.List.Sorted.{All-permutation, IsPermutation-map, sum_by-IsPermutation}
use Rattle.oemm_limits.specs.declared.TheConstants.{MOST_ITEMS}
use Rattle.mesh_data.specs.Planes.{most_planes}
use Rattle.mesh_sheets.specs.Assembled.{by_name}
use Rattle.mesh_sheets.proofs.Climbing.{increasing}
use Rattle.mesh_sheets.proofs.Sorts.{by_name_from_sort}
use Rattle.sheet_data.specs.Summed.{SummedVertex}
use Rattle.sheet_data.specs.declared.sheets.LeafSheet.{LeafSheet}
use Rattle.sheet_forms.proofs.Counts.{below_at, few_climbing}
use Rattle.patch_assembly.specs.declared.clash.Clash.{Clash}
use Rattle.patch_assembly.specs.declared.clash.Clash.TheVariants.{Twice, Planes}
use Rattle.patch_assembly.specs.Clashes.{AreNamed, first_twice, if_above, least_twice, names_in, own_clash, planes_in}
use Rattle.patch_assembly.proofs.Sorted.{names_rise, once_climbs, twice_told, up_from}

abbrev pub name : SummedVertex → ℕ
name x = x.name

each_append : {X : Type 0} (P : X → Type 0) (xs ys : List X) → AllByRecursion P xs → AllByRecursion P ys → AllByRecursion P (xs ++ ys)
each_append P [] ys all more = more
each_append P (x ∷ xs) ys all more = (all.0, each_append P xs ys all.1 more)

named_each : (sheets : List LeafSheet) → AllByRecursion (λ s. All (λ x. x.name < MOST_ITEMS) s.vertices) sheets
    → AllByRecursion (λ x. x.name < MOST_ITEMS) (flat_map (λ s. s.vertices) sheets)
named_each [] all = tt
named_each (s ∷ sheets) all =
    each_append (λ x. x.name < MOST_ITEMS) s.vertices (flat_map (λ s. s.vertices) sheets)
    (recursion_from_All (λ x. x.name < MOST_ITEMS) s.vertices all.0) (named_each sheets all.1)

pub if_not_above : (limit : ℕ) (clash : ℕ → Clash) (n : ℕ) → n ≤ limit → if_above limit clash n ≡ None
if_not_above limit clash n le =
    ap (λ (b : Bool). cond b (Some (clash n)) None)
    (false_from_ne_true (ltb limit n) (λ h. let lt : limit < n = ltb-true limit n h in absurd (omega arith)))

pub when_above : (limit : ℕ) (clash : ℕ → Clash) (n : ℕ) → limit < n → if_above limit clash n ≡ Some (clash n)
when_above limit clash n lt = ap (λ (b : Bool). cond b (Some (clash n)) None) (lt-ltb limit n lt)

module _ (inner : List LeafSheet) (vs : List SummedVertex) (names : List ℕ)
    (moved : IsPermutation (flat_map (λ s. s.vertices) inner) vs) (up : IsNonDecreasingBy name vs)
    (are : names ≡ map name vs) where
  rising : IsNonDecreasing names
  rising = subst IsNonDecreasing (sym are) (names_rise vs up)

  pub first_is : first_twice names ≡ least_twice (names_in inner)
  first_is =
      twice_told (names_in inner) names
      (subst (IsPermutation (names_in inner)) (sym are) (IsPermutation-map name (flat_map (λ s. s.vertices) inner) vs moved))
      rising

  pub is_twice : (v : ℕ) → first_twice names ≡ Some v → own_clash inner ≡ Some (Twice v)
  is_twice v is =
      ap (λ (o : Option ℕ). option_or (option_map Twice o) (if_above most_planes Planes (planes_in inner)))
      (sym first_is ∙ is)

  module _ (none : first_twice names ≡ None) where
    pub names_increase : IsStrictlyIncreasing names
    names_increase = increasing names (once_climbs names (up_from names rising) none)

    pub vertices_are : vs ≡ by_name (flat_map (λ s. s.vertices) inner)
    vertices_are = by_name_from_sort (flat_map (λ s. s.vertices) inner) vs moved (subst IsStrictlyIncreasing are names_increase)

    pub few_held : AreNamed inner → length vs ≤ MOST_ITEMS
    few_held named =
        let every = recursion_from_All (λ s. All (λ x. x.name < MOST_ITEMS) s.vertices) inner named in
        let below : All (λ x. x.name < MOST_ITEMS) vs =
        All-permutation (λ x. x.name < MOST_ITEMS) (flat_map (λ s. s.vertices) inner) vs moved
        (All-from_recursion (λ x. x.name < MOST_ITEMS) (flat_map (λ s. s.vertices) inner) (named_each inner every)) in
        let le : length (map name vs) ≤ MOST_ITEMS =
        few_climbing MOST_ITEMS (map name vs) (subst IsStrictlyIncreasing are names_increase)
        (below_at name MOST_ITEMS vs (recursion_from_All (λ x. x.name < MOST_ITEMS) vs below)) in
        subst (λ n. n ≤ MOST_ITEMS) (length-map vs name) le

    not_twice : own_clash inner ≡ if_above most_planes Planes (planes_in inner)
    not_twice =
        ap (λ (o : Option ℕ). option_or (option_map Twice o) (if_above most_planes Planes (planes_in inner)))
        (sym first_is ∙ none)

    module _ (count : ℕ) (counted : count ≡ sum_by (λ x. x.quad.planes) vs) where
      count_is : count ≡ planes_in inner
      count_is = counted ∙ sum_by-IsPermutation (λ x. x.quad.planes) (flat_map (λ s. s.vertices) inner) vs moved

      pub too_many : most_planes < count → own_clash inner ≡ Some (Planes count)
      too_many lt =
          not_twice
          ∙ ap (if_above most_planes Planes) (sym count_is)
          ∙ when_above most_planes Planes count lt

      pub no_clash : count ≤ most_planes → own_clash inner ≡ None
      no_clash le =
          not_twice
          ∙ ap (if_above most_planes Planes) (sym count_is)
          ∙ if_not_above most_planes Planes count le
