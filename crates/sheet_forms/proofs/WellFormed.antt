-- The patch that sheets make is well formed, whatever store they come from.
use Rattle.std.proofs.Common.{◌≡◌, ◌≢◌, ℕ, zero, suc, ◌+◌, ◌<◌, ◌≤◌, Bool, true, false, cond, not, ◌&&◌, eqb, List, [], ◌∷◌, ◌++◌, map, length, get_or, All, Option, Some, sym, ap, ◌∙◌, refl, subst, arith, inl, inr, flat_map, length-append, append-nil, append_assoc}
use Rattle.std.proofs.lemmas.Bool.{and_parts, eqb-true, eq-eqb, ne_eqb, false≢true, or_cases, or_left, or_right, not-true}
use Rattle.std.proofs.lemmas.List.Elements.{All-from_recursion, recursion_from_All, All-contains, Contains-append_left, Contains-append_right}
use Rattle.std.proofs.lemmas.List.{length-map}
use Rattle.std.proofs.lemmas.List.Recursion.{is_sum_by}
use Rattle.std.proofs.lemmas.Cmp.{on_total, then_total}
use Rattle.std.proofs.lemmas.List.Sorted.{length_permutation}
use Rattle.std.specs.Cmp.{IsTotalOrder, nat_cmp_total, unsigned_tied}
use Rattle.std.specs.FinMap as finite
use Rattle.std.specs.FinMap.Entries.{find, put, by_order}
use Rattle.std.specs.List.{filter, list_any, list_all, Contains, AllByRecursion, find as list_find}
use Rattle.std.specs.Option.{option_map_or}
use Rattle.std.specs.List.Sorted.{IsSorted, IsStrictlyIncreasing}
use Rattle.std.specs.Ordering.{nat_cmp, is_gt, is_le, eq_by_cmp, ordering_then}
use Rattle.std.specs.declared.cmp.Ordering.TheVariants.{Less, Equal, Greater}
use Rattle.triangle_lists.proofs.Filters.{filter-in_order}
use Rattle.triangle_lists.proofs.Orders.{tri_cmp_total}
use Rattle.triangle_lists.proofs.Sorting.{IsLeast, IsPermutation-in_order, IsSorted-in_order, Rises, Rises-in_order, weight}
use Rattle.std.specs.declared.cmp.Ordering.{Ordering}
use Rattle.oemm_limits.specs.declared.TheConstants.{MOST_ITEMS}
use Rattle.oemm_octree.specs.declared.cells.Cell.{Cell}
use Rattle.mesh_data.specs.declared.geometry.Tri.{Tri}
use Rattle.oemm_lists.specs.Ascending.{inserted, in_order}
use Rattle.mesh_data.specs.Triangles.{IsProper, turned, corners, tri_cmp}
use Rattle.sheet_data.specs.declared.sheets.LeafSheet.{LeafSheet}
use Rattle.sheet_data.specs.declared.patches.Mixed.{Mixed}
use Rattle.sheet_data.specs.declared.patches.NearList.{NearList}
use Rattle.sheet_data.specs.Summed.{SummedVertex}
use Rattle.oemm_octree.specs.Leaves.{home, is_one_of, in_core}
use Rattle.mesh_sheets.specs.Assembled.{has_name, by_name, mixed_cmp, faces_of, assembled}
use Rattle.mesh_sheets.specs.Written.{leaves_by, leaf_by}
use Rattle.mesh_sheets.proofs.Filters.{AreDistinct, map-map, all_weaker, one_of_filter, and_false}
use Rattle.sheet_forms.specs.Formed.{IsSheetOf, IsPatchFor, AreGiven, AreAgreed}
use Rattle.mesh_sheets.proofs.Kept.{true_of_T}
use Rattle.sheet_forms.proofs.Distinct.{distinct_told}
use Rattle.mesh_sheets.proofs.Climbing.{keys_climb, increasing}
use Rattle.sheet_forms.proofs.Formed.{entries_each, filter_each, map_each, sorted_rises}
use Rattle.mesh_sheets.proofs.Sorts.{names, pairs, found_there}

-- ---- vertices by name

made : List SummedVertex → finite.FinMap nat_cmp SummedVertex
made vs = finite.from_entries {R = nat_cmp} (pairs vs)

-- each entry has the name of its vertex, which is one of the vertices
entry_there : (vs : List SummedVertex) → AllByRecursion (λ e. Contains vs e.1 × (e.1.name ≡ e.0)) (finite.entries (made vs))
unfolding made
entry_there vs =
    entries_each (λ v x. Contains vs x × (x.name ≡ v)) (finite.entries (made vs)) (true_of_T _ (finite.entries_sorted (made vs)))
    (λ v x is. found_there v vs x (sym (finite.get-from_entries nat_cmp_total (pairs vs) v) ∙ finite.get-entries (made vs) v ∙ is))

same_names : (es : List (ℕ × SummedVertex)) (P : SummedVertex → Type 0) → AllByRecursion (λ e. P e.1 × (e.1.name ≡ e.0)) es → map (λ (x : SummedVertex). x.name) (map (λ e. e.1) es) ≡ map (λ e. e.0) es
same_names [] P all = refl
same_names (e ∷ es) P all = let here = all.0.1 in let rest = same_names es P all.1 in λ i. here i ∷ rest i

names_climb : (vs : List SummedVertex) → IsStrictlyIncreasing (names (by_name vs))
unfolding made
names_climb vs =
    let es = finite.entries (made vs) in
    subst IsStrictlyIncreasing (sym (same_names es (Contains vs) (entry_there vs))) (increasing (map (λ e. e.0) es) (keys_climb es (true_of_T _ (finite.entries_sorted (made vs)))))

by_name_all : (P : SummedVertex → Type 0) (vs : List SummedVertex) → All P vs → All P (by_name vs)
unfolding made
by_name_all P vs all =
    let es = finite.entries (made vs) in
    All-from_recursion P (by_name vs) (map_each P (λ (e : ℕ × SummedVertex). e.1) es (all_weaker (λ e. Contains vs e.1 × (e.1.name ≡ e.0)) (λ e. P e.1) (λ e is. All-contains P vs e.1 all is.0) es (entry_there vs)))

-- ---- lists of what sheets have

flat_each : {X : Type 0} (P : X → Type 0) (f : LeafSheet → List X) (ss : List LeafSheet) → AllByRecursion (λ s. AllByRecursion P (f s)) ss → AllByRecursion P (flat_map f ss)
flat_each P f [] all = tt
flat_each P f (s ∷ ss) all = append_each (f s) (flat_map f ss) all.0 (flat_each P f ss all.1)
  where
    append_each : (xs ys : List _) → AllByRecursion P xs → AllByRecursion P ys → AllByRecursion P (xs ++ ys)
    append_each [] ys a b = b
    append_each (x ∷ xs) ys a b = (a.0, append_each xs ys a.1 b)

each_placed : {X : Type 0} (P : X → Type 0) (R : X → X → Ordering) (x : X) (xs : List X) → P x → AllByRecursion P xs → AllByRecursion P (inserted R x xs)
each_placed P R x [] h all = (h, tt)
each_placed P R x (y ∷ ys) h all =
    elim (is_le (R x y)) as (λ b. AllByRecursion P (cond b (x ∷ y ∷ ys) (y ∷ inserted R x ys))) [ true ↦ (h, all) | false ↦ (all.0, each_placed P R x ys h all.1) ]

each_in_order : {X : Type 0} (P : X → Type 0) (R : X → X → Ordering) (xs : List X) → AllByRecursion P xs → AllByRecursion P (in_order R xs)
each_in_order P R [] all = tt
each_in_order P R (x ∷ xs) all = each_placed P R x (in_order R xs) all.0 (each_in_order P R xs all.1)

each_append : {X : Type 0} (P : X → Type 0) (xs ys : List X) → AllByRecursion P xs → AllByRecursion P ys → AllByRecursion P (xs ++ ys)
each_append P [] ys a b = b
each_append P (x ∷ xs) ys a b = (a.0, each_append P xs ys a.1 b)

each_any : {X : Type 0} (P : X → Type 0) → ((x : X) → P x) → (xs : List X) → AllByRecursion P xs
each_any P h [] = tt
each_any P h (x ∷ xs) = (h x, each_any P h xs)

-- ---- triangles in order, with the leaves that keep them and without

mixed_cmp_total : IsTotalOrder mixed_cmp
mixed_cmp_total = then_total (on_total (λ x. x.tri) tri_cmp_total) (on_total (λ x. x.leaf) nat_cmp_total)

first_not_above : (a b : Ordering) → is_gt (ordering_then a b) ≡ false → is_gt a ≡ false
first_not_above Less b h = refl
first_not_above Equal b h = refl
first_not_above Greater b h = h

least_tri : (x : Mixed) (xs : List Mixed) → IsLeast mixed_cmp_total x xs → IsLeast tri_cmp_total x.tri (map (λ y. y.tri) xs)
least_tri x [] h = tt
least_tri x (y ∷ ys) h = (first_not_above (tri_cmp x.tri y.tri) (nat_cmp x.leaf y.leaf) h.0, least_tri x ys h.1)

rising_tris : (xs : List Mixed) → Rises mixed_cmp_total xs → Rises tri_cmp_total (map (λ x. x.tri) xs)
rising_tris [] r = tt
rising_tris (x ∷ xs) r = (least_tri x xs r.0, rising_tris xs r.1)

-- what a test keeps of a list put in order is in order, and so are its triangles
kept_sorted : (p : Mixed → Bool) (xs : List Mixed) → IsSorted mixed_cmp (filter p (in_order mixed_cmp xs))
kept_sorted p xs = subst (IsSorted mixed_cmp) (sym (filter-in_order mixed_cmp_total p xs)) (IsSorted-in_order mixed_cmp_total (filter p xs))

kept_tris_sorted : (p : Mixed → Bool) (xs : List Mixed) → IsSorted tri_cmp (map (λ x. x.tri) (filter p (in_order mixed_cmp xs)))
kept_tris_sorted p xs =
    subst (λ (ys : List Mixed). IsSorted tri_cmp (map (λ x. x.tri) ys)) (sym (filter-in_order mixed_cmp_total p xs))
    (sorted_rises _ (rising_tris (in_order mixed_cmp (filter p xs)) (Rises-in_order mixed_cmp_total (filter p xs))))

-- ---- leaves of a core

leaves_in : (core : List ℕ) (inner : List LeafSheet) → ((l : ℕ) → is_one_of (map (λ (s : LeafSheet). s.leaf) inner) l ≡ true → is_one_of core l ≡ true) → AllByRecursion (λ (s : LeafSheet). is_one_of core s.leaf ≡ true) inner
leaves_in core [] h = tt
leaves_in core (s ∷ ss) h = (
  h s.leaf (or_left (eqb s.leaf s.leaf) (is_one_of (map (λ (s : LeafSheet). s.leaf) ss) s.leaf) (eq-eqb s.leaf s.leaf refl)),
  leaves_in core ss (λ l on. h l (or_right (eqb l s.leaf) (is_one_of (map (λ (s : LeafSheet). s.leaf) ss) l) on)),
)

module _ (cells : List Cell) (n : ℕ) (core : List ℕ) (inner outer : List LeafSheet) (given : AreGiven cells n core inner outer) where
  abbrev found : List SummedVertex
  found = flat_map (λ (s : LeafSheet). s.vertices) inner

  abbrev kept_in_order : List Mixed
  kept_in_order = in_order mixed_cmp (flat_map faces_of (inner ++ outer))

  abbrev IsFace : Tri → Type 0
  IsFace t = IsProper t × (turned t ≡ t)

  each_found : (P : SummedVertex → Type 0) → ((s : LeafSheet) → IsSheetOf cells n s.leaf s → is_one_of core s.leaf ≡ true → All P s.vertices) → All P (by_name found)
  each_found P h =
      by_name_all P found (All-from_recursion P found (flat_each P (λ (s : LeafSheet). s.vertices) inner (each_both inner (recursion_from_All _ inner given.inner_formed) (leaves_in core inner (λ l on. ap (λ (ls : List ℕ). is_one_of ls l) (sym given.of_core) ∙ on)))))
    where
      each_both : (ss : List LeafSheet) → AllByRecursion (λ (s : LeafSheet). IsSheetOf cells n s.leaf s) ss → AllByRecursion (λ (s : LeafSheet). is_one_of core s.leaf ≡ true) ss → AllByRecursion (λ (s : LeafSheet). AllByRecursion P s.vertices) ss
      each_both [] a b = tt
      each_both (s ∷ ss) a b = (recursion_from_All P s.vertices (h s a.0 b.0), each_both ss a.1 b.1)

  kept_faces : AllByRecursion (λ (x : Mixed). IsFace x.tri) kept_in_order
  kept_faces =
      each_in_order (λ (x : Mixed). IsFace x.tri) mixed_cmp (flat_map faces_of (inner ++ outer))
      (flat_each (λ (x : Mixed). IsFace x.tri) faces_of (inner ++ outer)
      (all_weaker (λ (s : LeafSheet). IsSheetOf cells n s.leaf s) (λ s. AllByRecursion (λ (x : Mixed). IsFace x.tri) (faces_of s))
      (λ s formed. map_each (λ (x : Mixed). IsFace x.tri) (λ t. let x : Mixed = record { leaf = s.leaf; tri = t } in x) s.faces
      (all_weaker (λ t. IsProper t × (turned t ≡ t) × (list_any (has_name s.vertices) (corners t) ≡ true)) IsFace (λ t is. (is.0, is.1)) s.faces (recursion_from_All _ s.faces formed.faces)))
      (inner ++ outer) (each_append (λ (s : LeafSheet). IsSheetOf cells n s.leaf s) inner outer (recursion_from_All _ inner given.inner_formed) (recursion_from_All _ outer given.outer_formed))))

  pub homes_found : All (λ x. in_core cells core x.point ≡ true) (by_name found)
  homes_found = each_found (λ x. in_core cells core x.point ≡ true) (λ s formed on k d lt. ap (is_one_of core) (formed.homes k d lt) ∙ on)

  pub below_found : All (λ x. x.name < MOST_ITEMS) (by_name found)
  below_found = each_found (λ x. x.name < MOST_ITEMS) (λ s formed on k d lt. let below = formed.below k d lt in let few = given.few_names in omega arith)

  pub names_found : IsStrictlyIncreasing (names (by_name found))
  names_found = names_climb found

  abbrev is_whole_by : Mixed → Bool
  is_whole_by x = list_all (has_name (by_name found)) (corners x.tri)

  abbrev is_mixed_by : Mixed → Bool
  is_mixed_by x = list_any (has_name (by_name found)) (corners x.tri) && not (list_all (has_name (by_name found)) (corners x.tri))

  wholes : AllByRecursion (λ (x : Mixed). IsFace x.tri × (is_whole_by x ≡ true)) (filter is_whole_by kept_in_order)
  wholes = filter_each (λ (x : Mixed). IsFace x.tri) is_whole_by kept_in_order kept_faces

  mixeds : AllByRecursion (λ (x : Mixed). IsFace x.tri × (is_mixed_by x ≡ true)) (filter is_mixed_by kept_in_order)
  mixeds = filter_each (λ (x : Mixed). IsFace x.tri) is_mixed_by kept_in_order kept_faces

  pub whole_found : All (λ t. list_all (has_name (by_name found)) (corners t) ≡ true) (map (λ (x : Mixed). x.tri) (filter is_whole_by kept_in_order))
  whole_found = All-from_recursion (λ t. list_all (has_name (by_name found)) (corners t) ≡ true) _ (map_each (λ t. list_all (has_name (by_name found)) (corners t) ≡ true) (λ (x : Mixed). x.tri) (filter is_whole_by kept_in_order)
      (all_weaker (λ (x : Mixed). IsFace x.tri × (is_whole_by x ≡ true)) (λ (x : Mixed). is_whole_by x ≡ true) (λ x is. is.1) (filter is_whole_by kept_in_order) wholes))

  mixed_parts : AllByRecursion (λ (x : Mixed). (list_any (has_name (by_name found)) (corners x.tri) ≡ true) × (list_all (has_name (by_name found)) (corners x.tri) ≡ false)) (filter is_mixed_by kept_in_order)
  mixed_parts = all_weaker (λ (x : Mixed). IsFace x.tri × (is_mixed_by x ≡ true)) (λ (x : Mixed). (list_any (has_name (by_name found)) (corners x.tri) ≡ true) × (list_all (has_name (by_name found)) (corners x.tri) ≡ false))
      (λ x is. let parts = and_parts (list_any (has_name (by_name found)) (corners x.tri)) (not (list_all (has_name (by_name found)) (corners x.tri))) is.1 in (parts.0, not-true (list_all (has_name (by_name found)) (corners x.tri)) parts.1))
      (filter is_mixed_by kept_in_order) mixeds

  pub touch_found : All (λ (x : Mixed). list_any (has_name (by_name found)) (corners x.tri) ≡ true) (filter is_mixed_by kept_in_order)
  touch_found = All-from_recursion _ _ (all_weaker (λ (x : Mixed). (list_any (has_name (by_name found)) (corners x.tri) ≡ true) × (list_all (has_name (by_name found)) (corners x.tri) ≡ false)) (λ (x : Mixed). list_any (has_name (by_name found)) (corners x.tri) ≡ true) (λ x is. is.0) (filter is_mixed_by kept_in_order) mixed_parts)

  pub not_whole_found : All (λ (x : Mixed). list_all (has_name (by_name found)) (corners x.tri) ≡ false) (filter is_mixed_by kept_in_order)
  not_whole_found = All-from_recursion _ _ (all_weaker (λ (x : Mixed). (list_any (has_name (by_name found)) (corners x.tri) ≡ true) × (list_all (has_name (by_name found)) (corners x.tri) ≡ false)) (λ (x : Mixed). list_all (has_name (by_name found)) (corners x.tri) ≡ false) (λ x is. is.1) (filter is_mixed_by kept_in_order) mixed_parts)

  pub proper_found : All IsFace (map (λ (x : Mixed). x.tri) (filter is_whole_by kept_in_order) ++ map (λ (x : Mixed). x.tri) (filter is_mixed_by kept_in_order))
  proper_found = All-from_recursion IsFace _ (each_append IsFace (map (λ (x : Mixed). x.tri) (filter is_whole_by kept_in_order)) (map (λ (x : Mixed). x.tri) (filter is_mixed_by kept_in_order))
      (map_each IsFace (λ (x : Mixed). x.tri) (filter is_whole_by kept_in_order) (all_weaker (λ (x : Mixed). IsFace x.tri × (is_whole_by x ≡ true)) (λ x. IsFace x.tri) (λ x is. is.0) (filter is_whole_by kept_in_order) wholes))
      (map_each IsFace (λ (x : Mixed). x.tri) (filter is_mixed_by kept_in_order) (all_weaker (λ (x : Mixed). IsFace x.tri × (is_mixed_by x ≡ true)) (λ x. IsFace x.tri) (λ x is. is.0) (filter is_mixed_by kept_in_order) mixeds)))

  abbrev list_of : LeafSheet → NearList
  list_of s = record { leaf = s.leaf; outside = filter (λ l. not (is_one_of core l)) s.near }

  pub lists_found : map (λ (l : NearList). l.leaf) (map list_of inner) ≡ core
  lists_found = map-map (λ (l : NearList). l.leaf) list_of inner ∙ given.of_core

  pub outside_found : All (λ (l : NearList). (k : ℕ) → is_one_of l.outside k ≡ true → is_one_of core k ≡ false) (map list_of inner)
  outside_found = All-from_recursion (λ (l : NearList). (k : ℕ) → is_one_of l.outside k ≡ true → is_one_of core k ≡ false) (map list_of inner) (map_each (λ (l : NearList). (k : ℕ) → is_one_of l.outside k ≡ true → is_one_of core k ≡ false) list_of inner
      (all_weaker (λ (s : LeafSheet). IsSheetOf cells n s.leaf s) (λ (s : LeafSheet). (k : ℕ) → is_one_of (filter (λ l. not (is_one_of core l)) s.near) k ≡ true → is_one_of core k ≡ false)
      (λ s formed k on. not-true (is_one_of core k) (and_parts (not (is_one_of core k)) (is_one_of s.near k) (sym (one_of_filter (λ l. not (is_one_of core l)) s.near k) ∙ on)).0) inner (recursion_from_All _ inner given.inner_formed)))

-- ---- where the sheets don't clash

one_there : (vs : List SummedVertex) (k : ℕ) (x : SummedVertex) → k < length vs → get_or vs k x ≡ x → is_one_of (names vs) x.name ≡ true
one_there [] k x lt is = absurd (omega arith)
one_there (v ∷ vs) zero x lt is = or_left (eqb x.name v.name) (is_one_of (names vs) x.name) (eq-eqb x.name v.name (ap (λ (y : SummedVertex). y.name) (sym is)))
one_there (v ∷ vs) (suc k) x lt is = or_right (eqb x.name v.name) (is_one_of (names vs) x.name) (one_there vs k x (omega arith) is)

-- a vertex is found by its name, if no name comes twice
once_found : (vs : List SummedVertex) → AreDistinct (names vs) → (k : ℕ) (x : SummedVertex) → k < length vs → get_or vs k x ≡ x → find nat_cmp x.name (pairs vs) ≡ Some x
once_found [] once k x lt is = absurd (omega arith)
once_found (v ∷ vs) once zero x lt is =
    ap (λ b. cond b (Some v) (find nat_cmp x.name (pairs vs))) (unsigned_tied x.name v.name ∙ eq-eqb x.name v.name (ap (λ (y : SummedVertex). y.name) (sym is))) ∙ ap (λ (y : SummedVertex). Some y) is
once_found (v ∷ vs) once (suc k) x lt is =
    let apart : x.name ≢ v.name = λ e. false≢true (sym once.0 ∙ ap (is_one_of (names vs)) (sym e) ∙ one_there vs k x (omega arith) is) in
    ap (λ b. cond b (Some v) (find nat_cmp x.name (pairs vs))) (unsigned_tied x.name v.name ∙ ne_eqb x.name v.name apart) ∙ once_found vs once.1 k x (omega arith) is

find_value : (q : ℕ) (es : List (ℕ × SummedVertex)) (P : SummedVertex → Type 0) → AllByRecursion (λ e. P e.1 × (e.1.name ≡ e.0)) es → list_find (λ (x : SummedVertex). eqb q x.name) (map (λ e. e.1) es) ≡ find nat_cmp q es
find_value q [] P all = refl
find_value q (e ∷ es) P all =
    let rest = find_value q es P all.1 in
    let test : eqb q e.1.name ≡ eq_by_cmp nat_cmp q e.0 = ap (eqb q) all.0.1 ∙ sym (unsigned_tied q e.0) in
    λ i. cond (test i) (Some e.1) (rest i)

-- the vertices by name tell the home of each
home_told : (cells : List Cell) (vs : List SummedVertex) (x : SummedVertex) → AreDistinct (names vs) → Contains vs x → leaf_by cells (by_name vs) x.name ≡ home cells x.point
unfolding made
home_told cells vs x once there =
    let es = finite.entries (made vs) in
    ap (λ (o : Option SummedVertex). option_map_or (λ (y : SummedVertex). home cells y.point) o (length cells))
    (find_value x.name es (Contains vs) (entry_there vs) ∙ sym (finite.get-entries (made vs) x.name) ∙ finite.get-from_entries nat_cmp_total (pairs vs) x.name
    ∙ once_found vs once there.0 x there.1 there.2)

-- some vertex of the core's sheets is a corner of the triangle, with its home in the leaf that keeps it
abbrev IsAnchored : List Cell → List ℕ → List SummedVertex → Mixed → Type 0
IsAnchored cells core vs x = is_one_of core x.leaf ≡ true → (y : SummedVertex) × Contains vs y × (home cells y.point ≡ x.leaf) × (list_any (eqb y.name) (corners x.tri) ≡ true)

name_there : (vs : List SummedVertex) (v : ℕ) → has_name vs v ≡ true → (y : SummedVertex) × Contains vs y × (y.name ≡ v)
name_there [] v h = absurd (false≢true h)
name_there (x ∷ vs) v h =
    elim (or_cases (eqb v x.name) (has_name vs v) h) [
      | inl here ↦ (x, (0, omega arith, refl), sym (eqb-true v x.name here))
      | inr more ↦ let later = name_there vs v more in (later.0, (suc later.1.0, omega arith, later.1.2), later.2)
    ]

corner_there : (vs : List SummedVertex) (ns : List ℕ) → list_any (has_name vs) ns ≡ true → (y : SummedVertex) × Contains vs y × (list_any (eqb y.name) ns ≡ true)
corner_there vs [] h = absurd (false≢true h)
corner_there vs (v ∷ ns) h =
    elim (or_cases (has_name vs v) (list_any (has_name vs) ns) h) [
      | inl here ↦ let there = name_there vs v here in (there.0, there.1, or_left (eqb there.0.name v) (list_any (eqb there.0.name) ns) (eq-eqb there.0.name v there.2))
      | inr more ↦ let later = corner_there vs ns more in (later.0, later.1, or_right (eqb later.0.name v) (list_any (eqb later.0.name) ns) later.2)
    ]

-- a corner whose leaf is told is one of the leaves of the corners
anchored_leaf : (cells : List Cell) (vs : List SummedVertex) (y : SummedVertex) (ns : List ℕ) (leaf : ℕ) → leaf_by cells vs y.name ≡ leaf → list_any (eqb y.name) ns ≡ true → is_one_of (map (leaf_by cells vs) ns) leaf ≡ true
anchored_leaf cells vs y [] leaf is h = absurd (false≢true h)
anchored_leaf cells vs y (v ∷ ns) leaf is h =
    elim (or_cases (eqb y.name v) (list_any (eqb y.name) ns) h) [
      | inl here ↦ or_left (eqb leaf (leaf_by cells vs v)) (is_one_of (map (leaf_by cells vs) ns) leaf) (eq-eqb leaf (leaf_by cells vs v) (sym is ∙ ap (leaf_by cells vs) (eqb-true y.name v here)))
      | inr more ↦ or_right (eqb leaf (leaf_by cells vs v)) (is_one_of (map (leaf_by cells vs) ns) leaf) (anchored_leaf cells vs y ns leaf is more)
    ]

inner_anchored : (cells : List Cell) (n : ℕ) (core : List ℕ) (done ss : List LeafSheet) → AllByRecursion (λ (s : LeafSheet). IsSheetOf cells n s.leaf s) ss
    → AllByRecursion (λ (s : LeafSheet). AllByRecursion (IsAnchored cells core (flat_map (λ (s : LeafSheet). s.vertices) done ++ flat_map (λ (s : LeafSheet). s.vertices) ss)) (faces_of s)) ss
inner_anchored cells n core done [] formed = tt
inner_anchored cells n core done (s ∷ ss) formed =
    let before = flat_map (λ (s : LeafSheet). s.vertices) done in
    let after = flat_map (λ (s : LeafSheet). s.vertices) ss in
    let all = before ++ (s.vertices ++ after) in
    let here : AllByRecursion (IsAnchored cells core all) (faces_of s) =
    map_each (IsAnchored cells core all) (λ t. let x : Mixed = record { leaf = s.leaf; tri = t } in x) s.faces
    (all_weaker (λ t. IsProper t × (turned t ≡ t) × (list_any (has_name s.vertices) (corners t) ≡ true)) (λ t. IsAnchored cells core all (record { leaf = s.leaf; tri = t }))
    (λ t is on. let y = corner_there s.vertices (corners t) is.2 in (y.0, Contains-append_right before (s.vertices ++ after) y.0 (Contains-append_left s.vertices after y.0 y.1), All-contains (λ (x : SummedVertex). home cells x.point ≡ s.leaf) s.vertices y.0 formed.0.homes y.1, y.2))
    s.faces (recursion_from_All _ s.faces formed.0.faces)) in
    let same : flat_map (λ (s : LeafSheet). s.vertices) (done ++ s ∷ []) ++ after ≡ all = flat_push done s after in
    (here, subst (λ (vs : List SummedVertex). AllByRecursion (λ (s : LeafSheet). AllByRecursion (IsAnchored cells core vs) (faces_of s)) ss) same (inner_anchored cells n core (done ++ s ∷ []) ss formed.1))
  where
    flat_push : (done : List LeafSheet) (s : LeafSheet) (after : List SummedVertex) → flat_map (λ (s : LeafSheet). s.vertices) (done ++ s ∷ []) ++ after ≡ flat_map (λ (s : LeafSheet). s.vertices) done ++ (s.vertices ++ after)
    flat_push [] s after = ap (λ (vs : List SummedVertex). vs ++ after) (append-nil s.vertices)
    flat_push (d ∷ done) s after = append_assoc d.vertices (flat_map (λ (s : LeafSheet). s.vertices) (done ++ s ∷ [])) after ∙ ap (λ (vs : List SummedVertex). d.vertices ++ vs) (flat_push done s after) ∙ sym (append_assoc d.vertices (flat_map (λ (s : LeafSheet). s.vertices) done) (s.vertices ++ after))

-- ---- counts

less_kept : (p q : Mixed → Bool) → ((x : Mixed) → p x ≡ true → q x ≡ false) → (xs : List Mixed) → length (filter p xs) + length (filter q xs) ≤ length xs
less_kept p q apart [] = omega arith
less_kept p q apart (x ∷ xs) =
    let rest = less_kept p q apart xs in
    elim (p x) as (λ b. p x ≡ b → length (cond b (x ∷ filter p xs) (filter p xs)) + length (cond (q x) (x ∷ filter q xs) (filter q xs)) ≤ suc (length xs)) [
      | true ↦ λ on. let out : length (cond (q x) (x ∷ filter q xs) (filter q xs)) ≡ length (filter q xs) = ap (λ b. length (cond b (x ∷ filter q xs) (filter q xs))) (apart x on) in omega arith
      | false ↦ λ _. elim (q x) as (λ b. length (filter p xs) + length (cond b (x ∷ filter q xs) (filter q xs)) ≤ suc (length xs)) [ true ↦ omega arith | false ↦ omega arith ]
    ] refl

length-in_order : (xs : List Mixed) → length (in_order mixed_cmp xs) ≡ length xs
length-in_order xs = length_permutation xs (in_order mixed_cmp xs) (IsPermutation-in_order mixed_cmp xs)

put_weighs : (f : SummedVertex → ℕ) (k : ℕ) (x : SummedVertex) (es : List (ℕ × SummedVertex)) → weight f (map (λ e. e.1) (put nat_cmp k x es)) ≤ f x + weight f (map (λ e. e.1) es)
put_weighs f k x [] = omega arith
put_weighs f k x (e ∷ es) =
    let rest = put_weighs f k x es in
    elim (nat_cmp k e.0) as (λ r. weight f (map (λ (e : ℕ × SummedVertex). e.1) (by_order r ((k, x) ∷ e ∷ es) ((e.0, x) ∷ es) (e ∷ put nat_cmp k x es))) ≤ f x + (f e.1 + weight f (map (λ e. e.1) es))) [
      | Less ↦ omega arith
      | Equal ↦ omega arith
      | Greater ↦ omega arith
    ]

nothing_weighs : (f : SummedVertex → ℕ) (es : List (ℕ × SummedVertex)) → length es ≡ 0 → weight f (map (λ e. e.1) es) ≡ 0
nothing_weighs f [] none = refl
nothing_weighs f (e ∷ es) none = absurd (omega arith)

by_name_weighs : (f : SummedVertex → ℕ) (vs : List SummedVertex) → weight f (by_name vs) ≤ weight f vs
by_name_weighs f [] =
    let m = finite.from_entries {R = nat_cmp} (pairs []) in
    let none : length (finite.entries m) ≡ 0 = sym (finite.len-entries m) ∙ finite.len-empty nat_cmp SummedVertex in
    omega (arith, nothing_weighs f (finite.entries m) none)
by_name_weighs f (v ∷ vs) =
    let rest = by_name_weighs f vs in
    let m = finite.from_entries {R = nat_cmp} (pairs vs) in
    omega (arith, ap (λ (es : List (ℕ × SummedVertex)). weight f (map (λ e. e.1) es)) (finite.entries-insert nat_cmp_total m v.name v), put_weighs f v.name v (finite.entries m))

-- the patch that sheets make, if they don't clash
pub assembled_formed : (cells : List Cell) (n : ℕ) (core : List ℕ) (inner outer : List LeafSheet) → AreGiven cells n core inner outer → AreAgreed inner outer → IsPatchFor cells core (assembled core inner outer)
unfolding assembled
assembled_formed cells n core inner outer given agreed =
    let vs = flat_map (λ (s : LeafSheet). s.vertices) inner in
    let kept = in_order mixed_cmp (flat_map faces_of (inner ++ outer)) in
    let whole : Mixed → Bool = λ x. list_all (has_name (by_name vs)) (corners x.tri) in
    let mixed : Mixed → Bool = λ x. list_any (has_name (by_name vs)) (corners x.tri) && not (list_all (has_name (by_name vs)) (corners x.tri)) in
    let plane_count : SummedVertex → ℕ = λ x. x.quad.planes in
    let anchored : AllByRecursion (IsAnchored cells core vs) kept =
    each_in_order (IsAnchored cells core vs) mixed_cmp (flat_map faces_of (inner ++ outer)) (flat_each (IsAnchored cells core vs) faces_of (inner ++ outer)
    (each_append (λ (s : LeafSheet). AllByRecursion (IsAnchored cells core vs) (faces_of s)) inner outer
    (inner_anchored cells n core [] inner (recursion_from_All _ inner given.inner_formed))
    (all_weaker (λ (s : LeafSheet). is_one_of core s.leaf ≡ false) (λ (s : LeafSheet). AllByRecursion (IsAnchored cells core vs) (faces_of s))
    (λ s out. map_each (IsAnchored cells core vs) (λ t. let x : Mixed = record { leaf = s.leaf; tri = t } in x) s.faces (each_any (λ t. IsAnchored cells core vs (record { leaf = s.leaf; tri = t })) (λ t on. absurd (false≢true (sym out ∙ on))) s.faces)) outer (recursion_from_All _ outer given.outside)))) in
    let leaf_of_mixed : All (λ (x : Mixed). is_one_of core x.leaf ≡ true → is_one_of (leaves_by cells (by_name vs) x.tri) x.leaf ≡ true) (filter mixed kept) =
    All-from_recursion (λ (x : Mixed). is_one_of core x.leaf ≡ true → is_one_of (leaves_by cells (by_name vs) x.tri) x.leaf ≡ true) (filter mixed kept)
    (all_weaker (λ x. IsAnchored cells core vs x × (mixed x ≡ true)) (λ (x : Mixed). is_one_of core x.leaf ≡ true → is_one_of (leaves_by cells (by_name vs) x.tri) x.leaf ≡ true)
    (λ x is on. let y = is.0 on in anchored_leaf cells (by_name vs) y.0 (corners x.tri) x.leaf (home_told cells vs y.0 (distinct_told _ agreed.once) y.1 ∙ y.2) y.3)
    (filter mixed kept) (filter_each (IsAnchored cells core vs) mixed kept anchored)) in
    record {
      ascend = names_found cells n core inner outer given;
      below = below_found cells n core inner outer given;
      homes = homes_found cells n core inner outer given;
      proper = proper_found cells n core inner outer given;
      whole = whole_found cells n core inner outer given;
      touch = touch_found cells n core inner outer given;
      not_whole = not_whole_found cells n core inner outer given;
      whole_sorted = kept_tris_sorted whole (flat_map faces_of (inner ++ outer));
      mixed_sorted = kept_sorted mixed (flat_map faces_of (inner ++ outer));
      kept = leaf_of_mixed;
      lists = lists_found cells n core inner outer given;
      outside = outside_found cells n core inner outer given;
      few = omega (
        arith,
        length-append (map (λ (x : Mixed). x.tri) (filter whole kept)) (map (λ (x : Mixed). x.tri) (filter mixed kept)),
        length-map (filter whole kept) (λ (x : Mixed). x.tri),
        length-map (filter mixed kept) (λ (x : Mixed). x.tri),
        less_kept whole mixed (λ x on. ap (λ b. list_any (has_name (by_name vs)) (corners x.tri) && not b) on ∙ and_false (list_any (has_name (by_name vs)) (corners x.tri))) kept,
        length-in_order (flat_map faces_of (inner ++ outer)),
        agreed.few,
      );
      planes = omega (
        arith,
        is_sum_by (weight plane_count) plane_count refl (λ _ _. refl) (by_name vs),
        is_sum_by (weight plane_count) plane_count refl (λ _ _. refl) vs,
        by_name_weighs plane_count vs,
        agreed.planes,
      );
    }
