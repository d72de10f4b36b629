-- The vertices of a core, gathered from the sheets of its leaves.
use Rattle.std.proofs.Common.{◌≡◌, ℕ, Bool, true, false, cond, ◌||◌, eqb, List, [], ◌∷◌, ◌++◌, map, length, Option, Some, None, sym, ap, ◌∙◌, refl, flat_map}
use Rattle.std.proofs.lemmas.Bool.{and_parts, and_from, eqb-true}
use Rattle.std.proofs.lemmas.List.{map-append}
use Rattle.std.specs.Cmp.{nat_cmp_total, unsigned_tied}
use Rattle.std.specs.FinMap as finite
use Rattle.std.specs.FinMap.{nat_cmp-IsAntisymmetric}
use Rattle.std.specs.FinMap.Entries.{find as find_entry, is_sorted, below_all, same_entries}
use Rattle.std.specs.List.{filter, find}
use Rattle.std.specs.Option.{option_map, option_map_or, option_or, is_some}
use Rattle.std.specs.Ordering.{nat_cmp, is_lt, eq_by_cmp}
use Rattle.oemm_octree.specs.declared.points.Point.{Point}
use Rattle.oemm_octree.specs.declared.cells.Cell.{Cell}
use Rattle.mesh_data.specs.declared.geometry.Vertex.{Vertex}
use Rattle.mesh_data.specs.Edits.{is_held}
use Rattle.mesh_data.specs.Mesh.{Mesh}
use Rattle.sheet_data.specs.Summed.{SummedVertex}
use Rattle.oemm_octree.specs.Leaves.{home, is_one_of, in_core}
use Rattle.mesh_sheets.specs.Sheets.{summed, vertices_in, leaf_of}
use Rattle.mesh_sheets.specs.Assembled.{has_name, by_name}
use Rattle.mesh_sheets.specs.Written.{leaf_by}
use Rattle.mesh_sheets.proofs.Filters.{map-map}
use Rattle.mesh_sheets.proofs.Kept.{keep, find_kept, sorted_kept, true_of_T, T_of_true}

abbrev Entries : Type 0
Entries = List (ℕ × Vertex)

find_append : (v : ℕ) (xs ys : Entries) → find_entry nat_cmp v (xs ++ ys) ≡ option_or (find_entry nat_cmp v xs) (find_entry nat_cmp v ys)
find_append v [] ys = refl
find_append v (e ∷ xs) ys =
    elim (eq_by_cmp nat_cmp v e.0) as (λ b. cond b (Some e.1) (find_entry nat_cmp v (xs ++ ys)) ≡ option_or (cond b (Some e.1) (find_entry nat_cmp v xs)) (find_entry nat_cmp v ys)) [ true ↦ refl | false ↦ find_append v xs ys ]

one_more : (k : Vertex → ℕ) (l : ℕ) (ls : List ℕ) (o : Option Vertex) → option_or (keep (λ x. eqb (k x) l) o) (keep (λ x. is_one_of ls (k x)) o) ≡ keep (λ x. is_one_of (l ∷ ls) (k x)) o
one_more k l ls None = refl
one_more k l ls (Some x) =
    elim (eqb (k x) l) as (λ b. option_or (cond b (Some x) None) (cond (is_one_of ls (k x)) (Some x) None) ≡ cond (b || is_one_of ls (k x)) (Some x) None) [ true ↦ refl | false ↦ refl ]

keep_none : (o : Option Vertex) → None ≡ keep (λ _. false) o
keep_none None = refl
keep_none (Some x) = refl

-- a name is found in the parts by some numbers where its vertex has one of them
find_parts : (k : Vertex → ℕ) (v : ℕ) (es : Entries) → is_sorted nat_cmp es ≡ true → (ls : List ℕ)
    → find_entry nat_cmp v (flat_map (λ l. filter (λ e. eqb (k e.1) l) es) ls) ≡ keep (λ x. is_one_of ls (k x)) (find_entry nat_cmp v es)
find_parts k v es sorted [] = keep_none (find_entry nat_cmp v es)
find_parts k v es sorted (l ∷ ls) =
    find_append v (filter (λ e. eqb (k e.1) l) es) (flat_map (λ l. filter (λ e. eqb (k e.1) l) es) ls)
    ∙ (λ i. option_or (find_kept (λ x. eqb (k x) l) v es sorted i) (find_parts k v es sorted ls i))
    ∙ one_more k l ls (find_entry nat_cmp v es)

-- ---- summed vertices by their names

abbrev named : ℕ × Vertex → ℕ × SummedVertex
named e = (e.0, summed e)

find_named : (v : ℕ) (es : Entries) → find_entry nat_cmp v (map named es) ≡ option_map (λ x. summed (v, x)) (find_entry nat_cmp v es)
find_named v [] = refl
find_named v (e ∷ es) =
    elim (eq_by_cmp nat_cmp v e.0) as (λ b. eq_by_cmp nat_cmp v e.0 ≡ b → cond b (Some (summed e)) (find_entry nat_cmp v (map named es)) ≡ option_map (λ x. summed (v, x)) (cond b (Some e.1) (find_entry nat_cmp v es))) [
      | true ↦ λ here. ap (λ (k : ℕ). Some (summed (k, e.1))) (sym (eqb-true v e.0 (sym (unsigned_tied v e.0) ∙ here)))
      | false ↦ λ _. find_named v es
    ] refl

below_named : (v : ℕ) (es : Entries) → below_all nat_cmp v es ≡ true → below_all nat_cmp v (map named es) ≡ true
below_named v [] h = refl
below_named v (e ∷ es) h = let parts = and_parts (is_lt (nat_cmp v e.0)) (below_all nat_cmp v es) h in and_from _ _ parts.0 (below_named v es parts.1)

sorted_named : (es : Entries) → is_sorted nat_cmp es ≡ true → is_sorted nat_cmp (map named es) ≡ true
sorted_named [] h = refl
sorted_named (e ∷ es) h = let parts = and_parts (below_all nat_cmp e.0 es) (is_sorted nat_cmp es) h in and_from _ _ (below_named e.0 es parts.0) (sorted_named es parts.1)

-- the entries of a map that others make, if each name is found alike
entries_as : (es fs : Entries) → is_sorted nat_cmp fs ≡ true → ((v : ℕ) → find_entry nat_cmp v es ≡ find_entry nat_cmp v fs)
    → finite.entries (finite.from_entries {R = nat_cmp} (map named es)) ≡ map named fs
entries_as es fs sorted same =
    let made = finite.from_entries {R = nat_cmp} (map named es) in
    same_entries nat_cmp nat_cmp_total nat_cmp-IsAntisymmetric _ _ (finite.entries_sorted made) (T_of_true _ (sorted_named fs sorted)) (λ v.
    sym (finite.get-entries made v) ∙ finite.get-from_entries nat_cmp_total (map named es) v
    ∙ find_named v es ∙ ap (option_map (λ x. summed (v, x))) (same v) ∙ sym (find_named v fs))

flat_summed : (f : ℕ → Entries) (ls : List ℕ) → flat_map (λ l. map summed (f l)) ls ≡ map summed (flat_map f ls)
flat_summed f [] = refl
flat_summed f (l ∷ ls) = ap (λ (xs : List SummedVertex). map summed (f l) ++ xs) (flat_summed f ls) ∙ sym (map-append summed (f l) (flat_map f ls))

-- the vertices of the leaves of a core, in the order of their names, are those of the core
pub gathered : (cells : List Cell) (m : Mesh) (core : List ℕ) → by_name (flat_map (λ l. vertices_in (λ p. eqb (home cells p) l) m) core) ≡ vertices_in (in_core cells core) m
gathered cells m core =
    let es = finite.entries m.vertices in
    let sorted = true_of_T _ (finite.entries_sorted m.vertices) in
    let k : Vertex → ℕ = λ x. home cells x.point in
    let parts = flat_map (λ l. filter (λ e. eqb (k e.1) l) es) core in
    let inside = filter (λ e. is_one_of core (k e.1)) es in
    let flat : flat_map (λ l. vertices_in (λ p. eqb (home cells p) l) m) core ≡ map summed parts = flat_summed (λ l. filter (λ e. eqb (k e.1) l) es) core in
    ap by_name flat
    ∙ ap (λ (xs : List (ℕ × SummedVertex)). finite.values (finite.from_entries {R = nat_cmp} xs)) (map-map (λ (x : SummedVertex). (x.name, x)) summed parts)
    ∙ ap (λ (xs : List (ℕ × SummedVertex)). map (λ e. e.1) xs) (entries_as parts inside (sorted_kept (λ x. is_one_of core (k x)) es sorted) (λ v. find_parts k v es sorted core ∙ sym (find_kept (λ x. is_one_of core (k x)) v es sorted)))
    ∙ map-map (λ (e : ℕ × SummedVertex). e.1) named inside

-- ---- looking names up among the vertices of a core

has_summed : (v : ℕ) (es : Entries) → has_name (map summed es) v ≡ is_some (find_entry nat_cmp v es)
has_summed v [] = refl
has_summed v (e ∷ es) =
    ap (λ b. b || has_name (map summed es) v) (sym (unsigned_tied v e.0))
    ∙ elim (eq_by_cmp nat_cmp v e.0) as (λ b. (b || has_name (map summed es) v) ≡ is_some (cond b (Some e.1) (find_entry nat_cmp v es))) [ true ↦ refl | false ↦ has_summed v es ]

some_kept : (inside : Point → Bool) (o : Option Vertex) → is_some (keep (λ x. inside x.point) o) ≡ option_map_or inside (option_map (λ (x : Vertex). x.point) o) false
some_kept inside None = refl
some_kept inside (Some x) = elim (inside x.point) as (λ b. is_some (cond b (Some x) None) ≡ b) [ true ↦ refl | false ↦ refl ]

found_inside : (inside : Point → Bool) (m : Mesh) (v : ℕ) → find_entry nat_cmp v (filter (λ e. inside e.1.point) (finite.entries m.vertices)) ≡ keep (λ x. inside x.point) (finite.get m.vertices v)
found_inside inside m v =
    find_kept (λ x. inside x.point) v (finite.entries m.vertices) (true_of_T _ (finite.entries_sorted m.vertices)) ∙ ap (keep (λ x. inside x.point)) (sym (finite.get-entries m.vertices v))

-- they have just the held names
pub has_held : (inside : Point → Bool) (m : Mesh) (v : ℕ) → has_name (vertices_in inside m) v ≡ is_held inside m v
has_held inside m v =
    has_summed v (filter (λ e. inside e.1.point) (finite.entries m.vertices)) ∙ ap is_some (found_inside inside m v) ∙ some_kept inside (finite.get m.vertices v)

leaf_summed : (cells : List Cell) (v : ℕ) (es : Entries) → leaf_by cells (map summed es) v ≡ option_map_or (λ (x : Vertex). home cells x.point) (find_entry nat_cmp v es) (length cells)
leaf_summed cells v [] = refl
leaf_summed cells v (e ∷ es) =
    ap (λ b. option_map_or (λ (x : SummedVertex). home cells x.point) (cond b (Some (summed e)) (find (λ x. eqb v x.name) (map summed es))) (length cells)) (sym (unsigned_tied v e.0))
    ∙ elim (eq_by_cmp nat_cmp v e.0) as (λ b. option_map_or (λ (x : SummedVertex). home cells x.point) (cond b (Some (summed e)) (find (λ x. eqb v x.name) (map summed es))) (length cells) ≡ option_map_or (λ (x : Vertex). home cells x.point) (cond b (Some e.1) (find_entry nat_cmp v es)) (length cells)) [
      | true ↦ refl
      | false ↦ leaf_summed cells v es
    ]

-- they tell the leaf of a held name, and none of another
pub leaf_told : (cells : List Cell) (core : List ℕ) (m : Mesh) (v : ℕ) → leaf_by cells (vertices_in (in_core cells core) m) v ≡ cond (is_held (in_core cells core) m v) (leaf_of cells m v) (length cells)
leaf_told cells core m v =
    leaf_summed cells v (filter (λ e. in_core cells core e.1.point) (finite.entries m.vertices))
    ∙ ap (λ (o : Option Vertex). option_map_or (λ (x : Vertex). home cells x.point) o (length cells)) (found_inside (in_core cells core) m v)
    ∙ elim (finite.get m.vertices v) as (λ o. option_map_or (λ (x : Vertex). home cells x.point) (keep (λ x. in_core cells core x.point) o) (length cells)
    ≡ cond (option_map_or (in_core cells core) (option_map (λ (x : Vertex). x.point) o) false) (option_map_or (home cells) (option_map (λ (x : Vertex). x.point) o) (length cells)) (length cells)) [
      | None ↦ refl
      | Some x ↦ elim (in_core cells core x.point) as (λ b. option_map_or (λ (x : Vertex). home cells x.point) (cond b (Some x) None) (length cells) ≡ cond b (home cells x.point) (length cells)) [ true ↦ refl | false ↦ refl ]
    ]
