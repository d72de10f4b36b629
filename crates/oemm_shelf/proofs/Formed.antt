-- A sheet that bytes spell, and that is of a leaf by the index, is one that the leaf can have.
use Rattle.std.proofs.Common.{◌≡◌, ◌≢◌, ℕ, ◌-◌, ◌<◌, Bool, true, false, cond, not, ◌&&◌, ◌||◌, eqb, ltb, List, [], ◌∷◌, ◌++◌, length, map, get_or, refl, sym, ap, ◌∙◌, subst, arith, append-nil, append_assoc, Option, Some}
use Rattle.std.specs.List.{All, AllByRecursion, list_all, list_any}
use Rattle.std.specs.List.Sorted.{IsSorted, IsStrictlyIncreasing}
use Rattle.std.specs.Option.{option_map_or}
use Rattle.std.specs.Ordering.{is_le, is_lt, ordering_reverse}
use Rattle.std.specs.declared.cmp.Ordering.{Ordering}
use Rattle.std.specs.declared.cmp.Ordering.TheVariants.{Less, Equal, Greater}
use Rattle.std.proofs.lemmas.Bool.{and_parts, eqb-true, eqb-false, ltb-true, false≢true}
use Rattle.std.proofs.lemmas.Option.{slice_get-get_or}
use Rattle.std.proofs.lemmas.List.Elements.{All-from_recursion}
use Rattle.std.proofs.lemmas.List.Kept.{IsSortedBy-push}
use Rattle.oemm_octree.specs.Leaves.{AreBelow, home, is_one_of}
use Rattle.mesh_data.specs.declared.geometry.Tri.{Tri}
use Rattle.mesh_data.specs.Triangles.{IsProper, corners, tri_cmp, turned}
use Rattle.mesh_data.specs.Planes.{AreBounded}
use Rattle.sheet_data.specs.Summed.{SummedVertex}
use Rattle.sheet_data.specs.declared.index.IndexSheet.{IndexSheet}
use Rattle.sheet_data.specs.declared.sheets.LeafSheet.{LeafSheet}
use Rattle.byte_grammar.specs.Keeps.{Keeps}
use Rattle.geometry_bytes.specs.Geometry.{is_turned}
use Rattle.geometry_bytes.proofs.Bounds.{AreBounded-tested}
use Rattle.leaf_codec.specs.Sheets.{FitsVertex, IsSheetSpelling, face_follows, is_above, is_in_order, leaf_follows, names_of, vertex_follows}
use Rattle.leaf_codec.proofs.Rising.{rises}
use Rattle.mesh_sheets.specs.Assembled.{has_name}
use Rattle.mesh_sheets.proofs.Filters.{any_agree, any_map}
use Rattle.oemm_lists.specs.Numbers.{among}
use Rattle.sheet_forms.specs.Formed.{IsSheetOf}
use Rattle.triangle_lists.proofs.Orders.{tri_cmp_total}
use Rattle.triangle_lists.proofs.Paths.{eqb_comm}
use Rattle.oemm_shelf.specs.Readings.{is_of_leaf}

-- ---- each unit of a list by its rule

keeps_each : {X : Type 0} (Rule : List X → X → Type 0) (P : X → Type 0) → ((before : List X) (x : X) → Rule before x → P x)
    → (before xs : List X) → Keeps Rule before xs → AllByRecursion P xs
keeps_each Rule P has before [] all = tt
keeps_each Rule P has before (x ∷ xs) all = (has before x all.0, keeps_each Rule P has (before ++ x ∷ []) xs all.1)

each_weaker : {X : Type 0} (P Q : X → Type 0) → ((x : X) → P x → Q x) → (xs : List X) → AllByRecursion P xs → AllByRecursion Q xs
each_weaker P Q h [] all = tt
each_weaker P Q h (x ∷ xs) all = (h x all.0, each_weaker P Q h xs all.1)

pub each_of_all : {X : Type 0} (p : X → Bool) (xs : List X) → list_all p xs ≡ true → AllByRecursion (λ x. p x ≡ true) xs
each_of_all p [] h = tt
each_of_all p (x ∷ xs) h = let parts = and_parts (p x) (list_all p xs) h in (parts.0, each_of_all p xs parts.1)

vertices_rise : (vs : List SummedVertex) → Keeps (λ before v. vertex_follows before v ≡ true) [] vs
    → IsStrictlyIncreasing (map (λ v. v.name) vs)
unfolding vertex_follows
vertices_rise vs h =
    rises (λ (v : SummedVertex). v.name) (λ before v. vertex_follows before v ≡ true) (λ before v k. k) vs []
    (λ k lt. absurd (omega arith)) h

map_same : (ns : List ℕ) → map (λ n. n) ns ≡ ns
map_same [] = refl
map_same (n ∷ ns) = ap (λ (ms : List ℕ). n ∷ ms) (map_same ns)

leaves_rise : (leaf : ℕ) (ns : List ℕ) → Keeps (λ before n. leaf_follows (Some leaf) before n ≡ true) [] ns
    → IsStrictlyIncreasing ns
unfolding leaf_follows
leaves_rise leaf ns h =
    subst IsStrictlyIncreasing (map_same ns)
    (rises (λ (n : ℕ). n) (λ before n. leaf_follows (Some leaf) before n ≡ true)
    (λ before n k. subst (λ (ms : List ℕ). is_above n ms ≡ true) (sym (map_same before)) (and_parts _ _ k).0) ns []
    (λ k lt. absurd (omega arith)) h)

not_false : (b : Bool) → not b ≡ true → b ≡ false
not_false true e = absurd (false≢true e)
not_false false e = refl

others : (leaf : ℕ) (ns : List ℕ) → AllByRecursion (λ n. eqb n leaf ≡ false) ns → is_one_of ns leaf ≡ false
others leaf [] all = refl
others leaf (n ∷ ns) all =
    ap (λ (b : Bool). b || is_one_of ns leaf) (eqb_comm leaf n ∙ all.0) ∙ others leaf ns all.1

leaves_differ : (leaf : ℕ) (ns : List ℕ) → Keeps (λ before n. leaf_follows (Some leaf) before n ≡ true) [] ns
    → is_one_of ns leaf ≡ false
unfolding leaf_follows
leaves_differ leaf ns h =
    others leaf ns
    (keeps_each (λ before n. leaf_follows (Some leaf) before n ≡ true) (λ n. eqb n leaf ≡ false)
    (λ before n k. not_false (eqb n leaf) (and_parts _ _ k).1) [] ns h)

-- ---- faces

-- a turned face of three different names
proper : (t : Tri) → is_turned t ≡ true → IsProper t × (turned t ≡ t)
unfolding is_turned
proper t h =
    let first = and_parts (ltb t.a t.b) _ h in
    let second = and_parts (ltb t.a t.c) _ first.1 in
    let ab : t.a < t.b = ltb-true t.a t.b first.0 in
    let ac : t.a < t.c = ltb-true t.a t.c second.0 in
    let bc : t.b ≢ t.c = eqb-false t.b t.c (not_false (eqb t.b t.c) second.1) in
    let apart_ab : t.a ≢ t.b = λ e. omega arith in
    let apart_ca : t.c ≢ t.a = λ e. omega arith in (
      (apart_ab, bc, apart_ca),
      (λ i. cond (first.0 i && second.0 i) t (cond (ltb t.b t.c) (record { a = t.b; b = t.c; c = t.a }) (record { a = t.c; b = t.a; c = t.b }))),
    )

among_has : (vs : List SummedVertex) (v : ℕ) → among v (names_of vs) ≡ has_name vs v
among_has vs v =
    any_map (λ m. eqb m v) (λ (x : SummedVertex). x.name) vs
    ∙ any_agree (λ (x : SummedVertex). eqb x.name v) (λ x. eqb v x.name) (λ x. eqb_comm x.name v) vs

last_false : (a b c : Bool) → (a || (b || c)) ≡ (a || (b || (c || false)))
last_false true b c = refl
last_false false true c = refl
last_false false false true = refl
last_false false false false = refl

has_corner : (vs : List SummedVertex) (t : Tri)
    → (among t.a (names_of vs) || (among t.b (names_of vs) || among t.c (names_of vs)))
    ≡ list_any (has_name vs) (corners t)
has_corner vs t =
    (λ i. among_has vs t.a i || (among_has vs t.b i || among_has vs t.c i))
    ∙ last_false (has_name vs t.a) (has_name vs t.b) (has_name vs t.c)

each_face : (vs : List SummedVertex) (before : List Tri) (t : Tri) → face_follows (names_of vs) before t ≡ true
    → IsProper t × (turned t ≡ t) × (list_any (has_name vs) (corners t) ≡ true)
unfolding face_follows
each_face vs before t h =
    let parts = and_parts (is_turned t) _ h in
    let is = proper t parts.0 in
    let has = and_parts (among t.a (names_of vs) || (among t.b (names_of vs) || among t.c (names_of vs))) _ parts.1 in
    (is.0, is.1, sym (has_corner vs t) ∙ has.0)

below_not : (r s : Ordering) → r ≡ ordering_reverse s → is_le r ≡ true → is_lt s ≡ false
below_not r Less is le = absurd (false≢true (sym (ap is_le is) ∙ le))
below_not r Equal is le = refl
below_not r Greater is le = refl

last_ok : (before : List Tri) (t : Tri) → is_in_order t before ≡ true → (d : Tri) → 0 < length before
    → is_lt (tri_cmp t (get_or before (length before - 1) d)) ≡ false
unfolding is_in_order
last_ok before t h d some =
    let s = get_or before (length before - 1) d in
    let le : is_le (tri_cmp s t) ≡ true =
    ap (λ (o : Option Tri). option_map_or (λ (s : Tri). is_le (tri_cmp s t)) o true)
    (sym (slice_get-get_or before (length before - 1) d (omega arith))) ∙ h in
    below_not (tri_cmp s t) (tri_cmp t s) (tri_cmp_total.antisymm s t) le

sorted_by : (names : List ℕ) (ts before : List Tri) → IsSorted tri_cmp before
    → Keeps (λ before t. face_follows names before t ≡ true) before ts → IsSorted tri_cmp (before ++ ts)
unfolding face_follows
sorted_by names [] before so_far h = subst (IsSorted tri_cmp) (sym (append-nil before)) so_far
sorted_by names (t ∷ ts) before so_far h =
    let parts = and_parts (is_turned t) _ h.0 in
    let last = and_parts (among t.a names || (among t.b names || among t.c names)) (is_in_order t before) parts.1 in
    let next = IsSortedBy-push (λ x y. is_lt (tri_cmp x y)) before t so_far (last_ok before t last.1) in
    subst (IsSorted tri_cmp) (append_assoc before (t ∷ []) ts) (sorted_by names ts (before ++ t ∷ []) next h.1)

faces_sorted : (names : List ℕ) (ts : List Tri) → Keeps (λ before t. face_follows names before t ≡ true) [] ts
    → IsSorted tri_cmp ts
faces_sorted names ts h = sorted_by names ts [] (λ k d low high. absurd (omega arith)) h

-- ---- the sheet

pub below_of : (n : ℕ) (ls : List ℕ) → AllByRecursion (λ l. ltb l n ≡ true) ls → AreBelow n ls
below_of n [] all l on = absurd (false≢true on)
below_of n (k ∷ ls) all l on =
    elim (eqb l k) as (λ b. eqb l k ≡ b → (b || is_one_of ls l) ≡ true → l < n) [
      | true ↦ λ same _. subst (λ (j : ℕ). j < n) (sym (eqb-true l k same)) (ltb-true k n all.0)
      | false ↦ λ _ more. below_of n ls all.1 l more
    ] refl on

pub is_formed : (i : IndexSheet) (leaf format : ℕ) (bytes : List ℕ) (s : LeafSheet) → IsSheetSpelling format bytes s
    → is_of_leaf i leaf s ≡ true → IsSheetOf i.cells i.vertices leaf s
is_formed i leaf format bytes s spelled passes =
    let rules = spelled.rules in
    let first = and_parts (eqb s.leaf leaf) _ passes in
    let second = and_parts (list_all (λ x. ltb x.name i.vertices && eqb (home i.cells x.point) leaf) s.vertices) _ first.1 in
    let third = and_parts (list_all (λ t. list_all (λ v. ltb v i.vertices) (corners t)) s.faces) _ second.1 in
    let is_leaf : s.leaf ≡ leaf = eqb-true s.leaf leaf first.0 in
    let each = each_of_all (λ (x : SummedVertex). ltb x.name i.vertices && eqb (home i.cells x.point) leaf) s.vertices second.0 in
    let faces = each_of_all (λ (t : Tri). list_all (λ v. ltb v i.vertices) (corners t)) s.faces third.0 in
    let near = each_of_all (λ (l : ℕ). ltb l (length i.cells)) s.near third.1 in
    let apart : is_one_of s.near s.leaf ≡ false = leaves_differ s.leaf s.near rules.near in
    record {
      is_leaf = is_leaf;
      ascend = vertices_rise s.vertices rules.vertices;
      below = All-from_recursion (λ x. x.name < i.vertices) s.vertices
          (each_weaker _ (λ (x : SummedVertex). x.name < i.vertices) (λ x h. ltb-true x.name i.vertices (and_parts (ltb x.name i.vertices) _ h).0) s.vertices each);
      homes = All-from_recursion (λ x. home i.cells x.point ≡ leaf) s.vertices
          (each_weaker _ (λ (x : SummedVertex). home i.cells x.point ≡ leaf) (λ x h. eqb-true (home i.cells x.point) leaf (and_parts (ltb x.name i.vertices) _ h).1) s.vertices each);
      bounded = All-from_recursion (λ x. AreBounded x.quad) s.vertices
          (each_weaker FitsVertex (λ (x : SummedVertex). AreBounded x.quad) (λ x h. AreBounded-tested x.quad h.1.1.1.1) s.vertices spelled.fits.vertices);
      faces = All-from_recursion (λ t. IsProper t × (turned t ≡ t) × (list_any (has_name s.vertices) (corners t) ≡ true)) s.faces
          (keeps_each (λ before t. face_follows (names_of s.vertices) before t ≡ true) (λ t. IsProper t × (turned t ≡ t) × (list_any (has_name s.vertices) (corners t) ≡ true)) (each_face s.vertices) [] s.faces rules.faces);
      face_names = All-from_recursion (λ t. All (λ v. v < i.vertices) (corners t)) s.faces
          (each_weaker _ (λ (t : Tri). All (λ v. v < i.vertices) (corners t)) (λ t h. All-from_recursion (λ v. v < i.vertices) (corners t)
          (each_weaker _ (λ (v : ℕ). v < i.vertices) (λ v k. ltb-true v i.vertices k) (corners t) (each_of_all (λ (v : ℕ). ltb v i.vertices) (corners t) h))) s.faces faces);
      sorted = faces_sorted (names_of s.vertices) s.faces rules.faces;
      near_ascend = leaves_rise s.leaf s.near rules.near;
      near_below = below_of (length i.cells) s.near near;
      near_others = subst (λ (l : ℕ). is_one_of s.near l ≡ false) is_leaf apart;
    }
