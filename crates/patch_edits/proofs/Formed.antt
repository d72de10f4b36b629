-- Collapses and moves that are done leave a well-formed patch well formed.
use Rattle.std.proofs.Common.{◌≡◌, ℕ, ◌+◌, ◌<◌, ◌≤◌, Bool, true, false, cond, not, ◌&&◌, ◌||◌, eqb, length, length-append, List, [], ◌∷◌, ◌++◌, map, Option, Some, None, All, sym, ap, ◌∙◌, refl, subst, arith, is_some}
use Rattle.std.proofs.lemmas.List.{append-nil}
use Rattle.std.proofs.lemmas.Bool.{eqb-true, eq-eqb, ne_eqb, or_parts, and_parts, false≢true}
use Rattle.std.proofs.lemmas.List.Elements.{All-from_recursion, filter-append, recursion_from_All}
use Rattle.std.proofs.lemmas.List.Kept.{IsStrictlyIncreasing-filter}
use Rattle.std.proofs.lemmas.List.Recursion.{is_sum_by}
use Rattle.std.proofs.lemmas.List.Sorted.{All-permutation, IsPermutation-sym}
use Rattle.std.specs.List.{filter, find, list_any, list_all, sum_by, AllByRecursion}
use Rattle.std.specs.List.Sorted.{IsStrictlyIncreasing}
use Rattle.std.specs.Option.{option_map, option_map_or}
use Rattle.oemm_limits.specs.declared.TheConstants.{MOST_ITEMS}
use Rattle.oemm_lists.specs.Ascending.{in_order}
use Rattle.oemm_octree.specs.declared.cells.Cell.{Cell}
use Rattle.oemm_octree.specs.declared.points.Point.{Point}
use Rattle.oemm_octree.specs.Leaves.{home, in_core, is_one_of}
use Rattle.oemm_octree.proofs.Each.{all_append}
use Rattle.mesh_data.specs.declared.geometry.Tri.{Tri}
use Rattle.mesh_data.specs.declared.geometry.Vertex.{Vertex}
use Rattle.mesh_data.specs.Edits.{is_held, is_free, collapsed_tris}
use Rattle.mesh_data.specs.Manifold.{IsTriangleOn}
use Rattle.mesh_data.specs.Planes.{Sums, added, most_planes, no_sums}
use Rattle.mesh_data.specs.Triangles.{corners, has_corner, star, tri_cmp, turned, IsProper}
use Rattle.triangle_edits.proofs.Results.{triangles_collapsed}
use Rattle.triangle_lists.proofs.Orders.{tri_cmp_total, tri_cmp-IsAntisymmetric}
use Rattle.triangle_lists.proofs.Filters.{filter-in_order}
use Rattle.triangle_lists.proofs.Sorting.{IsPermutation-in_order, Rises-from_sorted}
use Rattle.edit_steps.proofs.Passed.{CollapsePassed}
use Rattle.work_topology.proofs.Kept.{collapsed_sorted}
use Rattle.sheet_data.specs.declared.patches.Mixed.{Mixed}
use Rattle.sheet_data.specs.declared.patches.Patch.{Patch}
use Rattle.sheet_data.specs.Summed.{SummedVertex}
use Rattle.mesh_sheets.specs.Assembled.{has_name}
use Rattle.mesh_sheets.specs.Written.{patch_tris, leaf_by, leaves_by}
use Rattle.mesh_sheets.proofs.Filters.{AreDistinct, all_weaker, in_order_already, rises_filter}
use Rattle.mesh_sheets.proofs.Rims.{distinct_increasing}
use Rattle.sheet_frame.proofs.Cleans.{few_collapsed}
use Rattle.edit_steps.proofs.Corners.{EachCorner, free_corners}
use Rattle.sheet_frame.proofs.Free.{CanMove}
use Rattle.sheet_forms.specs.Formed.{IsPatchFor}
use Rattle.patch_edits.specs.PatchMesh.{placed, mesh_of, sums_at}
use Rattle.patch_edits.specs.Edits.{collapsed_on, moved_on}
use Rattle.patch_edits.proofs.LeastSteps.{some_found}
use Rattle.patch_edits.proofs.Told.{get_of}

abbrev Vertices : Type 0
Vertices = List SummedVertex

abbrev names : Vertices → List ℕ
names vs = map (λ (x : SummedVertex). x.name) vs

-- ---- lists

-- what follows of each element, by recursion
pub each_of : {X : Type 0} (P Q : X → Type 0) → ((x : X) → P x → Q x) → (xs : List X) → All P xs → AllByRecursion Q xs
each_of P Q f xs all = all_weaker P Q f xs (recursion_from_All P xs all)

pub rec_left : {X : Type 0} (P : X → Type 0) (xs ys : List X) → AllByRecursion P (xs ++ ys) → AllByRecursion P xs
rec_left P [] ys all = tt
rec_left P (x ∷ xs) ys all = (all.0, rec_left P xs ys all.1)

pub rec_right : {X : Type 0} (P : X → Type 0) (xs ys : List X) → AllByRecursion P (xs ++ ys) → AllByRecursion P ys
rec_right P [] ys all = all
rec_right P (x ∷ xs) ys all = rec_right P xs ys all.1

pub rec_both : {X : Type 0} (P Q R : X → Type 0) → ((x : X) → P x → Q x → R x) → (xs : List X) → AllByRecursion P xs → AllByRecursion Q xs → AllByRecursion R xs
rec_both P Q R f [] a b = tt
rec_both P Q R f (x ∷ xs) a b = (f x a.0 b.0, rec_both P Q R f xs a.1 b.1)

-- ---- vertices that are changed, and one that is taken away

module _ (v : ℕ) (h : SummedVertex → SummedVertex) (same_name : (x : SummedVertex) → (h x).name ≡ x.name) where
  abbrev f : SummedVertex → SummedVertex
  f x = cond (eqb x.name v) (h x) x

  f_name : (x : SummedVertex) → (f x).name ≡ x.name
  f_name x = elim (eqb x.name v) as (λ (b : Bool). (let y : SummedVertex = cond b (h x) x in y.name) ≡ x.name) [ true ↦ same_name x | false ↦ refl ]

  names_changed : (vs : Vertices) → names (map f vs) ≡ names vs
  names_changed [] = refl
  names_changed (x ∷ vs) = λ i. f_name x i ∷ names_changed vs i

  has_changed : (vs : Vertices) (w : ℕ) → has_name (map f vs) w ≡ has_name vs w
  has_changed [] w = refl
  has_changed (x ∷ vs) w = λ i. eqb w (f_name x i) || has_changed vs w i

  find_changed : (vs : Vertices) (w : ℕ) → find (λ (x : SummedVertex). eqb w x.name) (map f vs) ≡ option_map f (find (λ (x : SummedVertex). eqb w x.name) vs)
  find_changed [] w = refl
  find_changed (x ∷ vs) w =
      (λ i. cond (eqb w (f_name x i)) (Some (f x)) (find_changed vs w i))
      ∙ elim (eqb w x.name) as (λ b. cond b (Some (f x)) (option_map f (find (λ (x : SummedVertex). eqb w x.name) vs)) ≡ option_map f (cond b (Some x) (find (λ (x : SummedVertex). eqb w x.name) vs))) [ true ↦ refl | false ↦ refl ]

abbrev without : ℕ → Vertices → Vertices
without u vs = filter (λ (x : SummedVertex). not (eqb x.name u)) vs

names_without : (u : ℕ) (vs : Vertices) → names (without u vs) ≡ filter (λ n. not (eqb n u)) (names vs)
names_without u [] = refl
names_without u (x ∷ vs) =
    elim (eqb x.name u) as (λ b. names (cond (not b) (x ∷ without u vs) (without u vs)) ≡ cond (not b) (x.name ∷ filter (λ n. not (eqb n u)) (names vs)) (filter (λ n. not (eqb n u)) (names vs))) [ true ↦ names_without u vs | false ↦ ap (λ ns. x.name ∷ ns) (names_without u vs) ]

find_without : (u w : ℕ) (vs : Vertices) → eqb w u ≡ false → find (λ (x : SummedVertex). eqb w x.name) (without u vs) ≡ find (λ (x : SummedVertex). eqb w x.name) vs
find_without u w [] out = refl
find_without u w (x ∷ vs) out =
    let q : SummedVertex → Bool = λ x. eqb w x.name in
    elim (eqb x.name u) as (λ b. eqb x.name u ≡ b → find q (cond (not b) (x ∷ without u vs) (without u vs)) ≡ cond (q x) (Some x) (find q vs)) [
      | true ↦ λ on. find_without u w vs out ∙ sym (ap (λ b. cond b (Some x) (find q vs)) (ap (eqb w) (eqb-true x.name u on) ∙ out))
      | false ↦ λ _. ap (cond (q x) (Some x)) (find_without u w vs out)
    ] refl

has_none : (u : ℕ) (vs : Vertices) → has_name (without u vs) u ≡ false
has_none u [] = refl
has_none u (x ∷ vs) =
    elim (eqb x.name u) as (λ b. eqb x.name u ≡ b → has_name (cond (not b) (x ∷ without u vs) (without u vs)) u ≡ false) [
      | true ↦ λ _. has_none u vs
      | false ↦ λ out. (λ i. ne_eqb u x.name (λ e. false≢true (sym out ∙ eq-eqb x.name u (sym e))) i || has_none u vs i)
    ] refl

has_without : (u w : ℕ) (vs : Vertices) → eqb w u ≡ false → has_name (without u vs) w ≡ has_name vs w
has_without u w vs out =
    sym (some_found (λ (x : SummedVertex). eqb w x.name) (without u vs)) ∙ ap is_some (find_without u w vs out) ∙ some_found (λ (x : SummedVertex). eqb w x.name) vs

-- ---- how many planes

abbrev weighs : Vertices → ℕ
weighs [] = 0
weighs (x ∷ xs) = x.quad.planes + weighs xs

weighs_is : (vs : Vertices) → weighs vs ≡ sum_by (λ (x : SummedVertex). x.quad.planes) vs
weighs_is vs = is_sum_by weighs (λ (x : SummedVertex). x.quad.planes) refl (λ _ _. refl) vs

abbrev first_quad : Option SummedVertex → ℕ
first_quad o = (option_map_or (λ (x : SummedVertex). x.quad) o no_sums).planes

without_weighs : (u : ℕ) (vs : Vertices) → weighs (without u vs) ≤ weighs vs
without_weighs u [] = omega arith
without_weighs u (x ∷ vs) =
    let rest = without_weighs u vs in
    elim (eqb x.name u) as (λ b. weighs (cond (not b) (x ∷ without u vs) (without u vs)) ≤ x.quad.planes + weighs vs) [ true ↦ omega arith | false ↦ omega arith ]

-- what goes away is what its name had
less_weighs : (u : ℕ) (vs : Vertices) → weighs (without u vs) + first_quad (find (λ (x : SummedVertex). eqb u x.name) vs) ≤ weighs vs
less_weighs u [] = omega arith
less_weighs u (x ∷ vs) =
    let q : SummedVertex → Bool = λ x. eqb u x.name in
    let rest = less_weighs u vs in
    let most = without_weighs u vs in
    elim (eqb x.name u) as (λ b. eqb x.name u ≡ b → weighs (cond (not b) (x ∷ without u vs) (without u vs)) + first_quad (cond (q x) (Some x) (find q vs)) ≤ x.quad.planes + weighs vs) [
      | true ↦ λ on. let here = ap (λ b. first_quad (cond b (Some x) (find q vs))) (eq-eqb u x.name (sym (eqb-true x.name u on))) in omega arith
      | false ↦ λ out. let there = ap (λ b. first_quad (cond b (Some x) (find q vs))) (ne_eqb u x.name (λ e. false≢true (sym out ∙ eq-eqb x.name u (sym e)))) in omega arith
    ] refl

none_more : (v : ℕ) (q : Sums) (vs : Vertices) → is_one_of (names vs) v ≡ false → weighs (map (λ (x : SummedVertex). let y : SummedVertex = cond (eqb x.name v) (record x { quad = added x.quad q }) x in y) vs) ≡ weighs vs
none_more v q [] h = refl
none_more v q (x ∷ vs) h =
    let parts = or_parts (eqb v x.name) (is_one_of (names vs) v) h in
    let rest = none_more v q vs parts.1 in
    let out : eqb x.name v ≡ false = ne_eqb x.name v (λ e. false≢true (sym parts.0 ∙ eq-eqb v x.name (sym e))) in
    (λ i. (let y : SummedVertex = cond (out i) (record x { quad = added x.quad q }) x in y).quad.planes + rest i)

-- sums are added once at most
once_more : (v : ℕ) (q : Sums) (vs : Vertices) → AreDistinct (names vs) → weighs (map (λ (x : SummedVertex). let y : SummedVertex = cond (eqb x.name v) (record x { quad = added x.quad q }) x in y) vs) ≤ weighs vs + q.planes
once_more v q [] d = omega arith
once_more v q (x ∷ vs) d =
    let g : SummedVertex → SummedVertex = λ x. cond (eqb x.name v) (record x { quad = added x.quad q }) x in
    elim (eqb x.name v) as (λ b. eqb x.name v ≡ b → (let y : SummedVertex = cond b (record x { quad = added x.quad q }) x in y).quad.planes + weighs (map g vs) ≤ (x.quad.planes + weighs vs) + q.planes) [
      | true ↦ λ on. let rest = none_more v q vs (ap (is_one_of (names vs)) (sym (eqb-true x.name v on)) ∙ d.0) in omega arith
      | false ↦ λ _. let rest = once_more v q vs d.1 in omega arith
    ] refl

-- ---- a collapse

found_at : (P : SummedVertex → Type 0) (q : SummedVertex → Bool) (x : SummedVertex) (vs : Vertices) → AllByRecursion P vs → find q vs ≡ Some x → P x
found_at P q x [] all is = absurd (cc)
found_at P q x (y ∷ vs) all is =
    elim (q y) as (λ b. cond b (Some y) (find q vs) ≡ Some x → P x) [ true ↦ λ here. let same : y ≡ x = cc in subst P same all.0 | false ↦ λ later. found_at P q x vs all.1 later ] is

module _ (cells : List Cell) (core : List ℕ) (p : Patch) (formed : IsPatchFor cells core p) where
  abbrev inside : Point → Bool
  inside = in_core cells core

  abbrev vs : Vertices
  vs = p.vertices

  pub held_on : (w : ℕ) → is_held inside (mesh_of p) w ≡ has_name vs w
  held_on w =
      let q : SummedVertex → Bool = λ x. eqb w x.name in
      ap (λ o. option_map_or inside (option_map (λ (x : Vertex). x.point) o) false) (get_of p w)
      ∙ elim (find q vs) as (λ o. find q vs ≡ o → option_map_or inside (option_map (λ (x : Vertex). x.point) (option_map (λ x. (placed x).1) o)) false ≡ is_some o) [
        | None ↦ λ _. refl
        | Some x ↦ λ at. found_at (λ x. inside x.point ≡ true) q x vs (recursion_from_All (λ x. inside x.point ≡ true) vs formed.homes) at
      ] refl
      ∙ some_found q vs

  -- a mixed triangle has no free corner
  pub mixed_away : (u : ℕ) → is_free inside (mesh_of p) u ≡ true → AllByRecursion (λ x. has_corner u x.tri ≡ false) p.mixed
  mixed_away u free =
      let P : Tri → Type 0 = λ t. has_corner u t ≡ true → EachCorner (is_held inside (mesh_of p)) t in
      let ordered = All-from_recursion P _ (free_corners inside (mesh_of p) u free) in
      let all = All-permutation P (in_order tri_cmp (patch_tris p)) (patch_tris p) (IsPermutation-sym (patch_tris p) (in_order tri_cmp (patch_tris p)) (IsPermutation-in_order tri_cmp (patch_tris p))) ordered in
      of_mixed p.mixed (rec_right P p.whole (map (λ x. x.tri) p.mixed) (recursion_from_All P (patch_tris p) all))
      (recursion_from_All (λ x. list_all (has_name vs) (corners x.tri) ≡ false) p.mixed formed.not_whole)
    where
      of_mixed : (xs : List Mixed) → AllByRecursion (λ t. has_corner u t ≡ true → EachCorner (is_held inside (mesh_of p)) t) (map (λ x. x.tri) xs) → AllByRecursion (λ x. list_all (has_name vs) (corners x.tri) ≡ false) xs → AllByRecursion (λ x. has_corner u x.tri ≡ false) xs
      of_mixed [] a b = tt
      of_mixed (x ∷ xs) a b = (
        elim (has_corner u x.tri) as (λ c. has_corner u x.tri ≡ c → c ≡ false) [
          | true ↦ λ on. let each = a.0 on in sym (sym b.0 ∙ (λ i. (sym (held_on x.tri.a) ∙ each.0) i && ((sym (held_on x.tri.b) ∙ each.1) i && ((sym (held_on x.tri.c) ∙ each.2) i && true))))
          | false ↦ λ _. refl
        ] refl,
        of_mixed xs a.1 b.1,
      )

  -- the triangles at a name that no mixed one has are whole ones
  pub star_away : (u : ℕ) → AllByRecursion (λ x. has_corner u x.tri ≡ false) p.mixed → star u (mesh_of p).tris ≡ star u p.whole
  star_away u away =
      let rim = map (λ x. x.tri) p.mixed in
      let up = rises_filter tri_cmp_total tri_cmp-IsAntisymmetric (has_corner u) p.whole (Rises-from_sorted tri_cmp_total p.whole formed.whole_sorted) in
      filter-in_order tri_cmp_total (has_corner u) (patch_tris p)
      ∙ ap (in_order tri_cmp) (filter-append (has_corner u) p.whole rim ∙ ap (λ (ts : List Tri). star u p.whole ++ ts) (none p.mixed away) ∙ append-nil (star u p.whole))
      ∙ in_order_already tri_cmp_total tri_cmp-IsAntisymmetric (star u p.whole) up
    where
      none : (xs : List Mixed) → AllByRecursion (λ x. has_corner u x.tri ≡ false) xs → star u (map (λ x. x.tri) xs) ≡ []
      none [] all = refl
      none (x ∷ xs) all = ap (λ b. cond b (x.tri ∷ star u (map (λ x. x.tri) xs)) (star u (map (λ x. x.tri) xs))) all.0 ∙ none xs all.1

  -- so are those at a free name
  pub star_whole : (u : ℕ) → is_free inside (mesh_of p) u ≡ true → star u (mesh_of p).tris ≡ star u p.whole
  star_whole u free = star_away u (mixed_away u free)

  -- the whole triangles have the vertices' names
  pub triangles : All (IsTriangleOn (λ w. has_name vs w ≡ true)) p.whole
  triangles =
      All-from_recursion _ _ (rec_both (λ t. IsProper t × (turned t ≡ t)) (λ t. list_all (has_name vs) (corners t) ≡ true) (IsTriangleOn (λ w. has_name vs w ≡ true)) (λ t one two.
      let a = and_parts (has_name vs t.a) (has_name vs t.b && (has_name vs t.c && true)) two in
      let b = and_parts (has_name vs t.b) (has_name vs t.c && true) a.1 in
      record { proper = one.0; is_turned = one.1; a = a.0; b = b.0; c = (and_parts (has_name vs t.c) true b.1).0 }) p.whole
      (rec_left (λ t. IsProper t × (turned t ≡ t)) p.whole _ (recursion_from_All (λ t. IsProper t × (turned t ≡ t)) (patch_tris p) formed.proper))
      (recursion_from_All (λ t. list_all (has_name vs) (corners t) ≡ true) p.whole formed.whole))

  module _ (u v : ℕ) (passed : CollapsePassed inside (mesh_of p) u v) where
    abbrev quad : Sums
    quad = sums_at vs u

    abbrev add : SummedVertex → SummedVertex
    add x = record x { quad = added x.quad quad }

    abbrev g : SummedVertex → SummedVertex
    g x = cond (eqb x.name v) (add x) x

    abbrev left : Vertices
    left = map g (without u vs)

    names_left : names left ≡ filter (λ n. not (eqb n u)) (names vs)
    names_left = names_changed v add (λ x. refl) (without u vs) ∙ names_without u vs

    has_left : (w : ℕ) → eqb w u ≡ false → has_name left w ≡ has_name vs w
    has_left w out = has_changed v add (λ x. refl) (without u vs) w ∙ has_without u w vs out

    has_v : has_name left v ≡ true
    has_v = has_left v (ne_eqb v u (λ e. passed.pair.apart (sym e))) ∙ sym (held_on v) ∙ passed.pair.onto_held

    g_point : (x : SummedVertex) → (g x).point ≡ x.point
    g_point x = elim (eqb x.name v) as (λ (b : Bool). (let y : SummedVertex = cond b (add x) x in y.point) ≡ x.point) [ true ↦ refl | false ↦ refl ]

    leaf_left : (w : ℕ) → eqb w u ≡ false → leaf_by cells left w ≡ leaf_by cells vs w
    leaf_left w out =
        ap (λ (o : Option SummedVertex). option_map_or (λ x. home cells x.point) o (length cells)) (find_changed v add (λ x. refl) (without u vs) w ∙ ap (option_map g) (find_without u w vs out))
        ∙ elim (find (λ (x : SummedVertex). eqb w x.name) vs) as (λ o. option_map_or (λ (x : SummedVertex). home cells x.point) (option_map g o) (length cells) ≡ option_map_or (λ (x : SummedVertex). home cells x.point) o (length cells)) [ None ↦ refl | Some x ↦ ap (home cells) (g_point x) ]

    each_left : (P : SummedVertex → Type 0) → ((x : SummedVertex) → P x → P (g x)) → (xs : Vertices) → AllByRecursion P xs → AllByRecursion P (map g (without u xs))
    each_left P k [] all = tt
    each_left P k (x ∷ xs) all =
        elim (eqb x.name u) as (λ b. AllByRecursion P (map g (cond (not b) (x ∷ without u xs) (without u xs)))) [ true ↦ each_left P k xs all.1 | false ↦ (k x all.0, each_left P k xs all.1) ]

    new : All (IsTriangleOn (λ w. has_name left w ≡ true)) (collapsed_tris u v p.whole)
    new = triangles_collapsed (λ w. has_name vs w ≡ true) (λ w. has_name left w ≡ true) u v p.whole (λ w on out. has_left w (ne_eqb w u out) ∙ on) has_v triangles

    planes : sum_by (λ (x : SummedVertex). x.quad.planes) left ≤ most_planes
    planes =
        let distinct = distinct_increasing (names (without u vs)) (subst IsStrictlyIncreasing (sym (names_without u vs)) (IsStrictlyIncreasing-filter (λ n. not (eqb n u)) (names vs) formed.ascend)) in
        let more = once_more v quad (without u vs) distinct in
        let less = less_weighs u vs in
        omega (arith, more, less, weighs_is left, weighs_is vs, formed.planes)

    away : AllByRecursion (λ x. has_corner u x.tri ≡ false) p.mixed
    away = mixed_away u passed.pair.free

    three_same : {X : Type 0} (k l : ℕ → X) → ((w : ℕ) → eqb w u ≡ false → k w ≡ l w) → (t : Tri) → has_corner u t ≡ false → map k (corners t) ≡ map l (corners t)
    three_same k l h t out =
        let ab = or_parts (eqb t.a u || eqb t.b u) (eqb t.c u) out in
        let a = or_parts (eqb t.a u) (eqb t.b u) ab.0 in
        λ i. h t.a a.0 i ∷ h t.b a.1 i ∷ h t.c ab.1 i ∷ []

    any_same : (t : Tri) → has_corner u t ≡ false → list_any (has_name left) (corners t) ≡ list_any (has_name vs) (corners t)
    any_same t out =
        let ab = or_parts (eqb t.a u || eqb t.b u) (eqb t.c u) out in
        let a = or_parts (eqb t.a u) (eqb t.b u) ab.0 in
        λ i. has_left t.a a.0 i || (has_left t.b a.1 i || (has_left t.c ab.1 i || false))

    all_same : (t : Tri) → has_corner u t ≡ false → list_all (has_name left) (corners t) ≡ list_all (has_name vs) (corners t)
    all_same t out =
        let ab = or_parts (eqb t.a u || eqb t.b u) (eqb t.c u) out in
        let a = or_parts (eqb t.a u) (eqb t.b u) ab.0 in
        λ i. has_left t.a a.0 i && (has_left t.b a.1 i && (has_left t.c ab.1 i && true))

    -- the patch that a collapse leaves is well formed
    pub formed_collapsed : IsPatchFor cells core (collapsed_on p u v)
    formed_collapsed = record {
      ascend = subst IsStrictlyIncreasing (sym names_left) (IsStrictlyIncreasing-filter (λ n. not (eqb n u)) (names vs) formed.ascend);
      below = All-from_recursion _ _ (each_left (λ x. x.name < MOST_ITEMS) (λ x h. subst (λ k. k < MOST_ITEMS) (sym (f_name v add (λ x. refl) x)) h) vs (recursion_from_All (λ x. x.name < MOST_ITEMS) vs formed.below));
      homes = All-from_recursion _ _ (each_left (λ x. inside x.point ≡ true) (λ x h. ap inside (g_point x) ∙ h) vs (recursion_from_All (λ x. inside x.point ≡ true) vs formed.homes));
      proper = All-from_recursion _ _ (all_append (λ t. IsProper t × (turned t ≡ t)) (collapsed_tris u v p.whole) (map (λ x. x.tri) p.mixed)
          (each_of (IsTriangleOn (λ w. has_name left w ≡ true)) (λ t. IsProper t × (turned t ≡ t)) (λ t h. (h.proper, h.is_turned)) (collapsed_tris u v p.whole) new)
          (rec_right (λ t. IsProper t × (turned t ≡ t)) p.whole (map (λ x. x.tri) p.mixed) (recursion_from_All (λ t. IsProper t × (turned t ≡ t)) (patch_tris p) formed.proper)));
      whole = All-from_recursion _ _ (each_of (IsTriangleOn (λ w. has_name left w ≡ true)) (λ t. list_all (has_name left) (corners t) ≡ true) (λ t h i. h.a i && (h.b i && (h.c i && true))) (collapsed_tris u v p.whole) new);
      touch = All-from_recursion _ _ (rec_both (λ x. has_corner u x.tri ≡ false) (λ x. list_any (has_name vs) (corners x.tri) ≡ true) (λ x. list_any (has_name left) (corners x.tri) ≡ true)
          (λ x out h. any_same x.tri out ∙ h) p.mixed away (recursion_from_All (λ x. list_any (has_name vs) (corners x.tri) ≡ true) p.mixed formed.touch));
      not_whole = All-from_recursion _ _ (rec_both (λ x. has_corner u x.tri ≡ false) (λ x. list_all (has_name vs) (corners x.tri) ≡ false) (λ x. list_all (has_name left) (corners x.tri) ≡ false)
          (λ x out h. all_same x.tri out ∙ h) p.mixed away (recursion_from_All (λ x. list_all (has_name vs) (corners x.tri) ≡ false) p.mixed formed.not_whole));
      whole_sorted = collapsed_sorted u v p.whole;
      mixed_sorted = formed.mixed_sorted;
      kept = All-from_recursion _ _ (rec_both (λ x. has_corner u x.tri ≡ false) (λ x. is_one_of core x.leaf ≡ true → is_one_of (leaves_by cells vs x.tri) x.leaf ≡ true) (λ x. is_one_of core x.leaf ≡ true → is_one_of (leaves_by cells left x.tri) x.leaf ≡ true)
          (λ x out h on. ap (λ ls. is_one_of ls x.leaf) (three_same (leaf_by cells left) (leaf_by cells vs) leaf_left x.tri out) ∙ h on) p.mixed away (recursion_from_All (λ x. is_one_of core x.leaf ≡ true → is_one_of (leaves_by cells vs x.tri) x.leaf ≡ true) p.mixed formed.kept));
      lists = formed.lists;
      outside = formed.outside;
      few = omega (arith, few_collapsed u v p.whole, formed.few, length-append p.whole (map (λ x. x.tri) p.mixed), length-append (collapsed_tris u v p.whole) (map (λ x. x.tri) p.mixed));
      planes = planes;
    }

-- ---- a move

module _ (cells : List Cell) (core : List ℕ) (p : Patch) (formed : IsPatchFor cells core p) (v : ℕ) (to : Point) (passed : CanMove (in_core cells core) (mesh_of p) v to) where
  abbrev put : SummedVertex → SummedVertex
  put x = record x { point = to }

  abbrev k : SummedVertex → SummedVertex
  k x = cond (eqb x.name v) (put x) x

  abbrev old : Vertices
  old = p.vertices

  abbrev moved_vertices : Vertices
  moved_vertices = map k old

  has_moved : (w : ℕ) → has_name moved_vertices w ≡ has_name old w
  has_moved = has_changed v put (λ x. refl) old

  moved_away : AllByRecursion (λ x. has_corner v x.tri ≡ false) p.mixed
  moved_away = mixed_away cells core p formed v passed.free

  found_named : (w : ℕ) (x : SummedVertex) (xs : Vertices) → find (λ (y : SummedVertex). eqb w y.name) xs ≡ Some x → eqb w x.name ≡ true
  found_named w x [] is = absurd (cc)
  found_named w x (y ∷ xs) is =
      elim (eqb w y.name) as (λ b. eqb w y.name ≡ b → cond b (Some y) (find (λ (y : SummedVertex). eqb w y.name) xs) ≡ Some x → eqb w x.name ≡ true) [
        | true ↦ λ on here. let same : y ≡ x = cc in subst (λ (z : SummedVertex). eqb w z.name ≡ true) same on
        | false ↦ λ _ later. found_named w x xs later
      ] refl is

  leaf_moved : (w : ℕ) → eqb w v ≡ false → leaf_by cells moved_vertices w ≡ leaf_by cells old w
  leaf_moved w out =
      let q : SummedVertex → Bool = λ x. eqb w x.name in
      ap (λ (o : Option SummedVertex). option_map_or (λ x. home cells x.point) o (length cells)) (find_changed v put (λ x. refl) old w)
      ∙ elim (find q old) as (λ o. find q old ≡ o → option_map_or (λ (x : SummedVertex). home cells x.point) (option_map k o) (length cells) ≡ option_map_or (λ (x : SummedVertex). home cells x.point) o (length cells)) [
        | None ↦ λ _. refl
        | Some x ↦ λ at.
            let name : w ≡ x.name = eqb-true w x.name (found_named w x old at) in
            let other : eqb x.name v ≡ false = ap (λ n. eqb n v) (sym name) ∙ out in
            ap (λ b. home cells (let y : SummedVertex = cond b (put x) x in y.point)) other
      ] refl

  each_moved : (P : SummedVertex → Type 0) → ((x : SummedVertex) → P x → P (k x)) → (xs : Vertices) → AllByRecursion P xs → AllByRecursion P (map k xs)
  each_moved P h [] all = tt
  each_moved P h (x ∷ xs) all = (h x all.0, each_moved P h xs all.1)

  lands : (x : SummedVertex) → in_core cells core x.point ≡ true → in_core cells core (k x).point ≡ true
  lands x on = elim (eqb x.name v) as (λ b. in_core cells core (let y : SummedVertex = cond b (put x) x in y.point) ≡ true) [ true ↦ passed.lands | false ↦ on ]

  same_planes : (xs : Vertices) → weighs (map k xs) ≡ weighs xs
  same_planes [] = refl
  same_planes (x ∷ xs) =
      let rest = same_planes xs in
      elim (eqb x.name v) as (λ b. (let y : SummedVertex = cond b (put x) x in y).quad.planes + weighs (map k xs) ≡ x.quad.planes + weighs xs) [ true ↦ ap (λ n. x.quad.planes + n) rest | false ↦ ap (λ n. x.quad.planes + n) rest ]

  -- the patch that a move leaves is well formed
  pub formed_moved : IsPatchFor cells core (moved_on p v to)
  formed_moved = record {
    ascend = subst IsStrictlyIncreasing (sym (names_changed v put (λ x. refl) old)) formed.ascend;
    below = All-from_recursion _ _ (each_moved (λ x. x.name < MOST_ITEMS) (λ x h. subst (λ n. n < MOST_ITEMS) (sym (f_name v put (λ x. refl) x)) h) old (recursion_from_All (λ x. x.name < MOST_ITEMS) old formed.below));
    homes = All-from_recursion _ _ (each_moved (λ x. in_core cells core x.point ≡ true) lands old (recursion_from_All (λ x. in_core cells core x.point ≡ true) old formed.homes));
    proper = formed.proper;
    whole = All-from_recursion _ _ (each_of (λ t. list_all (has_name old) (corners t) ≡ true) (λ t. list_all (has_name moved_vertices) (corners t) ≡ true) (λ t h. (λ i. has_moved t.a i && (has_moved t.b i && (has_moved t.c i && true))) ∙ h) p.whole formed.whole);
    touch = All-from_recursion _ _ (each_of (λ x. list_any (has_name old) (corners x.tri) ≡ true) (λ x. list_any (has_name moved_vertices) (corners x.tri) ≡ true)
        (λ x h. (λ i. has_moved x.tri.a i || (has_moved x.tri.b i || (has_moved x.tri.c i || false))) ∙ h) p.mixed formed.touch);
    not_whole = All-from_recursion _ _ (each_of (λ x. list_all (has_name old) (corners x.tri) ≡ false) (λ x. list_all (has_name moved_vertices) (corners x.tri) ≡ false)
        (λ x h. (λ i. has_moved x.tri.a i && (has_moved x.tri.b i && (has_moved x.tri.c i && true))) ∙ h) p.mixed formed.not_whole);
    whole_sorted = formed.whole_sorted;
    mixed_sorted = formed.mixed_sorted;
    kept = All-from_recursion _ _ (rec_both (λ x. has_corner v x.tri ≡ false) (λ x. is_one_of core x.leaf ≡ true → is_one_of (leaves_by cells old x.tri) x.leaf ≡ true) (λ x. is_one_of core x.leaf ≡ true → is_one_of (leaves_by cells moved_vertices x.tri) x.leaf ≡ true)
        (λ x out h on.
        let ab = or_parts (eqb x.tri.a v || eqb x.tri.b v) (eqb x.tri.c v) out in
        let a = or_parts (eqb x.tri.a v) (eqb x.tri.b v) ab.0 in
        (λ i. is_one_of (leaf_moved x.tri.a a.0 i ∷ leaf_moved x.tri.b a.1 i ∷ leaf_moved x.tri.c ab.1 i ∷ []) x.leaf) ∙ h on) p.mixed moved_away
        (recursion_from_All (λ x. is_one_of core x.leaf ≡ true → is_one_of (leaves_by cells old x.tri) x.leaf ≡ true) p.mixed formed.kept));
    lists = formed.lists;
    outside = formed.outside;
    few = formed.few;
    planes = subst (λ n. n ≤ most_planes) (sym (sym (weighs_is moved_vertices) ∙ same_planes old ∙ weighs_is old)) formed.planes;
  }
