-- The sheets of a mesh don't clash.
use Rattle.std.proofs.Common.{◌≡◌, ◌≢◌, ℕ, ◌+◌, ◌≤◌, Bool, true, false, cond, eqb, List, [], ◌∷◌, ◌++◌, map, length, sym, ap, ◌∙◌, refl, subst, arith, flat_map, None, Some, length-append}
use Rattle.std.proofs.lemmas.Bool.{eqb-true, eq-eqb, ne_eqb, false≢true, or_from, or_parts}
use Rattle.std.proofs.lemmas.List.{map-append, length-map}
use Rattle.std.proofs.lemmas.List.Recursion.{is_sum_by}
use Rattle.std.specs.FinMap as finite
use Rattle.std.specs.List.{filter, sum_by}
use Rattle.std.specs.Option.{option_map_or}
use Rattle.std.proofs.lemmas.List.Folds.{list_any-append, flat_map-map}
use Rattle.oemm_limits.specs.declared.TheConstants.{MOST_ITEMS}
use Rattle.oemm_octree.specs.declared.points.Point.{Point}
use Rattle.oemm_octree.specs.declared.cells.Cell.{Cell}
use Rattle.mesh_data.specs.declared.geometry.Tri.{Tri}
use Rattle.mesh_data.specs.declared.geometry.Vertex.{Vertex}
use Rattle.mesh_data.specs.Edits.{is_held}
use Rattle.mesh_data.specs.Mesh.{Mesh, point_of}
use Rattle.mesh_data.specs.Planes.{most_planes, sums_of}
use Rattle.oemm_plane.proofs.Sums.{planes-sums_of}
use Rattle.plane_counts.specs.PlaneCounts.{HasPlanes, plane_count}
use Rattle.edit_steps.specs.Totals.{total_in}
use Rattle.sheet_data.specs.declared.sheets.LeafSheet.{LeafSheet}
use Rattle.sheet_data.specs.declared.patches.Mixed.{Mixed}
use Rattle.sheet_data.specs.Summed.{SummedVertex}
use Rattle.oemm_octree.specs.Leaves.{home, is_one_of}
use Rattle.mesh_sheets.proofs.Filters.{AreDistinct, weight-append, weight-map, parts_weigh, any_map, map-map}
use Rattle.mesh_sheets.specs.Sheets.{keeper, summed, vertices_in, sheet}
use Rattle.mesh_sheets.specs.Assembled.{faces_of}
use Rattle.sheet_forms.specs.Formed.{AreAgreed}
use Rattle.sheet_forms.proofs.Distinct.{distinct_test}
use Rattle.mesh_sheets.proofs.Climbing.{increasing, keys_climb}
use Rattle.mesh_sheets.proofs.Gathered.{has_held}
use Rattle.mesh_sheets.proofs.Kept.{sorted_kept, true_of_T}
use Rattle.mesh_sheets.proofs.Rims.{distinct_increasing, distinct_append}
use Rattle.triangle_lists.proofs.Sorting.{weight}

-- what passes weighs no more than all
filter_weighs : {X : Type 0} (f : X → ℕ) (p : X → Bool) (xs : List X) → weight f (filter p xs) ≤ weight f xs
filter_weighs f p [] = omega arith
filter_weighs f p (x ∷ xs) = let rest = filter_weighs f p xs in elim (p x) as (λ b. weight f (cond b (x ∷ filter p xs) (filter p xs)) ≤ f x + weight f xs) [ true ↦ omega arith | false ↦ omega arith ]

ones : {X : Type 0} (xs : List X) → weight (λ _. 1) xs ≡ length xs
ones [] = refl
ones (x ∷ xs) = omega (arith, ones xs)

planes_weigh : (es : List (ℕ × Vertex)) → weight (λ e. (sums_of e.1.planes).planes) es ≡ total_in plane_count es
planes_weigh [] = refl
planes_weigh (e ∷ es) = omega (arith, planes-sums_of e.1.planes, planes_weigh es)

module _ (cells : List Cell) (m : Mesh) where
  abbrev at_leaf : ℕ → Point → Bool
  at_leaf l p = eqb (home cells p) l

  abbrev entries_at : ℕ → List (ℕ × Vertex)
  entries_at l = filter (λ e. at_leaf l e.1.point) (finite.entries m.vertices)

  abbrev names_at : ℕ → List ℕ
  names_at l = map (λ (x : SummedVertex). x.name) (vertices_in (at_leaf l) m)

  names_distinct : (l : ℕ) → AreDistinct (names_at l)
  names_distinct l =
      subst AreDistinct (sym (map-map (λ (x : SummedVertex). x.name) summed (entries_at l)))
      (distinct_increasing (map (λ e. e.0) (entries_at l)) (increasing (map (λ e. e.0) (entries_at l)) (keys_climb (entries_at l) (sorted_kept (λ (x : Vertex). at_leaf l x.point) (finite.entries m.vertices) (true_of_T _ (finite.entries_sorted m.vertices))))))

  -- a name is one of a leaf's where it is held by it
  name_held : (l n : ℕ) → is_one_of (names_at l) n ≡ is_held (at_leaf l) m n
  name_held l n = any_map (λ k. eqb n k) (λ (x : SummedVertex). x.name) (vertices_in (at_leaf l) m) ∙ has_held (at_leaf l) m n

  held_once : (l k n : ℕ) → k ≢ l → is_held (at_leaf l) m n ≡ true → is_held (at_leaf k) m n ≡ false
  held_once l k n apart =
      elim (point_of m n) as (λ o. option_map_or (at_leaf l) o false ≡ true → option_map_or (at_leaf k) o false ≡ false) [
        | None ↦ λ _. refl
        | Some p ↦ λ on. ne_eqb (home cells p) k (λ e. apart (sym e ∙ eqb-true (home cells p) l on))
      ]

  abbrev names_of : List ℕ → List ℕ
  names_of ls = map (λ (x : SummedVertex). x.name) (flat_map (λ l. vertices_in (at_leaf l) m) ls)

  elsewhere : (l n : ℕ) (ls : List ℕ) → is_one_of ls l ≡ false → is_one_of (names_at l) n ≡ true → is_one_of (names_of ls) n ≡ false
  elsewhere l n [] out on = refl
  elsewhere l n (k ∷ ls) out on =
      let apart : k ≢ l = λ e. false≢true (sym (parts_of.0) ∙ eq-eqb l k (sym e)) in
      ap (λ ns. is_one_of ns n) (map-append (λ (x : SummedVertex). x.name) (vertices_in (at_leaf k) m) (flat_map (λ l. vertices_in (at_leaf l) m) ls))
      ∙ list_any-append (λ j. eqb n j) (names_at k) (names_of ls)
      ∙ or_from (is_one_of (names_at k) n) (is_one_of (names_of ls) n) (name_held k n ∙ held_once l k n apart (sym (name_held l n) ∙ on)) (elsewhere l n ls parts_of.1 on)
    where
      parts_of : (eqb l k ≡ false) × (is_one_of ls l ≡ false)
      parts_of = or_parts (eqb l k) (is_one_of ls l) out

  all_distinct : (ls : List ℕ) → AreDistinct ls → AreDistinct (names_of ls)
  all_distinct [] d = tt
  all_distinct (l ∷ ls) d =
      subst AreDistinct (sym (map-append (λ (x : SummedVertex). x.name) (vertices_in (at_leaf l) m) (flat_map (λ l. vertices_in (at_leaf l) m) ls)))
      (distinct_append (names_at l) (names_of ls) (names_distinct l) (all_distinct ls d.1) (λ n on. elsewhere l n ls d.0 on))

  flat_weighs : (f : SummedVertex → ℕ) (ls : List ℕ) → weight f (flat_map (λ l. vertices_in (at_leaf l) m) ls) ≡ weight (λ e. f (summed e)) (flat_map entries_at ls)
  flat_weighs f [] = refl
  flat_weighs f (l ∷ ls) =
      weight-append f (vertices_in (at_leaf l) m) (flat_map (λ l. vertices_in (at_leaf l) m) ls)
      ∙ (λ i. weight-map f summed (entries_at l) i + flat_weighs f ls i)
      ∙ sym (weight-append (λ e. f (summed e)) (entries_at l) (flat_map entries_at ls))

  abbrev tris_at : ℕ → List Tri
  tris_at l = filter (λ t. eqb (keeper cells m t) l) m.tris

  flat_long : (ls : List ℕ) → length (flat_map (λ l. map (λ t. let x : Mixed = record { leaf = l; tri = t } in x) (tris_at l)) ls) ≡ weight (λ _. 1) (flat_map tris_at ls)
  flat_long [] = refl
  flat_long (l ∷ ls) =
      let tag : Tri → Mixed = λ t. record { leaf = l; tri = t } in
      omega (
        arith,
        length-append (map tag (tris_at l)) (flat_map (λ l. map (λ t. let x : Mixed = record { leaf = l; tri = t } in x) (tris_at l)) ls),
        length-map (tris_at l) tag,
        ones (tris_at l),
        weight-append (λ _. 1) (tris_at l) (flat_map tris_at ls),
        flat_long ls,
      )

  -- the sheets of different leaves agree
  pub sheets_agree : (core rim : List ℕ) → AreDistinct core → AreDistinct (core ++ rim) → HasPlanes m.vertices → length m.tris ≤ MOST_ITEMS → AreAgreed (map (sheet cells m) core) (map (sheet cells m) rim)
  unfolding sheet
  sheets_agree core rim distinct apart has few =
      let vertices : flat_map (λ (s : LeafSheet). s.vertices) (map (sheet cells m) core) ≡ flat_map (λ l. vertices_in (at_leaf l) m) core = flat_map-map (λ (s : LeafSheet). s.vertices) (sheet cells m) core in
      let faces : flat_map faces_of (map (sheet cells m) core ++ map (sheet cells m) rim) ≡ flat_map (λ l. map (λ t. let x : Mixed = record { leaf = l; tri = t } in x) (tris_at l)) (core ++ rim) =
      ap (flat_map faces_of) (sym (map-append (sheet cells m) core rim)) ∙ flat_map-map faces_of (sheet cells m) (core ++ rim) in
      let count : SummedVertex → ℕ = λ x. x.quad.planes in
      let all = flat_map (λ l. vertices_in (at_leaf l) m) core in
      record {
        once = distinct_test _ (subst (λ (vs : List SummedVertex). AreDistinct (map (λ (x : SummedVertex). x.name) vs)) (sym vertices) (all_distinct core distinct));
        planes = subst (λ (vs : List SummedVertex). sum_by count vs ≤ most_planes) (sym vertices) (omega (
          arith,
          is_sum_by (weight count) count refl (λ _ _. refl) all,
          flat_weighs count core,
          parts_weigh (λ (e : ℕ × Vertex). home cells e.1.point) (finite.entries m.vertices) core distinct (λ e. count (summed e)),
          filter_weighs (λ (e : ℕ × Vertex). count (summed e)) (λ e. is_one_of core (home cells e.1.point)) (finite.entries m.vertices),
          planes_weigh (finite.entries m.vertices),
          has.few,
        ));
        few = subst (λ (xs : List Mixed). length xs ≤ MOST_ITEMS) (sym faces) (omega (
          arith,
          flat_long (core ++ rim),
          parts_weigh (keeper cells m) m.tris (core ++ rim) apart (λ _. 1),
          filter_weighs (λ (t : Tri). 1) (λ t. is_one_of (core ++ rim) (keeper cells m t)) m.tris,
          ones m.tris,
        ));
      }
