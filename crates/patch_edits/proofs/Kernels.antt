-- What a move and a collapse make of the vertices of a core.
use Rattle.std.proofs.Common.{◌≡◌, ℕ, Bool, true, false, cond, not, eqb, List, [], ◌∷◌, ◌++◌, map, Some, None, sym, ap, ◌∙◌, refl, subst}
use Rattle.std.proofs.lemmas.Bool.{and_parts, and_from, eqb-true}
use Rattle.std.specs.Cmp.{nat_cmp_total, unsigned_tied}
use Rattle.std.specs.FinMap as finite
use Rattle.std.specs.FinMap.{nat_cmp-IsAntisymmetric}
use Rattle.std.specs.FinMap.Entries.{find, is_sorted, below_all, same_entries, where_key, find-where_key, is_sorted-where_key}
use Rattle.std.specs.List.{filter}
use Rattle.std.specs.Option.{option_map, option_map_or}
use Rattle.std.specs.Ordering.{nat_cmp, eq_by_cmp, is_lt}
use Rattle.oemm_octree.specs.declared.points.Point.{Point}
use Rattle.mesh_data.specs.declared.geometry.Vertex.{Vertex}
use Rattle.mesh_data.specs.Edits.{is_held, moved, collapsed, planes_or_none}
use Rattle.mesh_data.specs.Mesh.{Mesh}
use Rattle.mesh_data.specs.Planes.{Sums, sums_of, added}
use Rattle.edit_steps.proofs.Vertices.{changed}
use Rattle.oemm_plane.proofs.Sums.{sums_of-append}
use Rattle.sheet_data.specs.Summed.{SummedVertex}
use Rattle.mesh_sheets.specs.Sheets.{summed, vertices_in}
use Rattle.mesh_sheets.proofs.Filters.{map-map}
use Rattle.sheet_frame.proofs.Frame.{get_changed}
use Rattle.edit_steps.proofs.Passed.{PairPassed}
use Rattle.sheet_frame.proofs.Free.{CanMove}
use Rattle.mesh_sheets.proofs.Kept.{keep, find_kept, sorted_kept, true_of_T, T_of_true}
use Rattle.triangle_lists.proofs.Filters.{filter-map}

abbrev Entries : Type 0
Entries = List (ℕ × Vertex)

-- entries by their names, each with what k makes of it
abbrev keyed : (ℕ × Vertex → SummedVertex) → Entries → List (ℕ × SummedVertex)
keyed k es = map (λ e. (e.0, k e)) es

find_keyed : (k : ℕ × Vertex → SummedVertex) (v : ℕ) (es : Entries) → find nat_cmp v (keyed k es) ≡ option_map (λ x. k (v, x)) (find nat_cmp v es)
find_keyed k v [] = refl
find_keyed k v (e ∷ es) =
    elim (eq_by_cmp nat_cmp v e.0) as (λ b. eq_by_cmp nat_cmp v e.0 ≡ b → cond b (Some (k e)) (find nat_cmp v (keyed k es)) ≡ option_map (λ x. k (v, x)) (cond b (Some e.1) (find nat_cmp v es))) [
      | true ↦ λ here. ap (λ (n : ℕ). Some (k (n, e.1))) (sym (eqb-true v e.0 (sym (unsigned_tied v e.0) ∙ here)))
      | false ↦ λ _. find_keyed k v es
    ] refl

below_keyed : (k : ℕ × Vertex → SummedVertex) (v : ℕ) (es : Entries) → below_all nat_cmp v es ≡ true → below_all nat_cmp v (keyed k es) ≡ true
below_keyed k v [] h = refl
below_keyed k v (e ∷ es) h = let parts = and_parts (is_lt (nat_cmp v e.0)) (below_all nat_cmp v es) h in and_from _ _ parts.0 (below_keyed k v es parts.1)

sorted_keyed : (k : ℕ × Vertex → SummedVertex) (es : Entries) → is_sorted nat_cmp es ≡ true → is_sorted nat_cmp (keyed k es) ≡ true
sorted_keyed k [] h = refl
sorted_keyed k (e ∷ es) h = let parts = and_parts (below_all nat_cmp e.0 es) (is_sorted nat_cmp es) h in and_from _ _ (below_keyed k e.0 es parts.0) (sorted_keyed k es parts.1)

-- entries in order that find alike are alike
alike : (k l : ℕ × Vertex → SummedVertex) (es fs : Entries) → is_sorted nat_cmp es ≡ true → is_sorted nat_cmp fs ≡ true
    → ((v : ℕ) → option_map (λ x. k (v, x)) (find nat_cmp v es) ≡ option_map (λ x. l (v, x)) (find nat_cmp v fs)) → map k es ≡ map l fs
alike k l es fs se sf h =
    let same : keyed k es ≡ keyed l fs = same_entries nat_cmp nat_cmp_total nat_cmp-IsAntisymmetric _ _ (T_of_true _ (sorted_keyed k es se)) (T_of_true _ (sorted_keyed l fs sf)) (λ v. find_keyed k v es ∙ h v ∙ sym (find_keyed l v fs)) in
    sym (map-map (λ (e : ℕ × SummedVertex). e.1) (λ e. (e.0, k e)) es) ∙ ap (map (λ (e : ℕ × SummedVertex). e.1)) same ∙ map-map (λ (e : ℕ × SummedVertex). e.1) (λ e. (e.0, l e)) fs

module _ (inside : Point → Bool) where
  abbrev of : Mesh → Entries
  of m = filter (λ e. inside e.1.point) (finite.entries m.vertices)

  sorted_of : (m : Mesh) → is_sorted nat_cmp (of m) ≡ true
  sorted_of m = sorted_kept (λ (x : Vertex). inside x.point) (finite.entries m.vertices) (true_of_T _ (finite.entries_sorted m.vertices))

  find_of : (m : Mesh) (v : ℕ) → find nat_cmp v (of m) ≡ keep (λ x. inside x.point) (finite.get m.vertices v)
  find_of m v = find_kept (λ (x : Vertex). inside x.point) v (finite.entries m.vertices) (true_of_T _ (finite.entries_sorted m.vertices)) ∙ ap (keep (λ x. inside x.point)) (sym (finite.get-entries m.vertices v))

  -- the vertex of a name, changed
  abbrev changed_at : ℕ → (SummedVertex → SummedVertex) → SummedVertex → SummedVertex
  changed_at v h x = cond (eqb x.name v) (h x) x

  kept_changed : (g : Vertex → Vertex) (h : SummedVertex → SummedVertex) (v : ℕ) → ((x : Vertex) → summed (v, g x) ≡ h (summed (v, x))) → ((x : Vertex) → inside x.point ≡ true → inside (g x).point ≡ true)
      → (m : Mesh) → is_held inside m v ≡ true → (w : ℕ)
      → option_map (λ x. summed (w, x)) (keep (λ x. inside x.point) (finite.get (changed g v m.vertices) w)) ≡ option_map (λ x. changed_at v h (summed (w, x))) (keep (λ x. inside x.point) (finite.get m.vertices w))
  kept_changed g h v is stays m held w =
      ap (λ o. option_map (λ x. summed (w, x)) (keep (λ x. inside x.point) o)) (get_changed g v w m.vertices)
      ∙ elim (eqb w v) as (λ b. eqb w v ≡ b → option_map (λ x. summed (w, x)) (keep (λ x. inside x.point) (cond b (option_map g (finite.get m.vertices v)) (finite.get m.vertices w))) ≡ option_map (λ x. cond b (h (summed (w, x))) (summed (w, x))) (keep (λ x. inside x.point) (finite.get m.vertices w))) [
        | true ↦ λ on.
            let same : w ≡ v = eqb-true w v on in
            subst (λ (k : ℕ). option_map (λ x. summed (k, x)) (keep (λ x. inside x.point) (option_map g (finite.get m.vertices v))) ≡ option_map (λ x. h (summed (k, x))) (keep (λ x. inside x.point) (finite.get m.vertices k))) (sym same)
            (elim (finite.get m.vertices v) as (λ o. option_map_or inside (option_map (λ (x : Vertex). x.point) o) false ≡ true → option_map (λ x. summed (v, x)) (keep (λ x. inside x.point) (option_map g o)) ≡ option_map (λ x. h (summed (v, x))) (keep (λ x. inside x.point) o)) [
              | None ↦ λ _. refl
              | Some x ↦ λ here.
                  ap (λ b. option_map (λ x. summed (v, x)) (cond b (Some (g x)) None)) (stays x here)
                  ∙ ap (λ (y : SummedVertex). Some y) (is x)
                  ∙ sym (ap (λ b. option_map (λ x. h (summed (v, x))) (cond b (Some x) None)) here)
            ] held)
        | false ↦ λ _. refl
      ] refl

  -- a move within puts the vertex at its new point
  pub vertices_moved : (m : Mesh) (v : ℕ) (to : Point) → CanMove inside m v to → vertices_in inside (moved m v to) ≡ map (changed_at v (λ x. record x { point = to })) (vertices_in inside m)
  vertices_moved m v to can =
      let g : Vertex → Vertex = λ x. record x { point = to } in
      let h : SummedVertex → SummedVertex = λ x. record x { point = to } in
      alike summed (λ e. changed_at v h (summed e)) (of (moved m v to)) (of m) (sorted_of (moved m v to)) (sorted_of m)
      (λ w. ap (option_map (λ x. summed (w, x))) (find_of (moved m v to) w) ∙ kept_changed g h v (λ x. refl) (λ x _. can.lands) m can.held w ∙ ap (option_map (λ x. changed_at v h (summed (w, x)))) (sym (find_of m w)))
      ∙ sym (map-map (changed_at v h) summed (of m))

  -- a collapse takes the vertex u away, and adds its sums to those of v
  pub vertices_collapsed : (m : Mesh) (u v : ℕ) → PairPassed inside m u v
      → vertices_in inside (collapsed m u v) ≡ map (changed_at v (λ x. record x { quad = added x.quad (sums_of (planes_or_none m u)) })) (filter (λ x. not (eqb x.name u)) (vertices_in inside m))
  vertices_collapsed m u v can =
      let g : Vertex → Vertex = λ x. record x { planes = x.planes ++ planes_or_none m u } in
      let h : SummedVertex → SummedVertex = λ x. record x { quad = added x.quad (sums_of (planes_or_none m u)) } in
      let n = collapsed m u v in
      let others = where_key nat_cmp (λ k. not (eqb k u)) (of m) in
      let sorted : is_sorted nat_cmp others ≡ true = true_of_T _ (is_sorted-where_key nat_cmp (λ k. not (eqb k u)) (of m) (T_of_true _ (sorted_of m))) in
      let found : (w : ℕ) → find nat_cmp w others ≡ cond (not (eqb w u)) (find nat_cmp w (of m)) None = λ w.
      find-where_key nat_cmp (λ k. not (eqb k u)) w (λ x tie. ap (λ (k : ℕ). not (eqb k u)) (sym (nat_cmp-IsAntisymmetric w x tie))) (of m) in
      let got : (w : ℕ) → finite.get n.vertices w ≡ cond (eqb w u) None (finite.get (changed g v m.vertices) w) = λ w.
      finite.get-remove nat_cmp_total (changed g v m.vertices) u w ∙ ap (λ b. cond b None (finite.get (changed g v m.vertices) w)) (unsigned_tied w u) in
      let each : (w : ℕ) → option_map (λ x. summed (w, x)) (find nat_cmp w (of n)) ≡ option_map (λ x. changed_at v h (summed (w, x))) (find nat_cmp w others) = λ w.
      ap (option_map (λ x. summed (w, x))) (find_of n w ∙ ap (keep (λ x. inside x.point)) (got w))
      ∙ elim (eqb w u) as (λ b. option_map (λ x. summed (w, x)) (keep (λ x. inside x.point) (cond b None (finite.get (changed g v m.vertices) w))) ≡ option_map (λ x. changed_at v h (summed (w, x))) (cond (not b) (find nat_cmp w (of m)) None)) [
        | true ↦ refl
        | false ↦ kept_changed g h v (λ x. ap (λ (q : Sums). let y : SummedVertex = record { name = v; point = x.point; quad = q } in y) (sums_of-append x.planes (planes_or_none m u))) (λ x on. on) m can.onto_held w
            ∙ ap (option_map (λ x. changed_at v h (summed (w, x)))) (sym (find_of m w))
      ]
      ∙ ap (option_map (λ x. changed_at v h (summed (w, x)))) (sym (found w)) in
      alike summed (λ e. changed_at v h (summed e)) (of n) others (sorted_of n) sorted each
      ∙ sym (map-map (changed_at v h) summed others)
      ∙ ap (map (changed_at v h)) (sym (filter-map (λ (x : SummedVertex). not (eqb x.name u)) summed (of m)))
