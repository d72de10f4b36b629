-- Work on a core changes nothing but what is wholly in the core.
use Rattle.std.proofs.Common.{◌≡◌, ◌≢◌, ℕ, Bool, true, false, cond, not, ◌&&◌, eqb, List, [], ◌∷◌, ◌++◌, map, length, All, Option, Some, None, sym, ap, ◌∙◌, refl, inl, inr}
use Rattle.std.proofs.lemmas.Bool.{false≢true, eqb-true, eqb-false, ne_eqb, eq-eqb, both_ways}
use Rattle.std.proofs.lemmas.List.Elements.{recursion_from_All}
use Rattle.std.specs.Cmp.{nat_cmp_total, unsigned_tied}
use Rattle.std.specs.FinMap as finite
use Rattle.std.specs.List.{filter, AllByRecursion}
use Rattle.std.specs.List.Sorted.{IsSorted}
use Rattle.std.specs.Option.{option_map, option_map_or}
use Rattle.std.specs.Ordering.{nat_cmp}
use Rattle.oemm_octree.specs.declared.points.Point.{Point}
use Rattle.oemm_octree.specs.declared.cells.Cell.{Cell}
use Rattle.mesh_data.specs.declared.geometry.Tri.{Tri}
use Rattle.mesh_data.specs.declared.geometry.Vertex.{Vertex}
use Rattle.oemm_lists.specs.Ascending.{in_order}
use Rattle.mesh_data.specs.Edits.{is_held, renamed, substituted, collapsed, collapsed_tris, moved, flipped, flipped_tris, planes_or_none}
use Rattle.mesh_data.specs.Links.{has_both, opposites}
use Rattle.mesh_data.specs.Mesh.{Mesh}
use Rattle.mesh_data.specs.Triangles.{tri_cmp, turned, has_corner}
use Rattle.edit_steps.proofs.Vertices.{changed}
use Rattle.triangle_edits.proofs.Turns.{corner_a, corner_b, corner_c, any_turns, ends_of}
use Rattle.oemm_octree.specs.Leaves.{home, is_one_of, in_core}
use Rattle.mesh_sheets.specs.Sheets.{leaf_of}
use Rattle.mesh_sheets.proofs.Filters.{map_itself, filter_all, in_order_already}
use Rattle.triangle_lists.proofs.Orders.{tri_cmp_total, tri_cmp-IsAntisymmetric}
use Rattle.triangle_lists.proofs.Sorting.{Rises-from_sorted}
use Rattle.mesh_sheets.proofs.Leaves.{leaf_held}
use Rattle.mesh_sheets.proofs.Kept.{keep, same_kept}
use Rattle.sheet_frame.proofs.Rest.{seat, all_in, SameRest, SameRest-refl}
use Rattle.edit_steps.proofs.Corners.{EachCorner, free_corners, third_passes}
use Rattle.sheet_frame.proofs.Free.{CanMove}
use Rattle.edit_steps.proofs.Passed.{PairPassed}
use Rattle.sheet_frame.proofs.Changed.{Stays, rest_of_changed, all_in_from, all_in_turned}

-- what the map has at a name after a change at another or the same
pub get_changed : (g : Vertex → Vertex) (v w : ℕ) (m : finite.FinMap nat_cmp Vertex) → finite.get (changed g v m) w ≡ cond (eqb w v) (option_map g (finite.get m v)) (finite.get m w)
get_changed g v w m =
    elim (finite.get m v) as (λ o. finite.get m v ≡ o → finite.get (option_map_or (λ x. finite.insert m v (g x)) o m) w ≡ cond (eqb w v) (option_map g o) (finite.get m w)) [
      | None ↦ λ none. elim (eqb w v) as (λ b. eqb w v ≡ b → finite.get m w ≡ cond b None (finite.get m w)) [
        | true ↦ λ same. ap (finite.get m) (eqb-true w v same) ∙ none
        | false ↦ λ _. refl
      ] refl
      | Some x ↦ λ _. finite.get-insert nat_cmp_total m v (g x) w ∙ ap (λ b. cond b (Some (g x)) (finite.get m w)) (unsigned_tied w v)
    ] refl

already : (ts : List Tri) → IsSorted tri_cmp ts → in_order tri_cmp ts ≡ ts
already ts sorted = in_order_already tri_cmp_total tri_cmp-IsAntisymmetric ts (Rises-from_sorted tri_cmp_total ts sorted)

module _ (cells : List Cell) (core : List ℕ) (none : is_one_of core (length cells) ≡ false) where
  abbrev held : Mesh → ℕ → Bool
  held m v = is_held (in_core cells core) m v

  abbrev outside : Vertex → Bool
  outside x = not (in_core cells core x.point)

  -- a held vertex isn't outside
  held_not_outside : (m : Mesh) (v : ℕ) → held m v ≡ true → keep outside (finite.get m.vertices v) ≡ None
  held_not_outside m v h =
      elim (finite.get m.vertices v) as (λ o. option_map_or (in_core cells core) (option_map (λ (x : Vertex). x.point) o) false ≡ true → keep outside o ≡ None) [
        | None ↦ λ _. refl
        | Some x ↦ λ on. ap (λ b. cond (not b) (Some x) None) on
      ] h

  pub whole_of_held : (m : Mesh) (t : Tri) → EachCorner (held m) t → all_in core (seat cells m t) ≡ true
  whole_of_held m t h = all_in_from cells core m t (leaf_held cells core none m t.a ∙ h.0) (leaf_held cells core none m t.b ∙ h.1) (leaf_held cells core none m t.c ∙ h.2)

  seat_same : (m n : Mesh) (t : Tri) → leaf_of cells n t.a ≡ leaf_of cells m t.a → leaf_of cells n t.b ≡ leaf_of cells m t.b → leaf_of cells n t.c ≡ leaf_of cells m t.c → seat cells n t ≡ seat cells m t
  seat_same m n t a b c = λ i. record { tri = t; a = a i; b = b i; c = c i }

  -- ---- moves

  move_stays : (m n : Mesh) (v : ℕ) → ((w : ℕ) → w ≢ v → leaf_of cells n w ≡ leaf_of cells m w) → is_one_of core (leaf_of cells n v) ≡ true → (ts : List Tri)
      → AllByRecursion (λ t. has_corner v t ≡ true → EachCorner (held m) t) ts → AllByRecursion (Stays core (seat cells m) (seat cells n) (λ t. t) (λ _. true)) ts
  move_stays m n v elsewhere lands [] all = tt
  move_stays m n v elsewhere lands (t ∷ ts) all =
      let at : (w : ℕ) → held m w ≡ true → is_one_of core (leaf_of cells n w) ≡ true = λ w h.
      elim (eqb w v) as (λ b. eqb w v ≡ b → is_one_of core (leaf_of cells n w) ≡ true) [
        | true ↦ λ same. ap (λ (k : ℕ). is_one_of core (leaf_of cells n k)) (eqb-true w v same) ∙ lands
        | false ↦ λ other. ap (is_one_of core) (elsewhere w (eqb-false w v other)) ∙ leaf_held cells core none m w ∙ h
      ] refl in
      let here : Stays core (seat cells m) (seat cells n) (λ t. t) (λ _. true) t =
      elim (has_corner v t) as (λ b. has_corner v t ≡ b → Stays core (seat cells m) (seat cells n) (λ t. t) (λ _. true) t) [
        | true ↦ λ on. let h = all.0 on in inr (whole_of_held m t h, (λ _. all_in_from cells core n t (at t.a h.0) (at t.b h.1) (at t.c h.2)))
        | false ↦ λ away. inl (
          refl,
          refl,
          seat_same m n t
              (elsewhere t.a (λ e. both_ways (has_corner v t) away (corner_a v t e)))
              (elsewhere t.b (λ e. both_ways (has_corner v t) away (corner_b v t e)))
              (elsewhere t.c (λ e. both_ways (has_corner v t) away (corner_c v t e))),
        )
      ] refl in
      (here, move_stays m n v elsewhere lands ts all.1)

  -- each triangle stays as and where it is through a move, or is wholly in the core
  pub stays_moved : (m : Mesh) (v : ℕ) (to : Point) → CanMove (in_core cells core) m v to → AllByRecursion (Stays core (seat cells m) (seat cells (moved m v to)) (λ t. t) (λ _. true)) m.tris
  stays_moved m v to can =
      let n = moved m v to in
      let g : Vertex → Vertex = λ x. record x { point = to } in
      let got : (w : ℕ) → finite.get n.vertices w ≡ cond (eqb w v) (option_map g (finite.get m.vertices v)) (finite.get m.vertices w) = λ w. get_changed g v w m.vertices in
      let elsewhere : (w : ℕ) → w ≢ v → leaf_of cells n w ≡ leaf_of cells m w = λ w other.
      ap (λ (o : Option Vertex). option_map_or (home cells) (option_map (λ (x : Vertex). x.point) o) (length cells)) (got w ∙ ap (λ b. cond b (option_map g (finite.get m.vertices v)) (finite.get m.vertices w)) (ne_eqb w v other)) in
      let lands : is_one_of core (leaf_of cells n v) ≡ true =
      ap (λ (o : Option Vertex). is_one_of core (option_map_or (home cells) (option_map (λ (x : Vertex). x.point) o) (length cells))) (got v ∙ ap (λ b. cond b (option_map g (finite.get m.vertices v)) (finite.get m.vertices v)) (eq-eqb v v refl))
      ∙ elim (finite.get m.vertices v) as (λ o. option_map_or (in_core cells core) (option_map (λ (x : Vertex). x.point) o) false ≡ true → is_one_of core (option_map_or (home cells) (option_map (λ (x : Vertex). x.point) (option_map g o)) (length cells)) ≡ true) [
        | None ↦ λ h. absurd (false≢true h)
        | Some x ↦ λ _. can.lands
      ] can.held in
      move_stays m n v elsewhere lands m.tris (free_corners (in_core cells core) m v can.free)

  -- the move of a free vertex within the core
  pub frame_moved : (m : Mesh) (v : ℕ) (to : Point) → IsSorted tri_cmp m.tris → CanMove (in_core cells core) m v to → SameRest cells core m (moved m v to)
  frame_moved m v to sorted can =
      let n = moved m v to in
      let g : Vertex → Vertex = λ x. record x { point = to } in
      let got : (w : ℕ) → finite.get n.vertices w ≡ cond (eqb w v) (option_map g (finite.get m.vertices v)) (finite.get m.vertices w) = λ w. get_changed g v w m.vertices in
      let outer : (o : Option Vertex) → keep outside (option_map g o) ≡ None = λ o. elim o as (λ o. keep outside (option_map g o) ≡ None) [ None ↦ refl | Some x ↦ ap (λ b. cond (not b) (Some (g x)) None) can.lands ] in
      let same : (w : ℕ) → keep outside (finite.get m.vertices w) ≡ keep outside (finite.get n.vertices w) = λ w.
      sym (ap (keep outside) (got w) ∙ elim (eqb w v) as (λ b. eqb w v ≡ b → keep outside (cond b (option_map g (finite.get m.vertices v)) (finite.get m.vertices w)) ≡ keep outside (finite.get m.vertices w)) [
        | true ↦ λ is. outer (finite.get m.vertices v) ∙ sym (ap (λ (k : ℕ). keep outside (finite.get m.vertices k)) (eqb-true w v is) ∙ held_not_outside m v can.held)
        | false ↦ λ _. refl
      ] refl) in
      record {
        vertices = same_kept outside m.vertices n.vertices same;
        tris = rest_of_changed cells core m n (λ t. t) (λ _. true) m.tris sorted (sym (already m.tris sorted)) (ap (filter (λ t. not (all_in core (seat cells n t)))) (sym (map_itself (filter (λ _. true) m.tris) ∙ filter_all m.tris))) (stays_moved m v to can);
      }

  -- ---- collapses

  renamed_other : (u v w : ℕ) → w ≢ u → renamed u v w ≡ w
  renamed_other u v w other = ap (λ b. cond b v w) (ne_eqb w u other)

  collapse_stays : (m n : Mesh) (u v : ℕ) → ((w : ℕ) → w ≢ u → leaf_of cells n w ≡ leaf_of cells m w) → is_one_of core (leaf_of cells n v) ≡ true → (ts : List Tri)
      → AllByRecursion (λ t. turned t ≡ t) ts
      → AllByRecursion (λ t. has_corner u t ≡ true → EachCorner (held m) t) ts → AllByRecursion (Stays core (seat cells m) (seat cells n) (λ t. turned (substituted u v t)) (λ t. not (has_both u v t))) ts
  collapse_stays m n u v elsewhere lands [] turns all = tt
  collapse_stays m n u v elsewhere lands (t ∷ ts) turns all =
      let f : Tri → Tri = λ t. turned (substituted u v t) in
      let g : Tri → Bool = λ t. not (has_both u v t) in
      let at : (w : ℕ) → held m w ≡ true → is_one_of core (leaf_of cells n (renamed u v w)) ≡ true = λ w h.
      elim (eqb w u) as (λ b. eqb w u ≡ b → is_one_of core (leaf_of cells n (cond b v w)) ≡ true) [
        | true ↦ λ _. lands
        | false ↦ λ other. ap (is_one_of core) (elsewhere w (eqb-false w u other)) ∙ leaf_held cells core none m w ∙ h
      ] refl in
      let here : Stays core (seat cells m) (seat cells n) f g t =
      elim (has_corner u t) as (λ b. has_corner u t ≡ b → Stays core (seat cells m) (seat cells n) f g t) [
        | true ↦ λ on. let h = all.0 on in inr (whole_of_held m t h, (λ _. all_in_turned cells core n (substituted u v t) (all_in_from cells core n (substituted u v t) (at t.a h.0) (at t.b h.1) (at t.c h.2))))
        | false ↦ λ away.
            let a : t.a ≢ u = λ e. both_ways (has_corner u t) away (corner_a u t e) in
            let b : t.b ≢ u = λ e. both_ways (has_corner u t) away (corner_b u t e) in
            let c : t.c ≢ u = λ e. both_ways (has_corner u t) away (corner_c u t e) in
            let a_is = renamed_other u v t.a a in
            let b_is = renamed_other u v t.b b in
            let c_is = renamed_other u v t.c c in
            let put : substituted u v t ≡ t = λ i. record { a = a_is i; b = b_is i; c = c_is i } in
            inl (ap (λ b. not (b && has_corner v t)) away, ap turned put ∙ turns.0, seat_same m n t (elsewhere t.a a) (elsewhere t.b b) (elsewhere t.c c))
      ] refl in
      (here, collapse_stays m n u v elsewhere lands ts turns.1 all.1)

  -- each triangle stays as and where it is through a collapse, or is wholly in the core
  pub stays_collapsed : (m : Mesh) (u v : ℕ) → All (λ t. turned t ≡ t) m.tris → PairPassed (in_core cells core) m u v
      → AllByRecursion (Stays core (seat cells m) (seat cells (collapsed m u v)) (λ t. turned (substituted u v t)) (λ t. not (has_both u v t))) m.tris
  stays_collapsed m u v turns can =
      let n = collapsed m u v in
      let g : Vertex → Vertex = λ x. record x { planes = x.planes ++ planes_or_none m u } in
      let k = changed g v m.vertices in
      let got : (w : ℕ) → finite.get n.vertices w ≡ cond (eqb w u) None (cond (eqb w v) (option_map g (finite.get m.vertices v)) (finite.get m.vertices w)) = λ w.
      finite.get-remove nat_cmp_total k u w ∙ (λ i. cond (unsigned_tied w u i) None (get_changed g v w m.vertices i)) in
      let points : (o : Option Vertex) → option_map_or (home cells) (option_map (λ (x : Vertex). x.point) (option_map g o)) (length cells) ≡ option_map_or (home cells) (option_map (λ (x : Vertex). x.point) o) (length cells) = λ o.
      elim o as (λ o. option_map_or (home cells) (option_map (λ (x : Vertex). x.point) (option_map g o)) (length cells) ≡ option_map_or (home cells) (option_map (λ (x : Vertex). x.point) o) (length cells)) [ None ↦ refl | Some x ↦ refl ] in
      let leaf_in : Option Vertex → ℕ = λ o. option_map_or (home cells) (option_map (λ (x : Vertex). x.point) o) (length cells) in
      let elsewhere : (w : ℕ) → w ≢ u → leaf_of cells n w ≡ leaf_of cells m w = λ w other.
      ap leaf_in (got w ∙ ap (λ b. cond b None (cond (eqb w v) (option_map g (finite.get m.vertices v)) (finite.get m.vertices w))) (ne_eqb w u other))
      ∙ elim (eqb w v) as (λ b. eqb w v ≡ b → leaf_in (cond b (option_map g (finite.get m.vertices v)) (finite.get m.vertices w)) ≡ leaf_in (finite.get m.vertices w)) [
        | true ↦ λ is. points (finite.get m.vertices v) ∙ sym (ap (λ (k : ℕ). leaf_in (finite.get m.vertices k)) (eqb-true w v is))
        | false ↦ λ _. refl
      ] refl in
      let lands : is_one_of core (leaf_of cells n v) ≡ true = ap (is_one_of core) (elsewhere v (λ e. can.apart (sym e))) ∙ leaf_held cells core none m v ∙ can.onto_held in
      collapse_stays m n u v elsewhere lands m.tris (recursion_from_All (λ t. turned t ≡ t) m.tris turns) (free_corners (in_core cells core) m u can.free)

  -- the collapse of a pair of free vertices
  pub frame_collapsed : (m : Mesh) (u v : ℕ) → IsSorted tri_cmp m.tris → All (λ t. turned t ≡ t) m.tris → PairPassed (in_core cells core) m u v → SameRest cells core m (collapsed m u v)
  unfolding collapsed_tris
  frame_collapsed m u v sorted turns can =
      let n = collapsed m u v in
      let g : Vertex → Vertex = λ x. record x { planes = x.planes ++ planes_or_none m u } in
      let k = changed g v m.vertices in
      let got : (w : ℕ) → finite.get n.vertices w ≡ cond (eqb w u) None (cond (eqb w v) (option_map g (finite.get m.vertices v)) (finite.get m.vertices w)) = λ w.
      finite.get-remove nat_cmp_total k u w ∙ (λ i. cond (unsigned_tied w u i) None (get_changed g v w m.vertices i)) in
      let kept_g : (o : Option Vertex) → keep outside o ≡ None → keep outside (option_map g o) ≡ None = λ o. elim o as (λ o. keep outside o ≡ None → keep outside (option_map g o) ≡ None) [
        | None ↦ λ _. refl
        | Some x ↦ λ h. elim (outside x) as (λ b. cond b (Some x) None ≡ None → cond b (Some (g x)) None ≡ None) [ true ↦ λ is. absurd (cc) | false ↦ λ _. refl ] h
      ] in
      let at_v : keep outside (finite.get m.vertices v) ≡ None = held_not_outside m v can.onto_held in
      let same : (w : ℕ) → keep outside (finite.get m.vertices w) ≡ keep outside (finite.get n.vertices w) = λ w.
      sym (ap (keep outside) (got w) ∙ elim (eqb w u) as (λ b. eqb w u ≡ b → keep outside (cond b None (cond (eqb w v) (option_map g (finite.get m.vertices v)) (finite.get m.vertices w))) ≡ keep outside (finite.get m.vertices w)) [
        | true ↦ λ is. sym (ap (λ (k : ℕ). keep outside (finite.get m.vertices k)) (eqb-true w u is) ∙ held_not_outside m u can.held)
        | false ↦ λ _. elim (eqb w v) as (λ b. eqb w v ≡ b → keep outside (cond b (option_map g (finite.get m.vertices v)) (finite.get m.vertices w)) ≡ keep outside (finite.get m.vertices w)) [
          | true ↦ λ is. kept_g (finite.get m.vertices v) at_v ∙ sym (ap (λ (k : ℕ). keep outside (finite.get m.vertices k)) (eqb-true w v is) ∙ at_v)
          | false ↦ λ _. refl
        ] refl
      ] refl) in
      record {
        vertices = same_kept outside m.vertices n.vertices same;
        tris = rest_of_changed cells core m n (λ t. turned (substituted u v t)) (λ t. not (has_both u v t)) (map (λ t. turned (substituted u v t)) (filter (λ t. not (has_both u v t)) m.tris)) sorted refl refl (stays_collapsed m u v turns can);
      }

  -- ---- flips

  pub flip_stays : (m n : Mesh) (a b : ℕ) → n.vertices ≡ m.vertices → (ts : List Tri)
      → AllByRecursion (λ t. has_corner a t ≡ true → EachCorner (held m) t) ts → AllByRecursion (Stays core (seat cells m) (seat cells n) (λ t. t) (λ t. not (has_both a b t))) ts
  flip_stays m n a b same [] all = tt
  flip_stays m n a b same (t ∷ ts) all =
      let at : (w : ℕ) → leaf_of cells n w ≡ leaf_of cells m w = λ w. ap (λ (k : finite.FinMap nat_cmp Vertex). option_map_or (home cells) (option_map (λ (x : Vertex). x.point) (finite.get k w)) (length cells)) same in
      let seat_is : seat cells n t ≡ seat cells m t = seat_same m n t (at t.a) (at t.b) (at t.c) in
      let here : Stays core (seat cells m) (seat cells n) (λ t. t) (λ t. not (has_both a b t)) t =
      elim (has_corner a t) as (λ x. has_corner a t ≡ x → Stays core (seat cells m) (seat cells n) (λ t. t) (λ t. not (has_both a b t)) t) [
        | true ↦ λ on. let whole = whole_of_held m t (all.0 on) in inr (whole, (λ _. ap (all_in core) seat_is ∙ whole))
        | false ↦ λ away. inl (ap (λ x. not (x && has_corner b t)) away, refl, seat_is)
      ] refl in
      (here, flip_stays m n a b same ts all.1)

  -- the flip of a pair of free vertices
  pub frame_flipped : (m : Mesh) (a b : ℕ) → IsSorted tri_cmp m.tris → PairPassed (in_core cells core) m a b → SameRest cells core m (flipped m a b)
  unfolding flipped_tris
  frame_flipped m a b sorted can =
      elim (opposites m.tris a b) as (λ o. opposites m.tris a b ≡ o → SameRest cells core m (option_map_or (λ ends. let k : Mesh = record { vertices = m.vertices; tris = flipped_tris a b ends.0 ends.1 m.tris } in k) o m)) [
        | None ↦ λ _. SameRest-refl cells core m
        | Some ends ↦ λ is.
            let c = ends.0 in
            let d = ends.1 in
            let n : Mesh = record { vertices = m.vertices; tris = flipped_tris a b c d m.tris } in
            let of = ends_of m.tris a b c d is in
            let round_a = free_corners (in_core cells core) m a can.free in
            let round_b = free_corners (in_core cells core) m b can.onto_free in
            let c_held = third_passes (held m) a b c m.tris round_a (any_turns m.tris a b c of.0) in
            let d_held = third_passes (held m) b a d m.tris round_b (any_turns m.tris b a d of.1) in
            let s : Tri = record { a = a; b = d; c = c } in
            let t : Tri = record { a = d; b = b; c = c } in
            let left = filter (λ t. not (has_both a b t)) m.tris in
            let in_s : all_in core (seat cells n (turned s)) ≡ true = all_in_turned cells core n s (whole_of_held m s (can.held, d_held, c_held)) in
            let in_t : all_in core (seat cells n (turned t)) ≡ true = all_in_turned cells core n t (whole_of_held m t (d_held, can.onto_held, c_held)) in
            let out : Tri → Bool = λ x. not (all_in core (seat cells n x)) in
            let dropped : filter out (turned s ∷ turned t ∷ left) ≡ filter out (map (λ t. t) left) =
            ap (λ x. cond (not x) (turned s ∷ filter out (turned t ∷ left)) (filter out (turned t ∷ left))) in_s
            ∙ ap (λ x. cond (not x) (turned t ∷ filter out left) (filter out left)) in_t
            ∙ ap (filter out) (sym (map_itself left)) in
            record {
              vertices = refl;
              tris = rest_of_changed cells core m n (λ t. t) (λ t. not (has_both a b t)) (turned s ∷ turned t ∷ left) sorted refl dropped (flip_stays m n a b refl m.tris round_a);
            }
      ] refl
