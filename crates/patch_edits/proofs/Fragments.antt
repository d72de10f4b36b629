-- What work on a core makes of its own patch: mixed triangles and near leaves stay, and whole triangles change as those of the
-- mesh do.
use Rattle.std.proofs.Common.{◌≡◌, ℕ, Bool, true, false, cond, not, ◌&&◌, eqb, List, [], ◌∷◌, map, length, All, sym, ap, ◌∙◌, refl, inl, inr, Some}
use Rattle.std.proofs.lemmas.Bool.{and_parts}
use Rattle.std.proofs.lemmas.List.Elements.{filter_agree}
use Rattle.std.specs.List.{filter, list_any, range_with_len, AllByRecursion}
use Rattle.oemm_octree.specs.declared.cells.Cell.{Cell}
use Rattle.mesh_data.specs.declared.geometry.Tri.{Tri}
use Rattle.oemm_lists.specs.Ascending.{in_order}
use Rattle.mesh_data.specs.Edits.{collapsed, collapsed_tris, is_held, substituted, flipped_tris}
use Rattle.mesh_data.specs.Links.{has_both, opposites}
use Rattle.mesh_data.specs.Mesh.{Mesh}
use Rattle.mesh_data.specs.Triangles.{tri_cmp, turned}
use Rattle.triangle_lists.proofs.Orders.{tri_cmp_total}
use Rattle.sheet_data.specs.declared.patches.Mixed.{Mixed}
use Rattle.sheet_data.specs.declared.patches.NearList.{NearList}
use Rattle.oemm_octree.specs.Leaves.{is_one_of, in_core}
use Rattle.mesh_sheets.specs.Sheets.{keeper, are_near, near, is_mixed, patch}
use Rattle.mesh_sheets.proofs.Filters.{map_agree, map_itself}
use Rattle.sheet_frame.proofs.Rest.{Seat, seat, seat_leaves, seat_keeper, all_in, SameRest, outside_not_all, picked, some_picked}
use Rattle.sheet_frame.proofs.Changed.{Stays, all_in_turned}
use Rattle.sheet_frame.proofs.Frame.{stays_collapsed, flip_stays, whole_of_held}
use Rattle.edit_steps.proofs.Passed.{PairPassed}
use Rattle.edit_steps.proofs.Corners.{free_corners, third_passes}
use Rattle.triangle_edits.proofs.Turns.{any_turns, ends_of}
use Rattle.triangle_lists.proofs.Filters.{filter-in_order}

-- what is both
pub filter_two : {X : Type 0} (p q : X → Bool) (xs : List X) → filter p (filter q xs) ≡ filter (λ x. q x && p x) xs
filter_two p q [] = refl
filter_two p q (x ∷ xs) =
    elim (q x) as (λ b. filter p (cond b (x ∷ filter q xs) (filter q xs)) ≡ cond (b && p x) (x ∷ filter (λ x. q x && p x) xs) (filter (λ x. q x && p x) xs)) [
      | true ↦ ap (λ ys. cond (p x) (x ∷ ys) ys) (filter_two p q xs)
      | false ↦ filter_two p q xs
    ]

module _ (cells : List Cell) (core : List ℕ) (m n : Mesh) (same : SameRest cells core m n) where
  -- the mixed triangles and the leaves that keep them stay
  mixed_stay : map (λ t. let x : Mixed = record { leaf = keeper cells m t; tri = t } in x) (filter (is_mixed cells core m) m.tris) ≡ map (λ t. let x : Mixed = record { leaf = keeper cells n t; tri = t } in x) (filter (is_mixed cells core n) n.tris)
  mixed_stay =
      picked cells core m n same (λ s. list_any (is_one_of core) (seat_leaves s) && not (all_in core s)) (λ s. let x : Mixed = record { leaf = seat_keeper s; tri = s.tri } in x)
      (λ s on. (and_parts (list_any (is_one_of core) (seat_leaves s)) (not (all_in core s)) on).1)

  -- and so do the leaves outside that are near
  near_stays : (leaf l : ℕ) → (are_near cells m leaf l && not (is_one_of core l)) ≡ (are_near cells n leaf l && not (is_one_of core l))
  near_stays leaf l =
      elim (is_one_of core l) as (λ b. is_one_of core l ≡ b → (are_near cells m leaf l && not b) ≡ (are_near cells n leaf l && not b)) [
        | true ↦ λ _. no (are_near cells m leaf l) ∙ sym (no (are_near cells n leaf l))
        | false ↦ λ out. ap (λ b. (not (eqb leaf l) && b) && true) (some_picked cells core m n same (λ s. is_one_of (seat_leaves s) leaf && is_one_of (seat_leaves s) l)
            (λ s on. outside_not_all core s l out (and_parts (is_one_of (seat_leaves s) leaf) (is_one_of (seat_leaves s) l) on).1))
      ] refl
    where
      no : (b : Bool) → (b && false) ≡ false
      no true = refl
      no false = refl

  outside_stays : (leaf : ℕ) → filter (λ l. not (is_one_of core l)) (near cells m leaf) ≡ filter (λ l. not (is_one_of core l)) (near cells n leaf)
  outside_stays leaf =
      filter_two (λ l. not (is_one_of core l)) (are_near cells m leaf) (range_with_len 0 (length cells))
      ∙ filter_agree (λ l. are_near cells m leaf l && not (is_one_of core l)) (λ l. are_near cells n leaf l && not (is_one_of core l)) (near_stays leaf) (range_with_len 0 (length cells))
      ∙ sym (filter_two (λ l. not (is_one_of core l)) (are_near cells n leaf) (range_with_len 0 (length cells)))

  -- what work on a core leaves of its patch as it was
  pub mixed_and_near_stay : ((patch cells n core).mixed ≡ (patch cells m core).mixed) × ((patch cells n core).near ≡ (patch cells m core).near)
  unfolding patch
  mixed_and_near_stay =
      (sym mixed_stay, map_agree _ _ core (λ leaf on. ap (λ (ls : List ℕ). let x : NearList = record { leaf = leaf; outside = ls } in x) (sym (outside_stays leaf))))

-- the triangles that are whole after a change are those that were, changed
pub whole_changed : (core : List ℕ) (sm sn : Tri → Seat) (f : Tri → Tri) (g : Tri → Bool) (ts : List Tri) → AllByRecursion (Stays core sm sn f g) ts
    → filter (λ t. all_in core (sn t)) (map f (filter g ts)) ≡ map f (filter g (filter (λ t. all_in core (sm t)) ts))
whole_changed core sm sn f g [] all = refl
whole_changed core sm sn f g (t ∷ ts) all =
    let after : Tri → Bool = λ t. all_in core (sn t) in
    let before : Tri → Bool = λ t. all_in core (sm t) in
    let rest = whole_changed core sm sn f g ts all.1 in
    let kept = map f (filter g ts) in
    let ws = filter before ts in
    elim all.0 [
      | inl stays ↦
          ap (λ b. filter after (map f (cond b (t ∷ filter g ts) (filter g ts)))) stays.0
          ∙ ap (λ (s : Tri). filter after (s ∷ kept)) stays.1
          ∙ elim (before t) as (λ b. before t ≡ b → cond (all_in core (sn t)) (t ∷ filter after kept) (filter after kept) ≡ map f (filter g (cond b (t ∷ ws) ws))) [
            | true ↦ λ on.
                ap (λ b. cond b (t ∷ filter after kept) (filter after kept)) (ap (all_in core) stays.2 ∙ on)
                ∙ (λ i. sym stays.1 i ∷ rest i)
                ∙ ap (λ b. map f (cond b (t ∷ filter g ws) (filter g ws))) (sym stays.0)
            | false ↦ λ off. ap (λ b. cond b (t ∷ filter after kept) (filter after kept)) (ap (all_in core) stays.2 ∙ off) ∙ rest
          ] refl
      | inr whole ↦
          elim (g t) as (λ b. g t ≡ b → filter after (map f (cond b (t ∷ filter g ts) (filter g ts))) ≡ map f (cond b (t ∷ filter g ws) (filter g ws))) [
            | true ↦ λ on. ap (λ b. cond b (f t ∷ filter after kept) (filter after kept)) (whole.1 on) ∙ (λ i. f t ∷ rest i)
            | false ↦ λ _. rest
          ] refl
          ∙ ap (λ b. map f (filter g (cond b (t ∷ ws) ws))) (sym whole.0)
    ]

-- a collapse makes of the whole triangles what it makes of all
pub whole_collapsed : (cells : List Cell) (core : List ℕ) (m : Mesh) (u v : ℕ)
    → is_one_of core (length cells) ≡ false → All (λ t. turned t ≡ t) m.tris → PairPassed (in_core cells core) m u v
    → (patch cells (collapsed m u v) core).whole ≡ collapsed_tris u v (patch cells m core).whole
unfolding patch collapsed_tris
whole_collapsed cells core m u v none turns can =
    let all = stays_collapsed cells core none m u v turns can in
    let n = collapsed m u v in
    let f : Tri → Tri = λ t. turned (substituted u v t) in
    let g : Tri → Bool = λ t. not (has_both u v t) in
    filter-in_order tri_cmp_total (λ t. all_in core (seat cells n t)) (map f (filter g m.tris))
    ∙ ap (in_order tri_cmp) (whole_changed core (seat cells m) (seat cells n) f g m.tris all)

-- and so does a flip
pub whole_flipped : (cells : List Cell) (core : List ℕ) (m : Mesh) (a b c d : ℕ)
    → is_one_of core (length cells) ≡ false → PairPassed (in_core cells core) m a b → opposites m.tris a b ≡ Some (c, d)
    → (patch cells (record { vertices = m.vertices; tris = flipped_tris a b c d m.tris }) core).whole ≡ flipped_tris a b c d (patch cells m core).whole
unfolding patch flipped_tris
whole_flipped cells core m a b c d none can ends =
    let n : Mesh = record { vertices = m.vertices; tris = flipped_tris a b c d m.tris } in
    let of = ends_of m.tris a b c d ends in
    let round_a = free_corners (in_core cells core) m a can.free in
    let round_b = free_corners (in_core cells core) m b can.onto_free in
    let c_held = third_passes (is_held (in_core cells core) m) a b c m.tris round_a (any_turns m.tris a b c of.0) in
    let d_held = third_passes (is_held (in_core cells core) m) b a d m.tris round_b (any_turns m.tris b a d of.1) in
    let s : Tri = record { a = a; b = d; c = c } in
    let t : Tri = record { a = d; b = b; c = c } in
    let g : Tri → Bool = λ t. not (has_both a b t) in
    let whole : Tri → Bool = λ x. all_in core (seat cells n x) in
    let in_s : whole (turned s) ≡ true = all_in_turned cells core n s (whole_of_held cells core none m s (can.held, d_held, c_held)) in
    let in_t : whole (turned t) ≡ true = all_in_turned cells core n t (whole_of_held cells core none m t (d_held, can.onto_held, c_held)) in
    let left = filter g m.tris in
    let kept : filter whole left ≡ filter g (filter (λ t. all_in core (seat cells m t)) m.tris) =
    ap (filter whole) (sym (map_itself left)) ∙ whole_changed core (seat cells m) (seat cells n) (λ t. t) g m.tris (flip_stays cells core none m n a b refl m.tris round_a) ∙ map_itself (filter g (filter (λ t. all_in core (seat cells m t)) m.tris)) in
    filter-in_order tri_cmp_total whole (turned s ∷ turned t ∷ left)
    ∙ ap (in_order tri_cmp) (
    ap (λ x. cond x (turned s ∷ filter whole (turned t ∷ left)) (filter whole (turned t ∷ left))) in_s
    ∙ ap (λ x. turned s ∷ cond x (turned t ∷ filter whole left) (filter whole left)) in_t
    ∙ ap (λ (ts : List Tri). turned s ∷ turned t ∷ ts) kept)
