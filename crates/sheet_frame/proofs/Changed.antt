-- Lists of triangles that change among those that are wholly in a core.
use Rattle.std.proofs.Common.{◌≡◌, ℕ, Bool, true, false, cond, not, ◌&&◌, List, [], ◌∷◌, map, sym, ap, ◌∙◌, refl, ◌⊎◌, inl, inr}
use Rattle.std.proofs.lemmas.Bool.{and_parts, and_from}
use Rattle.std.specs.List.{filter, AllByRecursion}
use Rattle.std.specs.List.Sorted.{IsSorted}
use Rattle.mesh_data.specs.declared.geometry.Tri.{Tri}
use Rattle.oemm_octree.specs.declared.cells.Cell.{Cell}
use Rattle.oemm_lists.specs.Ascending.{in_order}
use Rattle.mesh_data.specs.Mesh.{Mesh}
use Rattle.mesh_data.specs.Triangles.{tri_cmp, turned}
use Rattle.triangle_lists.proofs.Orders.{tri_cmp_total, tri_cmp-IsAntisymmetric}
use Rattle.triangle_lists.proofs.Sorting.{Rises-from_sorted}
use Rattle.oemm_octree.specs.Leaves.{is_one_of}
use Rattle.triangle_edits.proofs.Results.{turned_keeps}
use Rattle.mesh_sheets.specs.Sheets.{leaf_of}
use Rattle.mesh_sheets.proofs.Filters.{in_order_already, rises_filter}
use Rattle.sheet_frame.proofs.Rest.{Seat, seat, all_in, rest_tris}
use Rattle.triangle_lists.proofs.Filters.{filter-map, filter-in_order}

-- A triangle is kept and stays as and where it is, or it is wholly in the core, and so is what it becomes, if it is kept.
abbrev pub Stays : (core : List ℕ) (sm sn : Tri → Seat) (f : Tri → Tri) (g : Tri → Bool) → Tri → Type 0
Stays core sm sn f g t =
    ((g t ≡ true) × (f t ≡ t) × (sn t ≡ sm t))
    ⊎ ((all_in core (sm t) ≡ true) × (g t ≡ true → all_in core (sn (f t)) ≡ true))

module _ (core : List ℕ) (sm sn : Tri → Seat) (f : Tri → Tri) (g : Tri → Bool) where
  abbrev out_before : Tri → Bool
  out_before t = not (all_in core (sm t))

  abbrev out_after : Tri → Bool
  out_after t = not (all_in core (sn t))

  pub same_outside : (ts : List Tri) → AllByRecursion (Stays core sm sn f g) ts → filter out_after (map f (filter g ts)) ≡ filter out_before ts
  same_outside [] all = refl
  same_outside (t ∷ ts) all =
      let rest = same_outside ts all.1 in
      let kept = map f (filter g ts) in
      elim all.0 [
        | inl stays ↦
            ap (λ b. filter out_after (map f (cond b (t ∷ filter g ts) (filter g ts)))) stays.0
            ∙ ap (λ (s : Tri). filter out_after (s ∷ kept)) stays.1
            ∙ (λ i. cond (not (all_in core (stays.2 i))) (t ∷ rest i) (rest i))
        | inr whole ↦
            (elim (g t) as (λ b. g t ≡ b → filter out_after (map f (cond b (t ∷ filter g ts) (filter g ts))) ≡ filter out_after kept) [
              | true ↦ λ on. ap (λ b. cond (not b) (f t ∷ filter out_after kept) (filter out_after kept)) (whole.1 on)
              | false ↦ λ _. refl
            ] refl)
            ∙ rest
            ∙ sym (ap (λ b. cond (not b) (t ∷ filter out_before ts) (filter out_before ts)) whole.0)
      ]

  pub same_seats : (ts : List Tri) → AllByRecursion (Stays core sm sn f g) ts → map sn (filter out_before ts) ≡ map sm (filter out_before ts)
  same_seats [] all = refl
  same_seats (t ∷ ts) all =
      let rest = same_seats ts all.1 in
      elim all.0 [
        | inl stays ↦ elim (out_before t) as (λ b. map sn (cond b (t ∷ filter out_before ts) (filter out_before ts)) ≡ map sm (cond b (t ∷ filter out_before ts) (filter out_before ts))) [
          | true ↦ (λ i. stays.2 i ∷ rest i)
          | false ↦ rest
        ]
        | inr whole ↦
            ap (λ b. map sn (cond (not b) (t ∷ filter out_before ts) (filter out_before ts))) whole.0 ∙ rest ∙ sym (ap (λ b. map sm (cond (not b) (t ∷ filter out_before ts) (filter out_before ts))) whole.0)
      ]

-- the triangles that aren't wholly in the core are the same, whatever whole ones are put besides
pub rest_of_changed : (cells : List Cell) (core : List ℕ) (m n : Mesh) (f : Tri → Tri) (g : Tri → Bool) (more : List Tri) → IsSorted tri_cmp m.tris
    → n.tris ≡ in_order tri_cmp (more)
    → filter (λ t. not (all_in core (seat cells n t))) more ≡ filter (λ t. not (all_in core (seat cells n t))) (map f (filter g m.tris))
    → AllByRecursion (Stays core (seat cells m) (seat cells n) f g) m.tris
    → rest_tris cells core m ≡ rest_tris cells core n
rest_of_changed cells core m n f g more sorted is whole all =
    let sm : Tri → Seat = seat cells m in
    let sn : Tri → Seat = seat cells n in
    let before : Tri → Bool = λ t. not (all_in core (sm t)) in
    let after : Tri → Bool = λ t. not (all_in core (sn t)) in
    let up = rises_filter tri_cmp_total tri_cmp-IsAntisymmetric before m.tris (Rises-from_sorted tri_cmp_total m.tris sorted) in
    filter-map (λ s. not (all_in core s)) sm m.tris
    ∙ sym (same_seats core sm sn f g m.tris all)
    ∙ ap (map sn) (
    sym (in_order_already tri_cmp_total tri_cmp-IsAntisymmetric (filter before m.tris) up)
    ∙ ap (in_order tri_cmp) (sym (same_outside core sm sn f g m.tris all) ∙ sym whole)
    ∙ sym (filter-in_order tri_cmp_total after more)
    ∙ ap (filter after) (sym is))
    ∙ sym (filter-map (λ s. not (all_in core s)) sn n.tris)

-- ---- turned triangles

pub all_in_from : (cells : List Cell) (core : List ℕ) (m : Mesh) (t : Tri) → is_one_of core (leaf_of cells m t.a) ≡ true → is_one_of core (leaf_of cells m t.b) ≡ true → is_one_of core (leaf_of cells m t.c) ≡ true → all_in core (seat cells m t) ≡ true
all_in_from cells core m t a b c = and_from _ _ a (and_from _ _ b (and_from _ _ c refl))

-- a triangle that is wholly in the core is so however it is turned
pub all_in_turned : (cells : List Cell) (core : List ℕ) (m : Mesh) (t : Tri) → all_in core (seat cells m t) ≡ true → all_in core (seat cells m (turned t)) ≡ true
all_in_turned cells core m =
    turned_keeps (λ t. all_in core (seat cells m t) ≡ true) (λ t h.
    let a = and_parts (is_one_of core (leaf_of cells m t.a)) (is_one_of core (leaf_of cells m t.b) && (is_one_of core (leaf_of cells m t.c) && true)) h in
    let b = and_parts (is_one_of core (leaf_of cells m t.b)) (is_one_of core (leaf_of cells m t.c) && true) a.1 in
    let c = and_parts (is_one_of core (leaf_of cells m t.c)) true b.1 in
    all_in_from cells core m (record { a = t.b; b = t.c; c = t.a }) b.0 c.0 a.0)
