-- What of a mesh isn't wholly in a core: all that the sheets of other leaves, and the patches of other cores, are made of.
use Rattle.std.proofs.Common.{◌≡◌, ℕ, min, Bool, true, false, not, ◌&&◌, ◌||◌, eqb, List, [], ◌∷◌, map, length, sym, ap, ◌∙◌, refl, inl, inr}
use Rattle.std.proofs.lemmas.Bool.{false≢true, eqb-true, or_cases, and_parts}
use Rattle.std.proofs.lemmas.List.Elements.{filter_agree}
use Rattle.std.specs.FinMap as finite
use Rattle.std.specs.List.{filter, list_any, list_all, range_with_len}
use Rattle.oemm_octree.specs.declared.points.Point.{Point}
use Rattle.oemm_octree.specs.declared.cells.Cell.{Cell}
use Rattle.mesh_data.specs.declared.geometry.Tri.{Tri}
use Rattle.mesh_data.specs.declared.geometry.Vertex.{Vertex}
use Rattle.mesh_data.specs.Mesh.{Mesh}
use Rattle.sheet_data.specs.declared.patches.Mixed.{Mixed}
use Rattle.sheet_data.specs.declared.patches.NearList.{NearList}
use Rattle.oemm_octree.specs.Leaves.{home, is_one_of, in_core}
use Rattle.mesh_sheets.specs.Sheets.{AreApart, leaf_of, keeper, are_near, near, summed, vertices_in, sheet, is_whole, is_mixed, patch}
use Rattle.mesh_sheets.proofs.Leaves.{least_is_one}
use Rattle.mesh_sheets.proofs.Filters.{map_itself, map-map, map_agree, any_filter, any_map}
use Rattle.triangle_lists.proofs.Filters.{filter-weaker, filter-map}

-- a triangle, and the leaves of its corners
pub record Seat : Type 0 where
  pub tri : Tri
  pub a : ℕ
  pub b : ℕ
  pub c : ℕ

abbrev pub seat : List Cell → Mesh → Tri → Seat
seat cells m t = record { tri = t; a = leaf_of cells m t.a; b = leaf_of cells m t.b; c = leaf_of cells m t.c }

abbrev pub seat_leaves : Seat → List ℕ
seat_leaves s = s.a ∷ s.b ∷ s.c ∷ []

abbrev pub seat_keeper : Seat → ℕ
seat_keeper s = min s.a (min s.b s.c)

-- each corner lives in the core
abbrev pub all_in : List ℕ → Seat → Bool
all_in core s = list_all (is_one_of core) (seat_leaves s)

-- the triangles that aren't wholly in the core, with the leaves of their corners
abbrev pub rest_tris : List Cell → List ℕ → Mesh → List Seat
rest_tris cells core m = filter (λ s. not (all_in core s)) (map (seat cells m) m.tris)

-- the vertices outside of the core
abbrev pub rest_vertices : List Cell → List ℕ → Mesh → List (ℕ × Vertex)
rest_vertices cells core m = filter (λ e. not (in_core cells core e.1.point)) (finite.entries m.vertices)

-- two meshes are the same but for what is wholly in the core
pub record SameRest (cells : List Cell) (core : List ℕ) (m n : Mesh) : Type 0 where
  pub vertices : rest_vertices cells core m ≡ rest_vertices cells core n
  pub tris : rest_tris cells core m ≡ rest_tris cells core n

pub SameRest-refl : (cells : List Cell) (core : List ℕ) (m : Mesh) → SameRest cells core m m
SameRest-refl cells core m = record { vertices = refl; tris = refl }

pub SameRest-trans : (cells : List Cell) (core : List ℕ) (m n o : Mesh) → SameRest cells core m n → SameRest cells core n o → SameRest cells core m o
SameRest-trans cells core m n o s r = record { vertices = s.vertices ∙ r.vertices; tris = s.tris ∙ r.tris }

-- ---- leaves outside of a core

not_all : (x y : Bool) → x ≡ false → not (x && y) ≡ true
not_all x y h = ap (λ b. not (b && y)) h

not_rest : (x y : Bool) → not y ≡ true → not (x && y) ≡ true
not_rest true y h = h
not_rest false y h = refl

-- a triangle with a corner in a leaf outside isn't wholly in the core
pub outside_not_all : (core : List ℕ) (s : Seat) (leaf : ℕ) → is_one_of core leaf ≡ false → is_one_of (seat_leaves s) leaf ≡ true → not (all_in core s) ≡ true
outside_not_all core s leaf out on =
    let at : (n : ℕ) → eqb leaf n ≡ true → is_one_of core n ≡ false = λ n e. ap (is_one_of core) (sym (eqb-true leaf n e)) ∙ out in
    elim (or_cases (eqb leaf s.a) (eqb leaf s.b || (eqb leaf s.c || false)) on) [
      | inl a ↦ not_all (is_one_of core s.a) (is_one_of core s.b && (is_one_of core s.c && true)) (at s.a a)
      | inr later ↦ not_rest (is_one_of core s.a) (is_one_of core s.b && (is_one_of core s.c && true)) (elim (or_cases (eqb leaf s.b) (eqb leaf s.c || false) later) [
        | inl b ↦ not_all (is_one_of core s.b) (is_one_of core s.c && true) (at s.b b)
        | inr last ↦ not_rest (is_one_of core s.b) (is_one_of core s.c && true) (elim (or_cases (eqb leaf s.c) false last) [
          | inl c ↦ not_all (is_one_of core s.c) true (at s.c c)
          | inr never ↦ absurd (false≢true never)
        ])
      ])
    ]

-- ---- what the rest shows

some_outside : (core other ls : List ℕ) → AreApart core other → list_any (is_one_of other) ls ≡ true → not (list_all (is_one_of core) ls) ≡ true
some_outside core other [] apart on = on
some_outside core other (l ∷ ls) apart on =
    elim (or_cases (is_one_of other l) (list_any (is_one_of other) ls) on) [
      | inl here ↦ not_all (is_one_of core l) (list_all (is_one_of core) ls) (apart l here)
      | inr more ↦ not_rest (is_one_of core l) (list_all (is_one_of core) ls) (some_outside core other ls apart more)
    ]

module _ (cells : List Cell) (core : List ℕ) (m n : Mesh) (same : SameRest cells core m n) where
  shown : {X : Type 0} (q : Seat → Bool) (g : Seat → X) → ((s : Seat) → q s ≡ true → not (all_in core s) ≡ true) → (k : Mesh)
      → map (λ t. g (seat cells k t)) (filter (λ t. q (seat cells k t)) k.tris) ≡ map g (filter q (rest_tris cells core k))
  shown q g out k =
      sym (ap (map g) (filter-weaker q (λ s. not (all_in core s)) out (map (seat cells k) k.tris) ∙ filter-map q (seat cells k) k.tris)
      ∙ map-map g (seat cells k) (filter (λ t. q (seat cells k t)) k.tris))

  -- triangles that a test picks that aren't wholly in the core
  pub picked : {X : Type 0} (q : Seat → Bool) (g : Seat → X) → ((s : Seat) → q s ≡ true → not (all_in core s) ≡ true)
      → map (λ t. g (seat cells m t)) (filter (λ t. q (seat cells m t)) m.tris) ≡ map (λ t. g (seat cells n t)) (filter (λ t. q (seat cells n t)) n.tris)
  picked q g out = shown q g out m ∙ ap (λ (ss : List Seat). map g (filter q ss)) same.tris ∙ sym (shown q g out n)

  pub picked_tris : (q : Seat → Bool) → ((s : Seat) → q s ≡ true → not (all_in core s) ≡ true)
      → filter (λ t. q (seat cells m t)) m.tris ≡ filter (λ t. q (seat cells n t)) n.tris
  picked_tris q out = sym (map_itself (filter (λ t. q (seat cells m t)) m.tris)) ∙ picked q (λ s. s.tri) out ∙ map_itself (filter (λ t. q (seat cells n t)) n.tris)

  some_shown : (q : Seat → Bool) → ((s : Seat) → q s ≡ true → not (all_in core s) ≡ true) → (k : Mesh)
      → list_any (λ t. q (seat cells k t)) k.tris ≡ list_any q (rest_tris cells core k)
  some_shown q out k = sym (any_filter q (λ s. not (all_in core s)) out (map (seat cells k) k.tris) ∙ any_map q (seat cells k) k.tris)

  pub some_picked : (q : Seat → Bool) → ((s : Seat) → q s ≡ true → not (all_in core s) ≡ true)
      → list_any (λ t. q (seat cells m t)) m.tris ≡ list_any (λ t. q (seat cells n t)) n.tris
  some_picked q out = some_shown q out m ∙ ap (list_any q) same.tris ∙ sym (some_shown q out n)

  pub vertices_picked : (p : Point → Bool) → ((x : Point) → p x ≡ true → not (in_core cells core x) ≡ true) → vertices_in p m ≡ vertices_in p n
  vertices_picked p out =
      let part : (k : Mesh) → filter (λ e. p e.1.point) (finite.entries k.vertices) ≡ filter (λ e. p e.1.point) (rest_vertices cells core k) =
      λ k. sym (filter-weaker (λ e. p e.1.point) (λ e. not (in_core cells core e.1.point)) (λ e. out e.1.point) (finite.entries k.vertices)) in
      ap (λ (es : List (ℕ × Vertex)). map summed es) (part m ∙ ap (λ (es : List (ℕ × Vertex)). filter (λ e. p e.1.point) es) same.vertices ∙ sym (part n))

  -- ---- sheets and patches elsewhere

  pub near_same : (leaf : ℕ) → is_one_of core leaf ≡ false → near cells m leaf ≡ near cells n leaf
  near_same leaf out =
      filter_agree (are_near cells m leaf) (are_near cells n leaf)
      (λ l. ap (λ b. not (eqb leaf l) && b) (some_picked (λ s. is_one_of (seat_leaves s) leaf && is_one_of (seat_leaves s) l)
      (λ s on. outside_not_all core s leaf out (and_parts (is_one_of (seat_leaves s) leaf) (is_one_of (seat_leaves s) l) on).0)))
      (range_with_len 0 (length cells))

  -- the sheet of a leaf outside of the core is the same
  pub sheet_same : (leaf : ℕ) → is_one_of core leaf ≡ false → sheet cells m leaf ≡ sheet cells n leaf
  unfolding sheet
  sheet_same leaf out =
      let vertices : vertices_in (λ p. eqb (home cells p) leaf) m ≡ vertices_in (λ p. eqb (home cells p) leaf) n =
      vertices_picked (λ p. eqb (home cells p) leaf) (λ p on. ap not (ap (is_one_of core) (eqb-true (home cells p) leaf on) ∙ out)) in
      let faces : filter (λ t. eqb (keeper cells m t) leaf) m.tris ≡ filter (λ t. eqb (keeper cells n t) leaf) n.tris =
      picked_tris (λ s. eqb (seat_keeper s) leaf) (λ s on. outside_not_all core s leaf out (least_is_one s.a s.b s.c leaf on)) in
      let around = near_same leaf out in
      λ i. record { leaf = leaf; vertices = vertices i; faces = faces i; near = around i }

  -- the patch of a core that is apart from this one is the same
  pub patch_same : (other : List ℕ) → AreApart core other → patch cells m other ≡ patch cells n other
  unfolding patch
  patch_same other apart =
      let vertices : vertices_in (in_core cells other) m ≡ vertices_in (in_core cells other) n =
      vertices_picked (in_core cells other) (λ p on. ap not (apart (home cells p) on)) in
      let whole : filter (is_whole cells other m) m.tris ≡ filter (is_whole cells other n) n.tris =
      picked_tris (all_in other) (λ s on. not_all (is_one_of core s.a) (is_one_of core s.b && (is_one_of core s.c && true)) (apart s.a (and_parts (is_one_of other s.a) (is_one_of other s.b && (is_one_of other s.c && true)) on).0)) in
      let mixed : map (λ t. let x : Mixed = record { leaf = keeper cells m t; tri = t } in x) (filter (is_mixed cells other m) m.tris) ≡ map (λ t. let x : Mixed = record { leaf = keeper cells n t; tri = t } in x) (filter (is_mixed cells other n) n.tris) =
      picked (λ s. list_any (is_one_of other) (seat_leaves s) && not (all_in other s)) (λ s. let x : Mixed = record { leaf = seat_keeper s; tri = s.tri } in x)
      (λ s on. some_outside core other (seat_leaves s) apart (and_parts (list_any (is_one_of other) (seat_leaves s)) (not (all_in other s)) on).0) in
      let around : map (λ leaf. let x : NearList = record { leaf = leaf; outside = filter (λ l. not (is_one_of other l)) (near cells m leaf) } in x) other ≡ map (λ leaf. let x : NearList = record { leaf = leaf; outside = filter (λ l. not (is_one_of other l)) (near cells n leaf) } in x) other =
      map_agree _ _ other (λ leaf on. ap (λ (ls : List ℕ). let x : NearList = record { leaf = leaf; outside = filter (λ l. not (is_one_of other l)) ls } in x) (near_same leaf (apart leaf on))) in
      λ i. record { vertices = vertices i; whole = whole i; mixed = mixed i; near = around i }
