-- The sheet that the groups of a patch make is the sheet that the patch makes.
use Rattle.std.proofs.Common.{◌≡◌, ℕ, Bool, not, ◌&&◌, ◌||◌, eqb, min, List, [], ◌∷◌, ◌++◌, map, length, sym, ap, ◌∙◌, refl, subst}
use Rattle.std.proofs.lemmas.List.Elements.{filter-append}
use Rattle.std.specs.List.{filter, flat_map, list_any, range_with_len}
use Rattle.std.specs.List.Sorted.{IsStrictlyIncreasing}
use Rattle.oemm_octree.specs.declared.cells.Cell.{Cell}
use Rattle.oemm_octree.specs.Leaves.{home, is_one_of}
use Rattle.mesh_data.specs.declared.geometry.Tri.{Tri}
use Rattle.mesh_data.specs.Triangles.{corners}
use Rattle.sheet_data.specs.declared.patches.Mixed.{Mixed}
use Rattle.sheet_data.specs.declared.patches.Patch.{Patch}
use Rattle.sheet_data.specs.Summed.{SummedVertex}
use Rattle.triangle_lists.proofs.Filters.{filter-map}
use Rattle.neighbour_index.specs.Neighbours.{are_neighbours}
use Rattle.mesh_sheets.specs.Written.{are_near_by, keeper_by, leaf_by, patch_tris}
use Rattle.mesh_sheets.proofs.Filters.{map-map, map_itself}
use Rattle.write_back.specs.Groups.{IsGrouped}
use Rattle.write_back.specs.Homes.{keeper_in, leaf_in, with_homes}
use Rattle.write_back.proofs.Around.{near_by_own}
use Rattle.write_back.proofs.Lookups.{leaf_is}

-- the names of vertices with their homes are the names of the vertices
pub names_are : (cells : List Cell) (vs : List SummedVertex)
    → map (λ (h : ℕ × ℕ). h.0) (map (λ x. (x.name, home cells x.point)) vs) ≡ map (λ x. x.name) vs
names_are cells vs = map-map (λ (h : ℕ × ℕ). h.0) (λ (x : SummedVertex). (x.name, home cells x.point)) vs

-- items with their leaves, those of one leaf, without it
pub of_one : {X : Type 0} (k : X → ℕ) (leaf : ℕ) (xs : List X)
    → map (λ (q : ℕ × X). q.1) (filter (λ q. eqb q.0 leaf) (map (λ x. (k x, x)) xs)) ≡ filter (λ x. eqb (k x) leaf) xs
of_one {X = X} k leaf xs =
    ap (map (λ (q : ℕ × X). q.1)) (filter-map (λ (q : ℕ × X). eqb q.0 leaf) (λ (x : X). (k x, x)) xs)
    ∙ map-map (λ (q : ℕ × X). q.1) (λ (x : X). (k x, x)) (filter (λ x. eqb (k x) leaf) xs)
    ∙ map_itself (filter (λ x. eqb (k x) leaf) xs)

mixed_of_one : (leaf : ℕ) (xs : List Mixed)
    → map (λ (q : ℕ × Tri). q.1) (filter (λ q. eqb q.0 leaf) (map (λ x. (x.leaf, x.tri)) xs))
    ≡ map (λ x. x.tri) (filter (λ x. eqb x.leaf leaf) xs)
mixed_of_one leaf xs =
    ap (map (λ (q : ℕ × Tri). q.1)) (filter-map (λ (q : ℕ × Tri). eqb q.0 leaf) (λ (x : Mixed). (x.leaf, x.tri)) xs)
    ∙ map-map (λ (q : ℕ × Tri). q.1) (λ (x : Mixed). (x.leaf, x.tri)) (filter (λ x. eqb x.leaf leaf) xs)

map_both : {X Y : Type 0} (f : X → Y) (xs ys : List X) → map f (xs ++ ys) ≡ map f xs ++ map f ys
map_both f [] ys = refl
map_both {Y = Y} f (x ∷ xs) ys = ap (λ (zs : List Y). f x ∷ zs) (map_both f xs ys)

module _ (cells : List Cell) (p : Patch) (none : ℕ) (homes : List (ℕ × ℕ)) (vertices : List (ℕ × SummedVertex))
    (keeping own_of : List (ℕ × Tri)) (g : IsGrouped cells p none homes vertices keeping own_of) where
  leaves_are : (v : ℕ) → leaf_in homes none v ≡ leaf_by cells p.vertices v
  leaves_are v = ap (λ (hs : List (ℕ × ℕ)). leaf_in hs none v) g.homes_are ∙ leaf_is cells none p.vertices v g.none_is

  pub names_rise : IsStrictlyIncreasing (map (λ x. x.name) p.vertices) → IsStrictlyIncreasing (map (λ h. h.0) homes)
  names_rise up =
      subst IsStrictlyIncreasing
      (sym (ap (map (λ (h : ℕ × ℕ). h.0)) g.homes_are ∙ names_are cells p.vertices)) up

  pub vertices_made : (leaf : ℕ) (run : List (ℕ × SummedVertex)) → run ≡ filter (λ x. eqb x.0 leaf) vertices
      → map (λ x. x.1) run ≡ filter (λ x. eqb (home cells x.point) leaf) p.vertices
  vertices_made leaf run is =
      ap (map (λ (x : ℕ × SummedVertex). x.1)) (is ∙ g.vertices_are.same leaf)
      ∙ of_one (λ (x : SummedVertex). home cells x.point) leaf p.vertices

  pub faces_made : (leaf : ℕ) (run : List (ℕ × Tri)) → run ≡ filter (λ x. eqb x.0 leaf) keeping
      → map (λ x. x.1) run
      ≡ filter (λ t. eqb (keeper_by cells p.vertices t) leaf) p.whole
      ++ map (λ x. x.tri) (filter (λ x. eqb x.leaf leaf) p.mixed)
  faces_made leaf run is =
      let whole = map (λ (t : Tri). (keeper_in homes none t, t)) p.whole in
      let mixed = map (λ (x : Mixed). (x.leaf, x.tri)) p.mixed in
      let here : ℕ × Tri → Bool = λ x. eqb x.0 leaf in
      ap (map (λ (x : ℕ × Tri). x.1)) (is ∙ g.kept_are.same leaf ∙ filter-append here whole mixed)
      ∙ map_both (λ (x : ℕ × Tri). x.1) (filter here whole) (filter here mixed)
      ∙ (λ i. of_one (keeper_in homes none) leaf p.whole i ++ mixed_of_one leaf p.mixed i)
      ∙ (λ i. filter (λ t. eqb (min (leaves_are t.a i) (min (leaves_are t.b i) (leaves_are t.c i))) leaf) p.whole
      ++ map (λ x. x.tri) (filter (λ x. eqb x.leaf leaf) p.mixed))

  around : (leaf l : ℕ) (own : List (ℕ × Tri)) → own ≡ filter (λ x. eqb x.0 leaf) own_of
      → are_neighbours (map (λ x. x.1) own) (flat_map (with_homes homes none) (map (λ x. x.1) own)) leaf l
      ≡ are_near_by cells p.vertices (patch_tris p) leaf l
  around leaf l own is =
      near_by_own homes none leaf l (patch_tris p) own (is ∙ g.corners_are.same leaf)
      ∙ (λ i. not (eqb leaf l) && list_any (λ t.
      is_one_of (map (λ v. leaves_are v i) (corners t)) leaf && is_one_of (map (λ v. leaves_are v i) (corners t)) l)
      (patch_tris p))

  pub near_made : (leaf : ℕ) (outside : List ℕ) (own : List (ℕ × Tri)) → own ≡ filter (λ x. eqb x.0 leaf) own_of
      → filter (λ l. is_one_of outside l
      || are_neighbours (map (λ x. x.1) own) (flat_map (with_homes homes none) (map (λ x. x.1) own)) leaf l)
      (range_with_len 0 none)
      ≡ filter (λ l. is_one_of outside l || are_near_by cells p.vertices (patch_tris p) leaf l)
      (range_with_len 0 (length cells))
  near_made leaf outside own is i =
      filter (λ l. is_one_of outside l || around leaf l own is i) (range_with_len 0 (g.none_is i))
