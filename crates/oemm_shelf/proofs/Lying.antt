-- Points that lie in a leaf's cell.
use Rattle.std.proofs.Common.{◌≡◌, ℕ, ◌<◌, ◌≤◌, Bool, true, false, ◌&&◌, eqb, ltb, List, [], ◌∷◌, length, get_or, refl, sym, ap, ◌∙◌, arith, Some}
use Rattle.std.specs.Prelude.{slice_get}
use Rattle.std.specs.List.{list_all}
use Rattle.std.proofs.lemmas.Bool.{eq-eqb, eqb-true, false_from_ne_true, both_ways}
use Rattle.std.proofs.lemmas.Option.{get_or_from_slice_get, slice_get_within}
use Rattle.oemm_limits.specs.declared.TheConstants.{MOST_DEPTH}
use Rattle.oemm_octree.specs.declared.cells.Cell.{Cell}
use Rattle.oemm_octree.specs.declared.points.Point.{Point}
use Rattle.oemm_octree.specs.Leaves.{AreTiles, home}
use Rattle.oemm_octree.specs.Octree.{cell_holds}
use Rattle.oemm_octree.proofs.CoreHomes.{is_home, home_is}
use Rattle.oemm_octree.proofs.Each.{depths}
use Rattle.mesh_data.specs.declared.geometry.Tri.{Tri}
use Rattle.mesh_data.specs.Triangles.{corners}
use Rattle.sheet_data.specs.Summed.{SummedVertex}
use Rattle.sheet_data.specs.declared.index.IndexSheet.{IndexSheet}
use Rattle.sheet_data.specs.declared.sheets.LeafSheet.{LeafSheet}
use Rattle.oemm_shelf.specs.Readings.{is_of_leaf}

all_agree : {X : Type 0} (p q : X → Bool) → ((x : X) → p x ≡ q x) → (xs : List X) → list_all p xs ≡ list_all q xs
all_agree p q h [] = refl
all_agree p q h (x ∷ xs) = let here = h x in let rest = all_agree p q h xs in λ i. here i && rest i

module _ (cells : List Cell) (leaf : ℕ) (cell : Cell) (tiles : AreTiles cells) (at : slice_get cells leaf ≡ Some cell) where
  pub low_enough : cell.depth ≤ MOST_DEPTH
  low_enough =
      let lt : leaf < length cells = slice_get_within cells leaf cell at in
      let is : get_or cells leaf cell ≡ cell = get_or_from_slice_get cells leaf cell cell at in
      let le = depths cells tiles leaf cell lt in
      omega (arith, le, ap (λ (c : Cell). c.depth) is)

  holds_is : (p : Point) → cell_holds cell p ≡ eqb (home cells p) leaf
  holds_is p =
      elim (cell_holds cell p) as (λ b. cell_holds cell p ≡ b → b ≡ eqb (home cells p) leaf) [
        | true ↦ λ on. sym (eq-eqb (home cells p) leaf (is_home cells p leaf cell tiles at on))
        | false ↦ λ off. sym (false_from_ne_true (eqb (home cells p) leaf) (λ on. both_ways (cell_holds cell p) off (home_is cells p leaf cell tiles at (eqb-true (home cells p) leaf on))))
      ] refl

  pub lie_is : (n : ℕ) (vs : List SummedVertex) → list_all (λ x. ltb x.name n && cell_holds cell x.point) vs
      ≡ list_all (λ x. ltb x.name n && eqb (home cells x.point) leaf) vs
  lie_is n vs =
      all_agree (λ (x : SummedVertex). ltb x.name n && cell_holds cell x.point) (λ x. ltb x.name n && eqb (home cells x.point) leaf)
      (λ x. ap (λ (b : Bool). ltb x.name n && b) (holds_is x.point)) vs

  pub of_leaf_by : (i : IndexSheet) (s : LeafSheet) (says lie named below : Bool) (vs : List SummedVertex) (ts : List Tri)
      (ls : List ℕ) (count : ℕ) → i.cells ≡ cells → says ≡ eqb s.leaf leaf
      → lie ≡ list_all (λ x. ltb x.name i.vertices && cell_holds cell x.point) vs
      → named ≡ list_all (λ t. list_all (λ v. ltb v i.vertices) (corners t)) ts
      → below ≡ list_all (λ l. ltb l count) ls → vs ≡ s.vertices → ts ≡ s.faces → ls ≡ s.near → count ≡ length cells
      → (says && (lie && (named && below)))
      ≡ (eqb s.leaf leaf
      && (list_all (λ x. ltb x.name i.vertices && eqb (home cells x.point) leaf) s.vertices
      && (list_all (λ t. list_all (λ v. ltb v i.vertices) (corners t)) s.faces
      && list_all (λ l. ltb l (length cells)) s.near)))
  of_leaf_by i s says lie named below vs ts ls count same is_says is_lie is_named is_below is_vs is_ts is_ls is_count =
      let lies = is_lie ∙ ap (λ (xs : List SummedVertex). list_all (λ x. ltb x.name i.vertices && cell_holds cell x.point) xs) is_vs ∙ lie_is i.vertices s.vertices in
      let names = is_named ∙ ap (λ (xs : List Tri). list_all (λ t. list_all (λ v. ltb v i.vertices) (corners t)) xs) is_ts in
      let lows = is_below ∙ (λ j. list_all (λ l. ltb l (is_count j)) (is_ls j)) in
      λ j. is_says j && (lies j && (names j && lows j))

pub of_leaf_from : (i : IndexSheet) (leaf : ℕ) (s : LeafSheet) (cell : Cell) → AreTiles i.cells → slice_get i.cells leaf ≡ Some cell
    → (says lie named below : Bool) (vs : List SummedVertex) (ts : List Tri) (ls : List ℕ) (count : ℕ) → says ≡ eqb s.leaf leaf
    → lie ≡ list_all (λ x. ltb x.name i.vertices && cell_holds cell x.point) vs
    → named ≡ list_all (λ t. list_all (λ v. ltb v i.vertices) (corners t)) ts
    → below ≡ list_all (λ l. ltb l count) ls → vs ≡ s.vertices → ts ≡ s.faces → ls ≡ s.near → count ≡ length i.cells
    → (says && (lie && (named && below))) ≡ is_of_leaf i leaf s
of_leaf_from i leaf s cell tiles at says lie named below vs ts ls count is_says is_lie is_named is_below is_vs is_ts is_ls is_count =
    of_leaf_by i.cells leaf cell tiles at i s says lie named below vs ts ls count refl is_says is_lie is_named is_below is_vs is_ts is_ls is_count
