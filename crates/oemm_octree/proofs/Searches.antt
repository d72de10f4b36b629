-- Steps of the search for a home.
use Rattle.std.proofs.Common.{◌≡◌, ℕ, ◌<◌, ◌≤◌, true, false, List, length, get_or, Some, sym, ap, ◌∙◌, subst, arith, leb}
use Rattle.std.proofs.lemmas.Bool.{leb-true}
use Rattle.std.proofs.lemmas.Bool.Decides.{nat_tests}
use Rattle.std.proofs.lemmas.List.Elements.{All-get_or, All-from_recursion}
use Rattle.std.proofs.lemmas.Option.{slice_get-get_or}
use Rattle.std.specs.List.{slice_get, All}
use Rattle.oemm_octree.specs.declared.points.Point.{Point}
use Rattle.oemm_octree.specs.declared.cells.Cell.{Cell}
use Rattle.oemm_octree.specs.Octree.{cell_holds, root_cell, AreCells}
use Rattle.oemm_octree.specs.Leaves.{AreTiles, IsPlaced, home}
use Rattle.oemm_octree.specs.Morton.{is_up_to}
use Rattle.oemm_octree.proofs.Each.{depths, few, each_has}
use Rattle.oemm_octree.proofs.Steps.{half_below}
use Rattle.oemm_octree.proofs.Ranks.{home_ranked}

got : (cells : List Cell) (k : ℕ) (c : Cell) → k < length cells → slice_get cells k ≡ Some c
    → get_or cells k root_cell ≡ c
got cells k c lt at = cc (slice_get-get_or cells k root_cell lt, at)

pub depth_at : (cells : List Cell) (k : ℕ) (c : Cell) → AreTiles cells → k < length cells
    → slice_get cells k ≡ Some c → c.depth ≤ 6
depth_at cells k c tiles lt at = subst (λ (c : Cell). c.depth ≤ 6) (got cells k c lt at)
    (All-get_or (λ c. c.depth ≤ 6) cells k root_cell lt (depths cells tiles))

up_to_home : (cells : List Cell) (p : Point) (k : ℕ) (c : Cell) → AreTiles cells → cell_holds root_cell p ≡ true
    → k < length cells → slice_get cells k ≡ Some c → is_up_to c p ≡ leb k (home cells p)
up_to_home cells p k c tiles on lt at = ap (λ c. is_up_to c p) (sym (got cells k c lt at))
    ∙ (home_ranked cells p tiles on).1 k root_cell lt

pub not_behind : (cells : List Cell) (p : Point) (k : ℕ) (c : Cell) → AreTiles cells
    → cell_holds root_cell p ≡ true → k < length cells → slice_get cells k ≡ Some c → true ≡ is_up_to c p
    → k ≤ home cells p
not_behind cells p k c tiles on lt at told = leb-true k (home cells p)
    (sym (told ∙ up_to_home cells p k c tiles on lt at))

pub is_behind : (cells : List Cell) (p : Point) (k : ℕ) (c : Cell) → AreTiles cells
    → cell_holds root_cell p ≡ true → k < length cells → slice_get cells k ≡ Some c → false ≡ is_up_to c p
    → home cells p < k
is_behind cells p k c tiles on lt at told = over k (home cells p) (sym (told ∙ up_to_home cells p k c tiles on lt at))
  where
    over : (m n : ℕ) → leb m n ≡ false → n < m
    over m n h = grind (arith, nat_tests)

pub few_tiles : (cells : List Cell) → AreTiles cells → length cells ≤ 262144
few_tiles cells tiles = few 6 root_cell cells tiles

pub depth_or : (cells given : List Cell) (k : ℕ) (d : Cell) → AreTiles cells → given ≡ cells → k < length given
    → (get_or given k d).depth ≤ 6
depth_or cells given k d tiles same lt = All-get_or (λ c. c.depth ≤ 6) given k d lt (subst AreCells (sym same)
    (depths cells tiles))

pub placed : (cells : List Cell) → AreTiles cells → All IsPlaced cells
placed cells tiles =
    All-from_recursion IsPlaced cells
    (each_has (λ n c. IsPlaced c) IsPlaced (λ n c q. q)
    (λ n c a b e la lb le q. (
      half_below c.depth c.x a q.0 (omega arith),
      half_below c.depth c.y b q.1 (omega arith),
      half_below c.depth c.z e q.2 (omega arith),
    ))
    6 root_cell cells (omega arith, omega arith, omega arith) tiles)
