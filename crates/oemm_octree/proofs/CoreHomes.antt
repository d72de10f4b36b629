-- Homes of points, and the cores that have them.
use Rattle.std.proofs.Common.{◌≡◌, ℕ, suc, ◌+◌, ◌<◌, ◌≤◌, Bool, true, false, cond, eqb, List, [], ◌∷◌, length, get_or, Some, inl, inr, sym, ap, ◌∙◌, refl, subst, arith, zero}
use Rattle.std.proofs.lemmas.Bool.{eqb-true, eq-eqb, false≢true, or_left, or_right, or_cases}
use Rattle.std.proofs.lemmas.Option.{slice_get_within, get_or_from_slice_get}
use Rattle.std.proofs.lemmas.Int.{ints}
use Rattle.std.specs.List.{slice_get}
use Rattle.oemm_octree.specs.declared.points.Point.{Point}
use Rattle.oemm_octree.specs.declared.cells.Cell.{Cell}
use Rattle.oemm_octree.specs.Octree.{IsAtMost, IsOnGrid, cell_holds, cell_meets, core_of, leaves_from, root_cell}
use Rattle.oemm_octree.specs.Leaves.{AreBelow, AreTiles, home, in_core, is_one_of}
use Rattle.oemm_octree.proofs.CellParts.{has_meets, root_holds, on_grid_between}
use Rattle.oemm_octree.proofs.Tilings.{at_home, at_most_one, few_hold, home_there}

-- the cell at a leaf holds a point exactly where the leaf is the point's home
pub holds_at_home : (cells : List Cell) (p : Point) (leaf : ℕ) (c : Cell) → AreTiles cells
    → slice_get cells leaf ≡ Some c
    → cell_holds c p ≡ eqb (home cells p) leaf
holds_at_home cells p leaf c tiles at =
    let few = subst (λ (n : ℕ). n ≤ 1) (sym (few_hold cells p tiles)) (at_most_one (cell_holds root_cell p)) in
    ap (λ (k : Cell). cell_holds k p) (sym (get_or_from_slice_get cells leaf c root_cell at))
    ∙ at_home p cells leaf root_cell few (slice_get_within cells leaf c at)

pub is_home : (cells : List Cell) (p : Point) (leaf : ℕ) (c : Cell) → AreTiles cells → slice_get cells leaf ≡ Some c
    → cell_holds c p ≡ true → home cells p ≡ leaf
is_home cells p leaf c tiles at holds =
    eqb-true (home cells p) leaf (sym (holds_at_home cells p leaf c tiles at) ∙ holds)

pub home_is : (cells : List Cell) (p : Point) (leaf : ℕ) (c : Cell) → AreTiles cells → slice_get cells leaf ≡ Some c
    → home cells p ≡ leaf → cell_holds c p ≡ true
home_is cells p leaf c tiles at here = holds_at_home cells p leaf c tiles at ∙ eq-eqb (home cells p) leaf here

pub one_leaf : (cells : List Cell) (p : Point) (leaf other : ℕ) (c e : Cell) → AreTiles cells
    → slice_get cells leaf ≡ Some c → slice_get cells other ≡ Some e
    → cell_holds c p ≡ true → cell_holds e p ≡ true → leaf ≡ other
one_leaf cells p leaf other c e tiles at at_other here there =
    sym (is_home cells p leaf c tiles at here) ∙ is_home cells p other e tiles at_other there

-- ---- cores

chosen : (test : Cell → Bool) (cs : List Cell) (n k : ℕ) (d : Cell) → k < length cs → test (get_or cs k d) ≡ true
    → is_one_of (leaves_from n test cs) (n + k) ≡ true
chosen test [] n k d lt passes = absurd (omega arith)
chosen test (c ∷ cs) n zero d lt passes =
    subst (λ b. is_one_of (cond b (n ∷ leaves_from (n + 1) test cs) (leaves_from (n + 1) test cs)) (n + 0) ≡ true)
    (sym passes) (or_left (eqb (n + 0) n) (is_one_of (leaves_from (n + 1) test cs) (n + 0))
    (eq-eqb (n + 0) n (omega arith)))
chosen test (c ∷ cs) n (suc k) d lt passes =
    let later : is_one_of (leaves_from (n + 1) test cs) (n + suc k) ≡ true =
    subst (λ (m : ℕ). is_one_of (leaves_from (n + 1) test cs) m ≡ true) (omega arith)
    (chosen test cs (n + 1) k d (omega arith) passes) in
    elim (test c) as (λ b. is_one_of (cond b (n ∷ leaves_from (n + 1) test cs) (leaves_from (n + 1) test cs))
    (n + suc k) ≡ true) [
      | true ↦ or_right (eqb (n + suc k) n) (is_one_of (leaves_from (n + 1) test cs) (n + suc k)) later
      | false ↦ later
    ]

chosen_below : (test : Cell → Bool) (cs : List Cell) (n l : ℕ) → is_one_of (leaves_from n test cs) l ≡ true
    → l < n + length cs
chosen_below test [] n l on = absurd (false≢true on)
chosen_below test (c ∷ cs) n l on =
    elim (test c) as (λ b. is_one_of (cond b (n ∷ leaves_from (n + 1) test cs) (leaves_from (n + 1) test cs)) l
    ≡ true → l < n + suc (length cs)) [
      | true ↦ λ h. elim (or_cases (eqb l n) (is_one_of (leaves_from (n + 1) test cs) l) h) [
        | inl here ↦ let same = eqb-true l n here in omega arith
        | inr later ↦ let rest = chosen_below test cs (n + 1) l later in omega arith
      ]
      | false ↦ λ h. let rest = chosen_below test cs (n + 1) l h in omega arith
    ] on

pub core_below : (cells : List Cell) (low high : Point) → AreBelow (length cells) (core_of cells low high)
core_below cells low high = λ l on. let told = chosen_below (cell_meets low high) cells 0 l on in omega arith

point_on_grid : (low high p : Point) → IsOnGrid low → IsOnGrid high → IsAtMost low p → IsAtMost p high → IsOnGrid p
point_on_grid low high p on_low on_high above below = (
  on_grid_between low.x p.x high.x on_low.0 on_high.0 above.0 below.0,
  on_grid_between low.y p.y high.y on_low.1 on_high.1 above.1 below.1,
  on_grid_between low.z p.z high.z on_low.2 on_high.2 above.2 below.2,
)

pub core_has_homes : (cells : List Cell) (low high p : Point) → AreTiles cells → IsOnGrid low → IsOnGrid high
    → IsAtMost low p → IsAtMost p high → in_core cells (core_of cells low high) p ≡ true
core_has_homes cells low high p tiles on_low on_high above below =
    let on = root_holds p (point_on_grid low high p on_low on_high above below) in
    let at = home_there cells p tiles on in
    let here = at.1 (home cells p) root_cell at.0 ∙ eq-eqb (home cells p) (home cells p) refl in
    let meets = has_meets (get_or cells (home cells p) root_cell) low high p on_low on_high above below here in
    subst (λ (l : ℕ). is_one_of (core_of cells low high) l ≡ true) (omega arith)
    (chosen (cell_meets low high) cells 0 (home cells p) root_cell at.0 meets)

some_of : (ns : List ℕ) (n : ℕ) → is_one_of ns n ≡ true → 0 < length ns
some_of [] n on = absurd (false≢true on)
some_of (m ∷ ns) n on = omega arith

at_most_itself : (p : Point) → IsAtMost p p
at_most_itself p = (omega (arith, ints), omega (arith, ints), omega (arith, ints))

pub core_some : (cells : List Cell) (low high : Point) → AreTiles cells → IsOnGrid low → IsOnGrid high
    → IsAtMost low high → 0 < length (core_of cells low high)
core_some cells low high tiles on_low on_high le =
    some_of (core_of cells low high) (home cells low)
    (core_has_homes cells low high low tiles on_low on_high (at_most_itself low) le)
