-- Cells that tile the cube have a point in one of them at most.
use Rattle.std.proofs.Common.{◌≡◌, ℕ, zero, suc, ◌+◌, ◌-◌, ◌*◌, ◌/◌, ◌^◌, ◌<◌, ◌≤◌, Bool, true, false, cond, not, ◌&&◌, ◌||◌, eqb, ℤ, List, [], ◌∷◌, length, get_or, Option, Some, sym, ap, ◌∙◌, refl, subst, arith, flat_map, filter_map, inl, inr, ◌⊎◌}
use Rattle.std.proofs.Math.Nat.{div-div-eq-div-mul, pow-suc}
use Rattle.std.proofs.lemmas.Bool.{ne_eqb, or_right}
use Rattle.std.proofs.lemmas.Bool.Decides.{nat_tests}
use Rattle.std.proofs.lemmas.Option.{slice_get-get_or}
use Rattle.std.specs.List.{AllByRecursion, list_any, slice_get, cons_option}
use Rattle.oemm_octree.specs.declared.points.Point.{Point}
use Rattle.oemm_octree.specs.declared.cells.Cell.{Cell}
use Rattle.oemm_octree.specs.Octree.{place_at, from_low, cell_holds, area_of, is_inside, root_cell}
use Rattle.oemm_octree.specs.Leaves.{AreTiles, Tile, TileEach, octant, octants, cells_by, leaves, home, is_one_of, AreBelow, in_core}
use Rattle.oemm_octree.proofs.Weights.{one, weight, weight-append, is_one_of-head}

-- ---- a cell and its eighths

pub half_place : (d : ℕ) (n : ℤ) → d < 16 → place_at (d + 1) n / 2 ≡ place_at d n
unfolding place_at
half_place d n lt =
    div-div-eq-div-mul (from_low n) (2 ^ (16 - (d + 1))) 2
    ∙ ap (λ (k : ℕ). from_low n / k) (sym (pow-suc 2 (16 - (d + 1))) ∙ ap (λ (k : ℕ). 2 ^ k) (omega arith))

two_halves : (k x : ℕ) → one (eqb k (2 * x + 0)) + one (eqb k (2 * x + 1)) ≡ one (eqb (k / 2) x)
two_halves k x = grind (arith, nat_tests)

axis : (d x : ℕ) (n : ℤ) → d < 16
    → one (eqb (place_at (d + 1) n) (2 * x + 0)) + one (eqb (place_at (d + 1) n) (2 * x + 1))
    ≡ one (eqb (place_at d n) x)
axis d x n lt = two_halves (place_at (d + 1) n) x ∙ ap (λ (k : ℕ). one (eqb k x)) (half_place d n lt)

one_and : (a b c : Bool) → one (a && b && c) ≡ one a * (one b * one c)
one_and true true true = refl
one_and true true false = refl
one_and true false true = refl
one_and true false false = refl
one_and false true true = refl
one_and false true false = refl
one_and false false true = refl
one_and false false false = refl

multiplied : (x0 x1 y0 y1 z0 z1 : ℕ) →
    x0 * (y0 * z0) + (x1 * (y0 * z0) + (x0 * (y1 * z0) +
    (x1 * (y1 * z0) + (x0 * (y0 * z1) + (x1 * (y0 * z1) + (x0 * (y1 * z1) + (x1 * (y1 * z1) + 0)))))))
    ≡ (x0 + x1) * ((y0 + y1) * (z0 + z1))
multiplied x0 x1 y0 y1 z0 z1 = omega arith

eighths : (x0 x1 y0 y1 z0 z1 x y z : Bool) → one x0 + one x1 ≡ one x → one y0 + one y1 ≡ one y
    → one z0 + one z1 ≡ one z →
    one (x0 && y0 && z0) + (one (x1 && y0 && z0) +
    (one (x0 && y1 && z0) + (one (x1 && y1 && z0) +
    (one (x0 && y0 && z1) + (one (x1 && y0 && z1) + (one (x0 && y1 && z1) + (one (x1 && y1 && z1) + 0)))))))
    ≡ one (x && y && z)
eighths x0 x1 y0 y1 z0 z1 x y z ex ey ez =
    (λ i. one_and x0 y0 z0 i + (one_and x1 y0 z0 i +
    (one_and x0 y1 z0 i + (one_and x1 y1 z0 i +
    (one_and x0 y0 z1 i + (one_and x1 y0 z1 i + (one_and x0 y1 z1 i + (one_and x1 y1 z1 i + 0))))))))
    ∙ multiplied (one x0) (one x1) (one y0) (one y1) (one z0) (one z1)
    ∙ (λ i. ex i * (ey i * ez i))
    ∙ sym (one_and x y z)

module _ (p : Point) where
  abbrev holds : Cell → ℕ
  holds c = one (cell_holds c p)

  pub weight_octants : (c : Cell) → c.depth < 16 → weight holds (octants c) ≡ holds c
  weight_octants c lt = eighths _ _ _ _ _ _ _ _ _ (axis c.depth c.x p.x lt) (axis c.depth c.y p.y lt)
      (axis c.depth c.z p.z lt)

  -- as many of the cells that tile a cell hold a point as the cell does
  tally : (n : ℕ) (c : Cell) (cells : List Cell) → c.depth + n ≤ 16 → Tile n c cells → weight holds cells ≡ holds c
  unfolding Tile
  tally zero c cells le tile = ap (weight holds) tile ∙ omega arith
  tally (suc n) c cells le tile =
      elim tile [
        | inl alone ↦ ap (weight holds) alone ∙ omega arith
        | inr parts ↦ each_tally (Tile n)
            (octants c) cells (let part : (x y z : ℕ) (ks : List Cell) → Tile n (octant c x y z) ks
            → weight holds ks ≡ holds (octant c x y z) = λ x y z ks. tally n (octant c x y z) ks (omega arith) in (
              part 0 0 0,
              (
                part 1 0 0,
                (
                  part 0 1 0,
                  (part 1 1 0, (part 0 0 1, (part 1 0 1, (part 0 1 1, (part 1 1 1, tt))))),
                ),
              ),
            )) parts
            ∙ weight_octants c (omega arith)
      ]
    where
      each_tally : (P : Cell → List Cell → Type 0) (cs cells : List Cell)
          → AllByRecursion (λ k. (ks : List Cell) → P k ks → weight holds ks ≡ holds k) cs → TileEach P cs cells
          → weight holds cells ≡ weight holds cs
      each_tally P [] cells all parts = ap (weight holds) parts
      each_tally P (k ∷ cs) cells all parts =
          ap (weight holds) parts.4 ∙ weight-append holds parts.0 parts.1
          ∙ (λ i. all.0 parts.0 parts.2 i + each_tally P cs parts.1 all.1 parts.3 i)

  none_holds : (cs : List Cell) (k : ℕ) (d : Cell) → weight holds cs ≡ 0 → k < length cs
      → cell_holds (get_or cs k d) p ≡ false
  none_holds [] k d none lt = absurd (omega arith)
  none_holds (c ∷ cs) zero d none lt = elim (cell_holds c p) as (λ b. one b + weight holds cs ≡ 0
      → b ≡ false) [ true ↦ λ h. absurd (omega arith) | false ↦ λ _. refl ] none
  none_holds (c ∷ cs) (suc k) d none lt = none_holds cs k d (omega arith) (omega arith)

  -- where one cell at most holds the point, that at its home does and no other
  pub at_home : (cs : List Cell) (k : ℕ) (d : Cell) → weight holds cs ≤ 1 → k < length cs
      → cell_holds (get_or cs k d) p ≡ eqb (home cs p) k
  at_home [] k d few lt = absurd (omega arith)
  at_home (c ∷ cs) zero d few lt =
      elim (cell_holds c p) as (λ b. b
      ≡ eqb (cond (not b) (1 + home cs p) 0) 0)
      [ true ↦ refl | false ↦ sym (ne_eqb (1 + home cs p) 0 (λ e. absurd (omega arith))) ]
  at_home (c ∷ cs) (suc k) d few lt =
      elim (cell_holds c p) as (λ b. one b + weight holds cs ≤ 1
      → cell_holds (get_or cs k d) p ≡ eqb (cond (not b) (1 + home cs p) 0) (suc k)) [
        | true ↦ λ h. none_holds cs k d (omega arith) (omega arith)
            ∙ sym (ne_eqb 0 (suc k) (λ e. absurd (omega arith)))
        | false ↦ λ h. at_home cs k d (omega arith) (omega arith) ∙ same_suc (home cs p) k
      ] few
    where
      same_suc : (a b : ℕ) → eqb a b ≡ eqb (1 + a) (suc b)
      same_suc a b = grind (arith, nat_tests)

  area_at : (cells : List Cell) (core : List ℕ) → weight holds cells ≤ 1 → AreBelow (length cells) core
      → list_any (λ c. cell_holds c p) (filter_map (slice_get cells) core) ≡ is_one_of core (home cells p)
  area_at cells [] few below = refl
  area_at cells (l ∷ core) few below =
      let lt : l < length cells = below l (is_one_of-head l core) in
      let got : slice_get cells l ≡ Some (get_or cells l root_cell) = slice_get-get_or cells l root_cell lt in
      let rest = area_at cells core few (λ n on. below n (or_right (eqb n l) (is_one_of core n) on)) in
      ap (λ (o : Option Cell). list_any (λ c. cell_holds c p) (cons_option o (filter_map (slice_get cells) core))) got
      ∙ (λ i. at_home cells l root_cell few lt i || rest i)

-- at most one of the cells holds a point
pub few_hold : (cells : List Cell) (p : Point) → AreTiles cells
    → weight (λ c. one (cell_holds c p)) cells ≡ one (cell_holds root_cell p)
few_hold cells p tiles = tally p 6 root_cell cells (omega arith) tiles

pub at_most_one : (b : Bool) → one b ≤ 1
at_most_one true = omega arith
at_most_one false = omega arith

pub area_is_core : (cells : List Cell) (core : List ℕ) → AreTiles cells → AreBelow (length cells) core
    → is_inside (area_of cells core) ≡ in_core cells core
area_is_core cells core tiles below = λ i p. area_at p cells core (subst (λ (n : ℕ). n ≤ 1)
    (sym (few_hold cells p tiles)) (at_most_one (cell_holds root_cell p))) below i

-- ---- the leaves of an octree tile the cube

tile_each : (P : Cell → List Cell → Type 0) (f : Cell → List Cell) (cs : List Cell)
    → AllByRecursion (λ c. P c (f c)) cs → TileEach P cs (flat_map f cs)
tile_each P f [] all = refl
tile_each P f (c ∷ cs) all = (f c, flat_map f cs, all.0, tile_each P f cs all.1, refl)

pub cells_tile : (splits : Cell → Bool) (n : ℕ) (c : Cell) → Tile n c (cells_by splits n c)
unfolding Tile cells_by
cells_tile splits zero c = refl
cells_tile splits (suc n) c =
    elim (splits c) as (λ b. let cells : List Cell = cond b (flat_map (cells_by splits n) (octants c)) (c ∷ []) in
    (cells ≡ c ∷ []) ⊎ TileEach (Tile n) (octants c) cells) [
      | true ↦
          let part : (x y z : ℕ) → Tile n (octant c x y z)
          (cells_by splits n (octant c x y z)) = λ x y z. cells_tile splits n (octant c x y z) in
          inr (tile_each (Tile n) (cells_by splits n) (octants c) (
            part 0 0 0,
            (
              part 1 0 0,
              (
                part 0 1 0,
                (part 1 1 0, (part 0 0 1, (part 1 0 1, (part 0 1 1, (part 1 1 1, tt))))),
              ),
            ),
          ))
      | false ↦ inl refl
    ]

pub leaves_tile : (points : List Point) (cap : ℕ) → AreTiles (leaves points cap)
leaves_tile points cap = cells_tile _ 6 root_cell

-- ---- each point of the grid has a home

some_holds : (p : Point) (cs : List Cell) → weight (λ c. one (cell_holds c p)) cs ≡ 1 → home cs p < length cs
some_holds p [] h = absurd (omega arith)
some_holds p (c ∷ cs) h =
    elim (cell_holds c p) as (λ b. one b + weight (λ c. one (cell_holds c p)) cs ≡ 1
    → cond (not b) (1 + home cs p) 0 < suc (length cs)) [
      | true ↦ λ _. omega arith
      | false ↦ λ k. let later = some_holds p cs (omega arith) in omega arith
    ] h

-- the cells that tile the cube have a home for each point that the cube holds, which alone holds it
pub home_there : (cells : List Cell) (p : Point) → AreTiles cells → cell_holds root_cell p ≡ true
    → (home cells p < length cells)
    × ((k : ℕ) (d : Cell) → k < length cells → cell_holds (get_or cells k d) p ≡ eqb (home cells p) k)
home_there cells p tiles on =
    let one_holds : weight (λ c. one (cell_holds c p)) cells ≡ 1 = few_hold cells p tiles ∙ ap one on in
    (some_holds p cells one_holds, λ k d lt. at_home p cells k d (omega arith) lt)
