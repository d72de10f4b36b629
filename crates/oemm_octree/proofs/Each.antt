-- What each of the cells that tile a cell keeps of it.
use Rattle.std.proofs.Common.{ℕ, zero, suc, ◌+◌, ◌*◌, ◌^◌, ◌≤◌, List, [], ◌∷◌, ◌++◌, length, sym, ap, ◌∙◌, subst, arith, inl, inr}
use Rattle.std.proofs.Math.Nat.{pow-suc, one-le-pow}
use Rattle.std.proofs.lemmas.List.{length-append}
use Rattle.std.proofs.lemmas.List.Elements.{All-from_recursion}
use Rattle.std.specs.List.{AllByRecursion}
use Rattle.oemm_octree.specs.declared.cells.Cell.{Cell}
use Rattle.oemm_octree.specs.Octree.{AreCells, root_cell}
use Rattle.oemm_octree.specs.Leaves.{AreTiles, Tile, TileEach, octant, octants}

pub all_append : {X : Type 0} (P : X → Type 0) (xs ys : List X) → AllByRecursion P xs → AllByRecursion P ys
    → AllByRecursion P (xs ++ ys)
all_append P [] ys front rest = rest
all_append P (x ∷ xs) ys front rest = (front.0, all_append P xs ys front.1 rest)

-- Q passes from a cell to its octants, and each cell with Q has R
module _ (Q : ℕ → Cell → Type 0) (R : Cell → Type 0) (here : (n : ℕ) (c : Cell) → Q n c → R c)
    (down : (n : ℕ) (c : Cell) (a b e : ℕ) → a ≤ 1 → b ≤ 1 → e ≤ 1 → Q (suc n) c → Q n (octant c a b e)) where
  joined : (P : Cell → List Cell → Type 0) (cs cells : List Cell)
      → AllByRecursion (λ k. (ks : List Cell) → P k ks → AllByRecursion R ks) cs → TileEach P cs cells
      → AllByRecursion R cells
  joined P [] cells all parts = subst (AllByRecursion R) (sym parts) tt
  joined P (k ∷ cs) cells all parts = subst (AllByRecursion R) (sym parts.4)
      (all_append R parts.0 parts.1 (all.0 parts.0 parts.2) (joined P cs parts.1 all.1 parts.3))

  pub each_has : (n : ℕ) (c : Cell) (cells : List Cell) → Q n c → Tile n c cells → AllByRecursion R cells
  unfolding Tile
  each_has zero c cells q tile = subst (AllByRecursion R) (sym tile) (here zero c q, tt)
  each_has (suc n) c cells q tile =
      elim tile [
        | inl alone ↦ subst (AllByRecursion R) (sym alone) (here (suc n) c q, tt)
        | inr parts ↦ joined (Tile n) (octants c) cells (let part : (a b e : ℕ) (ks : List Cell) → a ≤ 1 → b ≤ 1
            → e ≤ 1 → Tile n (octant c a b e) ks
            → AllByRecursion R ks = λ a b e ks la lb le. each_has n (octant c a b e) ks (down n c a b e la lb le q) in (
              λ ks. part 0 0 0 ks (omega arith) (omega arith) (omega arith),
              (
                λ ks. part 1 0 0 ks (omega arith) (omega arith) (omega arith),
                (
                  λ ks. part 0 1 0 ks (omega arith) (omega arith) (omega arith),
                  (
                    λ ks. part 1 1 0 ks (omega arith) (omega arith) (omega arith),
                    (
                      λ ks. part 0 0 1 ks (omega arith) (omega arith) (omega arith),
                      (
                        λ ks. part 1 0 1 ks (omega arith) (omega arith) (omega arith),
                        (
                          λ ks. part 0 1 1 ks (omega arith) (omega arith) (omega arith),
                          (λ ks. part 1 1 1 ks (omega arith) (omega arith) (omega arith), tt),
                        ),
                      ),
                    ),
                  ),
                ),
              ),
            )) parts
      ]

-- ---- depths and lengths

pub depths : (cells : List Cell) → AreTiles cells → AreCells cells
depths cells tiles =
    All-from_recursion (λ c. c.depth ≤ 6) cells
    (each_has (λ n c. c.depth + n ≤ 6) (λ c. c.depth ≤ 6) (λ n c q. omega arith)
    (λ n c a b e la lb le q. omega arith) 6 root_cell cells (omega arith) tiles)

-- the cells that tile a cell are at most as many as its parts at the last depth
pub few : (n : ℕ) (c : Cell) (cells : List Cell) → Tile n c cells → length cells ≤ 8 ^ n
unfolding Tile
few zero c cells tile = subst (λ (cells : List Cell). length cells ≤ 8 ^ 0) (sym tile) (omega arith)
few (suc n) c cells tile =
    elim tile [
      | inl alone ↦ subst (λ (cells : List Cell). length cells ≤ 8 ^ suc n) (sym alone)
          (let some = one-le-pow (suc n) 8 (omega arith) in omega arith)
      | inr parts ↦
          let part : (a b e : ℕ) (ks : List Cell) → Tile n (octant c a b e) ks
          → length ks ≤ 8 ^ n = λ a b e ks. few n (octant c a b e) ks in
          let all = few_joined (Tile n) (8 ^ n)
          (octants c) cells (
            part 0 0 0,
            (
              part 1 0 0,
              (part 0 1 0, (part 1 1 0, (part 0 0 1, (part 1 0 1, (part 0 1 1, (part 1 1 1, tt)))))),
            ),
          ) parts in
          let power = pow-suc 8 n in
          omega arith
    ]
  where
    few_joined : (P : Cell → List Cell → Type 0) (most : ℕ) (cs cells : List Cell)
        → AllByRecursion (λ k. (ks : List Cell) → P k ks → length ks ≤ most) cs → TileEach P cs cells
        → length cells ≤ length cs * most
    few_joined P most [] cells all parts = subst (λ (cells : List Cell). length cells ≤ 0 * most) (sym parts)
        (omega arith)
    few_joined P most (k ∷ cs) cells all parts =
        let front = all.0 parts.0 parts.2 in
        let rest = few_joined P most cs parts.1 all.1 parts.3 in
        let sum = ap (λ (xs : List Cell). length xs) parts.4 ∙ length-append parts.0 parts.1 in
        omega arith
