-- The cells that tile a cell with a point: those before one, this one, which alone holds it, and those behind it.
use Rattle.std.proofs.Common.{◌≡◌, ℕ, zero, suc, ◌+◌, ◌*◌, ◌/◌, ◌%◌, ◌<◌, ◌≤◌, true, false, cond, not, leb, List, [], ◌∷◌, ◌++◌, length, get_or, add-one, sym, ap, ◌∙◌, refl, subst, arith, inl, inr, ◌⊎◌}
use Rattle.std.proofs.lemmas.Bool.{le-leb, cases_lt}
use Rattle.std.proofs.lemmas.Bool.Decides.{nat_tests}
use Rattle.std.proofs.lemmas.List.Elements.{All-get_or, All-from_recursion}
use Rattle.std.specs.Bool.{⊤}
use Rattle.std.specs.List.{AllByRecursion}
use Rattle.oemm_octree.specs.declared.points.Point.{Point}
use Rattle.oemm_octree.specs.declared.cells.Cell.{Cell}
use Rattle.oemm_octree.specs.Octree.{place_at, cell_holds, root_cell}
use Rattle.oemm_octree.specs.Leaves.{AreTiles, Tile, TileEach, octant, octants, home}
use Rattle.oemm_octree.specs.Morton.{morton, rank, rank_at, is_up_to}
use Rattle.oemm_octree.proofs.CellParts.{at_holds, holds_at}
use Rattle.oemm_octree.proofs.Tilings.{half_place}
use Rattle.oemm_octree.proofs.Each.{all_append, each_has}

-- ---- numbers of octants

pub morton_more : (d x y z : ℕ)
    → morton (d + 1) x y z ≡ x % 2 + 2 * (y % 2) + 4 * (z % 2) + 8 * morton d (x / 2) (y / 2) (z / 2)
unfolding morton
morton_more d x y z = ap (λ (n : ℕ). morton n x y z) (add-one d)

half_of : (x a : ℕ) → a ≤ 1 → (2 * x + a) / 2 ≡ x
half_of x a le = grind (arith, nat_tests)

bit_of : (x a : ℕ) → a ≤ 1 → (2 * x + a) % 2 ≡ a
bit_of x a le = grind (arith, nat_tests)

pub octant_rank : (c : Cell) (a b e : ℕ) → a ≤ 1 → b ≤ 1 → e ≤ 1
    → rank (octant c a b e) ≡ a + 2 * b + 4 * e + 8 * rank c
octant_rank c a b e la lb le =
    morton_more c.depth (2 * c.x + a) (2 * c.y + b) (2 * c.z + e)
    ∙ (λ i. bit_of c.x a la i + 2 * bit_of c.y b lb i + 4 * bit_of c.z e le i + 8 * morton c.depth
    (half_of c.x a la i) (half_of c.y b lb i) (half_of c.z e le i))

gt_leb : (m n : ℕ) → n < m → leb m n ≡ false
gt_leb m n lt = grind (arith, nat_tests)

same_suc : (a b : ℕ) → leb a b ≡ leb (suc a) (1 + b)
same_suc a b = grind (arith, nat_tests)

module _ (p : Point) where
  -- the number of the octant that holds the point, among the eight of a cell of this depth that holds it
  abbrev turn : ℕ → ℕ
  turn d = place_at (d + 1) p.x % 2 + 2 * (place_at (d + 1) p.y % 2) + 4 * (place_at (d + 1) p.z % 2)

  pub rank_at_more : (d : ℕ) → d < 16 → rank_at (d + 1) p ≡ turn d + 8 * rank_at d p
  rank_at_more d lt =
      morton_more d (place_at (d + 1) p.x) (place_at (d + 1) p.y) (place_at (d + 1) p.z)
      ∙ (λ i. turn d + 8 * morton d (half_place d p.x lt i) (half_place d p.y lt i) (half_place d p.z lt i))

  abbrev Before : Cell → Type 0
  Before c = rank c < rank_at c.depth p

  abbrev Behind : Cell → Type 0
  Behind c = rank_at c.depth p < rank c

  before_each : (n : ℕ) (c : Cell) (cells : List Cell) → c.depth + n ≤ 16 → Before c → Tile n c cells
      → AllByRecursion Before cells
  before_each n c cells le before =
      each_has (λ n c. (c.depth + n ≤ 16) × Before c) Before (λ n c q. q.1)
      (λ n c a b e la lb le q. (
        omega arith,
        let r = octant_rank c a b e la lb le in
            let s = rank_at_more c.depth (omega arith) in omega arith,
      )) n c cells (le, before)

  behind_each : (n : ℕ) (c : Cell) (cells : List Cell) → c.depth + n ≤ 16 → Behind c → Tile n c cells
      → AllByRecursion Behind cells
  behind_each n c cells le behind =
      each_has (λ n c. (c.depth + n ≤ 16) × Behind c) Behind (λ n c q. q.1)
      (λ n c a b e la lb le q. (
        omega arith,
        let r = octant_rank c a b e la lb le in
            let s = rank_at_more c.depth (omega arith) in omega arith,
      )) n c cells (le, behind)

  -- ---- cells around the one that holds the point

  abbrev IsCut : List Cell → Type 0
  IsCut [] = ⊥
  IsCut (c ∷ cs) = ((cell_holds c p ≡ true) × AllByRecursion Behind cs) ⊎ (Before c × IsCut cs)

  cut_after : (xs ys : List Cell) → AllByRecursion Before xs → IsCut ys → IsCut (xs ++ ys)
  cut_after [] ys all cut = cut
  cut_after (x ∷ xs) ys all cut = inr (all.0, cut_after xs ys all.1 cut)

  cut_before : (xs ys : List Cell) → IsCut xs → AllByRecursion Behind ys → IsCut (xs ++ ys)
  cut_before [] ys cut all = absurd cut
  cut_before (x ∷ xs) ys cut all =
      elim cut [
        | inl here ↦ inl (here.0, all_append Behind xs ys here.1 all)
        | inr later ↦ inr (later.0, cut_before xs ys later.1 all)
      ]

  -- what a list of cells that tile a cell is, by where the cell stands
  abbrev IsParted : Cell → List Cell → Type 0
  IsParted c cells = (Before c → AllByRecursion Before cells) × (Behind c → AllByRecursion Behind cells)
      × (cell_holds c p ≡ true → IsCut cells)

  behind_join : (P : Cell → List Cell → Type 0) (cs cells : List Cell)
      → AllByRecursion (λ c. (ks : List Cell) → P c ks → IsParted c ks) cs → AllByRecursion Behind cs
      → TileEach P cs cells → AllByRecursion Behind cells
  behind_join P [] cells all behind parts = subst (AllByRecursion Behind) (sym parts) tt
  behind_join P (c ∷ cs) cells all behind parts =
      subst (AllByRecursion Behind) (sym parts.4)
      (all_append Behind parts.0 parts.1 ((all.0 parts.0 parts.2).1 behind.0)
      (behind_join P cs parts.1 all.1 behind.1 parts.3))

  cut_join : (P : Cell → List Cell → Type 0) (cs cells : List Cell)
      → AllByRecursion (λ c. (ks : List Cell) → P c ks → IsParted c ks) cs → IsCut cs → TileEach P cs cells
      → IsCut cells
  cut_join P [] cells all cut parts = absurd cut
  cut_join P (c ∷ cs) cells all cut parts =
      subst IsCut (sym parts.4) (elim cut [
        | inl here ↦ cut_before parts.0 parts.1 ((all.0 parts.0 parts.2).2 here.0)
            (behind_join P cs parts.1 all.1 here.1 parts.3)
        | inr later ↦ cut_after parts.0 parts.1 ((all.0 parts.0 parts.2).0 later.0)
            (cut_join P cs parts.1 all.1 later.1 parts.3)
      ])

  whole : (n x a : ℕ) → n / 2 ≡ x → n % 2 ≡ a → n ≡ 2 * x + a
  whole n x a half rest = grind (arith, nat_tests)

  pub same_place : (c : Cell) → cell_holds c p ≡ true → rank c ≡ rank_at c.depth p
  same_place c on = let at = at_holds c p on in sym (λ i. morton c.depth (at.0 i) (at.1 i) (at.2 i))

  -- what a cell with a number is, where the one whose turn it is holds the point
  abbrev IsTurn : ℕ → ℕ → Cell → Type 0
  IsTurn t i c = (i < t → Before c) × (t < i → Behind c) × (i ≡ t → cell_holds c p ≡ true)

  -- cells with this number and those that follow
  abbrev AreTurns : ℕ → ℕ → List Cell → Type 0
  AreTurns t i [] = ⊤
  AreTurns t i (c ∷ cs) = IsTurn t i c × AreTurns t (i + 1) cs

  turns_behind : (t i : ℕ) (cs : List Cell) → t < i → AreTurns t i cs → AllByRecursion Behind cs
  turns_behind t i [] lt turns = tt
  turns_behind t i (c ∷ cs) lt turns = (turns.0.1 lt, turns_behind t (i + 1) cs (omega arith) turns.1)

  turns_cut : (t i : ℕ) (cs : List Cell) → i ≤ t → t < i + length cs → AreTurns t i cs → IsCut cs
  turns_cut t i [] le lt turns = absurd (omega arith)
  turns_cut t i (c ∷ cs) le lt turns =
      elim (cases_lt i t) [
        | inl less ↦ inr (turns.0.0 less, turns_cut t (i + 1) cs (omega arith) (omega arith) turns.1)
        | inr more ↦ inl (turns.0.2 (omega arith), turns_behind t (i + 1) cs (omega arith) turns.1)
      ]

  octant_turn : (c : Cell) (a b e : ℕ) → c.depth < 16 → cell_holds c p ≡ true → a ≤ 1 → b ≤ 1 → e ≤ 1
      → IsTurn (turn c.depth) (a + 2 * b + 4 * e) (octant c a b e)
  octant_turn c a b e lt on la lb le =
      let d = c.depth in
      let at = at_holds c p on in
      let same = same_place c on in
      let more = rank_at_more d lt in
      let r = octant_rank c a b e la lb le in (
        λ before. omega arith,
        λ behind. omega arith,
        λ now. holds_at (octant c a b e) p
            (whole (place_at (d + 1) p.x) c.x a (half_place d p.x lt ∙ at.0) (omega arith))
            (whole (place_at (d + 1) p.y) c.y b (half_place d p.y lt ∙ at.1) (omega arith))
            (whole (place_at (d + 1) p.z) c.z e (half_place d p.z lt ∙ at.2) (omega arith)),
      )

  octants_cut : (c : Cell) → c.depth < 16 → cell_holds c p ≡ true → IsCut (octants c)
  octants_cut c lt on =
      let t = turn c.depth in
      let at : (a b e : ℕ) → a ≤ 1 → b ≤ 1 → e ≤ 1 → IsTurn t (a + 2 * b + 4 * e) (octant c a b e) =
      λ a b e la lb le. octant_turn c a b e lt on la lb le in
      let o0 = at 0 0 0 (omega arith) (omega arith) (omega arith) in
      let o1 = at 1 0 0 (omega arith) (omega arith) (omega arith) in
      let o2 = at 0 1 0 (omega arith) (omega arith) (omega arith) in
      let o3 = at 1 1 0 (omega arith) (omega arith) (omega arith) in
      let o4 = at 0 0 1 (omega arith) (omega arith) (omega arith) in
      let o5 = at 1 0 1 (omega arith) (omega arith) (omega arith) in
      let o6 = at 0 1 1 (omega arith) (omega arith) (omega arith) in
      let o7 = at 1 1 1 (omega arith) (omega arith) (omega arith) in
      turns_cut t 0 (octants c) (omega arith) (omega arith)
      (o0, (o1, (o2, (o3, (o4, (o5, (o6, (o7, tt))))))))

  -- the cells that tile a cell that holds the point: those before one, this one, and those behind it
  pub cut : (n : ℕ) (c : Cell) (cells : List Cell) → c.depth + n ≤ 16 → cell_holds c p ≡ true → Tile n c cells
      → IsCut cells
  unfolding Tile
  cut zero c cells le on tile = subst IsCut (sym tile) (inl (on, tt))
  cut (suc n) c cells le on tile =
      elim tile [
        | inl alone ↦ subst IsCut (sym alone) (inl (on, tt))
        | inr parts ↦ cut_join (Tile n) (octants c) cells (let part : (x y z : ℕ) (ks : List Cell)
            → Tile n (octant c x y z) ks → IsParted (octant c x y z) ks = λ x y z ks
            t. (
              λ before. before_each n (octant c x y z) ks (omega arith) before t,
              λ behind. behind_each n (octant c x y z) ks (omega arith) behind t,
              λ here. cut n (octant c x y z) ks (omega arith) here t,
            ) in (
              part 0 0 0,
              (
                part 1 0 0,
                (
                  part 0 1 0,
                  (part 1 1 0, (part 0 0 1, (part 1 0 1, (part 0 1 1, (part 1 1 1, tt))))),
                ),
              ),
            ))
            (octants_cut c (omega arith) on) parts
      ]

  -- the cell at the home alone holds the point, and those up to it are those up to the point
  at_cut : (cs : List Cell) → IsCut cs
      → (home cs p < length cs) × ((k : ℕ) (d : Cell) → k < length cs
      → is_up_to (get_or cs k d) p ≡ leb k (home cs p))
  at_cut [] around = absurd around
  at_cut (c ∷ cs) around =
      elim around [
        | inl here ↦ subst (λ (n : ℕ). (n < suc (length cs))
            × ((k : ℕ) (d : Cell) → k < suc (length cs) → is_up_to (get_or (c ∷ cs) k d) p ≡ leb k n))
            (sym (ap (λ b. cond (not b) (1 + home cs p) 0) here.0)) (omega arith, first here.0 here.1)
        | inr later ↦
            let rest = at_cut cs later.1 in
            subst (λ (n : ℕ). (n < suc (length cs))
            × ((k : ℕ) (d : Cell) → k < suc (length cs) → is_up_to (get_or (c ∷ cs) k d) p ≡ leb k n))
            (sym (ap (λ b. cond (not b) (1 + home cs p) 0) (not_here later.0)))
            (let lt = rest.0 in omega arith, next later.0 rest.1)
      ]
    where
      not_here : Before c → cell_holds c p ≡ false
      not_here before = elim (cell_holds c p) as (λ b. cell_holds c p ≡ b
          → b ≡ false) [ true ↦ λ on. absurd (let same = same_place c on in omega arith) | false ↦ λ _. refl ] refl

      first : cell_holds c p ≡ true → AllByRecursion Behind cs → (k : ℕ) (d : Cell) → k < suc (length cs)
          → is_up_to (get_or (c ∷ cs) k d) p ≡ leb k 0
      first on behind zero d lt = le-leb (rank c) (rank_at c.depth p) (let same = same_place c on in omega arith)
      first on behind (suc k) d lt = gt_leb (rank (get_or cs k d)) (rank_at (get_or cs k d).depth p)
          (All-get_or Behind cs k d (omega arith) (All-from_recursion Behind cs behind))
          ∙ sym (gt_leb (suc k) 0 (omega arith))

      next : Before c → ((k : ℕ) (d : Cell) → k < length cs → is_up_to (get_or cs k d) p ≡ leb k (home cs p))
          → (k : ℕ) (d : Cell) → k < suc (length cs) → is_up_to (get_or (c ∷ cs) k d) p ≡ leb k (1 + home cs p)
      next before rest zero d lt = le-leb (rank c) (rank_at c.depth p) (omega arith)
          ∙ sym (le-leb 0 (1 + home cs p) (omega arith))
      next before rest (suc k) d lt = rest k d (omega arith) ∙ same_suc k (home cs p)

-- the cells that tile the cube, up to the home of a point of the grid, are those up to the point
pub home_ranked : (cells : List Cell) (p : Point) → AreTiles cells → cell_holds root_cell p ≡ true
    → (home cells p < length cells)
    × ((k : ℕ) (d : Cell) → k < length cells → is_up_to (get_or cells k d) p ≡ leb k (home cells p))
home_ranked cells p tiles on = at_cut p cells (cut p 6 root_cell cells (omega arith) on tiles)
