-- A walk along cells decides whether they tile the cube.
use Rattle.std.proofs.Common.{◌≡◌, ℕ, zero, suc, ◌+◌, ◌≤◌, true, false, cond, ◌&&◌, eqb, List, [], ◌∷◌, ◌++◌, Option, Some, None, sym, ap, ◌∙◌, refl, subst, arith, inl, inr, append_assoc}
use Rattle.std.proofs.lemmas.Bool.{and_parts, and_from, eqb-true, eq-eqb, ne_eqb, and_left}
use Rattle.std.specs.List.{AllByRecursion}
use Rattle.oemm_octree.specs.declared.cells.Cell.{Cell}
use Rattle.oemm_octree.specs.Leaves.{Tile, TileEach, octant, octants}
use Rattle.oemm_octree.specs.Walks.{same_cell, walk_each, walk}

same_is : (c k : Cell) → same_cell c k ≡ true → c ≡ k
same_is c k h =
    let a = and_parts (eqb c.depth k.depth) (eqb c.x k.x && (eqb c.y k.y && eqb c.z k.z)) h in
    let b = and_parts (eqb c.x k.x) (eqb c.y k.y && eqb c.z k.z) a.1 in
    let d = and_parts (eqb c.y k.y) (eqb c.z k.z) b.1 in
    let ed = eqb-true c.depth k.depth a.0 in
    let ex = eqb-true c.x k.x b.0 in
    let ey = eqb-true c.y k.y d.0 in
    let ez = eqb-true c.z k.z d.1 in
    λ i. record { depth = ed i; x = ex i; y = ey i; z = ez i }

same_itself : (c : Cell) → same_cell c c ≡ true
same_itself c = and_from _ _ (eq-eqb c.depth c.depth refl)
    (and_from _ _ (eq-eqb c.x c.x refl) (and_from _ _ (eq-eqb c.y c.y refl) (eq-eqb c.z c.z refl)))

-- ---- what it finds tiles

abbrev Found : (Cell → List Cell → Type 0) → Cell → List Cell → List Cell → Type 0
Found P c cells rest = (front : List Cell) × P c front × (cells ≡ front ++ rest)

pub no_rest : (rest : List Cell) → None ≡ Some rest → ⊥
no_rest rest is = absurd (cc)

pub some_rest : (xs ys : List Cell) → Some xs ≡ Some ys → xs ≡ ys
some_rest xs ys is = cc

found_each : (P : Cell → List Cell → Type 0) (f : Cell → List Cell → Option (List Cell)) (cs : List Cell)
    → AllByRecursion (λ c. (cells rest : List Cell) → f c cells ≡ Some rest → Found P c cells rest) cs
    → (cells rest : List Cell) → walk_each f cs cells ≡ Some rest
    → (front : List Cell) × TileEach P cs front × (cells ≡ front ++ rest)
found_each P f [] all cells rest is = ([], refl, some_rest cells rest is)
found_each P f (c ∷ cs) all cells rest is =
    elim (f c cells) as (λ o. f c cells ≡ o
    → (let r : Option (List Cell) = elim o [ None ↦ None | Some rest ↦ walk_each f cs rest ] in
    r ≡ Some rest) → (front : List Cell) × TileEach P (c ∷ cs) front × (cells ≡ front ++ rest)) [
      | None ↦ λ _ h. absurd (no_rest rest h)
      | Some left ↦ λ on h.
          let first = all.0 cells left on in
          let later = found_each P f cs all.1 left rest h in (
            first.0 ++ later.0,
            (first.0, later.0, first.1, later.1, refl),
            first.2
                ∙ ap (λ (xs : List Cell). first.0 ++ xs) later.2 ∙ sym (append_assoc first.0 later.0 rest),
          )
    ] refl is

pub found : (n : ℕ) (c : Cell) (cells rest : List Cell) → walk n c cells ≡ Some rest → Found (Tile n) c cells rest
unfolding walk Tile
found zero c [] rest is = absurd (no_rest rest is)
found zero c (k ∷ cells) rest is =
    elim (same_cell c k) as (λ b. same_cell c k ≡ b → cond b (Some cells) None ≡ Some rest
    → Found (Tile zero) c (k ∷ cells) rest) [
      | true ↦ λ same h. (c ∷ [], refl, (λ i. sym (same_is c k same) i ∷ some_rest cells rest h i))
      | false ↦ λ _ h. absurd (no_rest rest h)
    ] refl is
found (suc n) c [] rest is = absurd (no_rest rest is)
found (suc n) c (k ∷ cells) rest is =
    elim (same_cell c k) as (λ b. same_cell c k ≡ b
    → cond b (Some cells) (walk_each (walk n) (octants c) (k ∷ cells)) ≡ Some rest
    → Found (Tile (suc n)) c (k ∷ cells) rest) [
      | true ↦ λ same h. (c ∷ [], inl refl, (λ i. sym (same_is c k same) i ∷ some_rest cells rest h i))
      | false ↦ λ _ h.
          let part : (x y z : ℕ) (ks left : List Cell) → walk n (octant c x y z) ks ≡ Some left
          → Found (Tile n) (octant c x y z) ks left = λ x y z ks left. found n (octant c x y z) ks left in
          let all = found_each (Tile n) (walk n) (octants c) (
            part 0 0 0,
            (
              part 1 0 0,
              (
                part 0 1 0,
                (part 1 1 0, (part 0 0 1, (part 1 0 1, (part 0 1 1, (part 1 1 1, tt))))),
              ),
            ),
          ) (k ∷ cells) rest h in
          (all.0, inr all.1, all.2)
    ] refl is

-- ---- what tiles is found

-- there is a first cell, and it isn't above this depth
abbrev StartsAt : ℕ → List Cell → Type 0
StartsAt d [] = ⊥
StartsAt d (k ∷ cells) = d ≤ k.depth

starts_append : (d : ℕ) (xs ys : List Cell) → StartsAt d xs → StartsAt d (xs ++ ys)
starts_append d [] ys h = absurd h
starts_append d (x ∷ xs) ys h = h

starts_less : (d : ℕ) (xs : List Cell) → StartsAt (d + 1) xs → StartsAt d xs
starts_less d [] h = h
starts_less d (x ∷ xs) h = omega arith

starts : (n : ℕ) (c : Cell) (front : List Cell) → Tile n c front → StartsAt c.depth front
unfolding Tile
starts zero c front tile = subst (StartsAt c.depth) (sym tile) (omega arith)
starts (suc n) c front tile =
    elim tile [
      | inl alone ↦ subst (StartsAt c.depth) (sym alone) (omega arith)
      | inr parts ↦ subst (StartsAt c.depth) (sym parts.4)
          (starts_less c.depth _ (starts_append (c.depth + 1) parts.0 parts.1
          (starts n (octant c 0 0 0) parts.0 parts.2)))
    ]

finds_each : (P : Cell → List Cell → Type 0) (f : Cell → List Cell → Option (List Cell)) (cs : List Cell)
    → AllByRecursion (λ c. (front rest : List Cell) → P c front → f c (front ++ rest) ≡ Some rest) cs
    → (front rest : List Cell) → TileEach P cs front → walk_each f cs (front ++ rest) ≡ Some rest
finds_each P f [] all front rest parts = ap (λ (xs : List Cell). Some (xs ++ rest)) parts
finds_each P f (c ∷ cs) all front rest parts =
    ap (λ (xs : List Cell). walk_each f (c ∷ cs) xs)
    (ap (λ (xs : List Cell). xs ++ rest) parts.4 ∙ append_assoc parts.0 parts.1 rest)
    ∙ ap (λ (o : Option (List Cell)). let r : Option (List Cell) = elim o
    [ None ↦ None | Some rest ↦ walk_each f cs rest ] in r) (all.0 parts.0 (parts.1 ++ rest) parts.2)
    ∙ finds_each P f cs all.1 parts.1 rest parts.3

deeper : (n : ℕ) (c : Cell) (cells : List Cell) → StartsAt (c.depth + 1) cells
    → walk (suc n) c cells ≡ walk_each (walk n) (octants c) cells
unfolding walk
deeper n c [] h = absurd h
deeper n c (k ∷ cells) h =
    ap (λ b. cond b (Some cells) (walk_each (walk n) (octants c) (k ∷ cells)))
    (and_left (eqb c.depth k.depth) (eqb c.x k.x && (eqb c.y k.y && eqb c.z k.z))
    (ne_eqb c.depth k.depth (λ e. absurd (omega arith))))

pub finds : (n : ℕ) (c : Cell) (front rest : List Cell) → Tile n c front → walk n c (front ++ rest) ≡ Some rest
unfolding walk Tile
finds zero c front rest tile = ap (λ (xs : List Cell). walk zero c (xs ++ rest)) tile
    ∙ ap (λ b. cond b (Some rest) None) (same_itself c)
finds (suc n) c front rest tile =
    elim tile [
      | inl alone ↦ ap (λ (xs : List Cell). walk (suc n) c (xs ++ rest)) alone
          ∙ ap (λ b. cond b (Some rest) (walk_each (walk n) (octants c) (c ∷ rest))) (same_itself c)
      | inr parts ↦
          let first : StartsAt (c.depth + 1)
          (front ++ rest) = starts_append (c.depth + 1) front rest (subst (StartsAt (c.depth + 1))
          (sym parts.4) (starts_append (c.depth + 1) parts.0 parts.1
          (starts n (octant c 0 0 0) parts.0 parts.2))) in
          let part : (x y z : ℕ) (ks left : List Cell) → Tile n (octant c x y z) ks
          → walk n (octant c x y z) (ks ++ left)
          ≡ Some left = λ x y z ks left. finds n (octant c x y z) ks left in
          deeper n c (front ++ rest) first
          ∙ finds_each (Tile n) (walk n) (octants c) (
            part 0 0 0,
            (
              part 1 0 0,
              (
                part 0 1 0,
                (part 1 1 0, (part 0 0 1, (part 1 0 1, (part 0 1 1, (part 1 1 1, tt))))),
              ),
            ),
          ) front rest parts
    ]
