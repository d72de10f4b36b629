-- Steps of a walk along cells that tile.
use Rattle.std.proofs.Common.{◌≡◌, ℕ, zero, suc, ◌+◌, ◌-◌, ◌*◌, ◌/◌, ◌%◌, ◌^◌, ◌<◌, ◌≤◌, Bool, true, false, cond, eqb, List, [], ◌∷◌, ◌++◌, length, get_or, drop, drop-cons, add-one, Option, Some, None, sym, ap, ◌∙◌, refl, subst, arith, append-nil}
use Rattle.std.proofs.Math.Nat.{pow-suc}
use Rattle.std.proofs.lemmas.Bool.{eqb-true, eq-eqb, false≢true}
use Rattle.std.proofs.lemmas.List.{drop_all, nil_from_length}
use Rattle.std.proofs.lemmas.Option.{slice_get-get_or}
use Rattle.std.specs.List.{slice_get}
use Rattle.oemm_octree.specs.declared.cells.Cell.{Cell}
use Rattle.oemm_octree.specs.Octree.{root_cell}
use Rattle.oemm_octree.specs.Leaves.{AreTiles, octant, octants}
use Rattle.oemm_octree.specs.Walks.{same_cell, walk_each, walk}
use Rattle.oemm_octree.proofs.Walks.{found, finds, no_rest, some_rest}

pub octant_at : (c : Cell) (i : ℕ) → i < 8 → slice_get (octants c) i ≡ Some (octant c (i % 2) (i / 2 % 2) (i / 4))
octant_at c zero lt = refl
octant_at c (suc zero) lt = refl
octant_at c (suc (suc zero)) lt = refl
octant_at c (suc (suc (suc zero))) lt = refl
octant_at c (suc (suc (suc (suc zero)))) lt = refl
octant_at c (suc (suc (suc (suc (suc zero))))) lt = refl
octant_at c (suc (suc (suc (suc (suc (suc zero)))))) lt = refl
octant_at c (suc (suc (suc (suc (suc (suc (suc zero))))))) lt = refl
octant_at c (suc (suc (suc (suc (suc (suc (suc (suc i)))))))) lt = absurd (omega arith)

pub octant_number : (c : Cell) (i x y z : ℕ) → i < 8 → x ≡ 2 * c.x + i % 2 → y ≡ 2 * c.y + i / 2 % 2
    → z ≡ 2 * c.z + i / 4
    → slice_get (octants c) i ≡ Some (record { depth = c.depth + 1; x = x; y = y; z = z })
octant_number c i x y z lt ex ey ez = octant_at c i lt
    ∙ (λ j. Some (record { depth = c.depth + 1; x = sym ex j; y = sym ey j; z = sym ez j }))

pub half_below : (d n u : ℕ) → n < 2 ^ d → u < 2 → 2 * n + u < 2 ^ (d + 1)
half_below d n u lt few = let power = ap (λ (k : ℕ). 2 ^ k) (add-one d) ∙ pow-suc 2 d in omega arith

-- ---- the walk

pub walk_none : (n : ℕ) (c : Cell) (cells : List Cell) → length cells ≡ 0 → walk n c cells ≡ None
unfolding walk
walk_none zero c [] none = refl
walk_none (suc n) c [] none = refl
walk_none n c (k ∷ cells) none = absurd (omega arith)

pub walk_same : (n : ℕ) (c k : Cell) (cells rest : List Cell) → cells ≡ k ∷ rest → true ≡ same_cell c k
    → walk n c cells ≡ Some rest
unfolding walk
walk_same zero c k cells rest are same = ap (walk zero c) are ∙ ap (λ b. cond b (Some rest) None) (sym same)
walk_same (suc n) c k cells rest are same = ap (walk (suc n) c) are
    ∙ ap (λ b. cond b (Some rest) (walk_each (walk n) (octants c) (k ∷ rest))) (sym same)

pub walk_ends : (n : ℕ) (c k : Cell) (cells rest : List Cell) → cells ≡ k ∷ rest → false ≡ same_cell c k → n ≡ 0
    → walk n c cells ≡ None
unfolding walk
walk_ends n c k cells rest are apart last = (λ i. walk (last i) c (are i))
    ∙ ap (λ b. cond b (Some rest) None) (sym apart)

pub walk_down : (n : ℕ) (c k : Cell) (cells rest : List Cell) → cells ≡ k ∷ rest → false ≡ same_cell c k
    → (n ≡ 0 → ⊥) → walk n c cells ≡ walk_each (walk (n - 1)) (octants c) cells
unfolding walk
walk_down zero c k cells rest are apart some = absurd (some refl)
walk_down (suc n) c k cells rest are apart some =
    ap (walk (suc n) c) are ∙ ap (λ b. cond b (Some rest) (walk_each (walk n) (octants c) (k ∷ rest))) (sym apart)
    ∙ ap (λ (xs : List Cell). walk_each (walk n) (octants c) xs) (sym are)
    ∙ ap (λ (m : ℕ). walk_each (walk m) (octants c) cells) (omega arith)

abbrev on : Option (List Cell) → (List Cell → Option (List Cell)) → Option (List Cell)
on o f = elim o [ None ↦ None | Some rest ↦ f rest ]

each_step : (f : Cell → List Cell → Option (List Cell)) (cs : List Cell) (i : ℕ) (o : Cell) (cells : List Cell)
    → i < length cs → slice_get cs i ≡ Some o
    → walk_each f (drop i cs) cells ≡ on (f o cells) (walk_each f (drop (i + 1) cs))
each_step f cs i o cells lt at =
    let here : get_or cs i o ≡ o = cc (slice_get-get_or cs i o lt, at) in
    ap (λ (ks : List Cell). walk_each f ks cells) (drop-cons cs i o lt)
    ∙ (λ j. on (f (here j) cells) (walk_each f (drop (sym (add-one i) j) cs)))

pub each_next : (f : Cell → List Cell → Option (List Cell)) (cs : List Cell) (i : ℕ) (o : Cell)
    (cells rest : List Cell) → i < length cs → slice_get cs i ≡ Some o → f o cells ≡ Some rest
    → walk_each f (drop (i + 1) cs) rest ≡ walk_each f (drop i cs) cells
each_next f cs i o cells rest lt at left = sym (each_step f cs i o cells lt at
    ∙ ap (λ (r : Option (List Cell)). on r (walk_each f (drop (i + 1) cs))) left)

pub each_stops : (f : Cell → List Cell → Option (List Cell)) (cs : List Cell) (i : ℕ) (o : Cell)
    (cells : List Cell) → i < length cs → slice_get cs i ≡ Some o → f o cells ≡ None
    → walk_each f (drop i cs) cells ≡ None
each_stops f cs i o cells lt at none = each_step f cs i o cells lt at
    ∙ ap (λ (r : Option (List Cell)). on r (walk_each f (drop (i + 1) cs))) none

-- ---- the cube

pub tiles_found : (cells rest : List Cell) → walk 6 root_cell cells ≡ Some rest → rest ≡ [] → AreTiles cells
tiles_found cells rest left none =
    let all = found 6 root_cell cells rest left in
    subst AreTiles (sym (all.2 ∙ ap (λ (xs : List Cell). all.0 ++ xs) none ∙ append-nil all.0)) all.1

pub tiles_walked : (cells : List Cell) → AreTiles cells → walk 6 root_cell cells ≡ Some []
tiles_walked cells tiles = ap (walk 6 root_cell) (sym (append-nil cells)) ∙ finds 6 root_cell cells [] tiles

pub each_end : (f : Cell → List Cell → Option (List Cell)) (cs : List Cell) (i : ℕ) (cells : List Cell)
    → length cs ≤ i → walk_each f (drop i cs) cells ≡ Some cells
each_end f cs i cells le = ap (λ (ks : List Cell). walk_each f ks cells) (drop_all i cs le)

pub tiles_tested : (b : Bool) (c : Cell) (given cells rest : List Cell) → b ≡ eqb (length rest) 0
    → walk 6 c given ≡ Some rest → c ≡ root_cell → given ≡ cells
    → (b ≡ true → AreTiles cells) × (AreTiles cells → b ≡ true)
tiles_tested b c given cells rest is walked whole same =
    let left : walk 6 root_cell cells ≡ Some rest = sym (λ i. walk 6 (whole i) (same i)) ∙ walked in (
      λ told. tiles_found cells rest left (nil_from_length rest (eqb-true (length rest) 0 (sym is ∙ told))),
      λ tiles. is ∙ eq-eqb (length rest) 0 (ap (λ (xs : List Cell). length xs)
          (some_rest rest [] (sym left ∙ tiles_walked cells tiles))),
    )

pub tiles_refused : (c : Cell) (given cells : List Cell) → walk 6 c given ≡ None → c ≡ root_cell → given ≡ cells
    → (false ≡ true → AreTiles cells) × (AreTiles cells → false ≡ true)
tiles_refused c given cells walked whole same = (
  λ absurdly. absurd (false≢true absurdly),
  λ tiles. absurd (no_rest [] (sym walked ∙ (λ i. walk 6 (whole i) (same i)) ∙ tiles_walked cells tiles)),
)
