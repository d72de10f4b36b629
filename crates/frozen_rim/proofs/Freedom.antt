-- A held name is free where no triangle that has it has a corner which isn't held.
use Rattle.std.proofs.Common.{◌≡◌, ℕ, Bool, true, false, cond, not, ◌&&◌, ◌||◌, eqb, List, [], ◌∷◌, get_or, Result, Ok, Err, is_ok, sym, ap, ◌∙◌, refl, subst, arith, inl, inr}
use Rattle.std.proofs.lemmas.Bool.{eqb-true, eq-eqb, ne_eqb, cases_lt}
use Rattle.std.proofs.lemmas.List.{get_or_default}
use Rattle.std.proofs.lemmas.List.Folds.{list_any_at, list_any_none, list_any-append}
use Rattle.std.proofs.lemmas.List.Kept.{IsStrictlyIncreasing-filter}
use Rattle.std.proofs.lemmas.List.Sorted.{searched}
use Rattle.std.proofs.lemmas.Map.Keys.{non_decreasing_from_sorted, sorted_from_strictly_increasing}
use Rattle.std.proofs.lemmas.Map.Views.{any-filter_same}
use Rattle.std.specs.List.{list_any, list_all, filter, flat_map}
use Rattle.std.specs.List.Sorted.{IsNonDecreasing, IsStrictlyIncreasing, IsBinarySearchResult}
use Rattle.std.specs.Ordering.{nat_cmp}
use Rattle.mesh_data.specs.declared.geometry.Tri.{Tri}
use Rattle.mesh_data.specs.Triangles.{corners, has_corner, star, neighbours}
use Rattle.oemm_lists.specs.Numbers.{among}
use Rattle.frozen_rim.specs.Free.{is_free, is_mixed}

-- the names of these triangles
three_names : (v : ℕ) (t : Tri) → among v (corners t) ≡ has_corner v t
three_names v t = by (eqb t.a v) (eqb t.b v) (eqb t.c v)
  where
    by : (a b c : Bool) → (a || (b || (c || false))) ≡ ((a || b) || c)
    by true b c = refl
    by false true c = refl
    by false false true = refl
    by false false false = refl

corner_names : (v : ℕ) (ts : List Tri) → among v (flat_map corners ts) ≡ list_any (has_corner v) ts
corner_names v [] = refl
corner_names v (t ∷ ts) = list_any-append (λ n. eqb n v) (corners t) (flat_map corners ts) ∙ (λ i. three_names v t i || corner_names v ts i)

-- a name that passes, among others
others_all : (h : ℕ → Bool) (v x : ℕ) (xs : List ℕ) → h v ≡ true → list_all h (filter (λ w. not (eqb w v)) (x ∷ xs)) ≡ (h x && list_all h (filter (λ w. not (eqb w v)) xs))
others_all h v x xs on =
    let rest = filter (λ w. not (eqb w v)) xs in
    elim (eqb x v) as (λ b. eqb x v ≡ b → list_all h (cond (not b) (x ∷ rest) rest) ≡ (h x && list_all h rest)) [
      | true ↦ λ same. ap (λ b. b && list_all h rest) (sym (ap h (eqb-true x v same) ∙ on))
      | false ↦ λ _. refl
    ] refl

-- the neighbours of a held name are held where it is no corner of a mixed triangle
free_by : (held : List ℕ) (v : ℕ) (ts : List Tri) → among v held ≡ true → list_all (λ w. among w held) (neighbours v ts) ≡ not (list_any (has_corner v) (filter (is_mixed held) ts))
free_by held v [] on = refl
free_by held v (t ∷ ts) on =
    let h : ℕ → Bool = λ w. among w held in
    let others = flat_map corners (star v ts) in
    let mixed = filter (is_mixed held) ts in
    let rest = free_by held v ts on in
    elim (has_corner v t) as (λ b. has_corner v t ≡ b → list_all h (filter (λ w. not (eqb w v)) (flat_map corners (cond b (t ∷ star v ts) (star v ts)))) ≡ not (list_any (has_corner v) (filter (is_mixed held) (t ∷ ts)))) [
      | true ↦ λ at.
          others_all h v t.a (t.b ∷ t.c ∷ others) on
          ∙ (λ i. h t.a && others_all h v t.b (t.c ∷ others) on i)
          ∙ (λ i. h t.a && (h t.b && others_all h v t.c others on i))
          ∙ (λ i. h t.a && (h t.b && (h t.c && rest i)))
          ∙ by (h t.a) (h t.b) (h t.c) at
      | false ↦ λ away. rest ∙ elim (is_mixed held t) as (λ b. not (list_any (has_corner v) mixed) ≡ not (list_any (has_corner v) (cond b (t ∷ mixed) mixed))) [
        | true ↦ ap (λ b. not (b || list_any (has_corner v) mixed)) (sym away)
        | false ↦ refl
      ]
    ] refl
  where
    by : (a b c : Bool) → has_corner v t ≡ true → (a && (b && (c && not (list_any (has_corner v) (filter (is_mixed held) ts)))))
        ≡ not (list_any (has_corner v) (cond (not (a && (b && (c && true)))) (t ∷ filter (is_mixed held) ts) (filter (is_mixed held) ts)))
    by true true true at = refl
    by true true false at = ap (λ x. not (x || list_any (has_corner v) (filter (is_mixed held) ts))) (sym at)
    by true false c at = ap (λ x. not (x || list_any (has_corner v) (filter (is_mixed held) ts))) (sym at)
    by false b c at = ap (λ x. not (x || list_any (has_corner v) (filter (is_mixed held) ts))) (sym at)

-- the held names without the corners of mixed triangles are the free ones
pub free_names : (ts : List Tri) (held frozen kept : List ℕ) (v : ℕ)
    → ((w : ℕ) → among w frozen ≡ among w (flat_map corners (filter (is_mixed held) ts)))
    → kept ≡ filter (λ w. not (among w frozen)) held → among v kept ≡ is_free ts held v
free_names ts held frozen kept v members is =
    ap (among v) is
    ∙ any-filter_same (λ w. eqb w v) (λ w. not (among w frozen)) (not (among v frozen)) (λ k e. ap (λ (w : ℕ). not (among w frozen)) (eqb-true k v e)) held
    ∙ ap (λ (b : Bool). not b && among v held) (members v ∙ corner_names v (filter (is_mixed held) ts))
    ∙ by (among v held) refl
  where
    by : (b : Bool) → among v held ≡ b → (not (list_any (has_corner v) (filter (is_mixed held) ts)) && b) ≡ (b && list_all (λ w. among w held) (neighbours v ts))
    by true on = and_true (not (list_any (has_corner v) (filter (is_mixed held) ts))) ∙ sym (free_by held v ts on)
      where
        and_true : (b : Bool) → (b && true) ≡ b
        and_true true = refl
        and_true false = refl
    by false off = and_false (not (list_any (has_corner v) (filter (is_mixed held) ts)))
      where
        and_false : (b : Bool) → (b && false) ≡ false
        and_false true = refl
        and_false false = refl

-- what is kept of ascending names ascends
pub kept_rise : (held others kept : List ℕ) → IsStrictlyIncreasing held → kept ≡ filter (λ w. not (among w others)) held → IsStrictlyIncreasing kept
kept_rise held others kept up is =
    let p : ℕ → Bool = λ w. not (among w others) in
    subst IsStrictlyIncreasing (sym is) (IsStrictlyIncreasing-filter p held up)
