-- In a list of edges that does not fall, the first that equals the next is the least that is there twice.
use Rattle.std.proofs.Common.{◌≡◌, ℕ, zero, suc, ◌+◌, ◌<◌, ◌≤◌, Bool, true, false, cond, List, [], ◌∷◌, length, get_or, drop, Option, Some, None, sym, ap, ◌∙◌, refl, subst, arith}
use Rattle.std.proofs.lemmas.Bool.{false≢true, both_ways}
use Rattle.std.proofs.lemmas.List.{get_or_default}
use Rattle.std.specs.Option.{IfSome, IfNone}
use Rattle.std.specs.List.Sorted.{IsSorted, IsPermutation}
use Rattle.std.specs.declared.cmp.Ordering.{Ordering}
use Rattle.std.specs.declared.cmp.Ordering.TheVariants.{Less, Equal, Greater}
use Rattle.std.specs.Ordering.{is_gt, is_le, ordering_reverse}
use Rattle.mesh_data.specs.declared.geometry.Edge.{Edge}
use Rattle.mesh_data.specs.declared.geometry.Tri.{Tri}
use Rattle.mesh_data.specs.Triangles.{edge_cmp, same_edge, directed_edges}
use Rattle.mesh_data.specs.Manifold.{IsLeastTwice, IsEachEdgeOnce, times}
use Rattle.triangle_lists.specs.Audit.{first_pair}
use Rattle.triangle_lists.proofs.Orders.{edge_cmp_total, edge_cmp-IsAntisymmetric}
use Rattle.triangle_lists.proofs.Sorting.{Rises, IsLeast, Rises-from_sorted}
use Rattle.triangle_lists.proofs.EdgeSets.{same_edges}
use Rattle.triangle_lists.proofs.Walks.{same_itself}
use Rattle.triangle_lists.proofs.Counts.{often, one_if, often-IsPermutation}

le_from_gt : (r : Ordering) → is_gt r ≡ false → is_le r ≡ true
le_from_gt Less h = refl
le_from_gt Equal h = refl
le_from_gt Greater h = absurd (false≢true (sym h))

equal_from : (r s : Ordering) → r ≡ ordering_reverse s → is_gt r ≡ false → is_gt s ≡ false → r ≡ Equal
equal_from Equal s h a b = refl
equal_from Greater s h a b = absurd (false≢true (sym a))
equal_from Less Less h a b = absurd (cc)
equal_from Less Equal h a b = absurd (cc)
equal_from Less Greater h a b = absurd (false≢true (sym b))

-- two edges of which neither is above the other are equal
level : (d e : Edge) → is_gt (edge_cmp d e) ≡ false → is_gt (edge_cmp e d) ≡ false → d ≡ e
level d e a b = edge_cmp-IsAntisymmetric d e (equal_from (edge_cmp d e) (edge_cmp e d) (edge_cmp_total.antisymm d e) a b)

one_of : (b : Bool) → (b ≡ true → ⊥) → one_if b ≡ 0
one_of true h = absurd (h refl)
one_of false h = refl

-- d is above none of the later edges, and the next is not it
absent_later : (d e : Edge) (es : List Edge) → IsLeast edge_cmp_total d es → IsLeast edge_cmp_total e es → is_gt (edge_cmp d e) ≡ false → same_edge d e ≡ false → often (same_edge d) es ≡ 0
absent_later d e [] low high up apart = refl
absent_later d e (k ∷ es) low high up apart =
    let differ : same_edge d k ≡ true → ⊥ = λ is. let same : d ≡ k = same_edges d k is in let down : is_gt (edge_cmp e d) ≡ false = subst (λ (x : Edge). is_gt (edge_cmp e x) ≡ false) (sym same) high.0 in let tied : d ≡ e = level d e up down in both_ways (same_edge d e) apart (ap (same_edge d) (sym tied) ∙ same_itself d) in
    omega (arith, one_of (same_edge d k) differ, absent_later d e es low.1 high.1 up apart)

absent : (d e : Edge) (es : List Edge) → Rises edge_cmp_total (d ∷ e ∷ es) → same_edge d e ≡ false → often (same_edge d) (e ∷ es) ≡ 0
absent d e es up apart =
    omega (arith, ap one_if apart, absent_later d e es up.0.1 up.1.0 up.0.0 apart)

none_twice : (es : List Edge) → Rises edge_cmp_total es → first_pair es ≡ None → (q : Edge) → often (same_edge q) es ≤ 1
none_twice [] up none q = omega arith
none_twice (d ∷ []) up none q =
    elim (same_edge q d) as (λ b. one_if b + 0 ≤ 1) [ true ↦ omega arith | false ↦ omega arith ]
none_twice (d ∷ e ∷ es) up none q =
    elim (same_edge d e) as (λ b. same_edge d e ≡ b → cond b (Some d) (first_pair (e ∷ es)) ≡ None → often (same_edge q) (d ∷ e ∷ es) ≤ 1) [
      | true ↦ λ _ is. absurd (cc)
      | false ↦ λ apart is.
          let rest : often (same_edge q) (e ∷ es) ≤ 1 = none_twice (e ∷ es) up.1 is q in
          elim (same_edge q d) as (λ b. same_edge q d ≡ b → one_if b + often (same_edge q) (e ∷ es) ≤ 1) [
            | true ↦ λ it. let none' : often (same_edge q) (e ∷ es) ≡ 0 = subst (λ (x : Edge). often (same_edge x) (e ∷ es) ≡ 0) (sym (same_edges q d it)) (absent d e es up apart) in omega arith
            | false ↦ λ _. omega arith
          ] refl
    ] refl none

-- d is above no edge that is among these
least_of : (d : Edge) (es : List Edge) (q : Edge) → IsLeast edge_cmp_total d es → 1 ≤ often (same_edge q) es → is_gt (edge_cmp d q) ≡ false
least_of d [] q low some = absurd (omega arith)
least_of d (k ∷ es) q low some =
    elim (same_edge q k) as (λ b. same_edge q k ≡ b → 1 ≤ one_if b + often (same_edge q) es → is_gt (edge_cmp d q) ≡ false) [
      | true ↦ λ it _. subst (λ (x : Edge). is_gt (edge_cmp d x) ≡ false) (sym (same_edges q k it)) low.0
      | false ↦ λ _ more. least_of d es q low.1 (omega arith)
    ] refl some

record LeastTwiceIn (es : List Edge) (p : Edge) : Type 0 where
  twice : 2 ≤ often (same_edge p) es
  least : (q : Edge) → 2 ≤ often (same_edge q) es → is_le (edge_cmp p q) ≡ true

pair_here : (d e : Edge) (es : List Edge) → Rises edge_cmp_total (d ∷ e ∷ es) → same_edge d e ≡ true → LeastTwiceIn (d ∷ e ∷ es) d
pair_here d e es up same =
    let not_above_itself : is_gt (edge_cmp d d) ≡ false = subst (λ (x : Edge). is_gt (edge_cmp d x) ≡ false) (sym (same_edges d e same)) up.0.0 in
    record {
      twice = omega (arith, ap one_if same, ap one_if (same_itself d));
      least = λ q many. le_from_gt (edge_cmp d q) (least_of d (d ∷ e ∷ es) q (not_above_itself, up.0) (omega arith));
    }

pair_later : (d e : Edge) (es : List Edge) (p : Edge) → Rises edge_cmp_total (d ∷ e ∷ es) → same_edge d e ≡ false → LeastTwiceIn (e ∷ es) p → LeastTwiceIn (d ∷ e ∷ es) p
pair_later d e es p up apart later =
    record {
      twice = omega (arith, later.twice);
      least = λ q many.
          elim (same_edge q d) as (λ b. same_edge q d ≡ b → 2 ≤ one_if b + often (same_edge q) (e ∷ es) → is_le (edge_cmp p q) ≡ true) [
            | true ↦ λ it two. let none' : often (same_edge q) (e ∷ es) ≡ 0 = subst (λ (x : Edge). often (same_edge x) (e ∷ es) ≡ 0) (sym (same_edges q d it)) (absent d e es up apart) in absurd (omega arith)
            | false ↦ λ _ two. later.least q (omega arith)
          ] refl many;
    }

first_is_least : (es : List Edge) (p : Edge) → Rises edge_cmp_total es → first_pair es ≡ Some p → LeastTwiceIn es p
first_is_least [] p up found = absurd (cc)
first_is_least (d ∷ []) p up found = absurd (cc)
first_is_least (d ∷ e ∷ es) p up found =
    elim (same_edge d e) as (λ b. same_edge d e ≡ b → cond b (Some d) (first_pair (e ∷ es)) ≡ Some p → LeastTwiceIn (d ∷ e ∷ es) p) [
      | true ↦ λ it is. let same : d ≡ p = cc in subst (LeastTwiceIn (d ∷ e ∷ es)) same (pair_here d e es up it)
      | false ↦ λ apart is. pair_later d e es p up apart (first_is_least (e ∷ es) p up.1 is)
    ] refl found

-- what the first pair of the sorted edges tells of the triangles
pub least_twice_of : (ts : List Tri) (sorted : List Edge) (o : Option Edge) → IsPermutation (directed_edges ts) sorted → IsSorted edge_cmp sorted → o ≡ first_pair sorted → IfSome o (IsLeastTwice ts)
least_twice_of ts sorted None moved up is = tt
least_twice_of ts sorted (Some p) moved up is =
    let it = first_is_least sorted p (Rises-from_sorted edge_cmp_total sorted up) (sym is) in
    let count : (q : Edge) → times ts q ≡ often (same_edge q) sorted = λ q. often-IsPermutation (same_edge q) (directed_edges ts) sorted moved in
    record { twice = omega (arith, count p, it.twice); least = λ q many. it.least q (omega (arith, count q, many)) }

pub each_once_of : (ts : List Tri) (sorted : List Edge) (o : Option Edge) → IsPermutation (directed_edges ts) sorted → IsSorted edge_cmp sorted → o ≡ first_pair sorted → IfNone o (IsEachEdgeOnce ts)
each_once_of ts sorted (Some p) moved up is = tt
each_once_of ts sorted None moved up is =
    λ q. omega (arith, often-IsPermutation (same_edge q) (directed_edges ts) sorted moved, none_twice sorted (Rises-from_sorted edge_cmp_total sorted up) (sym is) q)

-- ---- the loop that looks for it

first_pair_at : (es : List Edge) (j : ℕ) (d : Edge) → suc j < length es → first_pair (drop j es) ≡ cond (same_edge (get_or es j d) (get_or es (suc j) d)) (Some (get_or es j d)) (first_pair (drop (suc j) es))
first_pair_at [] j d lt = absurd (omega arith)
first_pair_at (e ∷ []) j d lt = absurd (omega arith)
first_pair_at (e ∷ f ∷ es) zero d lt = refl
first_pair_at (e ∷ f ∷ es) (suc j) d lt = first_pair_at (f ∷ es) j d (omega arith)

no_pair_left : (es : List Edge) (j : ℕ) → length es ≤ suc j → first_pair (drop j es) ≡ None
no_pair_left [] zero few = refl
no_pair_left [] (suc j) few = refl
no_pair_left (e ∷ []) zero few = refl
no_pair_left (e ∷ f ∷ es) zero few = absurd (omega arith)
no_pair_left (e ∷ es) (suc j) few = no_pair_left es j (omega arith)

pub pair_not_here : (es : List Edge) (i j k : ℕ) (x y : Edge) (all : Option Edge) → suc j ≡ i → suc k ≡ i + 1 → i < length es → x ≡ get_or es j x → y ≡ get_or es i y → same_edge x y ≡ false → first_pair (drop j es) ≡ all → first_pair (drop k es) ≡ all
pair_not_here es i j k x y all next same lt at_x at_y apart so_far =
    let two : get_or es (suc j) x ≡ y = ap (λ (n : ℕ). get_or es n x) next ∙ get_or_default es i x y lt ∙ sym at_y in
    let here : suc j ≡ k = omega arith in
    let test : same_edge (get_or es j x) (get_or es (suc j) x) ≡ false = (λ n. same_edge (sym at_x n) (two n)) ∙ apart in
    ap (λ (n : ℕ). first_pair (drop n es)) (sym here) ∙ sym (first_pair_at es j x (omega arith) ∙ ap (λ (b : Bool). cond b (Some (get_or es j x)) (first_pair (drop (suc j) es))) test) ∙ so_far

pub pair_here_at : (es : List Edge) (i j : ℕ) (x y : Edge) (all : Option Edge) → suc j ≡ i → i < length es → x ≡ get_or es j x → y ≡ get_or es i y → same_edge x y ≡ true → first_pair (drop j es) ≡ all → Some y ≡ all
pair_here_at es i j x y all next lt at_x at_y same so_far =
    let two : get_or es (suc j) x ≡ y = ap (λ (n : ℕ). get_or es n x) next ∙ get_or_default es i x y lt ∙ sym at_y in
    let test : same_edge (get_or es j x) (get_or es (suc j) x) ≡ true = (λ n. same_edge (sym at_x n) (two n)) ∙ same in
    ap (λ (e : Edge). Some e) (sym (same_edges x y same)) ∙ ap (λ (e : Edge). Some e) at_x ∙ sym (first_pair_at es j x (omega arith) ∙ ap (λ (b : Bool). cond b (Some (get_or es j x)) (first_pair (drop (suc j) es))) test) ∙ so_far

pub pair_nowhere : (es : List Edge) (j : ℕ) (all : Option Edge) → length es ≤ suc j → first_pair (drop j es) ≡ all → None ≡ all
pair_nowhere es j all few so_far = sym (no_pair_left es j few) ∙ so_far

pub pair_read : (es : List Edge) (i j : ℕ) (x y z : Edge) (all : Option Edge) → suc j ≡ i → i < length es → x ≡ get_or es j x → y ≡ get_or es i y → z ≡ get_or es i z → same_edge x y ≡ true → first_pair (drop j es) ≡ all → Some z ≡ all
pair_read es i j x y z all next lt at_x at_y at_z same so_far =
    ap (λ (e : Edge). Some e) (at_z ∙ get_or_default es i z y lt ∙ sym at_y) ∙ pair_here_at es i j x y all next lt at_x at_y same so_far

pub pair_start : (es : List Edge) (j : ℕ) → suc j ≡ 1 → first_pair (drop j es) ≡ first_pair es
pair_start es zero is = refl
pair_start es (suc j) is = absurd (omega arith)
