-- The triangle that a collapse is refused for is the least that folds.
use Rattle.std.proofs.Common.{◌≡◌, ℕ, zero, suc, ◌<◌, ℤ, int_le, Bool, true, false, cond, not, ◌&&◌, find, get_or, length, List, [], ◌∷◌, ◌++◌, Option, Some, None, sym, ap, ◌∙◌, refl, subst, arith}
use Rattle.std.proofs.lemmas.Bool.{and_parts, both_ways, not-true}
use Rattle.std.proofs.lemmas.Cmp.{tied_itself}
use Rattle.std.specs.List.{list_all, Contains}
use Rattle.std.specs.List.Sorted.{IsSorted}
use Rattle.std.specs.Ordering.{is_le}
use Rattle.oemm_octree.specs.declared.points.Point.{Point}
use Rattle.mesh_data.specs.declared.geometry.Tri.{Tri}
use Rattle.mesh_data.specs.declared.edits.Reply.{Reply}
use Rattle.mesh_data.specs.declared.edits.Reply.TheVariants.{Link, Folds, Dear, DoneAt}
use Rattle.mesh_data.specs.Edits.{first_line, if_any, pair_lines, folds_with, cost, collapse_verdict}
use Rattle.mesh_data.specs.Links.{link_violation}
use Rattle.mesh_data.specs.Mesh.{Mesh}
use Rattle.mesh_data.specs.Triangles.{tri_cmp}
use Rattle.triangle_lists.proofs.Orders.{tri_cmp_total}
use Rattle.triangle_lists.proofs.Sorting.{IsLeast, Rises, Rises-from_sorted, le_of}
use Rattle.edit_laws.specs.Folding.{IsLeastFolding}
use Rattle.edit_steps.proofs.Lines.{link_lines, price_lines}

-- ---- what a collapse answers

-- an answer of which none of the first lines could be is that of the others
told_behind : (test : Reply → Bool) (ls ms : List (Bool × Reply)) (last : Reply) → list_all (λ l. not (test l.1)) ls ≡ true → test (first_line (ls ++ ms) last) ≡ true → first_line (ls ++ ms) last ≡ first_line ms last
told_behind test [] ms last none is = refl
told_behind test (l ∷ ls) ms last none is =
    let parts = and_parts (not (test l.1)) (list_all (λ k. not (test k.1)) ls) none in
    elim l.0 as (λ b. test (cond b l.1 (first_line (ls ++ ms) last)) ≡ true → cond b l.1 (first_line (ls ++ ms) last) ≡ first_line ms last) [
      | true ↦ λ h. absurd (both_ways (test l.1) (not-true (test l.1) parts.0) h)
      | false ↦ λ h. told_behind test ls ms last parts.1 h
    ] is

-- an answer by the shape or the cost
abbrev is_price : Reply → Bool
is_price (Folds t) = true
is_price (Dear c) = true
is_price (DoneAt c) = true
is_price _ = false

link_is_no_price : (w : Option ℕ) → not (is_price (if_any Link w).1) ≡ true
link_is_no_price None = refl
link_is_no_price (Some w) = refl

priced : (inside : Point → Bool) (m : Mesh) (u v : ℕ) (most : ℤ) → is_price (collapse_verdict inside m u v most) ≡ true → collapse_verdict inside m u v most ≡ first_line (price_lines m u v most) (DoneAt (cost m u v))
priced inside m u v most is =
    let none = link_is_no_price (link_violation m.tris u v) in
    told_behind is_price (pair_lines inside m u v ++ link_lines m u v) (price_lines m u v most) (DoneAt (cost m u v)) (λ i. none i && true) is

-- the triangle that a reply names as folding
abbrev folding_in : Reply → Option Tri
folding_in (Folds t) = Some t
folding_in _ = None

named_by_price : (t : Option Tri) (dear : Bool) (c : ℤ) → folding_in (first_line (if_any Folds t ∷ (dear, Dear c) ∷ []) (DoneAt c)) ≡ t
named_by_price None true c = refl
named_by_price None false c = refl
named_by_price (Some t) dear c = refl

-- what a collapse names as folding, where it comes to that line, is the first triangle that folds
found_folding : (inside : Point → Bool) (m : Mesh) (u v : ℕ) (most : ℤ) (reply : Reply) → collapse_verdict inside m u v most ≡ reply → is_price reply ≡ true → find (folds_with m u v) m.tris ≡ folding_in reply
found_folding inside m u v most reply is price =
    sym (named_by_price (find (folds_with m u v) m.tris) (not (int_le (cost m u v) most)) (cost m u v))
    ∙ ap folding_in (sym (priced inside m u v most (ap is_price is ∙ price)) ∙ is)

-- ---- the first triangle that passes a test

found_there : (p : Tri → Bool) (ts : List Tri) (t : Tri) → find p ts ≡ Some t → Contains ts t
found_there p [] t is = absurd (cc)
found_there p (x ∷ xs) t is =
    elim (p x) as (λ b. cond b (Some x) (find p xs) ≡ Some t → Contains (x ∷ xs) t) [
      | true ↦ λ here. let same : x ≡ t = cc in (0, omega arith, same)
      | false ↦ λ later. let rest = found_there p xs t later in (suc rest.0, omega (arith, rest.1), rest.2)
    ] is

found_passes : (p : Tri → Bool) (ts : List Tri) (t : Tri) → find p ts ≡ Some t → p t ≡ true
found_passes p [] t is = absurd (cc)
found_passes p (x ∷ xs) t is =
    elim (p x) as (λ b. p x ≡ b → cond b (Some x) (find p xs) ≡ Some t → p t ≡ true) [
      | true ↦ λ passes here. let same : x ≡ t = cc in subst (λ (y : Tri). p y ≡ true) same passes
      | false ↦ λ _ later. found_passes p xs t later
    ] refl is

none_passes : (p : Tri → Bool) (ts : List Tri) (t : Tri) (k : ℕ) → find p ts ≡ None → k < length ts → get_or ts k t ≡ t → p t ≡ false
none_passes p [] t k is lt at = absurd (omega arith)
none_passes p (x ∷ xs) t zero is lt at =
    elim (p x) as (λ b. p x ≡ b → cond b (Some x) (find p xs) ≡ None → p t ≡ false) [
      | true ↦ λ _ here. absurd (cc)
      | false ↦ λ fails _. ap p (sym at) ∙ fails
    ] refl is
none_passes p (x ∷ xs) t (suc k) is lt at =
    elim (p x) as (λ b. cond b (Some x) (find p xs) ≡ None → p t ≡ false) [
      | true ↦ λ here. absurd (cc)
      | false ↦ λ later. none_passes p xs t k later (omega arith) at
    ] is

le_itself : (t : Tri) → is_le (tri_cmp t t) ≡ true
le_itself t = ap is_le (tied_itself tri_cmp_total t)

least_of : (x s : Tri) (xs : List Tri) (k : ℕ) → IsLeast tri_cmp_total x xs → k < length xs → get_or xs k s ≡ s → is_le (tri_cmp x s) ≡ true
least_of x s [] k least lt at = absurd (omega arith)
least_of x s (y ∷ ys) zero least lt at = subst (λ (z : Tri). is_le (tri_cmp x z) ≡ true) at (le_of (tri_cmp x y) least.0)
least_of x s (y ∷ ys) (suc k) least lt at = least_of x s ys k least.1 (omega arith) at

-- of ascending triangles the first that passes is the least
found_least : (p : Tri → Bool) (ts : List Tri) (t s : Tri) (k : ℕ) → Rises tri_cmp_total ts → find p ts ≡ Some t → k < length ts → get_or ts k s ≡ s → p s ≡ true → is_le (tri_cmp t s) ≡ true
found_least p [] t s k rises is lt at passes = absurd (omega arith)
found_least p (x ∷ xs) t s zero rises is lt at passes =
    let here : Some x ≡ Some t = sym (ap (λ (b : Bool). cond b (Some x) (find p xs)) (ap p at ∙ passes)) ∙ is in
    let same : x ≡ t = cc in
    subst (λ (y : Tri). is_le (tri_cmp y s) ≡ true) same (subst (λ (y : Tri). is_le (tri_cmp x y) ≡ true) at (le_itself x))
found_least p (x ∷ xs) t s (suc k) rises is lt at passes =
    elim (p x) as (λ b. cond b (Some x) (find p xs) ≡ Some t → is_le (tri_cmp t s) ≡ true) [
      | true ↦ λ here. let same : x ≡ t = cc in subst (λ (y : Tri). is_le (tri_cmp y s) ≡ true) same (least_of x s xs k rises.0 (omega arith) at)
      | false ↦ λ later. found_least p xs t s k rises.1 later (omega arith) at passes
    ] is

-- ---- together

pub least_folding : (inside : Point → Bool) (m : Mesh) (u v : ℕ) (most : ℤ) (t : Tri) → IsSorted tri_cmp m.tris → collapse_verdict inside m u v most ≡ Folds t → IsLeastFolding m u v t
least_folding inside m u v most t up is =
    let found = found_folding inside m u v most (Folds t) is refl in
    record {
      there = found_there (folds_with m u v) m.tris t found;
      folds = found_passes (folds_with m u v) m.tris t found;
      least = λ s on passes. found_least (folds_with m u v) m.tris t s on.0 (Rises-from_sorted tri_cmp_total m.tris up) found on.1 on.2 passes;
    }

-- where a collapse is done, or is dear, no triangle folds
pub none_folding : (inside : Point → Bool) (m : Mesh) (u v : ℕ) (most c : ℤ) (t : Tri) → collapse_verdict inside m u v most ≡ DoneAt c → Contains m.tris t → folds_with m u v t ≡ false
none_folding inside m u v most c t is on = none_passes (folds_with m u v) m.tris t on.0 (found_folding inside m u v most (DoneAt c) is refl) on.1 on.2

pub none_folding_dear : (inside : Point → Bool) (m : Mesh) (u v : ℕ) (most c : ℤ) (t : Tri) → collapse_verdict inside m u v most ≡ Dear c → Contains m.tris t → folds_with m u v t ≡ false
none_folding_dear inside m u v most c t is on = none_passes (folds_with m u v) m.tris t on.0 (found_folding inside m u v most (Dear c) is refl) on.1 on.2
