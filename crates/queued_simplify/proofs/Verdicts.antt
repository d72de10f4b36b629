-- What is so where a collapse is done, whatever it costs.
use Rattle.std.proofs.Common.{◌≡◌, ℕ, ℤ, int_le, not, ◌&&◌, Bool, true, false, cond, find, List, [], ◌∷◌, ◌++◌, Option, Some, None, refl, sym, ap, ◌∙◌, arith}
use Rattle.std.proofs.lemmas.Bool.{false≢true, and_parts}
use Rattle.std.specs.List.{list_all}
use Rattle.std.specs.Option.{option_map_or, is_some}
use Rattle.oemm_octree.specs.declared.points.Point.{Point}
use Rattle.mesh_data.specs.declared.edits.Reply.{Reply}
use Rattle.mesh_data.specs.declared.edits.Reply.TheVariants.{Link, Folds, Dear, DoneAt}
use Rattle.mesh_data.specs.Edits.{collapse_verdict, collapse_verdict_by, cost, folds_with, if_any, is_done, pair_lines}
use Rattle.mesh_data.specs.Links.{link_violation}
use Rattle.mesh_data.specs.Mesh.{Mesh}
use Rattle.edit_steps.specs.Lines.{refusal}
use Rattle.edit_steps.proofs.Lines.{first_line-append, link_lines, or_else}

-- ---- the lines before the price
abbrev free_lines : (Point → Bool) → Mesh → ℕ → ℕ → List (Bool × Reply)
free_lines inside m u v = pair_lines inside m u v ++
    (link_lines m u v ++ (if_any Folds (find (folds_with m u v) m.tris) ∷ []))

-- the answer behind them
abbrev by_price : ℤ → ℤ → Reply
by_price price most = cond (not (int_le price most)) (Dear price) (DoneAt price)

lines_then : (inside : Point → Bool) (m : Mesh) (u v : ℕ) (price most : ℤ)
    → collapse_verdict_by price inside m u v most ≡ or_else (refusal (free_lines inside m u v)) (by_price price most)
lines_then inside m u v price most =
    first_line-append (free_lines inside m u v) ((not (int_le price most), Dear price) ∷ []) (DoneAt price)

-- no reply of these lines is that the edit is done
abbrev refuse : List (Bool × Reply) → Bool
refuse ls = list_all (λ l. not (is_done l.1 && l.0)) ls

refused : (ls : List (Bool × Reply)) (r : Reply) → refuse ls ≡ true → refusal ls ≡ Some r → is_done r ≡ false
refused [] r h is = absurd (false≢true (ap is_some is))
refused (l ∷ ls) r h found =
    let parts = and_parts (not (is_done l.1 && l.0)) (refuse ls) h in
    elim l.0 as (λ b. not (is_done l.1 && b) ≡ true → cond b (Some l.1) (refusal ls) ≡ Some r → is_done r ≡ false) [
      | true ↦ λ non is. ap is_done (sym (ap (λ o. option_map_or (λ x. x) o l.1) is)) ∙ undone (is_done l.1) non
      | false ↦ λ _ is. refused ls r parts.1 is
    ] parts.0 found
  where
    undone : (b : Bool) → not (b && true) ≡ true → b ≡ false
    undone true non = absurd (false≢true non)
    undone false non = refl

some_refuses : {A : Type 0} (reply : A → Reply) (o : Option A) → ((x : A) → is_done (reply x) ≡ false)
    → not (is_done (if_any reply o).1 && (if_any reply o).0) ≡ true
some_refuses reply None h = refl
some_refuses reply (Some x) h = ap (λ (b : Bool). not (b && true)) (h x)

all_refuse : (inside : Point → Bool) (m : Mesh) (u v : ℕ) → refuse (free_lines inside m u v) ≡ true
all_refuse inside m u v =
    let link = some_refuses Link (link_violation m.tris u v) (λ w. refl) in
    let folds = some_refuses Folds (find (folds_with m u v) m.tris) (λ t. refl) in
    λ i. link i && (folds i && true)

-- ---- what a collapse that is done says of its price
told : Reply → ℤ → ℤ
told (DoneAt k) d = k
told _ d = d

-- the price, and that it may be paid
record Paid (price most k : ℤ) : Type 0 where
  at : k ≡ price
  cheap : int_le price most ≡ true

paid : (price most k : ℤ) → by_price price most ≡ DoneAt k → Paid price most k
unfolding told
paid price most k is =
    elim (int_le price most) as (λ b. int_le price most ≡ b → cond (not b) (Dear price) (DoneAt price) ≡ DoneAt k
    → Paid price most k) [
      | true ↦ λ e here. record { at = ap (λ r. told r k) (sym here); cheap = e }
      | false ↦ λ _ here. absurd (false≢true (ap is_done here))
    ] refl is

none_refused : (inside : Point → Bool) (m : Mesh) (u v : ℕ) (price most k : ℤ)
    → collapse_verdict_by price inside m u v most ≡ DoneAt k → refusal (free_lines inside m u v) ≡ None
none_refused inside m u v price most k done =
    at (refusal (free_lines inside m u v)) refl (sym (lines_then inside m u v price most) ∙ done)
  where
    at : (o : Option Reply) → refusal (free_lines inside m u v) ≡ o → or_else o (by_price price most) ≡ DoneAt k
        → refusal (free_lines inside m u v) ≡ None
    at None e is = e
    at (Some r) e is = absurd (false≢true (sym (refused (free_lines inside m u v) r (all_refuse inside m u v) e)
        ∙ ap is_done is))

-- where no line before the price refuses, the price answers
priced_then : (inside : Point → Bool) (m : Mesh) (u v : ℕ) (price most : ℤ) → refusal (free_lines inside m u v) ≡ None
    → collapse_verdict_by price inside m u v most ≡ by_price price most
priced_then inside m u v price most none = lines_then inside m u v price most
    ∙ ap (λ o. or_else o (by_price price most)) none

pub int_le-itself : (a : ℤ) → int_le a a ≡ true
int_le-itself a = grind arith

-- a collapse that is done is so at its price, which may be paid
pub done_at : (inside : Point → Bool) (m : Mesh) (u v : ℕ) (price most k : ℤ)
    → collapse_verdict_by price inside m u v most ≡ DoneAt k → (k ≡ price) × (int_le price most ≡ true)
done_at inside m u v price most k done =
    let none = none_refused inside m u v price most k done in
    let p = paid price most k (sym (priced_then inside m u v price most none) ∙ done) in
    (p.at, p.cheap)

-- a collapse that is done at one price is so at each that may be paid
pub done_by : (inside : Point → Bool) (m : Mesh) (u v : ℕ) (price most k other bound : ℤ)
    → collapse_verdict_by price inside m u v most ≡ DoneAt k → int_le other bound ≡ true
    → collapse_verdict_by other inside m u v bound ≡ DoneAt other
done_by inside m u v price most k other bound done cheap =
    priced_then inside m u v other bound (none_refused inside m u v price most k done)
    ∙ ap (λ (b : Bool). cond (not b) (Dear other) (DoneAt other)) cheap

-- and so by the planes of the mesh, at what it costs by these
pub done_by_planes : (inside : Point → Bool) (m : Mesh) (u v : ℕ) (price most k : ℤ)
    → collapse_verdict_by price inside m u v most ≡ DoneAt k
    → collapse_verdict inside m u v (cost m u v) ≡ DoneAt (cost m u v)
done_by_planes inside m u v price most k done =
    done_by inside m u v price most k (cost m u v) (cost m u v) done (int_le-itself (cost m u v))
