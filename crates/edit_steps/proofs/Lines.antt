-- The lines of a verdict, some of them at a time.
use Rattle.std.proofs.Common.{◌≡◌, ℕ, ℤ, int_le, not, ◌&&◌, Bool, true, false, cond, find, List, [], ◌∷◌, ◌++◌, Option, Some, None, refl, ◌∙◌, ap}
use Rattle.std.specs.Option.{option_map_or, is_none}
use Rattle.oemm_octree.specs.declared.points.Point.{Point}
use Rattle.mesh_data.specs.declared.edits.Reply.{Reply}
use Rattle.mesh_data.specs.declared.edits.Reply.TheVariants.{Border, Link, Closed, Folds, Dear, DoneAt}
use Rattle.mesh_data.specs.Edits.{first_line, if_any, edge_line, pair_lines, folds_with, cost, collapse_verdict_by}
use Rattle.mesh_data.specs.Links.{opposites, link_violation, is_closed_by_three}
use Rattle.mesh_data.specs.Mesh.{Mesh}
use Rattle.mesh_data.specs.Rings.{has_closed_ring}
use Rattle.edit_steps.specs.Lines.{refusal}

-- the first lines answer, or the others do
abbrev pub or_else : Option Reply → Reply → Reply
or_else reply last = option_map_or (λ r. r) reply last

pub first_line-append : (ls ms : List (Bool × Reply)) (last : Reply) → first_line (ls ++ ms) last ≡ or_else (refusal ls) (first_line ms last)
first_line-append [] ms last = refl
first_line-append (l ∷ ls) ms last =
    elim l.0 as (λ b. cond b l.1 (first_line (ls ++ ms) last) ≡ or_else (cond b (Some l.1) (refusal ls)) (first_line ms last)) [ true ↦ refl | false ↦ first_line-append ls ms last ]

-- where the first lines answer, that is the answer
pub told_by_first : (ls ms : List (Bool × Reply)) (last reply : Reply) → refusal ls ≡ Some reply → first_line (ls ++ ms) last ≡ reply
told_by_first ls ms last reply is = first_line-append ls ms last ∙ ap (λ o. or_else o (first_line ms last)) is

-- where they don't, the others do
pub told_by_others : (ls ms : List (Bool × Reply)) (last : Reply) → refusal ls ≡ None → first_line (ls ++ ms) last ≡ first_line ms last
told_by_others ls ms last is = first_line-append ls ms last ∙ ap (λ o. or_else o (first_line ms last)) is

-- the lines of a collapse by the rings and the link of its edge
abbrev pub link_lines : Mesh → ℕ → ℕ → List (Bool × Reply)
link_lines m u v =
    (not (has_closed_ring m.tris u), Border)
    ∷ if_any Link (link_violation m.tris u v)
    ∷ (is_closed_by_three m.tris u && is_closed_by_three m.tris v, Closed)
    ∷ []

-- those by its shape and its price
abbrev pub price_lines_by : ℤ → Mesh → ℕ → ℕ → ℤ → List (Bool × Reply)
price_lines_by price m u v most = if_any Folds (find (folds_with m u v) m.tris) ∷ (not (int_le price most), Dear price) ∷ []

-- and where its price is the cost by planes
abbrev pub price_lines : Mesh → ℕ → ℕ → ℤ → List (Bool × Reply)
price_lines m u v most = price_lines_by (cost m u v) m u v most

pub collapse_by_pair : (price : ℤ) (inside : Point → Bool) (m : Mesh) (u v : ℕ) (most : ℤ) (reply : Reply) → refusal (pair_lines inside m u v) ≡ Some reply
    → collapse_verdict_by price inside m u v most ≡ reply
collapse_by_pair price inside m u v most reply is =
    told_by_first (pair_lines inside m u v) (link_lines m u v ++ price_lines_by price m u v most) (DoneAt price) reply is

pub collapse_by_link : (price : ℤ) (inside : Point → Bool) (m : Mesh) (u v : ℕ) (most : ℤ) (reply : Reply) → refusal (pair_lines inside m u v) ≡ None
    → refusal (link_lines m u v) ≡ Some reply → collapse_verdict_by price inside m u v most ≡ reply
collapse_by_link price inside m u v most reply none is =
    told_by_others (pair_lines inside m u v) (link_lines m u v ++ price_lines_by price m u v most) (DoneAt price) none
    ∙ told_by_first (link_lines m u v) (price_lines_by price m u v most) (DoneAt price) reply is

pub collapse_by_price : (price : ℤ) (inside : Point → Bool) (m : Mesh) (u v : ℕ) (most : ℤ) → refusal (pair_lines inside m u v) ≡ None
    → refusal (link_lines m u v) ≡ None → collapse_verdict_by price inside m u v most ≡ first_line (price_lines_by price m u v most) (DoneAt price)
collapse_by_price price inside m u v most none no_link =
    told_by_others (pair_lines inside m u v) (link_lines m u v ++ price_lines_by price m u v most) (DoneAt price) none
    ∙ told_by_others (link_lines m u v) (price_lines_by price m u v most) (DoneAt price) no_link

-- the lines of a flip behind the first ones
abbrev pub turn_lines : Mesh → ℕ → ℕ → List (Bool × Reply)
turn_lines m a b = (is_none (opposites m.tris a b), Border) ∷ edge_line m.tris (opposites m.tris a b) ∷ []
