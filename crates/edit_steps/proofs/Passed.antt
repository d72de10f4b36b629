-- What is so where an edit is done: no line of its table applies.
use Rattle.std.proofs.Common.{◌≡◌, ◌≢◌, ◌==◌, ℕ, ℤ, pos, Bool, true, false, cond, not, ◌&&◌, List, [], ◌∷◌, ◌++◌, Option, Some, None, find, refl, sym, ap, ◌∙◌}
use Rattle.std.proofs.lemmas.Bool.{false≢true, and_parts, eq-eqb, not-true, not-false}
use Rattle.std.specs.List.{list_all}
use Rattle.std.specs.Option.{option_map_or, is_none}
use Rattle.oemm_octree.specs.declared.points.Point.{Point}
use Rattle.mesh_data.specs.declared.edits.Edit.TheVariants.{Collapse}
use Rattle.mesh_data.specs.declared.edits.Reply.{Reply}
use Rattle.mesh_data.specs.declared.edits.Reply.TheVariants.{Unheld, Frozen, Outside, Link, Folds, Done, DoneAt}
use Rattle.mesh_data.specs.Edits.{after, collapsed, first_line, if_any, edge_line, is_done, is_held, is_free, pair_lines, folds_with, cost, collapse_verdict, collapse_verdict_by, flip_verdict, move_verdict}
use Rattle.mesh_data.specs.Links.{are_neighbours, opposites, link_violation, is_closed_by_three}
use Rattle.mesh_data.specs.Mesh.{Mesh}
use Rattle.mesh_data.specs.Rings.{has_closed_ring}
use Rattle.triangle_edits.proofs.Turns.{apexes_differ}
pub use Rattle.edit_steps.specs.Passed.{PairPassed, CollapsePassed, FlipPassed}
use Rattle.edit_steps.specs.Lines.{refusal}
use Rattle.edit_steps.proofs.Lines.{link_lines, price_lines_by, turn_lines}

-- a line that applies refuses
abbrev refuse : List (Bool × Reply) → Bool
refuse ls = list_all (λ l. not (is_done l.1 && l.0)) ls

-- where lines refuse and the answer is that the edit is done, none applies
passes : (ls : List (Bool × Reply)) (last : Reply) → refuse ls ≡ true → is_done (first_line ls last) ≡ true → (first_line ls last ≡ last) × (list_all (λ l. not l.0) ls ≡ true)
passes [] last h done = (refl, refl)
passes (l ∷ ls) last h done =
    let parts = and_parts (not (is_done l.1 && l.0)) (refuse ls) h in
    elim l.0 as (λ b. not (is_done l.1 && b) ≡ true → is_done (cond b l.1 (first_line ls last)) ≡ true → (cond b l.1 (first_line ls last) ≡ last) × (not b && list_all (λ k. not k.0) ls ≡ true)) [
      | true ↦ λ non aye. absurd (false≢true (ap (λ (b : Bool). not (b && true)) (sym aye) ∙ non))
      | false ↦ λ non aye. passes ls last parts.1 aye
    ] parts.0 done

some_refuses : {A : Type 0} (reply : A → Reply) (o : Option A) → ((x : A) → is_done (reply x) ≡ false) → not (is_done (if_any reply o).1 && (if_any reply o).0) ≡ true
some_refuses reply None h = refl
some_refuses reply (Some x) h = ap (λ (b : Bool). not (b && true)) (h x)

none_of : {A : Type 0} (reply : A → Reply) (o : Option A) → not (if_any reply o).0 ≡ true → o ≡ None
none_of reply None h = refl
none_of reply (Some x) h = absurd (false≢true h)

not_not : (b : Bool) → not (not b) ≡ true → b ≡ true
not_not b h = not-false b (not-true (not b) h)

pair_passed : (inside : Point → Bool) (m : Mesh) (u v : ℕ) (ls : List (Bool × Reply)) → list_all (λ l. not l.0) (pair_lines inside m u v ++ ls) ≡ true → PairPassed inside m u v × (list_all (λ l. not l.0) ls ≡ true)
pair_passed inside m u v ls h =
    let of_u = and_parts (not (not (is_held inside m u))) _ h in
    let of_v = and_parts (not (not (is_held inside m v))) _ of_u.1 in
    let of_same = and_parts (not (u == v)) _ of_v.1 in
    let of_free = and_parts (not (not (is_free inside m u))) _ of_same.1 in
    let of_other = and_parts (not (not (is_free inside m v))) _ of_free.1 in
    let of_near = and_parts (not (not (are_neighbours m.tris u v))) _ of_other.1 in (
      record {
        held = not_not _ of_u.0;
        onto_held = not_not _ of_v.0;
        apart = λ same. false≢true (ap not (sym (eq-eqb u v same)) ∙ of_same.0);
        free = not_not _ of_free.0;
        onto_free = not_not _ of_other.0;
        near = not_not _ of_near.0;
      },
      of_near.1,
    )

none_refuses : (ls : List (Bool × Reply)) → refusal ls ≡ None → list_all (λ l. not l.0) ls ≡ true
none_refuses [] h = refl
none_refuses (l ∷ ls) h =
    elim l.0 as (λ b. cond b (Some l.1) (refusal ls) ≡ None → (not b && list_all (λ k. not k.0) ls) ≡ true) [ true ↦ λ e. absurd (cc) | false ↦ λ e. none_refuses ls e ] h

-- what is so of an edit of two names that the first lines don't refuse
pub pair_unrefused : (inside : Point → Bool) (m : Mesh) (u v : ℕ) → refusal (pair_lines inside m u v) ≡ None → PairPassed inside m u v
pair_unrefused inside m u v none = (pair_passed inside m u v [] (none_refuses (pair_lines inside m u v) none)).0

-- a collapse that is done is so at its price
collapse_done : (price : ℤ) (inside : Point → Bool) (m : Mesh) (u v : ℕ) (most : ℤ) → is_done (collapse_verdict_by price inside m u v most) ≡ true
    → (collapse_verdict_by price inside m u v most ≡ DoneAt price) × (list_all (λ l. not l.0) (pair_lines inside m u v ++ (link_lines m u v ++ price_lines_by price m u v most)) ≡ true)
collapse_done price inside m u v most done =
    let link = some_refuses Link (link_violation m.tris u v) (λ w. refl) in
    let folds = some_refuses Folds (find (folds_with m u v) m.tris) (λ t. refl) in
    passes (pair_lines inside m u v ++ (link_lines m u v ++ price_lines_by price m u v most)) (DoneAt price) (λ i. link i && (folds i && true)) done

pub collapse_passed_by : (price : ℤ) (inside : Point → Bool) (m : Mesh) (u v : ℕ) (most : ℤ) → is_done (collapse_verdict_by price inside m u v most) ≡ true → CollapsePassed inside m u v
collapse_passed_by price inside m u v most done =
    let all = (collapse_done price inside m u v most done).1 in
    let pair = pair_passed inside m u v (link_lines m u v ++ price_lines_by price m u v most) all in
    let of_ring = and_parts (not (not (has_closed_ring m.tris u))) _ pair.1 in
    let of_link = and_parts (not (if_any Link (link_violation m.tris u v)).0) _ of_ring.1 in
    let of_three = and_parts (not (is_closed_by_three m.tris u && is_closed_by_three m.tris v)) _ of_link.1 in
    let of_fold = and_parts (not (if_any Folds (find (folds_with m u v) m.tris)).0) _ of_three.1 in
    record {
      pair = pair.0;
      closed = not_not _ of_ring.0;
      unshared = none_of Link (link_violation m.tris u v) of_link.0;
      not_three = not-true _ of_three.0;
      unfolded = none_of Folds (find (folds_with m u v) m.tris) of_fold.0;
    }

pub collapse_passed : (inside : Point → Bool) (m : Mesh) (u v : ℕ) (most : ℤ) → is_done (collapse_verdict inside m u v most) ≡ true → CollapsePassed inside m u v
collapse_passed inside m u v most done = collapse_passed_by (cost m u v) inside m u v most done

-- another answer leaves the mesh
pub collapse_kept : (inside : Point → Bool) (m : Mesh) (u v : ℕ) (most : ℤ) (reply : Reply) → reply ≡ collapse_verdict inside m u v most → ((c : ℤ) → reply ≡ DoneAt c → ⊥) → m ≡ after m (Collapse u v most) reply
collapse_kept inside m u v most reply is other =
    elim (is_done reply) as (λ b. is_done reply ≡ b → m ≡ cond b (collapsed m u v) m) [
      | true ↦ λ done. absurd (other (cost m u v) (is ∙ (collapse_done (cost m u v) inside m u v most (ap is_done (sym is) ∙ done)).0))
      | false ↦ λ done. refl
    ] refl

cost_told : Reply → ℤ
cost_told (DoneAt c) = c
cost_told _ = pos 0

-- what is so of a collapse that is done at a cost
pub record CanCollapse (inside : Point → Bool) (m : Mesh) (u v : ℕ) (cost_of : ℤ) : Type 0 where
  pub pair : PairPassed inside m u v
  pub costs : cost_of ≡ cost m u v

pub can_collapse : (inside : Point → Bool) (m : Mesh) (u v : ℕ) (most cost_of : ℤ) → collapse_verdict inside m u v most ≡ DoneAt cost_of → CanCollapse inside m u v cost_of
unfolding cost_told
can_collapse inside m u v most cost_of is =
    let done = ap is_done is in
    record { pair = (collapse_passed inside m u v most done).pair; costs = ap cost_told (sym is ∙ (collapse_done (cost m u v) inside m u v most done).0) }

edge_refuses : (m : Mesh) (o : Option (ℕ × ℕ)) → not (is_done (edge_line m.tris o).1 && (edge_line m.tris o).0) ≡ true
edge_refuses m None = refl
edge_refuses m (Some ends) = refl

edge_passed : (m : Mesh) (o : Option (ℕ × ℕ)) → not (is_none o) ≡ true → not (edge_line m.tris o).0 ≡ true → (c : ℕ) × (d : ℕ) × (o ≡ Some (c, d)) × (are_neighbours m.tris c d ≡ false)
edge_passed m None some new = absurd (false≢true some)
edge_passed m (Some ends) some new = (ends.0, ends.1, refl, not-true _ new)

pub flip_passed : (inside : Point → Bool) (m : Mesh) (a b : ℕ) → is_done (flip_verdict inside m a b) ≡ true → FlipPassed inside m a b
flip_passed inside m a b done =
    let line = edge_refuses m (opposites m.tris a b) in
    let all = (passes (pair_lines inside m a b ++ turn_lines m a b) Done (λ i. line i && true) done).1 in
    let pair = pair_passed inside m a b (turn_lines m a b) all in
    let of_ends = and_parts (not (is_none (opposites m.tris a b))) _ pair.1 in
    let of_edge = and_parts (not (edge_line m.tris (opposites m.tris a b)).0) _ of_ends.1 in
    let at = edge_passed m (opposites m.tris a b) of_ends.0 of_edge.0 in
    record { pair = pair.0; c = at.0; d = at.1; ends = at.2; new = at.3 }

-- the ends of the edge that a flip makes are different
pub ends_of_flip : (inside : Point → Bool) (m : Mesh) (a b c d : ℕ) → flip_verdict inside m a b ≡ Done → opposites m.tris a b ≡ Some (c, d) → c ≢ d
ends_of_flip inside m a b c d done ends =
    let p = flip_passed inside m a b (ap is_done done) in
    let same : Some (c, d) ≡ Some (p.c, p.d) = sym ends ∙ p.ends in
    let near : Option (ℕ × ℕ) → Bool = λ o. option_map_or (λ e. are_neighbours m.tris e.0 e.1) o false in
    apexes_differ m.tris a b c d ends (ap near same ∙ p.new)

pub move_passed : (inside : Point → Bool) (m : Mesh) (v : ℕ) (to : Point) → is_done (move_verdict inside m v to) ≡ true → (is_held inside m v ≡ true) × (inside to ≡ true) × (is_free inside m v ≡ true)
move_passed inside m v to done =
    let all : (not (not (is_held inside m v)) && (not (not (is_free inside m v)) && (not (not (inside to)) && true))) ≡ true = (passes ((not (is_held inside m v), Unheld v) ∷ (not (is_free inside m v), Frozen v) ∷ (not (inside to), Outside) ∷ []) Done refl done).1 in
    let of_v = and_parts (not (not (is_held inside m v))) _ all in
    let of_free = and_parts (not (not (is_free inside m v))) _ of_v.1 in
    let of_to = and_parts (not (not (inside to))) _ of_free.1 in
    (not_not _ of_v.0, not_not _ of_to.0, not_not _ of_free.0)
