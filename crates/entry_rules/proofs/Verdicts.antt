-- What an edit answers may stand beside it, within the ranges of replies.
use Rattle.std.proofs.Common.{◌≡◌, ◌≢◌, ℕ, ◌<◌, ◌≤◌, min, max, ℤ, Bool, true, false, cond, not, ◌&&◌, ◌==◌, eqb, int_le, List, [], ◌∷◌, ◌++◌, length, Option, Some, None, ap, sym, ◌∙◌, refl, subst, arith, inl, inr}
use Rattle.std.proofs.lemmas.Bool.{and_from, cases_lt, eqb-false, false≢true, le-leb, lt-ltb}
use Rattle.std.proofs.lemmas.List.Elements.{recursion_from_All}
use Rattle.std.specs.FinMap as finite
use Rattle.std.specs.List.{AllByRecursion, find, list_all}
use Rattle.std.specs.Option.{is_none}
use Rattle.oemm_limits.specs.declared.TheConstants.{MOST_ITEMS}
use Rattle.oemm_octree.specs.declared.points.Point.{Point}
use Rattle.mesh_data.specs.declared.edits.Edit.{Edit}
use Rattle.mesh_data.specs.declared.edits.Edit.TheVariants.{Move, Collapse, Flip, Simplify}
use Rattle.mesh_data.specs.declared.edits.Reply.{Reply}
use Rattle.mesh_data.specs.declared.edits.Reply.TheVariants.{Unheld, Frozen, Same, Apart, Border, Link, Closed, Folds, Dear, Edge, Outside, Done, DoneAt, Simplified}
use Rattle.mesh_data.specs.declared.edits.Step.{Step}
use Rattle.mesh_data.specs.declared.geometry.Tri.{Tri}
use Rattle.mesh_data.specs.Edits.{AreLeastSteps, after, collapsed, cost, edge_line, first_line, folds_with, if_any, is_free, is_held, pair_lines, simplified, verdict}
use Rattle.mesh_data.specs.Links.{is_closed_by_three, link_violation, opposites}
use Rattle.mesh_data.specs.Manifold.{IsTriangleOf}
use Rattle.mesh_data.specs.Mesh.{Mesh}
use Rattle.mesh_data.specs.Rings.{has_closed_ring}
use Rattle.edit_steps.proofs.Passed.{can_collapse}
use Rattle.edit_steps.proofs.Simplification.{least_of_all}
use Rattle.geometry_bytes.specs.Geometry.{is_turned}
use Rattle.leaf_codec.specs.Replies.{is_cost, is_reply, is_step, may_answer}
use Rattle.leaf_codec.specs.declared.formats.TheConstants.{MOST_UNITS}
use Rattle.store_spelling.proofs.SheetRules.{turned_first}
use Rattle.entry_rules.specs.OnGrid.{IsMeshOnGrid}
use Rattle.entry_rules.proofs.Costs.{cost_is}
use Rattle.entry_rules.proofs.Ends.{ends_differ}
use Rattle.entry_rules.proofs.Ready.{ready_edit}
use Rattle.entry_rules.proofs.Steps.{few_named, few_steps}

-- the reply may stand beside the edit, and is within its ranges
abbrev pub IsGood : Edit → Reply → Type 0
IsGood e r = (may_answer e r ≡ true) × (is_reply r ≡ true)

-- ---- lines of a table

-- P holds of the reply of a line where its test holds and no test before it does, and of the last reply where none does
abbrev Pass : (Reply → Type 0) → List (Bool × Reply) → Reply → Type 0
Pass P [] last = P last
Pass P (line ∷ lines) last = (line.0 ≡ true → P line.1) × (line.0 ≡ false → Pass P lines last)

first_passes : (P : Reply → Type 0) (lines : List (Bool × Reply)) (last : Reply) → Pass P lines last
    → P (first_line lines last)
first_passes P [] last h = h
first_passes P (line ∷ lines) last h =
    elim line.0 as (λ b. line.0 ≡ b → P (cond b line.1 (first_line lines last))) [
      | true ↦ λ on. h.0 on
      | false ↦ λ off. first_passes P lines last (h.1 off)
    ] refl

any_passes : {A : Type 0} (P : Reply → Type 0) (reply : A → Reply) (o : Option A) → ((x : A) → o ≡ Some x → P (reply x))
    → (if_any reply o).0 ≡ true → P (if_any reply o).1
any_passes P reply None h on = absurd (false≢true on)
any_passes P reply (Some x) h on = h x refl

found_is : {A : Type 0} (P : A → Type 0) (p : A → Bool) (xs : List A) (x : A) → AllByRecursion P xs → find p xs ≡ Some x
    → P x
found_is P p [] x all is = let none : None ≡ Some x = is in absurd (cc)
found_is P p (y ∷ ys) x all is =
    elim (p y) as (λ b. cond b (Some y) (find p ys) ≡ Some x → P x) [
      | true ↦ λ e. let same : y ≡ x = cc in subst P same all.0
      | false ↦ λ e. found_is P p ys x all.1 e
    ] is

module _ (inside : Point → Bool) (m : Mesh) (ready : IsMeshOnGrid m) where
  -- the lines that edits of two names have in common
  pair_passes : (P : Reply → Type 0) (u v : ℕ) (lines : List (Bool × Reply)) (last : Reply)
      → ((w : ℕ) → P (Unheld w)) → ((w : ℕ) → P (Frozen w)) → P Same → P Apart → (u ≢ v → Pass P lines last)
      → Pass P (pair_lines inside m u v ++ lines) last
  pair_passes P u v lines last unheld frozen same apart rest = (
    (λ _. unheld u),
    (λ _. (
      (λ _. unheld v),
      (λ _. (
        (λ _. same),
        (λ differ. (
          (λ _. frozen u),
          (λ _. ((λ _. frozen v), (λ _. ((λ _. apart), (λ _. rest (eqb-false u v differ)))))),
        )),
      )),
    )),
  )

  move_good : (v : ℕ) (to : Point) → IsGood (Move v to) (verdict inside m (Move v to))
  unfolding may_answer is_reply
  move_good v to =
      first_passes (IsGood (Move v to))
      ((not (is_held inside m v), Unheld v) ∷ (not (is_free inside m v), Frozen v) ∷ (not (inside to), Outside) ∷ []) Done
      ((λ _. (refl, refl)), (λ _. ((λ _. (refl, refl)), (λ _. ((λ _. (refl, refl)), (λ _. (refl, refl)))))))

  turned_faces : AllByRecursion (λ t. is_turned t ≡ true) m.tris
  turned_faces = each m.tris (recursion_from_All (IsTriangleOf m.vertices) m.tris ready.manifold.corners)
    where
      each : (ts : List Tri) → AllByRecursion (IsTriangleOf m.vertices) ts → AllByRecursion (λ t. is_turned t ≡ true) ts
      each [] all = tt
      each (t ∷ ts) all = (turned_first t all.0.proper all.0.is_turned, each ts all.1)

  collapse_good : (u v : ℕ) (most : ℤ) → IsGood (Collapse u v most) (verdict inside m (Collapse u v most))
  unfolding may_answer is_reply
  collapse_good u v most =
      let P = IsGood (Collapse u v most) in
      let price = cost m u v in
      let lines =
      (not (has_closed_ring m.tris u), Border)
      ∷ if_any Link (link_violation m.tris u v)
      ∷ (is_closed_by_three m.tris u && is_closed_by_three m.tris v, Closed)
      ∷ if_any Folds (find (folds_with m u v) m.tris)
      ∷ (not (int_le price most), Dear price)
      ∷ [] in
      first_passes P (pair_lines inside m u v ++ lines) (DoneAt price)
      (pair_passes P u v lines (DoneAt price) (λ w. (refl, refl)) (λ w. (refl, refl)) (refl, refl) (refl, refl) (λ differ.
      let paid : is_cost price ≡ true = cost_is m u v differ ready.planes ready.grid in (
        (λ _. (refl, refl)),
        (λ _. (
          any_passes P Link (link_violation m.tris u v) (λ w is. (refl, refl)),
          (λ _. (
            (λ _. (refl, refl)),
            (λ _. (
              any_passes P Folds (find (folds_with m u v) m.tris)
                  (λ t is. (refl, found_is (λ t. is_turned t ≡ true) (folds_with m u v) m.tris t turned_faces is)),
              (λ _. ((λ _. (refl, paid)), (λ _. (refl, paid)))),
            )),
          )),
        )),
      )))

  edge_good : (a b : ℕ) (o : Option (ℕ × ℕ)) → opposites m.tris a b ≡ o → (edge_line m.tris o).0 ≡ true
      → IsGood (Flip a b) (edge_line m.tris o).1
  unfolding may_answer is_reply
  edge_good a b None is on = absurd (false≢true on)
  edge_good a b (Some ends) is on =
      let differ = ends_differ m a b ends.0 ends.1 ready.manifold is in
      let lt : min ends.0 ends.1 < max ends.0 ends.1 =
      elim (cases_lt ends.0 ends.1) [
        | inl below ↦ omega arith
        | inr above ↦ let other : ends.0 ≢ ends.1 = differ in smaller ends.0 ends.1 other above
      ] in
      (refl, lt-ltb (min ends.0 ends.1) (max ends.0 ends.1) lt)
    where
      smaller : (c d : ℕ) → c ≢ d → d ≤ c → min c d < max c d
      smaller c d other le = elim (cases_lt d c) [ inl below ↦ omega arith | inr above ↦ absurd (other (omega arith)) ]

  flip_good : (a b : ℕ) → IsGood (Flip a b) (verdict inside m (Flip a b))
  unfolding may_answer is_reply
  flip_good a b =
      let P = IsGood (Flip a b) in
      let lines = (is_none (opposites m.tris a b), Border) ∷ edge_line m.tris (opposites m.tris a b) ∷ [] in
      first_passes P (pair_lines inside m a b ++ lines) Done
      (pair_passes P a b lines Done (λ w. (refl, refl)) (λ w. (refl, refl)) (refl, refl) (refl, refl) (λ differ. (
        (λ _. (refl, refl)),
        (λ _. (edge_good a b (opposites m.tris a b) refl, (λ _. (refl, refl)))),
      )))

-- ---- simplification

steps_good : (inside : Point → Bool) (most : ℤ) (target : ℕ) (ss : List Step) (m : Mesh) → IsMeshOnGrid m
    → AreLeastSteps inside m most target ss → list_all is_step ss ≡ true
steps_good inside most target [] m ready least = refl
steps_good inside most target (s ∷ ss) m ready least =
    let can = can_collapse inside m s.u s.v most s.cost least.1 in
    let paid : is_step s ≡ true = ap is_cost can.costs ∙ cost_is m s.u s.v can.pair.apart ready.planes ready.grid in
    let e = Collapse s.u s.v most in
    let next : IsMeshOnGrid (collapsed m s.u s.v) =
    subst IsMeshOnGrid (ap (after m e) least.1) (ready_edit inside m e tt ready) in
    and_from (is_step s) (list_all is_step ss) paid
    (steps_good inside most target ss (collapsed m s.u s.v) next least.3)

simplify_good : (inside : Point → Bool) (m : Mesh) (most : ℤ) (target : ℕ) → IsMeshOnGrid m
    → IsGood (Simplify most target) (verdict inside m (Simplify most target))
unfolding may_answer is_reply
simplify_good inside m most target ready =
    let steps = (simplified inside m most target).steps in
    let few = few_steps (finite.len m.vertices) inside m most target in
    let all = few_named MOST_ITEMS m ready.named in (
      refl,
      and_from _ (list_all is_step steps) (le-leb (length steps) MOST_UNITS (omega (arith, few, all)))
          (steps_good inside most target steps m ready (least_of_all inside m most target)),
    )

pub verdict_good : (inside : Point → Bool) (m : Mesh) (e : Edit) → IsMeshOnGrid m → IsGood e (verdict inside m e)
verdict_good inside m (Move v to) ready = move_good inside m ready v to
verdict_good inside m (Collapse u v most) ready = collapse_good inside m ready u v most
verdict_good inside m (Flip a b) ready = flip_good inside m ready a b
verdict_good inside m (Simplify most target) ready = simplify_good inside m most target ready
