-- The least steps on a patch are those of its simplification.
use Rattle.std.proofs.Common.{◌≡◌, ℕ, zero, suc, ◌<◌, ◌≤◌, nat_le, ℤ, Bool, true, false, cond, not, ◌||◌, eqb, length, List, [], ◌∷◌, map, Option, Some, None, sym, ap, ◌∙◌, refl, subst, arith, inl, inr, is_some}
use Rattle.std.proofs.lemmas.Bool.{le-leb, lt-leb, leb-true, leb-false, eqb-true, eq-eqb, or_cases, false≢true}
use Rattle.std.proofs.lemmas.List.{length-map}
use Rattle.std.specs.List.{filter, find, list_any}
use Rattle.std.specs.Option.{option_map, option_map_or}
use Rattle.oemm_octree.specs.declared.points.Point.{Point}
use Rattle.mesh_data.specs.declared.geometry.Vertex.{Vertex}
use Rattle.mesh_data.specs.declared.edits.Step.{Step}
use Rattle.mesh_data.specs.declared.edits.Reply.{Reply}
use Rattle.mesh_data.specs.Edits.{is_done, is_held, least_step}
use Rattle.mesh_data.specs.Planes.{added}
use Rattle.edit_steps.proofs.Passed.{collapse_passed_by}
use Rattle.edit_steps.proofs.Steps.{IsLeast, IsDoneStep, Among, OneOf, one_least, least_of_same, least_step_is, done_among, among_done}
use Rattle.sheet_data.specs.declared.patches.Patch.{Patch}
use Rattle.sheet_data.specs.Summed.{SummedVertex}
use Rattle.mesh_sheets.specs.Assembled.{has_name}
use Rattle.patch_edits.specs.PatchMesh.{placed, mesh_of, sums_at, cost_on}
use Rattle.patch_edits.specs.Edits.{collapse_on, collapsed_on, collapsed_on_by, names_on, done_steps_on, PatchSimplification, simplified_on_within, simplified_on}
use Rattle.patch_edits.specs.LeastSteps.{AreLeastStepsOn}
use Rattle.patch_edits.proofs.Told.{get_of}

-- a name that a vertex has is one of theirs
pub named : (vs : List SummedVertex) (v : ℕ) → has_name vs v ≡ true → OneOf (map (λ (x : SummedVertex). x.name) vs) v
named [] v h = absurd (false≢true h)
named (x ∷ vs) v h =
    elim (or_cases (eqb v x.name) (has_name vs v) h) [ inl here ↦ inl (eqb-true v x.name here) | inr more ↦ inr (named vs v more) ]

not_more : (u : ℕ) (vs : List SummedVertex) → length (filter (λ (x : SummedVertex). not (eqb x.name u)) vs) ≤ length vs
not_more u [] = omega arith
not_more u (x ∷ vs) =
    let rest = not_more u vs in
    elim (eqb x.name u) as (λ b. length (cond (not b) (x ∷ filter (λ (x : SummedVertex). not (eqb x.name u)) vs) (filter (λ (x : SummedVertex). not (eqb x.name u)) vs)) ≤ suc (length vs)) [ true ↦ omega arith | false ↦ omega arith ]

-- without a name that they have, vertices are fewer
pub fewer : (u : ℕ) (vs : List SummedVertex) → has_name vs u ≡ true → length (filter (λ (x : SummedVertex). not (eqb x.name u)) vs) < length vs
fewer u [] h = absurd (false≢true h)
fewer u (x ∷ vs) h =
    let others = filter (λ (x : SummedVertex). not (eqb x.name u)) vs in
    let most = not_more u vs in
    elim (eqb x.name u) as (λ b. eqb x.name u ≡ b → length (cond (not b) (x ∷ others) others) < suc (length vs)) [
      | true ↦ λ _. omega arith
      | false ↦ λ away.
          let rest = fewer u vs (elim (or_cases (eqb u x.name) (has_name vs u) h) [
            | inl here ↦ absurd (false≢true (sym away ∙ eq-eqb x.name u (sym (eqb-true u x.name here))))
            | inr more ↦ more
          ]) in
          omega arith
    ] refl

pub some_found : {X : Type 0} (q : X → Bool) (xs : List X) → is_some (find q xs) ≡ list_any q xs
some_found q [] = refl
some_found q (x ∷ xs) = elim (q x) as (λ b. is_some (cond b (Some x) (find q xs)) ≡ (b || list_any q xs)) [ true ↦ refl | false ↦ some_found q xs ]

module _ (inside : Point → Bool) (most : ℤ) (target : ℕ) where
  has_of_held : (p : Patch) (v : ℕ) → is_held inside (mesh_of p) v ≡ true → has_name p.vertices v ≡ true
  has_of_held p v on =
      sym (some_found (λ (x : SummedVertex). eqb v x.name) p.vertices)
      ∙ elim (find (λ (x : SummedVertex). eqb v x.name) p.vertices) as (λ o. option_map_or inside (option_map (λ (x : Vertex). x.point) (option_map (λ x. (placed x).1) o)) false ≡ true → is_some o ≡ true) [
        | None ↦ λ h. h
        | Some x ↦ λ _. refl
      ] (ap (λ o. option_map_or inside (option_map (λ (x : Vertex). x.point) o) false) (sym (get_of p v)) ∙ on)

  abbrev pub answers : Patch → ℕ → ℕ → Reply
  answers p u v = collapse_on inside p u v most

  pub least_on : (p : Patch) → IsLeast (IsDoneStep (answers p)) (least_step (done_steps_on inside p most))
  least_on p =
      least_of_same (Among (done_steps_on inside p most)) (IsDoneStep (answers p)) (least_step (done_steps_on inside p most))
      (λ s on. done_among (answers p) (names_on p) (names_on p) s on)
      (λ s done.
      let passed = collapse_passed_by (cost_on p s.u s.v) inside (mesh_of p) s.u s.v most (ap is_done done) in
      among_done (answers p) (names_on p) (names_on p) s (named p.vertices s.u (has_of_held p s.u passed.pair.held)) (named p.vertices s.v (has_of_held p s.v passed.pair.onto_held)) done)
      (least_step_is (done_steps_on inside p most))

  fewer_on : (p : Patch) (u v : ℕ) → is_done (collapse_on inside p u v most) ≡ true → length (collapsed_on p u v).vertices < length p.vertices
  fewer_on p u v done =
      let passed = collapse_passed_by (cost_on p u v) inside (mesh_of p) u v most done in
      let f : SummedVertex → SummedVertex = λ x. cond (eqb x.name v) (record x { quad = added x.quad (sums_at p.vertices u) }) x in
      let same = length-map (filter (λ (x : SummedVertex). not (eqb x.name u)) p.vertices) f in
      let less = fewer u p.vertices (has_of_held p u passed.pair.held) in
      omega arith

  abbrev stopped : Patch → PatchSimplification
  stopped p = record { patch = p; steps = [] }

  abbrev further : ℕ → Patch → Step → PatchSimplification
  further n p s =
      let rest = simplified_on_within n inside (collapsed_on p s.u s.v) most target in
      record { patch = rest.patch; steps = s ∷ rest.steps }

  steps_on : (ss : List Step) (n : ℕ) (p : Patch) → AreLeastStepsOn inside p most target ss → length p.vertices ≤ n → simplified_on_within n inside p most target ≡ (let t : PatchSimplification = record { patch = collapsed_on_by p ss; steps = ss } in t)
  unfolding simplified_on_within
  steps_on [] zero p are few = refl
  steps_on [] (suc n) p are few =
      elim are [
        | inl at ↦ ap (λ (b : Bool). cond b (stopped p) (option_map_or (further n p) (least_step (done_steps_on inside p most)) (stopped p))) (le-leb (length p.whole) target at)
        | inr never ↦
            ap (λ (o : Option Step). cond (nat_le (length p.whole) target) (stopped p) (option_map_or (further n p) o (stopped p))) (one_least (IsDoneStep (answers p)) _ None (least_on p) (λ s done. never s.u s.v s.cost done))
            ∙ elim (nat_le (length p.whole) target) as (λ b. cond b (stopped p) (stopped p) ≡ stopped p) [ true ↦ refl | false ↦ refl ]
      ]
  steps_on (s ∷ ss) zero p are few = let less = fewer_on p s.u s.v (ap is_done are.1) in absurd (omega arith)
  steps_on (s ∷ ss) (suc n) p are few =
      let less = fewer_on p s.u s.v (ap is_done are.1) in
      let rest = steps_on ss n (collapsed_on p s.u s.v) are.3 (omega arith) in
      (λ i. cond (lt-leb (length p.whole) target are.0 i) (stopped p) (option_map_or (further n p) (one_least (IsDoneStep (answers p)) (least_step (done_steps_on inside p most)) (Some s) (least_on p) (are.1, λ t done. are.2 t.u t.v t.cost done) i) (stopped p)))
      ∙ ap (λ (t : PatchSimplification). let r : PatchSimplification = record { patch = t.patch; steps = s ∷ t.steps } in r) rest

  -- the steps of a simplification of a patch are the least ones
  pub simplified_by : (ss : List Step) (p : Patch) → AreLeastStepsOn inside p most target ss → simplified_on inside p most target ≡ (let t : PatchSimplification = record { patch = collapsed_on_by p ss; steps = ss } in t)
  simplified_by ss p are = steps_on ss (length p.vertices) p are (omega arith)

  abbrev Are : Patch → List Step → Type 0
  Are p ss = AreLeastStepsOn inside p most target ss

  -- a simplification makes least steps
  least_within : (n : ℕ) (p : Patch) → length p.vertices ≤ n → Are p (simplified_on_within n inside p most target).steps
  unfolding simplified_on_within
  least_within zero p few = inr (λ u v c done. let less = fewer_on p u v (ap is_done done) in absurd (omega arith))
  least_within (suc n) p few =
      elim (nat_le (length p.whole) target) as (λ b. nat_le (length p.whole) target ≡ b → Are p (let t : PatchSimplification = cond b (stopped p) (option_map_or (further n p) (least_step (done_steps_on inside p most)) (stopped p)) in t.steps)) [
        | true ↦ λ at. inl (leb-true (length p.whole) target at)
        | false ↦ λ above. elim (least_step (done_steps_on inside p most)) as (λ o. least_step (done_steps_on inside p most) ≡ o → Are p (let t : PatchSimplification = option_map_or (further n p) o (stopped p) in t.steps)) [
          | None ↦ λ is. let least : IsLeast (IsDoneStep (answers p)) None = subst (IsLeast (IsDoneStep (answers p))) is (least_on p) in
              inr (λ u v c done. least (record { u = u; v = v; cost = c }) done)
          | Some s ↦ λ is.
              let least : IsLeast (IsDoneStep (answers p)) (Some s) = subst (IsLeast (IsDoneStep (answers p))) is (least_on p) in
              let less = fewer_on p s.u s.v (ap is_done least.0) in (
                leb-false (length p.whole) target above,
                least.0,
                λ u v c done. least.1 (record { u = u; v = v; cost = c }) done,
                least_within n (collapsed_on p s.u s.v) (omega arith),
              )
        ] refl
      ] refl

  pub least_steps : (p : Patch) → Are p (simplified_on inside p most target).steps
  least_steps p = least_within (length p.vertices) p (omega arith)
