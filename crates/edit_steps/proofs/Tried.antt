-- The collapses that a scan of the triangles tries are all that can be done.
use Rattle.std.proofs.Common.{◌≡◌, ◌≢◌, ◌⊎◌, ◌==◌, ℕ, ℤ, Bool, true, false, cond, ◌&&◌, List, [], ◌∷◌, ◌++◌, Option, Some, None, inl, inr, flat_map, take, get_or, take-suc, append-nil, append_assoc, length, ◌<◌, ◌+◌, not, add-one, sym, ap, ◌∙◌, refl, subst, arith}
use Rattle.std.proofs.lemmas.Bool.{false≢true, not-false, eqb-true, and_parts, or_cases, or_left, or_right}
use Rattle.std.proofs.lemmas.Bool.Decides.{nat_tests}
use Rattle.std.proofs.lemmas.List.Folds.{list_any-append}
use Rattle.std.specs.Cmp.{unsigned_tied}
use Rattle.std.specs.FinMap as finite
use Rattle.std.specs.List.{list_any}
use Rattle.std.specs.Option.{option_map, option_map_or, is_some}
use Rattle.std.specs.Ordering.{nat_cmp, eq_by_cmp, is_le}
use Rattle.oemm_octree.specs.declared.points.Point.{Point}
use Rattle.mesh_data.specs.declared.geometry.Tri.{Tri}
use Rattle.mesh_data.specs.declared.geometry.Edge.{Edge as DirectedEdge}
use Rattle.mesh_data.specs.declared.geometry.Vertex.{Vertex}
use Rattle.mesh_data.specs.declared.edits.Step.{Step}
use Rattle.mesh_data.specs.declared.edits.Reply.{Reply}
use Rattle.mesh_data.specs.declared.edits.Reply.TheVariants.{Unheld, Frozen, Same, Apart, Border, Link, Closed, Folds, Dear, Edge, Outside, Done, DoneAt, Simplified}
use Rattle.mesh_data.specs.Edits.{is_held, cost, collapse_verdict, done_step, done_steps, least_step, step_cmp}
use Rattle.mesh_data.specs.Links.{has_both}
use Rattle.mesh_data.specs.Mesh.{Mesh, names_of}
use Rattle.mesh_data.specs.Triangles.{same_edge}
use Rattle.edit_steps.specs.Steps.{lesser, both_ways, best_of, answer_of}
use Rattle.edit_steps.proofs.Passed.{can_collapse}
use Rattle.edit_steps.proofs.Steps.{IsLeast, one_least, least_of_same, least_step_is, least_along, Among, IsIn, IsAlong, IsDoneStep, OneOf, done_along, done_among, among_done, done_step_of}

-- a vertex that is held is one of the mesh
pub held_there : (inside : Point → Bool) (m : Mesh) (v : ℕ) → is_held inside m v ≡ true → finite.contains_key m.vertices v ≡ true
held_there inside m v =
    elim (finite.get m.vertices v) as (λ o. option_map_or inside (option_map (λ (x : Vertex). x.point) o) false ≡ true → is_some o ≡ true) [ None ↦ λ h. h | Some x ↦ λ h. refl ]

one_of_any : (ns : List ℕ) (v : ℕ) → list_any (eq_by_cmp nat_cmp v) ns ≡ true → OneOf ns v
one_of_any [] v h = absurd (false≢true h)
one_of_any (n ∷ ns) v h =
    elim (or_cases (eq_by_cmp nat_cmp v n) (list_any (eq_by_cmp nat_cmp v) ns) h) [
      | inl e ↦ inl (eqb-true v n (sym (unsigned_tied v n) ∙ e))
      | inr more ↦ inr (one_of_any ns v more)
    ]

named : (m : Mesh) (v : ℕ) → finite.contains_key m.vertices v ≡ true → OneOf (names_of m) v
named m v there = one_of_any (names_of m) v (sym (finite.contains_key-keys m.vertices v) ∙ there)

-- two names of a triangle are the ends of one of its sides
side_of : (u v : ℕ) (t : Tri) → u ≢ v → has_both u v t ≡ true → list_any (same_edge (record { a = u; b = v })) (both_ways t) ≡ true
side_of u v t apart both = grind (arith, nat_tests)

along_edge : (verdict_of : ℕ → ℕ → Reply) (es : List DirectedEdge) (s : Step) → list_any (same_edge (record { a = s.u; b = s.v })) es ≡ true → IsDoneStep verdict_of s → IsAlong verdict_of es s
along_edge verdict_of [] s h done = absurd (false≢true h)
along_edge verdict_of (e ∷ es) s h done =
    elim (or_cases (s.u == e.a && s.v == e.b) (list_any (same_edge (record { a = s.u; b = s.v })) es) h) [
      | inl here ↦
          let ends = and_parts (s.u == e.a) (s.v == e.b) here in
          let is : IsIn (done_step s.u s.v (verdict_of s.u s.v)) s = done_step_of s (verdict_of s.u s.v) done in
          inl (subst (λ (b : ℕ). IsIn (done_step e.a b (verdict_of e.a b)) s) (eqb-true s.v e.b ends.1)
          (subst (λ (a : ℕ). IsIn (done_step a s.v (verdict_of a s.v)) s) (eqb-true s.u e.a ends.0) is))
      | inr more ↦ inr (along_edge verdict_of es s more done)
    ]

-- neighbours are the ends of a side of some triangle
side_of_some : (u v : ℕ) (ts : List Tri) → u ≢ v → list_any (has_both u v) ts ≡ true → list_any (same_edge (record { a = u; b = v })) (flat_map both_ways ts) ≡ true
side_of_some u v [] apart h = h
side_of_some u v (t ∷ ts) apart h =
    let p : DirectedEdge → Bool = same_edge (record { a = u; b = v }) in
    list_any-append p (both_ways t) (flat_map both_ways ts)
    ∙ elim (or_cases (has_both u v t) (list_any (has_both u v) ts) h) [
      | inl here ↦ or_left (list_any p (both_ways t)) _ (side_of u v t apart here)
      | inr more ↦ or_right (list_any p (both_ways t)) _ (side_of_some u v ts apart more)
    ]

-- the least of the steps of all pairs of names is the least that is done
pub least_done : (inside : Point → Bool) (m : Mesh) (most : ℤ) → IsLeast (IsDoneStep (answer_of inside m most)) (least_step (done_steps inside m most))
least_done inside m most =
    let verdict_of : ℕ → ℕ → Reply = answer_of inside m most in
    least_of_same (Among (done_steps inside m most)) (IsDoneStep verdict_of) (least_step (done_steps inside m most))
    (λ s on. done_among verdict_of (names_of m) (names_of m) s on)
    (λ s done.
    let c = can_collapse inside m s.u s.v most s.cost done in
    among_done verdict_of (names_of m) (names_of m) s (named m s.u (held_there inside m s.u c.pair.held)) (named m s.v (held_there inside m s.v c.pair.onto_held)) done)
    (least_step_is (done_steps inside m most))

-- and so is the best step along the sides of all triangles
pub best_is_least : (inside : Point → Bool) (m : Mesh) (most : ℤ) → best_of (answer_of inside m most) None (flat_map both_ways m.tris) ≡ least_step (done_steps inside m most)
best_is_least inside m most =
    let verdict_of : ℕ → ℕ → Reply = answer_of inside m most in
    let es = flat_map both_ways m.tris in
    let tried : IsLeast (IsDoneStep verdict_of) (best_of verdict_of None es) =
    least_of_same (λ s. ⊥ ⊎ IsAlong verdict_of es s) (IsDoneStep verdict_of) (best_of verdict_of None es)
    (λ s on. elim on [ inl never ↦ absurd never | inr found ↦ done_along verdict_of es s found ])
    (λ s done.
    let c = can_collapse inside m s.u s.v most s.cost done in
    inr (along_edge verdict_of es s (side_of_some s.u s.v m.tris c.pair.apart c.pair.near) done))
    (least_along verdict_of (λ s. ⊥) None es (λ s h. h)) in
    one_least (IsDoneStep verdict_of) _ _ tried (least_done inside m most)

flat_push : (ts : List Tri) (t : Tri) → flat_map both_ways (ts ++ t ∷ []) ≡ flat_map both_ways ts ++ both_ways t
flat_push [] t = append-nil (both_ways t)
flat_push (x ∷ xs) t = ap (λ es. both_ways x ++ es) (flat_push xs t) ∙ sym (append_assoc (both_ways x) (flat_map both_ways xs) (both_ways t))

pub best_of-append : (verdict_of : ℕ → ℕ → Reply) (best : Option Step) (ds es : List DirectedEdge) → best_of verdict_of best (ds ++ es) ≡ best_of verdict_of (best_of verdict_of best ds) es
best_of-append verdict_of best [] es = refl
best_of-append verdict_of best (d ∷ ds) es = best_of-append verdict_of (lesser best (done_step d.a d.b (verdict_of d.a d.b))) ds es

kept_by : (s : Step) (u v : ℕ) (price : ℤ) (reply : Reply) → is_le (step_cmp s (record { u = u; v = v; cost = price })) ≡ true → ((c : ℤ) → reply ≡ DoneAt c → c ≡ price) → Some s ≡ lesser (Some s) (done_step u v reply)
kept_by s u v price (DoneAt c) up same =
    ap (λ (b : Bool). Some (cond b s (record { u = u; v = v; cost = c }))) (sym (ap (λ (x : ℤ). is_le (step_cmp s (record { u = u; v = v; cost = x }))) (same c refl) ∙ up))
kept_by s u v price (Unheld w) up same = refl
kept_by s u v price (Frozen w) up same = refl
kept_by s u v price Same up same = refl
kept_by s u v price Apart up same = refl
kept_by s u v price Border up same = refl
kept_by s u v price (Link w) up same = refl
kept_by s u v price Closed up same = refl
kept_by s u v price (Folds t) up same = refl
kept_by s u v price (Dear c) up same = refl
kept_by s u v price (Edge c d) up same = refl
kept_by s u v price Outside up same = refl
kept_by s u v price Done up same = refl
kept_by s u v price (Simplified steps left) up same = refl

-- where the best step isn't beaten by the price of a collapse, it stays
pub unbeaten : (inside : Point → Bool) (m : Mesh) (most : ℤ) (u v : ℕ) (best : Option Step) (step : Step) → step ≡ record { u = u; v = v; cost = cost m u v } → option_map_or (λ least. not (is_le (step_cmp least step))) best true ≡ false → best ≡ lesser best (done_step u v (collapse_verdict inside m u v most))
unbeaten inside m most u v None step is h = absurd (false≢true (sym h))
unbeaten inside m most u v (Some s) step is h =
    kept_by s u v (cost m u v) (collapse_verdict inside m u v most) (ap (λ (t : Step). is_le (step_cmp s t)) (sym is) ∙ not-false (is_le (step_cmp s step)) h) (λ c done. (can_collapse inside m u v most c done).costs)

-- the best step along the sides of one triangle more
pub best_more : (verdict_of : ℕ → ℕ → Reply) (ts : List Tri) (i : ℕ) (d : Tri) → i < length ts → best_of verdict_of (best_of verdict_of None (flat_map both_ways (take i ts))) (both_ways (get_or ts i d)) ≡ best_of verdict_of None (flat_map both_ways (take (i + 1) ts))
best_more verdict_of ts i d lt =
    sym (best_of-append verdict_of None (flat_map both_ways (take i ts)) (both_ways (get_or ts i d)))
    ∙ ap (best_of verdict_of None) (sym (flat_push (take i ts) (get_or ts i d)) ∙ ap (flat_map both_ways) (sym (take-suc ts i d lt)) ∙ ap (λ n. flat_map both_ways (take n ts)) (sym (add-one i)))
