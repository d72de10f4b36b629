-- Twice the number of undirected edges is that of the directed ones and the border, where no directed edge comes twice.
use Rattle.std.proofs.Common.{◌≡◌, ℕ, suc, ◌+◌, ◌*◌, ◌≤◌, Bool, true, false, cond, not, ◌&&◌, ◌||◌, eqb, ltb, List, [], ◌∷◌, map, length, sym, ap, ◌∙◌, refl, arith, inl, inr, ◌⊎◌}
use Rattle.std.proofs.lemmas.Bool.{false≢true, ltb-true, ltb-false, ne_eqb, or_cases, or_left, or_right, and_left, false_from_ne_true, le-ltb}
use Rattle.std.proofs.lemmas.List.Elements.{recursion_from_All}
use Rattle.std.proofs.lemmas.List.Sums.{length-filter}
use Rattle.std.specs.FinSet as set
use Rattle.std.specs.List.{filter, All, AllByRecursion}
use Rattle.mesh_data.specs.declared.geometry.Edge.{Edge}
use Rattle.mesh_data.specs.declared.geometry.Tri.{Tri}
use Rattle.mesh_data.specs.Manifold.{IsEachEdgeOnce}
use Rattle.mesh_data.specs.Rings.{has_path_edge}
use Rattle.mesh_data.specs.Triangles.{IsProper, edge_cmp, same_edge, reversed, undirected, undirected_edges, directed_edges, each_once, border_edges}
use Rattle.triangle_lists.proofs.Orders.{edge_cmp_total, edge_cmp-IsAntisymmetric}
use Rattle.triangle_lists.proofs.OnceLaws.{once_strict}
use Rattle.triangle_lists.proofs.EdgeSets.{same_edges, len-from_strict}
use Rattle.triangle_lists.proofs.Walks.{same_itself}
use Rattle.triangle_lists.proofs.RingLaws.{contains_step, len_of_one_more}
use Rattle.triangle_lists.proofs.RingTests.{has_path_edge-once}
use Rattle.triangle_lists.proofs.Paths.{eqb_comm}
use Rattle.triangle_lists.proofs.Candidates.{same_answers, and_comm}
use Rattle.triangle_lists.proofs.Counts.{often, one_if, often_is}

-- ---- an edge and its reverse

same_from : (d e : Edge) → d ≡ e → same_edge d e ≡ true
same_from d e is = ap (same_edge d) (sym is) ∙ same_itself d

undirected_cases : (e : Edge) → (undirected e ≡ e) ⊎ (undirected e ≡ reversed e)
undirected_cases e = elim (ltb e.b e.a) as (λ b. (cond b (reversed e) e ≡ e) ⊎ (cond b (reversed e) e ≡ reversed e)) [ true ↦ inr refl | false ↦ inl refl ]

undirected-reversed : (e : Edge) → undirected (reversed e) ≡ undirected e
undirected-reversed e =
    elim (ltb e.b e.a) as (λ b. ltb e.b e.a ≡ b → undirected (reversed e) ≡ cond b (reversed e) e) [
      | true ↦ λ h. let low = ltb-true e.b e.a h in ap (λ (b : Bool). cond b e (reversed e)) (le-ltb e.a e.b (omega arith))
      | false ↦ λ h.
          let high = ltb-false e.b e.a h in
          elim (ltb e.a e.b) as (λ b. ltb e.a e.b ≡ b → cond b e (reversed e) ≡ e) [
            | true ↦ λ _. refl
            | false ↦ λ g. let level = ltb-false e.a e.b g in let same : e.a ≡ e.b = omega arith in λ i. record { a = sym same i; b = same i }
          ] refl
    ] refl

-- two edges are the same undirected where one is the other or its reverse
same_undirected : (e f : Edge) → same_edge (undirected e) (undirected f) ≡ (same_edge e f || same_edge (reversed e) f)
same_undirected e f =
    same_answers (same_edge (undirected e) (undirected f)) (same_edge e f || same_edge (reversed e) f)
    (λ h.
    let is : undirected e ≡ undirected f = same_edges (undirected e) (undirected f) h in
    elim (undirected_cases e) [
      | inl e_is ↦ elim (undirected_cases f) [
        | inl f_is ↦ or_left (same_edge e f) (same_edge (reversed e) f) (same_from e f (sym e_is ∙ is ∙ f_is))
        | inr f_is ↦ or_right (same_edge e f) (same_edge (reversed e) f) (same_from (reversed e) f (ap reversed (sym e_is ∙ is ∙ f_is)))
      ]
      | inr e_is ↦ elim (undirected_cases f) [
        | inl f_is ↦ or_right (same_edge e f) (same_edge (reversed e) f) (same_from (reversed e) f (sym e_is ∙ is ∙ f_is))
        | inr f_is ↦ or_left (same_edge e f) (same_edge (reversed e) f) (same_from e f (ap reversed (sym e_is ∙ is ∙ f_is)))
      ]
    ])
    (λ h.
    elim (or_cases (same_edge e f) (same_edge (reversed e) f) h) [
      | inl it ↦ same_from (undirected e) (undirected f) (ap undirected (same_edges e f it))
      | inr turned ↦ same_from (undirected e) (undirected f) (sym (undirected-reversed e) ∙ ap undirected (same_edges (reversed e) f turned))
    ])

or_both : (a b c d : Bool) → ((a || b) || (c || d)) ≡ ((a || c) || (b || d))
or_both true true c d = refl
or_both true false true d = refl
or_both true false false d = refl
or_both false true true d = refl
or_both false true false d = refl
or_both false false c d = refl

has-undirected : (es : List Edge) (e : Edge) → has_path_edge (map undirected es) (undirected e) ≡ (has_path_edge es e || has_path_edge es (reversed e))
has-undirected [] e = refl
has-undirected (f ∷ es) e =
    (λ i. same_undirected e f i || has-undirected es e i) ∙ or_both (same_edge e f) (same_edge (reversed e) f) (has_path_edge es e) (has_path_edge es (reversed e))

-- ---- counts

often_agree : (p q : Edge → Bool) → ((e : Edge) → p e ≡ q e) → (es : List Edge) → often p es ≡ often q es
often_agree p q same [] = refl
often_agree p q same (e ∷ es) = λ i. one_if (same e i) + often_agree p q same es i

one_split : (a b : Bool) → one_if (not (a || b)) + one_if (a && not b) ≡ one_if (not b)
one_split true true = refl
one_split true false = refl
one_split false true = refl
one_split false false = refl

often_split : (p q : Edge → Bool) (es : List Edge) → often (λ e. not (p e || q e)) es + often (λ e. p e && not (q e)) es ≡ often (λ e. not (q e)) es
often_split p q [] = refl
often_split p q (e ∷ es) = omega (arith, one_split (p e) (q e), often_split p q es)

often_none : (q : Edge) (es : List Edge) → has_path_edge es q ≡ false → often (same_edge q) es ≡ 0
often_none q [] h = refl
often_none q (e ∷ es) h =
    elim (same_edge q e) as (λ b. (b || has_path_edge es q) ≡ false → one_if b + often (same_edge q) es ≡ 0) [ true ↦ λ g. absurd (false≢true (sym g)) | false ↦ λ g. omega (arith, often_none q es g) ] h

often_some : (q : Edge) (es : List Edge) → has_path_edge es q ≡ true → 1 ≤ often (same_edge q) es
often_some q [] h = absurd (false≢true h)
often_some q (e ∷ es) h =
    elim (same_edge q e) as (λ b. (b || has_path_edge es q) ≡ true → 1 ≤ one_if b + often (same_edge q) es) [ true ↦ λ g. omega arith | false ↦ λ g. omega (arith, often_some q es g) ] h

-- no edge comes twice
abbrev pub AreOnce : List Edge → Type 0
AreOnce es = (q : Edge) → often (same_edge q) es ≤ 1

once_tail : (e : Edge) (es : List Edge) → AreOnce (e ∷ es) → AreOnce es
once_tail e es once q = omega (arith, once q)

once_head : (e : Edge) (es : List Edge) → AreOnce (e ∷ es) → has_path_edge es e ≡ false
once_head e es once =
    false_from_ne_true (has_path_edge es e) (λ h. omega (arith, once e, ap one_if (same_itself e), often_some e es h))

-- ---- the law on a list of edges

abbrev IsLoopless : Edge → Type 0
IsLoopless e = e.a ≡ e.b → ⊥

abbrev undirected_count : List Edge → ℕ
undirected_count es = set.len (set.from_list {R = edge_cmp} (map undirected es))

-- the edge's reverse is not among these
abbrev is_lone : List Edge → Edge → Bool
is_lone es e = not (has_path_edge es (reversed e))

same_reversed : (f e : Edge) → same_edge (reversed f) e ≡ same_edge (reversed e) f
same_reversed f e = (λ i. eqb_comm f.b e.a i && eqb_comm f.a e.b i) ∙ and_comm (eqb e.a f.b) (eqb e.b f.a)

-- where e is new, the edges that it keeps from being lone are its reverse
lone_taken : (e : Edge) (es : List Edge) → has_path_edge es e ≡ false → (f : Edge) → (same_edge (reversed f) e && not (has_path_edge es (reversed f))) ≡ same_edge (reversed e) f
lone_taken e es new f =
    elim (same_edge (reversed f) e) as (λ b. same_edge (reversed f) e ≡ b → (b && not (has_path_edge es (reversed f))) ≡ b) [
      | true ↦ λ is. ap not (ap (has_path_edge es) (same_edges (reversed f) e is) ∙ new)
      | false ↦ λ _. refl
    ] refl
    ∙ same_reversed f e

lone_more : (e : Edge) (es : List Edge) → has_path_edge es e ≡ false → often (is_lone (e ∷ es)) es + often (same_edge (reversed e)) es ≡ often (is_lone es) es
lone_more e es new =
    let split = often_split (λ f. same_edge (reversed f) e) (λ f. has_path_edge es (reversed f)) es in
    let taken = often_agree (λ f. same_edge (reversed f) e && not (has_path_edge es (reversed f))) (same_edge (reversed e)) (lone_taken e es new) es in
    omega (arith, split, taken)

lone_itself : (e : Edge) (es : List Edge) → IsLoopless e → is_lone (e ∷ es) e ≡ not (has_path_edge es (reversed e))
lone_itself e es no_loop = ap (λ (b : Bool). not (b || has_path_edge es (reversed e))) (and_left (eqb e.b e.a) (eqb e.a e.b) (ne_eqb e.b e.a (λ h. no_loop (sym h))))

count_more : (e : Edge) (es : List Edge) → has_path_edge es e ≡ false → undirected_count (e ∷ es) ≡ cond (has_path_edge es (reversed e)) (undirected_count es) (undirected_count es + 1)
count_more e es new =
    let s = set.from_list {R = edge_cmp} (map undirected es) in
    set.len-insert edge_cmp_total s (undirected e) ∙ ap (λ (b : Bool). cond b (set.len s) (set.len s + 1)) (contains_step (map undirected es) (undirected e) ∙ has-undirected es e ∙ ap (λ (b : Bool). b || has_path_edge es (reversed e)) new)

balance_step : (known : Bool) (u v n b c own rest : ℕ) → 2 * u ≡ n + b → v ≡ cond known u (u + 1) → own ≡ one_if (not known) → rest + c ≡ b → c ≡ one_if known → 2 * v ≡ suc n + (own + rest)
balance_step true u v n b c own rest law grown first split taken = omega arith
balance_step false u v n b c own rest law grown first split taken = omega arith

taken_is : (e : Edge) (es : List Edge) → AreOnce es → often (same_edge (reversed e)) es ≡ one_if (has_path_edge es (reversed e))
taken_is e es once =
    elim (has_path_edge es (reversed e)) as (λ b. has_path_edge es (reversed e) ≡ b → often (same_edge (reversed e)) es ≡ one_if b) [ true ↦ λ h. omega (arith, often_some (reversed e) es h, once (reversed e)) | false ↦ λ h. often_none (reversed e) es h ] refl

balance : (es : List Edge) → AllByRecursion IsLoopless es → AreOnce es → 2 * undirected_count es ≡ length es + often (is_lone es) es
balance [] loopless once = omega (arith, set.len-empty edge_cmp)
balance (e ∷ es) loopless once =
    let new = once_head e es once in
    let rest = once_tail e es once in
    balance_step (has_path_edge es (reversed e)) (undirected_count es) (undirected_count (e ∷ es)) (length es) (often (is_lone es) es) (often (same_edge (reversed e)) es) (one_if (is_lone (e ∷ es) e)) (often (is_lone (e ∷ es)) es) (balance es loopless.1 rest) (count_more e es new) (ap one_if (lone_itself e es loopless.0)) (lone_more e es new) (taken_is e es rest)

-- ---- the border and the triangles

often-filter : (q p : Edge → Bool) (es : List Edge) → often q (filter p es) ≤ often q es
often-filter q p [] = omega arith
often-filter q p (e ∷ es) =
    elim (p e) as (λ b. often q (cond b (e ∷ filter p es) (filter p es)) ≤ one_if (q e) + often q es) [ true ↦ omega (arith, often-filter q p es) | false ↦ omega (arith, often-filter q p es) ]

len_once : (es : List Edge) → AreOnce es → set.len (set.from_list {R = edge_cmp} es) ≡ length es
len_once [] once = set.len-empty edge_cmp
len_once (e ∷ es) once = omega (arith, len_of_one_more e es (once_head e es once), len_once es (once_tail e es once))

-- where no edge comes twice, to put them in order and keep each once keeps all
length-each_once : (es : List Edge) → AreOnce es → length (each_once es) ≡ length es
length-each_once es once =
    sym (len-from_strict (each_once es) (once_strict es))
    ∙ ap set.len (set.same_set edge_cmp_total edge_cmp-IsAntisymmetric (set.from_list (each_once es)) (set.from_list es) (λ q. contains_step (each_once es) q ∙ has_path_edge-once es q ∙ sym (contains_step es q)))
    ∙ len_once es once

sides_loopless : (ts : List Tri) → AllByRecursion IsProper ts → AllByRecursion IsLoopless (directed_edges ts)
sides_loopless [] h = tt
sides_loopless (t ∷ ts) h = (h.0.0, (h.0.1, (h.0.2, sides_loopless ts h.1)))

length-sides : (ts : List Tri) → length (directed_edges ts) ≡ 3 * length ts
length-sides [] = refl
length-sides (t ∷ ts) = omega (arith, length-sides ts)

pub edges_balance : (ts : List Tri) → All IsProper ts → IsEachEdgeOnce ts → 2 * set.len (undirected_edges ts) ≡ 3 * length ts + length (border_edges ts)
edges_balance ts proper once =
    let es = directed_edges ts in
    let each : AreOnce es = λ q. omega (arith, often_is (same_edge q) es, once q) in
    let lone = filter (is_lone es) es in
    let lone_once : AreOnce lone = λ q. omega (arith, often-filter (same_edge q) (is_lone es) es, each q) in
    let all = balance es (sides_loopless ts (recursion_from_All IsProper ts proper)) each in
    let border : length (border_edges ts) ≡ often (is_lone es) es = length-each_once lone lone_once ∙ length-filter (is_lone es) es ∙ sym (often_is (is_lone es) es) in
    omega (arith, all, border, length-sides ts)
