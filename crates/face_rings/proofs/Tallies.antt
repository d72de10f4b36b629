-- How often directed edges come, and the faces that have them.
use Rattle.face_rings.proofs.Faces.{Apart, has_turns}
use Rattle.face_rings.proofs.Fans.{flat_from, flat_to}
use Rattle.face_rings.proofs.Members.{filter_from}
use Rattle.face_rings.proofs.Named.{Different, Unique}
use Rattle.face_rings.specs.Faces.{Face, Leads, Turns, tri, ◌∈◌}
use Rattle.oemm_lists.specs.Ascending.{in_order, inserted}
use Rattle.mesh_data.specs.Links.{has_both}
use Rattle.mesh_data.specs.Manifold.{IsEachEdgeOnce}
use Rattle.mesh_data.specs.Triangles.{IsProper, directed_edges, has_corner, same_edge, sides, tri_cmp, turned}
use Rattle.mesh_data.specs.declared.geometry.Edge.{Edge}
use Rattle.mesh_data.specs.declared.geometry.Tri.{Tri}
use Rattle.std.proofs.Common.{Bool, List, [], ap, arith, cond, false, filter, inl, inr, length, not, refl, subst, suc, sym, true, zero, ℕ, ◌++◌, ◌+◌, ◌∙◌, ◌∷◌, ◌≡◌, ◌≢◌, ◌≤◌, ◌⊎◌}
use Rattle.std.proofs.lemmas.Bool.{and_from, false≢true, not-true}
use Rattle.std.proofs.lemmas.Bool.Decides.{nat_tests}
use Rattle.std.specs.List.{AllByRecursion}
use Rattle.std.specs.Ordering.{is_le}
use Rattle.triangle_edits.proofs.Results.{turned_keeps}
use Rattle.triangle_lists.proofs.Counts.{often, often_is, one_if}
use Rattle.triangle_lists.proofs.EdgeSets.{same_edges}
use Rattle.triangle_lists.proofs.Walks.{same_itself, step}

-- ---- counts
-- how often in two lists, one behind the other
pub often-append : (p : Edge → Bool) (es ds : List Edge) → often p (es ++ ds) ≡ often p es + often p ds
often-append p [] ds = omega arith
often-append p (e ∷ es) ds = omega (arith, often-append p es ds)

-- what comes at all is a member, and the converse
pub some_often : (p : Edge → Bool) (es : List Edge) → 1 ≤ often p es → (d : Edge) × (d ∈ es) × (p d ≡ true)
some_often p [] h = absurd (omega (arith, h))
some_often p (e ∷ es) h =
    elim (p e) as (λ b. p e ≡ b → 1 ≤ one_if b + often p es → (d : Edge) × (d ∈ e ∷ es) × (p d ≡ true)) [
      | true ↦ λ is _. (e, inl refl, is)
      | false ↦ λ _ more. let r = some_often p es (omega (arith, more)) in (r.0, inr r.1, r.2)
    ] refl h

pub often_member : (p : Edge → Bool) (es : List Edge) (d : Edge) → d ∈ es → p d ≡ true → 1 ≤ often p es
often_member p [] d i h = absurd i
often_member p (e ∷ es) d (inl f) h = omega (arith, ap one_if (sym (ap p f) ∙ h))
often_member p (e ∷ es) d (inr j) h = omega (arith, often_member p es d j h)

-- a test that passes only where one of two does counts no more than both
one_at_most : (a b c : Bool) → (a ≡ true → (b ≡ true) ⊎ (c ≡ true)) → one_if a ≤ one_if b + one_if c
one_at_most true true c h = omega arith
one_at_most true false true h = omega arith
one_at_most true false false h = absurd (elim (h refl) [ inl e ↦ false≢true e | inr e ↦ false≢true e ])
one_at_most false b c h = omega arith

-- what passes one of two tests comes no more often than both
pub often_either : (p q r : Edge → Bool) → ((d : Edge) → p d ≡ true → (q d ≡ true) ⊎ (r d ≡ true)) → (es : List Edge) → often p es ≤ often q es + often r es
often_either p q r h [] = omega arith
often_either p q r h (e ∷ es) = omega (arith, one_at_most (p e) (q e) (r e) (h e), often_either p q r h es)

-- and what passes the stricter of two tests comes no more often
pub often_more : (p q : Edge → Bool) → ((d : Edge) → p d ≡ true → q d ≡ true) → (es : List Edge) → often p es ≤ often q es
often_more p q h [] = omega arith
often_more p q h (e ∷ es) = omega (arith, one_less (p e) (q e) (h e), often_more p q h es)
  where
    one_less : (a b : Bool) → (a ≡ true → b ≡ true) → one_if a ≤ one_if b
    one_less true true h = omega arith
    one_less true false h = absurd (false≢true (h refl))
    one_less false b h = omega arith

-- ---- counts over triangles
-- how many directed edges of these triangles pass
unfoldable pub tally : (Edge → Bool) → List Tri → ℕ
tally p ts = often p (directed_edges ts)

-- those of the first triangle, and the others
pub tally-cons : (p : Edge → Bool) (t : Tri) (ts : List Tri) → tally p (t ∷ ts) ≡ often p (sides t) + tally p ts
unfolding tally
tally-cons p t ts = often-append p (sides t) (directed_edges ts)

-- order changes no tally
tally-placed : (p : Edge → Bool) (t : Tri) (ts : List Tri) → tally p (inserted tri_cmp t ts) ≡ often p (sides t) + tally p ts
tally-placed p t [] = tally-cons p t []
tally-placed p t (s ∷ ss) =
    elim (is_le (tri_cmp t s)) as (λ b. tally p (cond b (t ∷ s ∷ ss) (s ∷ inserted tri_cmp t ss)) ≡ often p (sides t) + tally p (s ∷ ss)) [
      | true ↦ tally-cons p t (s ∷ ss)
      | false ↦ omega (arith, tally-cons p s (inserted tri_cmp t ss), tally-placed p t ss, tally-cons p s ss)
    ]

pub tally-in_order : (p : Edge → Bool) (ts : List Tri) → tally p (in_order tri_cmp ts) ≡ tally p ts
tally-in_order p [] = refl
tally-in_order p (t ∷ ts) = omega (arith, tally-placed p t (in_order tri_cmp ts), tally-in_order p ts, tally-cons p t ts)

-- nor does a turn
pub sides-turned : (p : Edge → Bool) (t : Tri) → often p (sides (turned t)) ≡ often p (sides t)
sides-turned p t =
    turned_keeps (λ s. often p (sides s) ≡ often p (sides t)) (λ s h. omega (arith, h)) t refl

-- the triangles without both names
abbrev pub kept_tris : ℕ → ℕ → List Tri → List Tri
kept_tris u v ts = filter (λ t. not (has_both u v t)) ts

-- fewer triangles have fewer edges
pub tally-filter : (p : Edge → Bool) (q : Tri → Bool) (ts : List Tri) → tally p (filter q ts) ≤ tally p ts
tally-filter p q [] = omega arith
tally-filter p q (t ∷ ts) =
    elim (q t) as (λ b. tally p (cond b (t ∷ filter q ts) (filter q ts)) ≤ tally p (t ∷ ts)) [
      | true ↦ omega (arith, tally-cons p t (filter q ts), tally-cons p t ts, tally-filter p q ts)
      | false ↦ omega (arith, tally-cons p t ts, tally-filter p q ts)
    ]

-- ---- edges and faces
-- a side of a triangle starts a turn of it, and the converse
side_turns : (t : Tri) (d : Edge) → d ∈ sides t → (c : ℕ) × Turns t d.a d.b c
side_turns t d (inl e) = (t.c, inl (ap (λ (f : Edge). tri f.a f.b t.c) (sym e)))
side_turns t d (inr (inl e)) = (t.a, inr (inr (ap (λ (f : Edge). tri t.a f.a f.b) (sym e))))
side_turns t d (inr (inr (inl e))) = (t.b, inr (inl (ap (λ (f : Edge). tri f.b t.b f.a) (sym e))))
side_turns t d (inr (inr (inr j))) = absurd j

turns_side : (t : Tri) (a b c : ℕ) → Turns t a b c → Leads a b (sides t)
turns_side t a b c (inl e) = inl (ap (λ (s : Tri). step s.a s.b) (sym e))
turns_side t a b c (inr (inl e)) = inr (inr (inl (ap (λ (s : Tri). step s.c s.a) (sym e))))
turns_side t a b c (inr (inr e)) = inr (inl (ap (λ (s : Tri). step s.b s.c) (sym e)))

-- an edge of the list has a face, and the converse
pub edge_face : (ts : List Tri) (d : Edge) → d ∈ directed_edges ts → (c : ℕ) × Face ts d.a d.b c
edge_face ts d i =
    let m = flat_from sides ts d i in
    let t = side_turns m.0 d m.2 in
    (t.0, (m.0, m.1, t.1))

pub face_edge : (ts : List Tri) (a b c : ℕ) → Face ts a b c → Leads a b (directed_edges ts)
face_edge ts a b c f = flat_to sides ts f.0 (step a b) f.1 (turns_side f.0 a b c f.2)

-- an edge that comes at all has a face, and the converse
pub tally_face : (ts : List Tri) (a b : ℕ) → 1 ≤ tally (same_edge (step a b)) ts → (c : ℕ) × Face ts a b c
unfolding tally
tally_face ts a b h =
    let some = some_often (same_edge (step a b)) (directed_edges ts) h in
    edge_face ts (step a b) (subst (λ (d : Edge). d ∈ directed_edges ts) (sym (same_edges (step a b) some.0 some.2)) some.1)

pub face_tally : (ts : List Tri) (a b c : ℕ) → Face ts a b c → 1 ≤ tally (same_edge (step a b)) ts
unfolding tally
face_tally ts a b c f = often_member (same_edge (step a b)) (directed_edges ts) (step a b) (face_edge ts a b c f) (same_itself (step a b))

-- ---- where no edge comes twice, one face has it
-- no directed edge comes twice
abbrev pub AreOnce : List Tri → Type 0
AreOnce ts = (e : Edge) → tally (same_edge e) ts ≤ 1

-- as the definition of manifolds says it
pub once_of : (ts : List Tri) → IsEachEdgeOnce ts → AreOnce ts
unfolding tally
once_of ts once e = omega (arith, often_is (same_edge e) (directed_edges ts), once e)

pub of_once : (ts : List Tri) → AreOnce ts → IsEachEdgeOnce ts
unfolding tally
of_once ts once e = omega (arith, often_is (same_edge e) (directed_edges ts), once e)

-- a triangle has one turn that starts with a and b
one_turn : (t : Tri) (a b c d : ℕ) → a ≢ b → Turns t a b c → Turns t a b d → c ≡ d
one_turn t a b c d n (inl e) (inl f) = ap (λ (s : Tri). s.c) (sym e ∙ f)
one_turn t a b c d n (inl e) (inr (inl f)) = absurd (n (ap (λ (s : Tri). s.a) (sym e ∙ f)))
one_turn t a b c d n (inl e) (inr (inr f)) = absurd (n (sym (ap (λ (s : Tri). s.b) (sym e ∙ f))))
one_turn t a b c d n (inr (inl e)) (inl f) = absurd (n (sym (ap (λ (s : Tri). s.a) (sym e ∙ f))))
one_turn t a b c d n (inr (inl e)) (inr (inl f)) = ap (λ (s : Tri). s.b) (sym e ∙ f)
one_turn t a b c d n (inr (inl e)) (inr (inr f)) = absurd (n (ap (λ (s : Tri). s.c) (sym e ∙ f)))
one_turn t a b c d n (inr (inr e)) (inl f) = absurd (n (ap (λ (s : Tri). s.b) (sym e ∙ f)))
one_turn t a b c d n (inr (inr e)) (inr (inl f)) = absurd (n (sym (ap (λ (s : Tri). s.c) (sym e ∙ f))))
one_turn t a b c d n (inr (inr e)) (inr (inr f)) = ap (λ (s : Tri). s.a) (sym e ∙ f)

-- the edge of a turn is a side
head_tally : (t : Tri) (ts : List Tri) (a b c : ℕ) → Turns t a b c → 1 ≤ often (same_edge (step a b)) (sides t)
head_tally t ts a b c turns = often_member (same_edge (step a b)) (sides t) (step a b) (turns_side t a b c turns) (same_itself (step a b))

-- an edge that comes once has one face
pub unique_of : (ts : List Tri) → Different ts → AreOnce ts → Unique ts
unique_of [] d once a b x y f g = absurd f.1
unique_of (t ∷ ts) d once a b x y f g =
    let e = step a b in
    let n = (d a b x f).0 in
    let sum = tally-cons (same_edge e) t ts in
    elim f.1 [
      | inl f_is ↦ elim g.1 [
        | inl g_is ↦ one_turn t a b x y n (subst (λ (s : Tri). Turns s a b x) f_is f.2) (subst (λ (s : Tri). Turns s a b y) g_is g.2)
        | inr g_on ↦ absurd (omega (arith, sum, once e, head_tally t ts a b x (subst (λ (s : Tri). Turns s a b x) f_is f.2), face_tally ts a b y (g.0, g_on, g.2)))
      ]
      | inr f_on ↦ elim g.1 [
        | inl g_is ↦ absurd (omega (arith, sum, once e, head_tally t ts a b y (subst (λ (s : Tri). Turns s a b y) g_is g.2), face_tally ts a b x (f.0, f_on, f.2)))
        | inr g_on ↦ unique_of ts (λ a b c h. d a b c (h.0, inr h.1, h.2)) (λ q. omega (arith, tally-cons (same_edge q) t ts, once q)) a b x y (f.0, f_on, f.2) (g.0, g_on, g.2)
      ]
    ]

-- ---- a kept face
-- and lacks one of the names
pub kept_face : (ts : List Tri) (u v a b c : ℕ) → Face (kept_tris u v ts) a b c → Face ts a b c × Apart u v a b c
kept_face ts u v a b c f =
    let k = filter_from (λ t. not (has_both u v t)) ts f.0 f.1 in
    ((f.0, k.0, f.2), λ i j. false≢true (sym (not-true (has_both u v f.0) k.1) ∙ and_from (has_corner u f.0) (has_corner v f.0) (has_turns u f.0 a b c f.2 i) (has_turns v f.0 a b c f.2 j)))

-- two that aren't there both
pub two_at_most : (a b : ℕ) → a ≤ 1 → b ≤ 1 → (1 ≤ a → 1 ≤ b → ⊥) → a + b ≤ 1
two_at_most zero b ha hb h = omega (arith, hb)
two_at_most (suc a) zero ha hb h = omega (arith, ha)
two_at_most (suc a) (suc b) ha hb h = absurd (h (omega arith) (omega arith))

-- one triangle has both names where one of the edges between them is its side
pub one_both : (u v : ℕ) (t : Tri) → u ≢ v → IsProper t → often (same_edge (step u v)) (sides t) + often (same_edge (step v u)) (sides t) ≡ one_if (has_both u v t)
one_both u v t uv proper =
    let ab : t.a ≢ t.b = proper.0 in
    let bc : t.b ≢ t.c = proper.1 in
    let ca : t.c ≢ t.a = proper.2 in
    grind (arith, nat_tests)

-- together they are as many triangles as have both names
pub tally_both : (u v : ℕ) (ts : List Tri) → u ≢ v → AllByRecursion IsProper ts → tally (same_edge (step u v)) ts + tally (same_edge (step v u)) ts ≡ length (filter (has_both u v) ts)
unfolding tally
tally_both u v [] uv proper = omega arith
tally_both u v (t ∷ ts) uv proper =
    let rest = tally_both u v ts uv proper.1 in
    let here = one_both u v t uv proper.0 in
    let one : length (filter (has_both u v) (t ∷ ts)) ≡ one_if (has_both u v t) + length (filter (has_both u v) ts) =
    elim (has_both u v t) as (λ b. length (cond b (t ∷ filter (has_both u v) ts) (filter (has_both u v) ts)) ≡ one_if b + length (filter (has_both u v) ts)) [ true ↦ omega arith | false ↦ omega arith ] in
    omega (arith, rest, here, one, tally-cons (same_edge (step u v)) t ts, tally-cons (same_edge (step v u)) t ts)
