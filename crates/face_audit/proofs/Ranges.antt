-- The triangles that have a corner in a range of names have, of the names of the range, all edges, links and border edges.
use Rattle.std.proofs.Common.{◌≡◌, ℕ, ◌+◌, ◌*◌, ◌<◌, ◌≤◌, Bool, true, false, cond, not, ◌&&◌, ◌||◌, eqb, ltb, leb, List, [], ◌∷◌, ◌++◌, map, length, get_or, sym, ap, ◌∙◌, refl, subst, arith, inl, inr}
use Rattle.std.proofs.lemmas.Bool.{false≢true, both_ways, false_from_ne_true, leb-true, ltb-true, le-leb, lt-ltb, le-ltb, lt-leb, and_parts, and_from, or_left, or_right, or_cases, cases_lt, eqb-true}
use Rattle.std.proofs.lemmas.List.Elements.{recursion_from_All, All-from_recursion, All-contains, Contains-get_or}
use Rattle.std.proofs.lemmas.List.Kept.{IsStrictlySortedBy-filter}
use Rattle.std.proofs.lemmas.List.Sums.{length-filter, count_by-le-length}
use Rattle.std.proofs.lemmas.Map.Views.{any-filter_same}
use Rattle.std.specs.List.{list_any, filter, flat_map, count_by, AllByRecursion, All}
use Rattle.std.specs.FinSet as set
use Rattle.mesh_data.specs.declared.geometry.Edge.{Edge}
use Rattle.mesh_data.specs.declared.geometry.Tri.{Tri}
use Rattle.mesh_data.specs.Manifold.{times, is_corner, HasRing}
use Rattle.mesh_data.specs.Rings.{from_each_corner, link, has_path_edge, IsRingOf}
use Rattle.mesh_data.specs.Triangles.{IsBelow, edge_cmp, same_edge, reversed, sides, directed_edges, has_corner, has_edge, each_once, border_edges}
use Rattle.triangle_lists.specs.Links.{behind_all}
use Rattle.triangle_lists.proofs.Counts.{often, one_if, often_is}
use Rattle.triangle_lists.proofs.EdgeSets.{same_edges, len-from_strict}
use Rattle.triangle_lists.proofs.Links.{behind_all-append, link_is}
use Rattle.triangle_lists.proofs.OnceLaws.{once_strict, border_has}
use Rattle.triangle_lists.proofs.Orders.{edge_cmp_total, edge_cmp-IsAntisymmetric}
use Rattle.triangle_lists.proofs.RingLaws.{contains_step}
use Rattle.triangle_lists.proofs.RingTests.{same_strict, has_path_edge-once}
use Rattle.face_audit.specs.Parts.{is_within, touches, part, count_within, border_below}
use Rattle.face_audit.proofs.Lists.{any_sides, times_often, sides_below}

-- ---- ranges

pub within_is : (low high v : ℕ) → low ≤ v → v < high → is_within low high v ≡ true
within_is low high v above below = and_from (leb low v) (ltb v high) (le-leb low v above) (lt-ltb v high below)

pub within_low : (low high v : ℕ) → is_within low high v ≡ true → low ≤ v
within_low low high v is = leb-true low v (and_parts (leb low v) (ltb v high) is).0

pub within_high : (low high v : ℕ) → is_within low high v ≡ true → v < high
within_high low high v is = ltb-true v high (and_parts (leb low v) (ltb v high) is).1

touch_a : (low high : ℕ) (t : Tri) → is_within low high t.a ≡ true → touches low high t ≡ true
touch_a low high t is = or_left (is_within low high t.a || is_within low high t.b) (is_within low high t.c) (or_left (is_within low high t.a) (is_within low high t.b) is)

touch_b : (low high : ℕ) (t : Tri) → is_within low high t.b ≡ true → touches low high t ≡ true
touch_b low high t is = or_left (is_within low high t.a || is_within low high t.b) (is_within low high t.c) (or_right (is_within low high t.a) (is_within low high t.b) is)

touch_c : (low high : ℕ) (t : Tri) → is_within low high t.c ≡ true → touches low high t ≡ true
touch_c low high t is = or_right (is_within low high t.a || is_within low high t.b) (is_within low high t.c) is

-- ---- corners

corner_touches : (low high v : ℕ) (t : Tri) → is_within low high v ≡ true → has_corner v t ≡ true → touches low high t ≡ true
corner_touches low high v t here has =
    let at : (w : ℕ) → eqb w v ≡ true → is_within low high w ≡ true = λ w same. ap (is_within low high) (eqb-true w v same) ∙ here in
    elim (or_cases (eqb t.a v || eqb t.b v) (eqb t.c v) has) [
      | inl ab ↦ elim (or_cases (eqb t.a v) (eqb t.b v) ab) [
        | inl a ↦ touch_a low high t (at t.a a)
        | inr b ↦ touch_b low high t (at t.b b)
      ]
      | inr c ↦ touch_c low high t (at t.c c)
    ]

pub corner_part : (low high v : ℕ) (ts : List Tri) → is_within low high v ≡ true → is_corner (part low high ts) v ≡ is_corner ts v
corner_part low high v ts here = any-filter_same (has_corner v) (touches low high) true (λ t has. corner_touches low high v t here has) ts

-- ---- edges that begin or end in the range

-- one end of the edge lies in the range
abbrev pub meets : ℕ → ℕ → Edge → Bool
meets low high e = is_within low high e.a || is_within low high e.b

-- a side of the triangle that meets the range makes it touch the range
side_touches : (low high : ℕ) (t : Tri) (e : Edge) → meets low high e ≡ true → list_any (same_edge e) (sides t) ≡ true → touches low high t ≡ true
side_touches low high t e here has =
    let ab : Edge = record { a = t.a; b = t.b } in
    let bc : Edge = record { a = t.b; b = t.c } in
    let ca : Edge = record { a = t.c; b = t.a } in
    let at : (d : Edge) → same_edge e d ≡ true → meets low high d ≡ true = λ d same. ap (meets low high) (sym (same_edges e d same)) ∙ here in
    elim (or_cases (same_edge e ab) (same_edge e bc || (same_edge e ca || false)) has) [
      | inl one ↦ elim (or_cases (is_within low high t.a) (is_within low high t.b) (at ab one)) [ inl a ↦ touch_a low high t a | inr b ↦ touch_b low high t b ]
      | inr rest ↦ elim (or_cases (same_edge e bc) (same_edge e ca || false) rest) [
        | inl two ↦ elim (or_cases (is_within low high t.b) (is_within low high t.c) (at bc two)) [ inl b ↦ touch_b low high t b | inr c ↦ touch_c low high t c ]
        | inr last ↦ elim (or_cases (same_edge e ca) false last) [
          | inl three ↦ elim (or_cases (is_within low high t.c) (is_within low high t.a) (at ca three)) [ inl c ↦ touch_c low high t c | inr a ↦ touch_a low high t a ]
          | inr none ↦ absurd (false≢true none)
        ]
      ]
    ]

has_part : (low high : ℕ) (ts : List Tri) (e : Edge) → meets low high e ≡ true → has_edge (part low high ts) e ≡ has_edge ts e
has_part low high ts e here =
    any_sides (same_edge e) (part low high ts)
    ∙ any-filter_same (λ t. list_any (same_edge e) (sides t)) (touches low high) true (λ t has. side_touches low high t e here has) ts
    ∙ sym (any_sides (same_edge e) ts)

-- how often e is a side of the triangle
abbrev often_side : Edge → Tri → ℕ
often_side e t = one_if (same_edge e (record { a = t.a; b = t.b })) + (one_if (same_edge e (record { a = t.b; b = t.c })) + one_if (same_edge e (record { a = t.c; b = t.a })))

no_side : (low high : ℕ) (t : Tri) (e : Edge) → meets low high e ≡ true → touches low high t ≡ false → often_side e t ≡ 0
no_side low high t e here out =
    let at : (d : Edge) → (meets low high d ≡ true → touches low high t ≡ true) → one_if (same_edge e d) ≡ 0 = λ d touch.
    ap one_if (false_from_ne_true (same_edge e d) (λ same. both_ways (touches low high t) out (touch (ap (meets low high) (sym (same_edges e d same)) ∙ here)))) in
    omega (
      arith,
      at (record { a = t.a; b = t.b }) (λ m. elim (or_cases (is_within low high t.a) (is_within low high t.b) m) [ inl a ↦ touch_a low high t a | inr b ↦ touch_b low high t b ]),
      at (record { a = t.b; b = t.c }) (λ m. elim (or_cases (is_within low high t.b) (is_within low high t.c) m) [ inl b ↦ touch_b low high t b | inr c ↦ touch_c low high t c ]),
      at (record { a = t.c; b = t.a }) (λ m. elim (or_cases (is_within low high t.c) (is_within low high t.a) m) [ inl c ↦ touch_c low high t c | inr a ↦ touch_a low high t a ]),
    )

often_part : (low high : ℕ) (ts : List Tri) (e : Edge) → meets low high e ≡ true → often (same_edge e) (directed_edges (part low high ts)) ≡ often (same_edge e) (directed_edges ts)
often_part low high [] e here = refl
often_part low high (t ∷ ts) e here =
    elim (touches low high t) as (λ b. touches low high t ≡ b → often (same_edge e) (directed_edges (cond b (t ∷ part low high ts) (part low high ts))) ≡ often (same_edge e) (directed_edges (t ∷ ts))) [
      | true ↦ λ _. omega (arith, often_part low high ts e here)
      | false ↦ λ out. omega (arith, often_part low high ts e here, no_side low high t e here out)
    ] refl

-- an edge that meets the range is as often in the part as in all
pub times_part : (low high : ℕ) (ts : List Tri) (e : Edge) → is_within low high e.a ≡ true → times (part low high ts) e ≡ times ts e
times_part low high ts e here =
    times_often (part low high ts) e ∙ often_part low high ts e (or_left (is_within low high e.a) (is_within low high e.b) here) ∙ sym (times_often ts e)

often_fewer : (low high : ℕ) (ts : List Tri) (e : Edge) → often (same_edge e) (directed_edges (part low high ts)) ≤ often (same_edge e) (directed_edges ts)
often_fewer low high [] e = omega arith
often_fewer low high (t ∷ ts) e =
    elim (touches low high t) as (λ b. often (same_edge e) (directed_edges (cond b (t ∷ part low high ts) (part low high ts))) ≤ often (same_edge e) (directed_edges (t ∷ ts))) [
      | true ↦ omega (arith, often_fewer low high ts e)
      | false ↦ omega (arith, often_fewer low high ts e)
    ]

-- and no edge is more often in the part
pub times_fewer : (low high : ℕ) (ts : List Tri) (e : Edge) → times (part low high ts) e ≤ times ts e
times_fewer low high ts e = omega (arith, times_often (part low high ts) e, times_often ts e, often_fewer low high ts e)

-- ---- links

none_behind : (v : ℕ) (t : Tri) → eqb t.a v ≡ false → eqb t.b v ≡ false → eqb t.c v ≡ false → behind_all v (from_each_corner t) ≡ []
none_behind v t not_a not_b not_c = λ i.
    let t2 : Tri = record { a = t.b; b = t.c; c = t.a } in
    let t3 : Tri = record { a = t.c; b = t.a; c = t.b } in
    let last : List Tri = cond (not_c i) (t3 ∷ []) [] in
    let later : List Tri = cond (not_b i) (t2 ∷ last) last in
    map (λ (s : Tri). let e : Edge = record { a = s.b; b = s.c } in e) (cond (not_a i) (t ∷ later) later)

untouched : (low high v : ℕ) (t : Tri) → is_within low high v ≡ true → touches low high t ≡ false → behind_all v (from_each_corner t) ≡ []
untouched low high v t here out =
    let no : (w : ℕ) → (is_within low high w ≡ true → touches low high t ≡ true) → eqb w v ≡ false = λ w touch.
    false_from_ne_true (eqb w v) (λ same. both_ways (touches low high t) out (touch (ap (is_within low high) (eqb-true w v same) ∙ here))) in
    none_behind v t (no t.a (touch_a low high t)) (no t.b (touch_b low high t)) (no t.c (touch_c low high t))

behind_part : (low high v : ℕ) (ts : List Tri) → is_within low high v ≡ true → behind_all v (flat_map from_each_corner (part low high ts)) ≡ behind_all v (flat_map from_each_corner ts)
behind_part low high v [] here = refl
behind_part low high v (t ∷ ts) here =
    let rest = behind_part low high v ts here in
    let all = behind_all-append v (from_each_corner t) (flat_map from_each_corner ts) in
    elim (touches low high t) as (λ b. touches low high t ≡ b → behind_all v (flat_map from_each_corner (cond b (t ∷ part low high ts) (part low high ts))) ≡ behind_all v (from_each_corner t ++ flat_map from_each_corner ts)) [
      | true ↦ λ _. behind_all-append v (from_each_corner t) (flat_map from_each_corner (part low high ts)) ∙ ap (λ es. behind_all v (from_each_corner t) ++ es) rest ∙ sym all
      | false ↦ λ out. rest ∙ sym (all ∙ ap (λ es. es ++ behind_all v (flat_map from_each_corner ts)) (untouched low high v t here out))
    ] refl

link_part : (low high v : ℕ) (ts : List Tri) → is_within low high v ≡ true → link v (part low high ts) ≡ link v ts
link_part low high v ts here = link_is v (part low high ts) ∙ behind_part low high v ts here ∙ sym (link_is v ts)

pub ring_of_part : (low high v : ℕ) (ts : List Tri) → is_within low high v ≡ true → HasRing (part low high ts) v → HasRing ts v
ring_of_part low high v ts here has = (has.0, subst (λ es. IsRingOf es has.0) (link_part low high v ts here) has.1)

pub ring_in_part : (low high v : ℕ) (ts : List Tri) → is_within low high v ≡ true → HasRing ts v → HasRing (part low high ts) v
ring_in_part low high v ts here has = (has.0, subst (λ es. IsRingOf es has.0) (sym (link_part low high v ts here)) has.1)

-- ---- the border

abbrev is_lone : List Tri → Edge → Bool
is_lone ts e = not (has_edge ts (reversed e))

border_test : (ts : List Tri) (q : Edge) → has_path_edge (border_edges ts) q ≡ (is_lone ts q && has_edge ts q)
border_test ts q =
    has_path_edge-once (filter (is_lone ts) (directed_edges ts)) q
    ∙ any-filter_same (same_edge q) (is_lone ts) (is_lone ts q) (λ d same. ap (is_lone ts) (sym (same_edges q d same))) (directed_edges ts)

begins : (low high : ℕ) (es : List Edge) (q : Edge) → has_path_edge (filter (λ e. is_within low high e.a) es) q ≡ (is_within low high q.a && has_path_edge es q)
begins low high es q = any-filter_same (same_edge q) (λ e. is_within low high e.a) (is_within low high q.a) (λ d same. ap (λ (e : Edge). is_within low high e.a) (sym (same_edges q d same))) es

same_test : (low high : ℕ) (ts : List Tri) (q : Edge) → (is_within low high q.a && has_path_edge (border_edges (part low high ts)) q) ≡ (is_within low high q.a && has_path_edge (border_edges ts) q)
same_test low high ts q =
    elim (is_within low high q.a) as (λ b. is_within low high q.a ≡ b → (b && has_path_edge (border_edges (part low high ts)) q) ≡ (b && has_path_edge (border_edges ts) q)) [
      | true ↦ λ here.
          border_test (part low high ts) q
          ∙ (λ i. not (has_part low high ts (reversed q) (or_right (is_within low high q.b) (is_within low high q.a) here) i) && has_part low high ts q (or_left (is_within low high q.a) (is_within low high q.b) here) i)
          ∙ sym (border_test ts q)
      | false ↦ λ _. refl
    ] refl

-- the border edges that begin in the range are those of the part
border_part : (low high : ℕ) (ts : List Tri) → filter (λ e. is_within low high e.a) (border_edges (part low high ts)) ≡ filter (λ e. is_within low high e.a) (border_edges ts)
border_part low high ts =
    let s : Edge → Bool = λ e. is_within low high e.a in
    let up : (us : List Tri) → _ = λ us. IsStrictlySortedBy-filter edge_cmp s (border_edges us) (once_strict (filter (is_lone us) (directed_edges us))) in
    same_strict (filter s (border_edges (part low high ts))) (filter s (border_edges ts)) (up (part low high ts)) (up ts) (λ q. begins low high (border_edges (part low high ts)) q ∙ same_test low high ts q ∙ sym (begins low high (border_edges ts) q))

one_more : (low high v : ℕ) → low ≤ high → one_if (ltb v low) + one_if (is_within low high v) ≡ one_if (ltb v high)
one_more low high v le =
    elim (cases_lt v low) [
      | inl below ↦ omega (arith, ap one_if (lt-ltb v low below), ap (λ b. one_if (b && ltb v high)) (lt-leb low v below), ap one_if (lt-ltb v high (omega (arith, below, le))))
      | inr above ↦ omega (arith, ap one_if (le-ltb v low above), ap (λ b. one_if (b && ltb v high)) (le-leb low v above))
    ]

often_more : (low high : ℕ) (es : List Edge) → low ≤ high → often (λ e. ltb e.a low) es + often (λ e. is_within low high e.a) es ≡ often (λ e. ltb e.a high) es
often_more low high [] le = refl
often_more low high (e ∷ es) le = omega (arith, one_more low high e.a le, often_more low high es le)

-- those that the part counts come to those below it
pub border_more : (low high : ℕ) (ts : List Tri) → low ≤ high → border_below low ts + count_within low high (border_edges (part low high ts)) ≡ border_below high ts
border_more low high ts le =
    let s : Edge → Bool = λ e. is_within low high e.a in
    let es = border_edges ts in
    let here : count_by s (border_edges (part low high ts)) ≡ count_by s es = sym (length-filter s (border_edges (part low high ts))) ∙ ap length (border_part low high ts) ∙ length-filter s es in
    omega (arith, here, often_is (λ e. ltb e.a low) es, often_is (λ e. ltb e.a high) es, often_is s es, often_more low high es le)

none_below : (es : List Edge) → often (λ e. ltb e.a 0) es ≡ 0
none_below [] = refl
none_below (e ∷ es) = omega (arith, ap one_if (le-ltb e.a 0 (omega arith)), none_below es)

pub border_from_none : (ts : List Tri) → border_below 0 ts ≡ 0
border_from_none ts = sym (often_is (λ e. ltb e.a 0) (border_edges ts)) ∙ none_below (border_edges ts)

all_below : (n : ℕ) (es : List Edge) → AllByRecursion (λ e. e.a < n) es → often (λ e. ltb e.a n) es ≡ length es
all_below n [] below = refl
all_below n (e ∷ es) below = omega (arith, ap one_if (lt-ltb e.a n below.0), all_below n es below.1)

starts_below : (n : ℕ) (ts : List Tri) → All (IsBelow n) ts → AllByRecursion (λ e. e.a < n) (border_edges ts)
starts_below n ts below =
    let es = directed_edges ts in
    let sides_all : All (λ e. e.a < n) es = All-from_recursion (λ e. e.a < n) es (sides_below n ts (recursion_from_All (IsBelow n) ts below)) in
    recursion_from_All (λ e. e.a < n) (border_edges ts) (λ k d lt.
    All-contains (λ e. e.a < n) es (get_or (border_edges ts) k d) sides_all ((border_has ts (get_or (border_edges ts) k d)).0 (Contains-get_or (border_edges ts) k d lt)).0)

-- and below all names they are the border
pub border_all : (n : ℕ) (ts : List Tri) → All (IsBelow n) ts → border_below n ts ≡ length (border_edges ts)
border_all n ts below = sym (often_is (λ e. ltb e.a n) (border_edges ts)) ∙ all_below n (border_edges ts) (starts_below n ts below)

-- ---- how long the border is

set_few : (es : List Edge) → set.len (set.from_list {R = edge_cmp} es) ≤ length es
set_few [] = omega (arith, set.len-empty edge_cmp)
set_few (e ∷ es) =
    let s = set.from_list {R = edge_cmp} es in
    elim (set.contains s e) as (λ b. set.len (set.from_list {R = edge_cmp} (e ∷ es)) ≡ cond b (set.len s) (set.len s + 1) → set.len (set.from_list {R = edge_cmp} (e ∷ es)) ≤ length (e ∷ es)) [
      | true ↦ λ grown. omega (arith, grown, set_few es)
      | false ↦ λ grown. omega (arith, grown, set_few es)
    ] (set.len-insert edge_cmp_total s e)

once_few : (es : List Edge) → length (each_once es) ≤ length es
once_few es =
    let same : length (each_once es) ≡ set.len (set.from_list {R = edge_cmp} es) =
    sym (len-from_strict (each_once es) (once_strict es))
    ∙ ap set.len (set.same_set edge_cmp_total edge_cmp-IsAntisymmetric (set.from_list (each_once es)) (set.from_list es) (λ q. contains_step (each_once es) q ∙ has_path_edge-once es q ∙ sym (contains_step es q))) in
    omega (arith, same, set_few es)

sides_few : (ts : List Tri) → length (directed_edges ts) ≡ 3 * length ts
sides_few [] = refl
sides_few (t ∷ ts) = omega (arith, sides_few ts)

pub border_fits : (ts : List Tri) → length (border_edges ts) ≤ 3 * length ts
border_fits ts =
    let es = directed_edges ts in
    omega (arith, once_few (filter (is_lone ts) es), length-filter (is_lone ts) es, count_by-le-length (is_lone ts) es, sides_few ts)

pub border_few : (n : ℕ) (ts : List Tri) → border_below n ts ≤ 3 * length ts
border_few n ts = omega (arith, count_by-le-length (λ e. ltb e.a n) (border_edges ts), border_fits ts)
