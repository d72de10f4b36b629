-- Half-edges made of more and more triangles.
use Rattle.std.proofs.Common.{◌≡◌, ◌≢◌, ◌⊎◌, ℕ, zero, suc, ◌+◌, ◌<◌, ◌≤◌, Bool, true, false, cond, ◌||◌, eqb, List, []}
use Rattle.std.proofs.Common.{◌∷◌, ◌++◌, map, length, take, drop, get_or, set, count_by, Option, Some, None, sym, ap}
use Rattle.std.proofs.Common.{◌∙◌, refl, subst, arith, inl, inr}
use Rattle.std.proofs.lemmas.Bool.{false≢true, eq-eqb, cases_eq, and_from, or_cases, or_left, or_right}
use Rattle.std.proofs.lemmas.List.{get_or-set_same, get_or-set_other, get_or_past, take_more, drop_more, take_all}
use Rattle.std.proofs.lemmas.List.{take-append-drop}
use Rattle.std.proofs.lemmas.List.Sums.{sum_by-cons, sum_by-append}
use Rattle.std.specs.BTreeMap.{BTreeMap, is_at}
use Rattle.std.specs.Map.{lookup}
use Rattle.std.specs.List.{flat_map, list_any}
use Rattle.mesh_data.specs.declared.geometry.Tri.{Tri}
use Rattle.mesh_data.specs.declared.geometry.Edge.{Edge}
use Rattle.oemm_lists.specs.Ascending.{in_order}
use Rattle.mesh_data.specs.Manifold.{IsEachEdgeOnce, times}
use Rattle.mesh_data.specs.Triangles.{IsProper, same_edge, sides, directed_edges, turned, tri_cmp, edge_cmp}
use Rattle.triangle_lists.proofs.Sorting.{weight}
use Rattle.half_edge.specs.declared.surgery.Half.{Half}
use Rattle.half_edge.specs.Halves.{Slots, at, IsTwin, led_face, faces_of}
use Rattle.half_edge.specs.Built.{Built}
use Rattle.half_edge.specs.Building.{Tells, IsNew, Added, IsAdded}
use Rattle.half_edge.proofs.Adding.{which, at_k, at_l, at_m, at_old, none_after, sound_added}
use Rattle.half_edge.proofs.Leads.{weight_slots, led_same, in_order_alike, weight_map}

abbrev edge : ℕ → ℕ → Edge
edge a b = record { a = a; b = b }

abbrev has : List Tri → ℕ → ℕ → Bool
has ts a b = list_any (same_edge (edge a b)) (directed_edges ts)

-- ---- one triangle more

weight_added : (s r : Slots) (t : Tri) (x : Added) → IsAdded s r t x → (g : Tri → ℕ) →
    weight g (flat_map led_face r) ≡ weight g (flat_map led_face s) + g t
weight_added s r t x is g =
    let here = at_k s r t x is in
    let within : x.k < length r = inside here in
    let emptied = weight_slots g r x.k in
    let one : weight g (led_face (at r x.k)) ≡ g t + 0 = ap (λ (o : Option Half). weight g (led_face o)) here in
    let rest : weight g (flat_map led_face (set r x.k None)) ≡ weight g (flat_map led_face s) =
    ap (weight g) (led_same s (set r x.k None) (slot within)) in
    omega (arith, emptied, one, rest)
  where
    inside : {h : Half} → at r x.k ≡ Some h → x.k < length r
    inside {h} here = grind (arith, get_or_past)

    slot : x.k < length r → (j : ℕ) → led_face (at (set r x.k None) j) ≡ led_face (at s j)
    slot within j =
        elim (cases_eq j x.k) [
          | inl same ↦ ap led_face (ap (at (set r x.k None)) same ∙ get_or-set_same r x.k None None within)
              ∙ sym (ap led_face (ap (at s) same ∙ is.k_free))
          | inr nk ↦ ap led_face (get_or-set_other r x.k j None None nk) ∙ elim (cases_eq j x.l) [
            | inl same ↦ ap led_face (ap (at r) same ∙ at_l s r t x is) ∙ sym (ap led_face (ap (at s) same ∙ is.l_free))
            | inr nl ↦ elim (cases_eq j x.m) [
              | inl same ↦ ap led_face (ap (at r) same ∙ at_m s r t x is)
                  ∙ sym (ap led_face (ap (at s) same ∙ is.m_free))
              | inr nm ↦ by_slot (at s j) refl nk nl nm
            ]
          ]
        ]
      where
        by_slot : (o : Option Half) → at s j ≡ o → j ≢ x.k → j ≢ x.l → j ≢ x.m → led_face (at r j) ≡ led_face (at s j)
        by_slot None free nk nl nm = ap led_face (none_after s r t x is j free nk nl nm) ∙ sym (ap led_face free)
        by_slot (Some h) here nk nl nm = ap led_face (at_old s r t x is j h here) ∙ sym (ap led_face here)

has_append : (e : Edge) (es fs : List Edge) →
    list_any (same_edge e) (es ++ fs) ≡ (list_any (same_edge e) es || list_any (same_edge e) fs)
has_append e [] fs = refl
has_append e (d ∷ es) fs = ap (λ (b : Bool). same_edge e d || b) (has_append e es fs)
    ∙ or_assoc (same_edge e d) (list_any (same_edge e) es) (list_any (same_edge e) fs)
  where
    or_assoc : (a b c : Bool) → (a || (b || c)) ≡ ((a || b) || c)
    or_assoc true b c = refl
    or_assoc false b c = refl

directed_append : (ss ts : List Tri) → directed_edges (ss ++ ts) ≡ directed_edges ss ++ directed_edges ts
directed_append [] ts = refl
directed_append (t ∷ ss) ts = ap (λ (es : List Edge). edge t.a t.b ∷ edge t.b t.c ∷ edge t.c t.a ∷ es)
    (directed_append ss ts)

has_more : (ts : List Tri) (t : Tri) (a b : ℕ) →
    has (ts ++ t ∷ []) a b ≡ (has ts a b || list_any (same_edge (edge a b)) (sides t))
has_more ts t a b =
    ap (list_any (same_edge (edge a b))) (directed_append ts (t ∷ []))
    ∙ has_append (edge a b) (directed_edges ts) (sides t)

edge_itself : (a b c d : ℕ) → a ≡ c → b ≡ d → same_edge (edge a b) (edge c d) ≡ true
edge_itself a b c d e f = and_from (eqb a c) (eqb b d) (eq-eqb a c e) (eq-eqb b d f)

side : (t : Tri) (a b : ℕ) → ((a ≡ t.a) × (b ≡ t.b)) ⊎ (((a ≡ t.b) × (b ≡ t.c)) ⊎ ((a ≡ t.c) × (b ≡ t.a))) →
    list_any (same_edge (edge a b)) (sides t) ≡ true
side t a b (inl e) = or_left (same_edge (edge a b) (edge t.a t.b)) _ (edge_itself a b t.a t.b e.0 e.1)
side t a b (inr (inl e)) =
    or_right (same_edge (edge a b) (edge t.a t.b)) _
    (or_left (same_edge (edge a b) (edge t.b t.c)) _ (edge_itself a b t.b t.c e.0 e.1))
side t a b (inr (inr e)) =
    or_right (same_edge (edge a b) (edge t.a t.b)) _
    (or_right (same_edge (edge a b) (edge t.b t.c)) _
    (or_left (same_edge (edge a b) (edge t.c t.a)) false (edge_itself a b t.c t.a e.0 e.1)))

pub built_more : (s r : Slots) (m n : BTreeMap Edge ℕ) (ts : List Tri) (t : Tri) (x : Added) → Built s m ts →
    IsAdded s r t x → Tells n r → Built r n (ts ++ t ∷ [])
built_more s r m n ts t x built is told =
    record {
      sound = sound_added s r t x is;
      told = told;
      weighs = λ g. weight_added s r t x is g ∙ ap (λ (k : ℕ). k + g t) (built.weighs g) ∙ sym (weight_push g ts t);
      edges = λ k a b go. has_more ts t a b ∙ elim (which s r t x is k a b go) [
        | inl e ↦ or_right (has ts a b) _ (side t a b (inl (e.1, e.2)))
        | inr r1 ↦ elim r1 [
          | inl e ↦ or_right (has ts a b) _ (side t a b (inr (inl (e.1, e.2))))
          | inr r2 ↦ elim r2 [
            | inl e ↦ or_right (has ts a b) _ (side t a b (inr (inr (e.1, e.2))))
            | inr e ↦ or_left (has ts a b) _ (built.edges k a b e)
          ]
        ]
      ];
    }
  where
    weight_push : (g : Tri → ℕ) (us : List Tri) (u : Tri) → weight g (us ++ u ∷ []) ≡ weight g us + g u
    weight_push g [] u = omega arith
    weight_push g (v ∷ us) u = omega (arith, weight_push g us u)

-- ---- a triangle whose edges no earlier one has

abbrev one_if : Edge → Edge → ℕ
one_if e d = cond (same_edge e d) 1 0

count_cons : (e d : Edge) (es : List Edge) → count_by (same_edge e) (d ∷ es) ≡ one_if e d + count_by (same_edge e) es
count_cons e d es = sum_by-cons (one_if e) d es

counts : (e : Edge) (es : List Edge) → list_any (same_edge e) es ≡ true → 1 ≤ count_by (same_edge e) es
counts e [] h = absurd (false≢true h)
counts e (d ∷ es) h =
    elim (or_cases (same_edge e d) (list_any (same_edge e) es) h) [
      | inl here ↦ let one : one_if e d ≡ 1 = one_of (same_edge e d) here in omega (arith, count_cons e d es, one)
      | inr later ↦ omega (arith, count_cons e d es, counts e es later)
    ]
  where
    one_of : (b : Bool) → b ≡ true → let n : ℕ = cond b 1 0 in n ≡ 1
    one_of true h = refl
    one_of false h = absurd (false≢true h)

count_append : (e : Edge) (es fs : List Edge) →
    count_by (same_edge e) (es ++ fs) ≡ count_by (same_edge e) es + count_by (same_edge e) fs
count_append e es fs = sum_by-append (one_if e) es fs

-- a list whose edges are in one triangle each has no edge in its front and in the next triangle
pub front_lacks : (ts front back : List Tri) (t : Tri) (a b : ℕ) → ts ≡ front ++ t ∷ back → IsEachEdgeOnce ts →
    list_any (same_edge (edge a b)) (sides t) ≡ true → has front a b ≡ true → ⊥
front_lacks ts front back t a b is once here there =
    let e = edge a b in
    let split : directed_edges ts ≡ directed_edges front ++ (sides t ++ directed_edges back) = ap directed_edges is
    ∙ directed_append front (t ∷ back) in
    let all : times ts e ≡ count_by (same_edge e) (directed_edges front) +
    (count_by (same_edge e) (sides t) + count_by (same_edge e) (directed_edges back)) =
    ap (count_by (same_edge e)) split ∙ count_append e (directed_edges front) (sides t ++ directed_edges back)
    ∙ ap (λ (n : ℕ). count_by (same_edge e) (directed_edges front) + n)
    (count_append e (sides t) (directed_edges back)) in
    omega (arith, once e, all, counts e (sides t) here, counts e (directed_edges front) there)

pub is_new : (s : Slots) (m : BTreeMap Edge ℕ) (ts front back : List Tri) (t : Tri) → Built s m front →
    ts ≡ front ++ t ∷ back → IsEachEdgeOnce ts → IsProper t → IsNew s t
is_new s m ts front back t built is once proper =
    record {
      proper = proper;
      ab = λ k go. front_lacks ts front back t t.a t.b is once (side t t.a t.b (inl (refl, refl)))
          (built.edges k t.a t.b go);
      bc = λ k go. front_lacks ts front back t t.b t.c is once (side t t.b t.c (inr (inl (refl, refl))))
          (built.edges k t.b t.c go);
      ca = λ k go. front_lacks ts front back t t.c t.a is once (side t t.c t.a (inr (inr (refl, refl))))
          (built.edges k t.c t.a go);
    }

pub built_faces : (s : Slots) (m : BTreeMap Edge ℕ) (ts : List Tri) → Built s m ts →
    faces_of s ≡ in_order tri_cmp (map turned ts)
built_faces s m ts built =
    in_order_alike (map turned (flat_map led_face s)) (map turned ts) (λ g. weight_map turned g (flat_map led_face s)
    ∙ built.weighs (λ t. g (turned t)) ∙ sym (weight_map turned g ts))

-- ---- a loop's turns

pub built_none : (s : Slots) (m : BTreeMap Edge ℕ) → s ≡ [] → m.entries ≡ [] → Built s m []
built_none s m no_slots no_entries =
    subst (λ (q : Slots). Built q m []) (sym no_slots)
    (record {
      sound = record {
        proper = λ k h e. absurd (never k h e);
        turns = λ k h e. absurd (never k h e);
        alone =
            λ k g a b one two. absurd (never k one.0 one.1);
        twins = λ k h e. absurd (never k h e);
        leads = λ k h e.
            absurd (never k h e);
      };
      told = λ a b. subst (IsTwin [] b a) (sym (ap (λ es. lookup (is_at (edge_cmp (edge a b))) es) no_entries))
          (λ g go. never g go.0 go.1);
      weighs = λ g. refl;
      edges = λ k a b go. absurd (never k go.0 go.1);
    })
  where
    never : (k : ℕ) (h : Half) → at [] k ≡ Some h → ⊥
    never zero h e = let two : None ≡ Some h = e in cc
    never (suc k) h e = let two : None ≡ Some h = e in cc

pub new_next : (s : Slots) (m : BTreeMap Edge ℕ) (ts : List Tri) (i : ℕ) (t : Tri) → Built s m (take i ts) →
    i < length ts → t ≡ get_or ts i t → IsEachEdgeOnce ts → IsProper t → IsNew s t
new_next s m ts i t built lt is once proper =
    let split : ts ≡ take i ts ++ t ∷ drop (i + 1) ts = sym (take-append-drop i ts)
    ∙ ap (λ (us : List Tri). take i ts ++ us)
    (drop_more ts i t lt ∙ ap (λ (u : Tri). u ∷ drop (i + 1) ts) (sym is)) in
    is_new s m ts (take i ts) (drop (i + 1) ts) t built split once proper

pub built_next : (s r : Slots) (m n : BTreeMap Edge ℕ) (ts : List Tri) (i : ℕ) (t : Tri) (x : Added) →
    Built s m (take i ts) → IsAdded s r t x → Tells n r → i < length ts → t ≡ get_or ts i t →
    Built r n (take (i + 1) ts)
built_next s r m n ts i t x built added told lt is =
    subst (λ (us : List Tri). Built r n us) (sym (take_more ts i t lt ∙ ap (λ (u : Tri). take i ts ++ u ∷ []) (sym is)))
    (built_more s r m n (take i ts) t x built added told)

pub built_all : (s : Slots) (m : BTreeMap Edge ℕ) (ts : List Tri) (i : ℕ) → Built s m (take i ts) → length ts ≤ i →
    Built s m ts
built_all s m ts i built past = subst (λ (us : List Tri). Built s m us) (take_all i ts past) built
