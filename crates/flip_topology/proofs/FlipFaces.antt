-- The faces of a flipped list, and how often its edges come.
use Rattle.face_rings.proofs.Faces.{Among, Apart, Face_back, Face_turn, three, turned-Turns, turns_has}
use Rattle.face_rings.proofs.Members.{filter_to, in_order_from, in_order_to}
use Rattle.face_rings.proofs.Tallies.{AreOnce, face_tally, kept_face, kept_tris, sides-turned, some_often, tally, tally-cons, tally-filter, tally-in_order, tally_both, tally_face, two_at_most}
use Rattle.face_rings.proofs.Named.{Different, Unique}
use Rattle.face_rings.specs.Faces.{Face, Turns, tri, ◌∈◌}
use Rattle.mesh_data.specs.Edits.{flipped_tris}
use Rattle.mesh_data.specs.Links.{has_both}
use Rattle.mesh_data.specs.Triangles.{IsProper, has_corner, same_edge, sides, tri_cmp, turned}
use Rattle.mesh_data.specs.declared.geometry.Edge.{Edge}
use Rattle.mesh_data.specs.declared.geometry.Tri.{Tri}
use Rattle.std.proofs.Common.{Bool, List, ap, arith, inl, inr, length, not, refl, subst, suc, sym, zero, ℕ, ◌+◌, ◌∙◌, ◌∷◌, ◌≡◌, ◌≢◌, ◌≤◌, ◌⊎◌}
use Rattle.std.proofs.lemmas.Bool.{and_parts, false_from_ne_true, not_from_false}
use Rattle.std.proofs.lemmas.Bool.Decides.{nat_tests}
use Rattle.std.proofs.lemmas.List.Filters.{length-filter_both}
use Rattle.std.specs.List.{AllByRecursion}
use Rattle.triangle_edits.proofs.Results.{length-in_order}
use Rattle.triangle_lists.proofs.Counts.{often}
use Rattle.triangle_lists.proofs.EdgeSets.{same_edges}
use Rattle.triangle_lists.proofs.Walks.{step}

-- the triangle (a, b, c) is (x, y, z), from some name on
abbrev pub IsTurn : ℕ → ℕ → ℕ → ℕ → ℕ → ℕ → Type 0
IsTurn a b c x y z = Turns (tri a b c) x y z

-- ---- the two sides of an edge, on a list where an edge has one face
pub record Sides (ts : List Tri) (a b c d : ℕ) : Type 0 where
  pub different : Different ts
  pub one : Unique ts
  pub ahead : Face ts a b c
  pub behind : Face ts b a d
  pub apart : c ≢ d
  pub new : (z : ℕ) → Face ts c d z → ⊥
  pub new_back : (z : ℕ) → Face ts d c z → ⊥

-- ---- what a flip makes of the faces
pub record Flips (ts us : List Tri) (a b c d : ℕ) : Type 0 where
  pub from : (x y z : ℕ) → Face us x y z → (Face ts x y z × Apart a b x y z) ⊎ (IsTurn a d c x y z ⊎ IsTurn d b c x y z)
  pub kept : (x y z : ℕ) → Face ts x y z → Apart a b x y z → Face us x y z
  pub left : Face us a d c
  pub right : Face us d b c

-- two turns of one triangle are turns of each other
turn_of : (s : Tri) (a b c x y z : ℕ) → Turns s a b c → Turns s x y z → IsTurn a b c x y z
turn_of s a b c x y z (inl e) (inl f) = inl (sym e ∙ f)
turn_of s a b c x y z (inl e) (inr (inl f)) = inr (inl (sym e ∙ f))
turn_of s a b c x y z (inl e) (inr (inr f)) = inr (inr (sym e ∙ f))
turn_of s a b c x y z (inr (inl e)) (inl f) = inr (inr (ap (λ (t : Tri). tri t.c t.a t.b) (sym e ∙ f)))
turn_of s a b c x y z (inr (inl e)) (inr (inl f)) = inl (ap (λ (t : Tri). tri t.c t.a t.b) (sym e ∙ f))
turn_of s a b c x y z (inr (inl e)) (inr (inr f)) = inr (inl (ap (λ (t : Tri). tri t.c t.a t.b) (sym e ∙ f)))
turn_of s a b c x y z (inr (inr e)) (inl f) = inr (inl (ap (λ (t : Tri). tri t.b t.c t.a) (sym e ∙ f)))
turn_of s a b c x y z (inr (inr e)) (inr (inl f)) = inr (inr (ap (λ (t : Tri). tri t.b t.c t.a) (sym e ∙ f)))
turn_of s a b c x y z (inr (inr e)) (inr (inr f)) = inl (ap (λ (t : Tri). tri t.b t.c t.a) (sym e ∙ f))

-- a flip does so to the faces of a list
pub flips_of : (ts : List Tri) (a b c d : ℕ) → Flips ts (flipped_tris a b c d ts) a b c d
unfolding flipped_tris
flips_of ts a b c d =
    let s : Tri = tri a d c in
    let t : Tri = tri d b c in
    let rest = kept_tris a b ts in
    record {
      from = λ x y z f. elim (in_order_from f.0 (turned s ∷ turned t ∷ rest) f.1) [
        | inl e ↦ inr (inl (turn_of (turned s) a d c x y z (turned-Turns s) (subst (λ (q : Tri). Turns q x y z) e f.2)))
        | inr (inl e) ↦ inr (inr (turn_of (turned t) d b c x y z (turned-Turns t) (subst (λ (q : Tri). Turns q x y z) e f.2)))
        | inr (inr j) ↦ inl (kept_face ts a b x y z (f.0, j, f.2))
      ];
      kept = λ x y z f n. (
        f.0,
        in_order_to f.0 (turned s ∷ turned t ∷ rest) (inr (inr (filter_to (λ q. not (has_both a b q)) ts f.0 f.1 (not_from_false (has_both a b f.0) (false_from_ne_true (has_both a b f.0) (λ h.
            let parts = and_parts (has_corner a f.0) (has_corner b f.0) h in
            n (turns_has a f.0 x y z f.2 parts.0) (turns_has b f.0 x y z f.2 parts.1))))))),
        f.2,
      );
      left = (turned s, in_order_to (turned s) (turned s ∷ turned t ∷ rest) (inl refl), turned-Turns s);
      right = (turned t, in_order_to (turned t) (turned s ∷ turned t ∷ rest) (inr (inl refl)), turned-Turns t);
    }

-- ---- a flip seen from the other side
-- a turn read from the next name on
is_turn : (a b c x y z : ℕ) → IsTurn a b c x y z → IsTurn b c a x y z
is_turn a b c x y z (inl e) = inr (inl (ap (λ (t : Tri). tri t.b t.c t.a) e))
is_turn a b c x y z (inr (inl e)) = inr (inr (ap (λ (t : Tri). tri t.b t.c t.a) e))
is_turn a b c x y z (inr (inr e)) = inl (ap (λ (t : Tri). tri t.b t.c t.a) e)

-- with a and b, and c and d, exchanged
pub other_sides : (ts : List Tri) (a b c d : ℕ) → Sides ts a b c d → Sides ts b a d c
other_sides ts a b c d s = record { different = s.different; one = s.one; ahead = s.behind; behind = s.ahead; apart = λ e. s.apart (sym e); new = s.new_back; new_back = s.new }

pub other_flips : (ts us : List Tri) (a b c d : ℕ) → Flips ts us a b c d → Flips ts us b a d c
other_flips ts us a b c d k =
    record {
      from = λ x y z f. elim (k.from x y z f) [
        | inl (g, n) ↦ inl (g, λ i j. n j i)
        | inr (inl e) ↦ inr (inr (is_turn d c a x y z (is_turn a d c x y z e)))
        | inr (inr e) ↦ inr (inl (is_turn d b c x y z e))
      ];
      kept = λ x y z f n. k.kept x y z f (λ i j. n j i);
      left = Face_turn us d b c k.right;
      right = Face_back us a d c k.left;
    }

-- ---- no edge comes twice
-- the six sides of the new faces are different edges
six_apart : (a b c d : ℕ) (e : Edge) → a ≢ b → a ≢ c → a ≢ d → b ≢ c → b ≢ d → c ≢ d → often (same_edge e) (sides (tri a d c)) + often (same_edge e) (sides (tri d b c)) ≤ 1
six_apart a b c d e ab ac ad bc bd cd = grind (arith, nat_tests)

-- the edges after a flip are those of the new faces and those that are kept
tally-flipped : (p : Edge → Bool) (a b c d : ℕ) (ts : List Tri) → tally p (flipped_tris a b c d ts) ≡ (often p (sides (tri a d c)) + often p (sides (tri d b c))) + tally p (kept_tris a b ts)
unfolding flipped_tris
tally-flipped p a b c d ts =
    let s = turned (tri a d c) in
    let t = turned (tri d b c) in
    omega (arith, tally-in_order p (s ∷ t ∷ kept_tris a b ts), tally-cons p s (t ∷ kept_tris a b ts), tally-cons p t (kept_tris a b ts), sides-turned p (tri a d c), sides-turned p (tri d b c))

-- the faces at the sides of the two new ones go, or there are none
side_gone : (ts : List Tri) (a b c d x y : ℕ) → Sides ts a b c d → (step x y ∈ sides (tri a d c)) ⊎ (step x y ∈ sides (tri d b c)) → (z : ℕ) → Face (kept_tris a b ts) x y z → ⊥
side_gone ts a b c d x y s i z f =
    let k = kept_face ts a b x y z f in
    let g = k.0 in
    let gone : (m n w : ℕ) → Face ts m n w → Among a m n w → Among b m n w → step x y ≡ step m n → ⊥ = λ m n w h ia ib e.
    let xm : x ≡ m = ap (λ (q : Edge). q.a) e in
    let yn : y ≡ n = ap (λ (q : Edge). q.b) e in
    let zw : z ≡ w = s.one m n z w (three ts x y z m n z xm yn refl g) h in
    k.1 (among_same a m n w x y z xm yn zw ia) (among_same b m n w x y z xm yn zw ib) in
    elim i [
      | inl (inl e) ↦ gone a d b (Face_turn ts b a d s.behind) (inl refl) (inr (inr refl)) e
      | inl (inr (inl e)) ↦ s.new_back z (three ts x y z d c z (ap (λ (q : Edge). q.a) e) (ap (λ (q : Edge). q.b) e) refl g)
      | inl (inr (inr (inl e))) ↦ gone c a b (Face_back ts a b c s.ahead) (inr (inl refl)) (inr (inr refl)) e
      | inl (inr (inr (inr j))) ↦ absurd j
      | inr (inl e) ↦ gone d b a (Face_back ts b a d s.behind) (inr (inr refl)) (inr (inl refl)) e
      | inr (inr (inl e)) ↦ gone b c a (Face_turn ts a b c s.ahead) (inr (inr refl)) (inl refl) e
      | inr (inr (inr (inl e))) ↦ s.new z (three ts x y z c d z (ap (λ (q : Edge). q.a) e) (ap (λ (q : Edge). q.b) e) refl g)
      | inr (inr (inr (inr j))) ↦ absurd j
    ]
  where
    among_same : (v m n w x y z : ℕ) → x ≡ m → y ≡ n → z ≡ w → Among v m n w → Among v x y z
    among_same v m n w x y z e f g (inl h) = inl (h ∙ sym e)
    among_same v m n w x y z e f g (inr (inl h)) = inr (inl (h ∙ sym f))
    among_same v m n w x y z e f g (inr (inr h)) = inr (inr (h ∙ sym g))

-- no edge comes twice
pub flipped_once : (ts : List Tri) (a b c d : ℕ) → Sides ts a b c d → AreOnce ts → AreOnce (flipped_tris a b c d ts)
flipped_once ts a b c d s once e =
    let f = s.different a b c s.ahead in
    let g = s.different b a d s.behind in
    let first = often (same_edge e) (sides (tri a d c)) in
    let second = often (same_edge e) (sides (tri d b c)) in
    let kept : tally (same_edge e) (kept_tris a b ts) ≤ 1 = omega (arith, tally-filter (same_edge e) (λ t. not (has_both a b t)) ts, once e) in
    let few = six_apart a b c d e f.0 (λ h. f.2 (sym h)) g.1 f.1 (λ h. g.2 (sym h)) s.apart in
    let either : 1 ≤ first + second → (step e.a e.b ∈ sides (tri a d c)) ⊎ (step e.a e.b ∈ sides (tri d b c)) = λ h. one_of first second h
    (λ m. let r = some_often (same_edge e) (sides (tri a d c)) m in inl (subst (λ (q : Edge). q ∈ sides (tri a d c)) (sym (same_edges e r.0 r.2)) r.1))
    (λ m. let r = some_often (same_edge e) (sides (tri d b c)) m in inr (subst (λ (q : Edge). q ∈ sides (tri d b c)) (sym (same_edges e r.0 r.2)) r.1)) in
    let total = two_at_most (first + second) (tally (same_edge e) (kept_tris a b ts)) few kept (λ m n. let face = tally_face (kept_tris a b ts) e.a e.b n in side_gone ts a b c d e.a e.b s (either m) face.0 face.1) in
    omega (arith, tally-flipped (same_edge e) a b c d ts, total)
  where
    one_of : {A : Type 0} (m n : ℕ) → 1 ≤ m + n → (1 ≤ m → A) → (1 ≤ n → A) → A
    one_of zero n h x y = y (omega (arith, h))
    one_of (suc m) n h x y = x (omega arith)

-- ---- as many triangles as before
-- two triangles go, and two come
pub none_lost : (ts : List Tri) (a b c d : ℕ) → a ≢ b → AllByRecursion IsProper ts → AreOnce ts → Face ts a b c → Face ts b a d → length (flipped_tris a b c d ts) ≡ length ts
unfolding flipped_tris
none_lost ts a b c d ab proper once f g =
    let s = turned (tri a d c) in
    let t = turned (tri d b c) in
    omega (
      arith,
      length-in_order tri_cmp (s ∷ t ∷ kept_tris a b ts),
      length-filter_both (has_both a b) (λ t. not (has_both a b t)) (λ _. refl) ts,
      tally_both a b ts ab proper,
      once (step a b),
      once (step b a),
      face_tally ts a b c f,
      face_tally ts b a d g,
    )
