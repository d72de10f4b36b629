-- Rings as paths of faces.
use Rattle.face_rings.proofs.Members.{append_cases, append_left, append_right, filter_from, filter_to, map_from, map_to}
use Rattle.face_rings.proofs.Named.{Different, IsDistinct}
use Rattle.face_rings.specs.Faces.{Face, IsFan, Turns, tri, ◌∈◌}
use Rattle.mesh_data.specs.Rings.{IsRing, are_distinct, fewest_names, from_each_corner, has_path_edge, link, ring_path, path_edges}
use Rattle.mesh_data.specs.Triangles.{IsProper, same_edge}
use Rattle.mesh_data.specs.declared.geometry.Edge.{Edge}
use Rattle.mesh_data.specs.declared.geometry.Tri.{Tri}
use Rattle.mesh_data.specs.declared.rings.Ring.{Ring}
use Rattle.std.proofs.Common.{All, List, [], ap, arith, eq-eqb, eqb, eqb-true, filter, flat_map, inl, inr, length, not, refl, subst, suc, sym, true, ℕ, ◌∙◌, ◌∷◌, ◌≡◌, ◌≤◌}
use Rattle.std.proofs.lemmas.Bool.{and_from, and_parts, false_from_ne_true, false≢true, not-true, not_from_false, or_cases, or_left, or_right}
use Rattle.triangle_lists.proofs.Candidates.{same_answers}
use Rattle.triangle_lists.proofs.EdgeSets.{same_edges}
use Rattle.triangle_lists.proofs.Walks.{same_itself, step}
use Rattle.oemm_lists.specs.Numbers.{among}

-- ---- tests and members
-- a step that the test finds is a member, and the converse
pub has_in : (es : List Edge) (e : Edge) → has_path_edge es e ≡ true → e ∈ es
has_in [] e h = absurd (false≢true h)
has_in (d ∷ es) e h = elim (or_cases (same_edge e d) (has_path_edge es e) h) [ inl it ↦ inl (same_edges e d it) | inr later ↦ inr (has_in es e later) ]

pub in_has : (es : List Edge) (e : Edge) → e ∈ es → has_path_edge es e ≡ true
in_has [] e i = absurd i
in_has (d ∷ es) e (inl f) = or_left (same_edge e d) (has_path_edge es e) (ap (same_edge e) (sym f) ∙ same_itself e)
in_has (d ∷ es) e (inr j) = or_right (same_edge e d) (has_path_edge es e) (in_has es e j)

-- and a name
pub among_in : (ns : List ℕ) (x : ℕ) → among x ns ≡ true → x ∈ ns
among_in [] x h = absurd (false≢true h)
among_in (n ∷ ns) x h = elim (or_cases (eqb n x) (among x ns) h) [ inl it ↦ inl (sym (eqb-true n x it)) | inr later ↦ inr (among_in ns x later) ]

pub in_among : (ns : List ℕ) (x : ℕ) → x ∈ ns → among x ns ≡ true
in_among [] x i = absurd i
in_among (n ∷ ns) x (inl e) = or_left (eqb n x) (among x ns) (eq-eqb n x (sym e))
in_among (n ∷ ns) x (inr j) = or_right (eqb n x) (among x ns) (in_among ns x j)

-- different names, by the test and by recursion
pub distinct_in : (ns : List ℕ) → are_distinct ns ≡ true → IsDistinct ns
distinct_in [] h = tt
distinct_in (n ∷ ns) h =
    let parts = and_parts (not (among n ns)) (are_distinct ns) h in
    ((λ i. false≢true (sym (not-true (among n ns) parts.0) ∙ in_among ns n i)), distinct_in ns parts.1)

pub in_distinct : (ns : List ℕ) → IsDistinct ns → are_distinct ns ≡ true
in_distinct [] h = refl
in_distinct (n ∷ ns) (h, d) = and_from (not (among n ns)) (are_distinct ns) (not_from_false (among n ns) (false_from_ne_true (among n ns) (λ on. h (among_in ns n on)))) (in_distinct ns d)

-- ---- links and faces
-- a triangle turned to start at a corner is a turn, and the converse
corners_from : (t s : Tri) → s ∈ from_each_corner t → Turns t s.a s.b s.c
corners_from t s (inl e) = inl (sym e)
corners_from t s (inr (inl e)) = inr (inr (ap (λ (r : Tri). tri r.c r.a r.b) (sym e)))
corners_from t s (inr (inr (inl e))) = inr (inl (ap (λ (r : Tri). tri r.b r.c r.a) (sym e)))
corners_from t s (inr (inr (inr j))) = absurd j

corners_to : (t : Tri) (a b c : ℕ) → Turns t a b c → tri a b c ∈ from_each_corner t
corners_to t a b c (inl e) = inl (sym e)
corners_to t a b c (inr (inl e)) = inr (inr (inl (ap (λ (r : Tri). tri r.c r.a r.b) (sym e))))
corners_to t a b c (inr (inr e)) = inr (inl (ap (λ (r : Tri). tri r.b r.c r.a) (sym e)))

-- members of joined lists
pub flat_from : {X Y : Type 0} (f : X → List Y) (xs : List X) (y : Y) → y ∈ flat_map f xs → (x : X) × (x ∈ xs) × (y ∈ f x)
flat_from f [] y i = absurd i
flat_from f (x ∷ xs) y i = elim (append_cases y (f x) (flat_map f xs) i) [ inl j ↦ (x, inl refl, j) | inr j ↦ let r = flat_from f xs y j in (r.0, inr r.1, r.2) ]

pub flat_to : {X Y : Type 0} (f : X → List Y) (xs : List X) (x : X) (y : Y) → x ∈ xs → y ∈ f x → y ∈ flat_map f xs
flat_to f [] x y i j = absurd i
flat_to f (z ∷ zs) x y (inl e) j = append_left y (f z) (flat_map f zs) (subst (λ w. y ∈ f w) e j)
flat_to f (z ∷ zs) x y (inr i) j = append_right y (f z) (flat_map f zs) (flat_to f zs x y i j)

-- the edges of a link are the faces at its vertex
pub face_from_link : (ts : List Tri) (v x y : ℕ) → has_path_edge (link v ts) (step x y) ≡ true → Face ts v x y
unfolding link
face_from_link ts v x y h =
    let turned = flat_map from_each_corner ts in
    let m = map_from (λ (t : Tri). step t.b t.c) (filter (λ t. eqb t.a v) turned) (step x y) (has_in (link v ts) (step x y) h) in
    let f = filter_from (λ t. eqb t.a v) turned m.0 m.1 in
    let c = flat_from from_each_corner ts m.0 f.0 in
    let turns = corners_from c.0 m.0 c.2 in
    let first = eqb-true m.0.a v f.1 in
    (c.0, c.1, subst (λ (e : Edge). Turns c.0 v e.a e.b) (sym m.2) (subst (λ n. Turns c.0 n m.0.b m.0.c) first turns))

pub face_to_link : (ts : List Tri) (v x y : ℕ) → Face ts v x y → has_path_edge (link v ts) (step x y) ≡ true
unfolding link
face_to_link ts v x y f =
    let turned = flat_map from_each_corner ts in
    in_has (link v ts) (step x y) (map_to (λ (t : Tri). step t.b t.c) (filter (λ t. eqb t.a v) turned) (tri v x y) (filter_to (λ t. eqb t.a v) turned (tri v x y) (flat_to from_each_corner ts f.0 (tri v x y) f.1 (corners_to f.0 v x y f.2)) (eq-eqb v v refl)))

-- ---- a ring is a path whose steps are the faces
-- the steps of a ring are the faces at its vertex
pub fan_of : (ts : List Tri) (v : ℕ) (r : Ring) → IsRing ts v r → IsFan ts v (ring_path r)
fan_of ts v r is x y = (
  (λ f. has_in (path_edges (ring_path r)) (step x y) (sym (is.along (step x y)) ∙ face_to_link ts v x y f)),
  (λ i. face_from_link ts v x y (is.along (step x y) ∙ in_has (path_edges (ring_path r)) (step x y) i)),
)

-- and a path of different names with these steps is a ring
pub ring_of : (ts : List Tri) (v : ℕ) (r : Ring) → IsDistinct r.names → fewest_names r.closed ≤ length r.names → IsFan ts v (ring_path r) → IsRing ts v r
ring_of ts v r distinct long fan =
    record {
      distinct = in_distinct r.names distinct;
      long = long;
      along = λ e. same_answers (has_path_edge (link v ts) e) (has_path_edge (path_edges (ring_path r)) e)
          (λ h. in_has (path_edges (ring_path r)) e ((fan e.a e.b).0 (face_from_link ts v e.a e.b h)))
          (λ h. face_to_link ts v e.a e.b ((fan e.a e.b).1 (has_in (path_edges (ring_path r)) e h)));
    }

-- ---- different names
-- a turn of a triangle of three different names has them
pub proper_turns : (t : Tri) (a b c : ℕ) → IsProper t → Turns t a b c → IsProper (tri a b c)
proper_turns t a b c p (inl e) = subst IsProper e p
proper_turns t a b c p (inr (inl e)) = let q = subst IsProper e p in (q.2, q.0, q.1)
proper_turns t a b c p (inr (inr e)) = let q = subst IsProper e p in (q.1, q.2, q.0)

-- what holds of all items holds of a member
all_in : {X : Type 0} (P : X → Type 0) (xs : List X) → All P xs → (x : X) → x ∈ xs → P x
all_in P [] all x i = absurd i
all_in P (y ∷ ys) all x (inl e) = subst P (sym e) (all 0 y (omega arith))
all_in P (y ∷ ys) all x (inr j) = all_in P ys (λ k d lt. all (suc k) d (omega arith)) x j

-- the faces of such triangles
pub different_of : (ts : List Tri) → All IsProper ts → Different ts
different_of ts all a b c f = proper_turns f.0 a b c (all_in IsProper ts all f.0 f.1) f.2
