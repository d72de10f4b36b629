-- Rings in which two or three names stand side by side.
use Rattle.face_rings.proofs.Faces.{Face_back, Near}
use Rattle.face_rings.proofs.Fans.{distinct_in, fan_of, in_among}
use Rattle.face_rings.proofs.Members.{append_left, append_right, steps_in}
use Rattle.face_rings.proofs.Paths.{distinct_parts, ends_later, in_closed, last_of, on_step, parted, path, shorter, starts_before}
use Rattle.face_rings.proofs.Named.{Unique}
use Rattle.face_rings.specs.Faces.{Face, Leads, ◌∈◌}
use Rattle.mesh_data.specs.RingChanges.{Splices, along, round}
use Rattle.mesh_data.specs.Manifold.{HasRing}
use Rattle.mesh_data.specs.Rings.{IsRing, fewest_names, link, ring_path, path_edges}
use Rattle.mesh_data.specs.declared.geometry.Edge.{Edge}
use Rattle.mesh_data.specs.declared.geometry.Tri.{Tri}
use Rattle.mesh_data.specs.declared.rings.Ring.{Ring}
use Rattle.std.proofs.Common.{Bool, List, [], ap, append_assoc, arith, false, inl, inr, length, length-append, refl, subst, sym, true, ℕ, ◌++◌, ◌∙◌, ◌∷◌, ◌≡◌, ◌≤◌}
use Rattle.triangle_lists.proofs.RingLaws.{ring, ring_at}
use Rattle.triangle_lists.proofs.Walks.{step}

-- the path of a ring has two names at least
long_path : (r : Ring) → fewest_names r.closed ≤ length r.names → 2 ≤ length (ring_path r)
long_path r long = by r.closed r.names long
  where
    by : (closed : Bool) (names : List ℕ) → fewest_names closed ≤ length names → 2 ≤ length (ring_path (ring closed names))
    by true [] h = absurd (omega (arith, h))
    by true (x ∷ xs) h = omega (arith, h, length-append (x ∷ xs) (x ∷ []))
    by false names h = h

-- the names of its path are those of a ring
pub in_path : (closed : Bool) (names : List ℕ) (x : ℕ) → x ∈ ring_path (ring closed names) → x ∈ names
in_path true names x i = in_closed names x i
in_path false names x i = i

to_path : (closed : Bool) (names : List ℕ) (x : ℕ) → x ∈ names → x ∈ ring_path (ring closed names)
to_path true [] x i = absurd i
to_path true (a ∷ xs) x i = append_left x (a ∷ xs) (a ∷ []) i
to_path false names x i = i

-- each name of a ring is one near the vertex
pub near_on : (ts : List Tri) (w : ℕ) (r : Ring) (x : ℕ) → IsRing ts w r → x ∈ r.names → Near ts w x
near_on ts w r x is i =
    let at = on_step (ring_path r) x (long_path r is.long) (to_path r.closed r.names x i) in
    (at.0, elim at.1 [ inl j ↦ inl ((fan_of ts w r is x at.0).1 j) | inr j ↦ inr ((fan_of ts w r is at.0 x).1 j) ])

-- and so is each name near it
pub on_near : (ts : List Tri) (w : ℕ) (r : Ring) (x y : ℕ) → IsRing ts w r → Face ts w x y → (x ∈ r.names) × (y ∈ r.names)
on_near ts w r x y is f =
    let k = steps_in (ring_path r) (step x y) ((fan_of ts w r is x y).0 f) in
    (in_path r.closed r.names x k.0, in_path r.closed r.names y k.1)

-- a ring of w in which a, m and b stand side by side
pub data AroundBy (ts : List Tri) (w a m b : ℕ) : Type 0 where
  goes_round : (q : List ℕ) → IsRing ts w (ring true (a ∷ m ∷ b ∷ q)) → AroundBy ts w a m b
  passes : (p q : List ℕ) → IsRing ts w (ring false (p ++ a ∷ m ∷ b ∷ q)) → AroundBy ts w a m b

-- where (w, a, m) and (w, m, b) are faces
pub around : (ts : List Tri) (w a m b : ℕ) (r : Ring) → Unique ts → IsRing ts w r → Face ts w a m → Face ts w m b → AroundBy ts w a m b
around ts w a m b r one is f g = by r.closed r.names is
  where
    first : (closed : Bool) (x y : ℕ) (ns : List ℕ) → IsRing ts w (ring closed (x ∷ y ∷ ns)) → Face ts w x y
    first true x y ns is = (fan_of ts w (ring true (x ∷ y ∷ ns)) is x y).1 (inl refl)
    first false x y ns is = (fan_of ts w (ring false (x ∷ y ∷ ns)) is x y).1 (inl refl)

    next_is : (x y z : ℕ) → Face ts w x y → Face ts w x z → y ≡ z
    next_is x y z = one w x y z

    closed_by : (ms : List ℕ) → IsRing ts w (ring true (a ∷ ms)) → AroundBy ts w a m b
    closed_by [] is = absurd (omega (arith, is.long))
    closed_by (x ∷ []) is = absurd (omega (arith, is.long))
    closed_by (x ∷ y ∷ q) is =
        let xm : x ≡ m = next_is a x m (first true a x (y ∷ q) is) f in
        let is' : IsRing ts w (ring true (a ∷ m ∷ y ∷ q)) = subst (λ n. IsRing ts w (ring true (a ∷ n ∷ y ∷ q))) xm is in
        let yb : y ≡ b = next_is m y b ((fan_of ts w (ring true (a ∷ m ∷ y ∷ q)) is' m y).1 (inr (inl refl))) g in
        goes_round q (subst (λ n. IsRing ts w (ring true (a ∷ m ∷ n ∷ q))) yb is')

    prev_is : (x y z : ℕ) → Face ts w y x → Face ts w z x → y ≡ z
    prev_is x y z h k = one x w y z (turn h) (turn k)
      where
        turn : {n : ℕ} → Face ts w n x → Face ts x w n
        turn h = Face_back ts w _ x h

    open_by : (front back : List ℕ) → IsRing ts w (ring false (front ++ m ∷ back)) → AroundBy ts w a m b
    open_by [] back is = absurd ((distinct_in (m ∷ back) is.distinct).0 (ends_later m back a m ((fan_of ts w (ring false (m ∷ back)) is a m).0 f)))
    open_by (x ∷ xs) [] is =
        let d = distinct_parts (x ∷ xs) (m ∷ []) (distinct_in ((x ∷ xs) ++ m ∷ []) is.distinct) in
        absurd (d.2 m (starts_before (x ∷ xs) m m b ((fan_of ts w (ring false ((x ∷ xs) ++ m ∷ [])) is m b).0 g)) (inl refl))
    open_by (x ∷ xs) (y ∷ q) is =
        let l = last_of x xs in
        let p = l.0 in
        let z = l.1 in
        let same : (x ∷ xs) ++ m ∷ y ∷ q ≡ p ++ z ∷ m ∷ y ∷ q = ap (λ ns. ns ++ m ∷ y ∷ q) l.2 ∙ append_assoc p (z ∷ []) (m ∷ y ∷ q) in
        let is1 : IsRing ts w (ring false (p ++ z ∷ m ∷ y ∷ q)) = subst (λ ns. IsRing ts w (ring false ns)) same is in
        let fan1 = fan_of ts w (ring false (p ++ z ∷ m ∷ y ∷ q)) is1 in
        let in1 : (e : Edge) → e ∈ step z m ∷ step m y ∷ path_edges (y ∷ q) → e ∈ path_edges (p ++ z ∷ m ∷ y ∷ q) =
        λ e i. subst (λ es. e ∈ es) (sym (path p z m y q)) (append_right e (path_edges (p ++ z ∷ [])) (step z m ∷ step m y ∷ path_edges (y ∷ q)) i) in
        let za : z ≡ a = prev_is m z a ((fan1 z m).1 (in1 (step z m) (inl refl))) f in
        let yb : y ≡ b = next_is m y b ((fan1 m y).1 (in1 (step m y) (inr (inl refl)))) g in
        passes p q (subst (λ n. IsRing ts w (ring false (p ++ a ∷ m ∷ n ∷ q))) yb (subst (λ n. IsRing ts w (ring false (p ++ n ∷ m ∷ y ∷ q))) za is1))

    by : (closed : Bool) (names : List ℕ) → IsRing ts w (ring closed names) → AroundBy ts w a m b
    by true names is =
        let on = on_near ts w (ring true names) a m is f in
        let at = ring_at (link w ts) names a is (in_among names a on.0) in
        closed_by at.0 at.1
    by false names is =
        let on = on_near ts w (ring false names) a m is f in
        let at = parted names m on.1 in
        open_by at.0 at.1 (subst (λ ns. IsRing ts w (ring false ns)) at.2 is)

-- ---- a ring in which two names stand side by side
pub data BesideBy (ts : List Tri) (w a b : ℕ) : Type 0 where
  round_by : (q : List ℕ) → IsRing ts w (ring true (a ∷ b ∷ q)) → BesideBy ts w a b
  along_by : (p q : List ℕ) → IsRing ts w (ring false (p ++ a ∷ b ∷ q)) → BesideBy ts w a b

-- where (w, a, b) is a face
pub beside : (ts : List Tri) (w a b : ℕ) (r : Ring) → Unique ts → IsRing ts w r → Face ts w a b → BesideBy ts w a b
beside ts w a b r one is f = by r.closed r.names is
  where
    closed_by : (ms : List ℕ) → IsRing ts w (ring true (a ∷ ms)) → BesideBy ts w a b
    closed_by [] is = absurd (omega (arith, is.long))
    closed_by (x ∷ q) is =
        let xb : x ≡ b = one w a x b ((fan_of ts w (ring true (a ∷ x ∷ q)) is a x).1 (inl refl)) f in
        round_by q (subst (λ n. IsRing ts w (ring true (a ∷ n ∷ q))) xb is)

    open_by : (front back : List ℕ) → IsRing ts w (ring false (front ++ a ∷ back)) → BesideBy ts w a b
    open_by front [] is =
        let dist = distinct_parts front (a ∷ []) (distinct_in (front ++ a ∷ []) is.distinct) in
        absurd (dist.2 a (starts_before front a a b ((fan_of ts w (ring false (front ++ a ∷ [])) is a b).0 f)) (inl refl))
    open_by front (x ∷ q) is =
        let fan = fan_of ts w (ring false (front ++ a ∷ x ∷ q)) is in
        let xb : x ≡ b = one w a x b ((fan a x).1 (subst (λ es. Leads a x es) (sym (shorter front a x q)) (append_right (step a x) (path_edges (front ++ a ∷ [])) (step a x ∷ path_edges (x ∷ q)) (inl refl)))) f in
        along_by front q (subst (λ n. IsRing ts w (ring false (front ++ a ∷ n ∷ q))) xb is)

    by : (shut : Bool) (names : List ℕ) → IsRing ts w (ring shut names) → BesideBy ts w a b
    by true names is =
        let on = on_near ts w (ring true names) a b is f in
        let at = ring_at (link w ts) names a is (in_among names a on.0) in
        closed_by at.0 at.1
    by false names is =
        let on = on_near ts w (ring false names) a b is f in
        let at = parted names a on.0 in
        open_by at.0 at.1 (subst (λ ns. IsRing ts w (ring false ns)) at.2 is)

-- a spliced ring is a ring
pub spliced_ring : (ts us : List Tri) (w a b : ℕ) (old new : List ℕ) → Splices ts us w a b old new → HasRing us w
spliced_ring ts us w a b old new (round q before after) = (ring true (a ∷ (new ++ b ∷ q)), after)
spliced_ring ts us w a b old new (along p q before after) = (ring false (p ++ (a ∷ (new ++ b ∷ q))), after)
