-- Closed rings of one vertex have as many names, and as many as the walk along its link.
use Rattle.std.proofs.Common.{◌≡◌, ℕ, ◌≤◌, Bool, true, false, ◌&&◌, eqb, List, [], ◌∷◌, length, Option, Some, None, sym, ap, ◌∙◌, subst, arith}
use Rattle.std.proofs.lemmas.Bool.{or_left, and_parts, and_from, eqb-true, eq-eqb}
use Rattle.std.specs.Option.{IfSome, IfNone}
use Rattle.mesh_data.specs.declared.geometry.Edge.{Edge}
use Rattle.mesh_data.specs.declared.geometry.Tri.{Tri}
use Rattle.mesh_data.specs.declared.rings.Ring.{Ring}
use Rattle.mesh_data.specs.Links.{names_along, is_closed_by_three}
use Rattle.mesh_data.specs.Rings.{has_path_edge, way, IsRingOf, go_round, link}
use Rattle.mesh_data.specs.Triangles.{same_edge}
use Rattle.triangle_lists.proofs.Candidates.{no_ring, going_by_found, not_going, found_by_going}
use Rattle.triangle_lists.proofs.RingLaws.{ring, on_path, ring_at, ring_way, ring_fits, starts_on_ring, length-steps_closed}
use Rattle.triangle_lists.proofs.Walks.{steps_to, same_itself}

-- the steps of one ring are those of the other
no_longer : (t : List Edge) (x y : ℕ) (ns ms : List ℕ) → IsRingOf t (ring true (x ∷ ns)) → IsRingOf t (ring true (y ∷ ms)) → length ns ≤ length ms
no_longer t x y ns ms r s =
    let path = steps_to true y y ms in
    let again : IsRingOf path (ring true (x ∷ ns)) = record { distinct = r.distinct; long = r.long; along = λ e. sym (on_path t true y ms s e) ∙ r.along e } in
    omega (arith, ring_fits path true x ns again, length-steps_closed x x ns, length-steps_closed y y ms)

length-along : (es : List Edge) (names : List ℕ) → IsRingOf es (ring true names) → length names ≡ length (names_along es)
length-along [] names r = absurd (no_ring (ring true names) r)
length-along (e ∷ es) [] r = absurd (omega (arith, r.long))
length-along (e ∷ es) (x ∷ ns) r =
    let t = e ∷ es in
    let here = ring_at t (x ∷ ns) e.a r (starts_on_ring t true x ns r e (or_left (same_edge e e) (has_path_edge es e) (same_itself e))) in
    let round : way (length t) t e.a e.a ≡ e.a ∷ here.0 = ring_way t true e.a here.0 (length t) here.1 (omega (arith, ring_fits t true e.a here.0 here.1, length-steps_closed e.a e.a here.0)) in
    let same : length (x ∷ ns) ≡ length (e.a ∷ here.0) = omega (arith, no_longer t x e.a ns here.0 r here.1, no_longer t e.a x here.0 ns here.1 r) in
    same ∙ ap length (sym round)

three_of : (es : List Edge) (closed : Bool) (names : List ℕ) → IsRingOf es (ring closed names) → (closed && eqb (length names) 3) ≡ (go_round es && eqb (length (names_along es)) 3)
three_of es true names r = λ i. going_by_found es (ring true names) r i && eqb (length-along es names r i) 3
three_of es false names r = ap (λ (b : Bool). b && eqb (length (names_along es)) 3) (going_by_found es (ring false names) r)

-- what is found tells whether v has a closed ring of three names
pub three_found : (ts : List Tri) (v : ℕ) (es : List Edge) (o : Option Ring) (r : Ring) → es ≡ link v ts → IfSome o (IsRingOf es) → o ≡ Some r → (r.closed && eqb (length r.names) 3) ≡ is_closed_by_three ts v
unfolding is_closed_by_three
three_found ts v es o r same found is =
    three_of es r.closed r.names (subst (λ (p : Option Ring). IfSome p (IsRingOf es)) is found) ∙ ap (λ (ds : List Edge). go_round ds && eqb (length (names_along ds)) 3) same

pub three_missed : (ts : List Tri) (v : ℕ) (es : List Edge) (o : Option Ring) → es ≡ link v ts → IfNone o ((r : Ring) → IsRingOf es r → ⊥) → o ≡ None → false ≡ is_closed_by_three ts v
unfolding is_closed_by_three
three_missed ts v es o same none is =
    ap (λ (b : Bool). b && eqb (length (names_along (link v ts))) 3) (not_going es (subst (λ (p : Option Ring). IfNone p ((r : Ring) → IsRingOf es r → ⊥)) is none) ∙ ap go_round same)

-- the test tells exactly where there is a closed ring of three names
pub three_names_found : (ts : List Tri) (v : ℕ) → is_closed_by_three ts v ≡ true → (r : Ring) × (r.closed ≡ true) × (length r.names ≡ 3) × IsRingOf (link v ts) r
unfolding is_closed_by_three
three_names_found ts v h =
    let es = link v ts in
    let going = (and_parts (go_round es) (eqb (length (names_along es)) 3) h).0 in
    let found = found_by_going es going in
    let r = found.0 in
    let three = and_parts r.closed (eqb (length r.names) 3) (three_of es r.closed r.names found.2 ∙ h) in
    (r, found.1, eqb-true (length r.names) 3 three.1, found.2)

pub three_names_tell : (ts : List Tri) (v : ℕ) (r : Ring) → r.closed ≡ true → length r.names ≡ 3 → IsRingOf (link v ts) r → is_closed_by_three ts v ≡ true
unfolding is_closed_by_three
three_names_tell ts v r closed three is =
    sym (three_of (link v ts) r.closed r.names is) ∙ and_from r.closed (eqb (length r.names) 3) closed (eq-eqb (length r.names) 3 three)
