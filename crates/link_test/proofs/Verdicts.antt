-- What the rings of the two vertices of an edge tell of the link condition.
use Rattle.std.proofs.Common.{◌≡◌, ℕ, Bool, true, false, cond, not, ◌&&◌, ◌||◌, eqb, List, [], ◌∷◌, length, Option, Some, None, sym, ap, ◌∙◌, refl, arith, inl, inr}
use Rattle.std.proofs.lemmas.Bool.{and_parts, and_from, or_left, or_right, eq-eqb, both_ways, not-true, not_from_false}
use Rattle.std.specs.List.{Contains, find, flat_map}
use Rattle.std.specs.Option.{option_map, IfSome, IfNone}
use Rattle.mesh_data.specs.declared.geometry.Tri.{Tri}
use Rattle.mesh_data.specs.Links.{apex, has_both, is_closed_by_three, is_name, link_violation}
use Rattle.mesh_data.specs.RingChanges.{closed_ring}
use Rattle.mesh_data.specs.Rings.{closed_path, from_each_corner, link, path_edges}
use Rattle.mesh_data.specs.Triangles.{corners, has_corner, neighbours, star}
use Rattle.triangle_lists.proofs.Walks.{step}
use Rattle.oemm_lists.specs.Numbers.{among}
use Rattle.triangle_edits.specs.Links.{is_shared, IsSharedBeside}
use Rattle.triangle_edits.proofs.Least.{link_violation_is, link_violation_below, none_shared}
use Rattle.triangle_edits.proofs.ThreeRings.{three_found}
use Rattle.face_rings.specs.Faces.{◌∈◌, Face, IsFan, Turns, tri}
use Rattle.face_rings.proofs.Around.{near_on, on_near}
use Rattle.face_rings.proofs.Borders.{contains_in}
use Rattle.face_rings.proofs.Corners.{apex_face, in_any, near_contains, near_face}
use Rattle.face_rings.proofs.Faces.{Face_back, Near}
use Rattle.face_rings.proofs.Fans.{among_in, fan_of, flat_from, flat_to, has_in, in_among}
use Rattle.face_rings.proofs.Members.{filter_from}
use Rattle.face_rings.proofs.Named.{Unique}
use Rattle.face_rings.proofs.Oriented.{different_on, unique_on}
use Rattle.link_test.specs.Links.{follows, AreRings, IsLeastPassing}

-- ---- third names

find_none : (p : Tri → Bool) (us : List Tri) (x : Tri) → find p us ≡ None → x ∈ us → p x ≡ true → ⊥
find_none p [] x none on passes = on
find_none p (y ∷ ys) x none on passes =
    elim (p y) as (λ b. p y ≡ b → cond b (Some y) (find p ys) ≡ None → ⊥) [
      | true ↦ λ _ is. absurd (cc)
      | false ↦ λ fails is. elim on [ inl here ↦ both_ways (p y) fails (ap p (sym here) ∙ passes) | inr later ↦ find_none p ys x is later passes ]
    ] refl none

tri_from : (t : Tri) (a b c : ℕ) → Turns t a b c → tri a b c ∈ from_each_corner t
tri_from t a b c (inl e) = inl (sym e)
tri_from t a b c (inr (inl e)) = inr (inr (inl (ap (λ (s : Tri). tri s.c s.a s.b) (sym e))))
tri_from t a b c (inr (inr e)) = inr (inl (ap (λ (s : Tri). tri s.b s.c s.a) (sym e)))

-- a face has a third name
pub apex_there : (ts : List Tri) (a b c : ℕ) → Face ts a b c → apex ts a b ≡ None → ⊥
unfolding apex
apex_there ts a b c f none =
    let p : Tri → Bool = λ t. eqb t.a a && eqb t.b b in
    elim (find p (flat_map from_each_corner ts)) as (λ o. find p (flat_map from_each_corner ts) ≡ o → option_map (λ (t : Tri). t.c) o ≡ None → ⊥) [
      | Some t ↦ λ _ is. absurd (cc)
      | None ↦ λ is _. find_none p (flat_map from_each_corner ts) (tri a b c) is (flat_to from_each_corner ts f.0 (tri a b c) f.1 (tri_from f.0 a b c f.2)) (and_from (eqb a a) (eqb b b) (eq-eqb a a refl) (eq-eqb b b refl))
    ] refl none

-- the third name of a face is that of its edge
face_apex : (ts : List Tri) (a b c : ℕ) → Unique ts → Face ts a b c → apex ts a b ≡ Some c
unfolding apex
face_apex ts a b c one f =
    let p : Tri → Bool = λ t. eqb t.a a && eqb t.b b in
    elim (find p (flat_map from_each_corner ts)) as (λ o. find p (flat_map from_each_corner ts) ≡ o → option_map (λ (t : Tri). t.c) o ≡ Some c) [
      | Some t ↦ λ is. ap (λ (n : ℕ). Some n) (one a b t.c c (apex_face ts a b t.c (ap (option_map (λ (t : Tri). t.c)) is)) f)
      | None ↦ λ is. absurd (find_none p (flat_map from_each_corner ts) (tri a b c) is (flat_to from_each_corner ts f.0 (tri a b c) f.1 (tri_from f.0 a b c f.2)) (and_from (eqb a a) (eqb b b) (eq-eqb a a refl) (eq-eqb b b refl)))
    ] refl

-- ---- neighbours

corner_of : (x : ℕ) (t : Tri) → x ∈ corners t → has_corner x t ≡ true
corner_of x t (inl e) = or_left (eqb t.a x || eqb t.b x) (eqb t.c x) (or_left (eqb t.a x) (eqb t.b x) (eq-eqb t.a x (sym e)))
corner_of x t (inr (inl e)) = or_left (eqb t.a x || eqb t.b x) (eqb t.c x) (or_right (eqb t.a x) (eqb t.b x) (eq-eqb t.b x (sym e)))
corner_of x t (inr (inr (inl e))) = or_right (eqb t.a x || eqb t.b x) (eqb t.c x) (eq-eqb t.c x (sym e))
corner_of x t (inr (inr (inr e))) = absurd e

-- a name listed among the neighbours is near
contains_near : (ts : List Tri) (u x : ℕ) → Contains (neighbours u ts) x → Near ts u x
contains_near ts u x h =
    let kept = filter_from (λ w. not (eqb w u)) (flat_map corners (star u ts)) x (contains_in (neighbours u ts) x h) in
    let found = flat_from corners (star u ts) x kept.0 in
    let here = filter_from (has_corner u) ts found.0 found.1 in
    near_face ts u x (λ e. both_ways (eqb x u) (not-true (eqb x u) kept.1) (eq-eqb x u (sym e))) (in_any (has_both u x) ts found.0 here.0 (and_from (has_corner u found.0) (has_corner x found.0) here.1 (corner_of x found.0 found.2)))

-- ---- the verdict

module _ (ts : List Tri) (ring_u ring_v : List ℕ) (closed_v : Bool) (u v : ℕ) (are : AreRings ts ring_u ring_v closed_v u v) where
  fan_u : IsFan ts u (closed_path ring_u)
  fan_u = fan_of ts u (closed_ring ring_u) are.of_u

  face_of : (x y : ℕ) → follows ring_u x y ≡ true → Face ts u x y
  face_of x y h = (fan_u x y).1 (has_in (path_edges (closed_path ring_u)) (step x y) h)

  on_ring : (x : ℕ) → Near ts u x → among x ring_u ≡ true
  on_ring x (y, inl f) = in_among ring_u x (on_near ts u (closed_ring ring_u) x y are.of_u f).0
  on_ring x (y, inr f) = in_among ring_u x (on_near ts u (closed_ring ring_u) y x are.of_u f).1

  on_other : (x : ℕ) → Near ts v x → among x ring_v ≡ true
  on_other x (y, inl f) = in_among ring_v x (on_near ts v (record { names = ring_v; closed = closed_v }) x y are.of_v f).0
  on_other x (y, inr f) = in_among ring_v x (on_near ts v (record { names = ring_v; closed = closed_v }) y x are.of_v f).1

  lacks_none : among v ring_u ≡ false → ⊥
  lacks_none lacks = both_ways (among v ring_u) lacks (on_ring v (near_face ts u v are.differ are.near))

  ahead_is : (ahead : Option ℕ) → IfSome ahead (λ w. follows ring_u v w ≡ true) → IfNone ahead (among v ring_u ≡ false) → apex ts u v ≡ ahead
  ahead_is None found none = absurd (lacks_none none)
  ahead_is (Some c) found none = face_apex ts u v c (unique_on ts are.oriented) (face_of v c found)

  behind_is : (behind : Option ℕ) → IfSome behind (λ w. follows ring_u w v ≡ true) → IfNone behind (among v ring_u ≡ false) → apex ts v u ≡ behind
  behind_is None found none = absurd (lacks_none none)
  behind_is (Some d) found none = face_apex ts v u d (unique_on ts are.oriented) (Face_back ts u d v (face_of d v found))

  module _ (ahead behind : Option ℕ) (ahead_at : apex ts u v ≡ ahead) (behind_at : apex ts v u ≡ behind) where
    shared_is : (w : ℕ) → among w ring_u ≡ true → is_shared ring_v ahead behind w ≡ true → IsSharedBeside ts u v w
    shared_is w on passes =
        let parts = and_parts (among w ring_v) (not (is_name ahead w || is_name behind w)) passes in
        let different = different_on ts are.oriented in (
          near_contains ts u w different (near_on ts u (closed_ring ring_u) w are.of_u (among_in ring_u w on)),
          near_contains ts v w different (near_on ts v (record { names = ring_v; closed = closed_v }) w are.of_v (among_in ring_v w parts.0)),
          (λ i. is_name (ahead_at i) w || is_name (behind_at i) w) ∙ not-true (is_name ahead w || is_name behind w) parts.1,
        )

    shared_on : (x : ℕ) → IsSharedBeside ts u v x → among x ring_u ≡ true
    shared_on x shared = on_ring x (contains_near ts u x shared.0)

    shared_passes : (x : ℕ) → IsSharedBeside ts u v x → is_shared ring_v ahead behind x ≡ true
    shared_passes x shared =
        and_from (among x ring_v) (not (is_name ahead x || is_name behind x)) (on_other x (contains_near ts v x shared.1))
        (not_from_false (is_name ahead x || is_name behind x) ((λ i. is_name (sym ahead_at i) x || is_name (sym behind_at i) x) ∙ shared.2))

    least_is : (least : Option ℕ) → IsLeastPassing (is_shared ring_v ahead behind) ring_u least → link_violation ts u v ≡ least
    least_is None none =
        elim (link_violation ts u v) as (λ o. link_violation ts u v ≡ o → o ≡ None) [
          | None ↦ λ _. refl
          | Some x ↦ λ is. let shared = link_violation_is ts u v x is in absurd (none x (shared_on x shared) (shared_passes x shared))
        ] refl
    least_is (Some w) least =
        let here = shared_is w least.0 least.1 in
        elim (link_violation ts u v) as (λ o. link_violation ts u v ≡ o → o ≡ Some w) [
          | None ↦ λ is. absurd (none_shared ts u v w is here)
          | Some x ↦ λ is.
              let shared = link_violation_is ts u v x is in
              let low = least.2 x (shared_on x shared) (shared_passes x shared) in
              let high = link_violation_below ts u v x w is here in
              let same : x ≡ w = omega (arith, low, high) in
              ap (λ (n : ℕ). Some n) same
        ] refl

  -- the name that violates the link condition, by what the walks on the first ring and among its names answer
  pub violation_is : (ahead behind least : Option ℕ)
      → IfSome ahead (λ w. follows ring_u v w ≡ true) → IfNone ahead (among v ring_u ≡ false)
      → IfSome behind (λ w. follows ring_u w v ≡ true) → IfNone behind (among v ring_u ≡ false)
      → IsLeastPassing (is_shared ring_v ahead behind) ring_u least → link_violation ts u v ≡ least
  violation_is ahead behind least found none found' none' =
      least_is ahead behind (ahead_is ahead found none) (behind_is behind found' none') least

  pub threes_are : (eqb (length ring_u) 3 && (closed_v && eqb (length ring_v) 3)) ≡ (is_closed_by_three ts u && is_closed_by_three ts v)
  threes_are =
      let at_u = three_found ts u (link u ts) (Some (closed_ring ring_u)) (closed_ring ring_u) refl are.of_u refl in
      let at_v = three_found ts v (link v ts) (Some (record { names = ring_v; closed = closed_v })) (record { names = ring_v; closed = closed_v }) refl are.of_v refl in
      λ i. at_u i && at_v i
