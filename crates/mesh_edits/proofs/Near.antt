-- Neighbours, and names in no triangle.
use Rattle.std.proofs.Common.{◌≡◌, ◌≢◌, ℕ, Bool, true, false, cond, ◌&&◌, ◌||◌, List, [], ◌∷◌, Option, Some, None, is_some, sym, ap, ◌∙◌, refl, inl, inr}
use Rattle.std.proofs.lemmas.Bool.{and_from, and_parts, false≢true, or_cases, or_left, or_parts, or_right}
use Rattle.mesh_data.specs.declared.geometry.Tri.{Tri}
use Rattle.mesh_data.specs.Links.{apex, are_neighbours, has_both, is_closed_by_three}
use Rattle.mesh_data.specs.Manifold.{is_corner}
use Rattle.mesh_data.specs.Rings.{go_round, has_closed_ring, link}
use Rattle.mesh_data.specs.Triangles.{has_corner, star}
use Rattle.triangle_lists.proofs.Candidates.{same_answers}
use Rattle.face_rings.proofs.Corners.{apex_face, in_any, near_face}
use Rattle.face_rings.proofs.Faces.{Face_back, Near, has_turns}
use Rattle.edit_laws.proofs.Stars.{closed_alike, three_alike}
use Rattle.link_test.proofs.Verdicts.{apex_there}

some_of : (o : Option ℕ) → is_some o ≡ true → (c : ℕ) × (o ≡ Some c)
some_of None h = absurd (false≢true h)
some_of (Some c) h = (c, refl)

is_some_of : (o : Option ℕ) → (o ≡ None → ⊥) → is_some o ≡ true
is_some_of None h = absurd (h refl)
is_some_of (Some c) h = refl

-- two names share a triangle where it has the edge in one direction
pub near_by_apexes : (ts : List Tri) (u v : ℕ) → u ≢ v → (is_some (apex ts u v) || is_some (apex ts v u)) ≡ are_neighbours ts u v
near_by_apexes ts u v apart =
    same_answers (is_some (apex ts u v) || is_some (apex ts v u)) (are_neighbours ts u v)
    (λ some. elim (or_cases (is_some (apex ts u v)) (is_some (apex ts v u)) some) [
      | inl ahead ↦
          let c = some_of (apex ts u v) ahead in
          let f = apex_face ts u v c.0 c.1 in
          in_any (has_both u v) ts f.0 f.1 (and_from (has_corner u f.0) (has_corner v f.0) (has_turns u f.0 u v c.0 f.2 (inl refl)) (has_turns v f.0 u v c.0 f.2 (inr (inl refl))))
      | inr behind ↦
          let c = some_of (apex ts v u) behind in
          let f = apex_face ts v u c.0 c.1 in
          in_any (has_both u v) ts f.0 f.1 (and_from (has_corner u f.0) (has_corner v f.0) (has_turns u f.0 v u c.0 f.2 (inr (inl refl))) (has_turns v f.0 v u c.0 f.2 (inl refl)))
    ])
    (λ near. by (near_face ts u v apart near))
  where
    by : Near ts u v → (is_some (apex ts u v) || is_some (apex ts v u)) ≡ true
    by (y, inl f) = or_left (is_some (apex ts u v)) (is_some (apex ts v u)) (is_some_of (apex ts u v) (apex_there ts u v y f))
    by (y, inr f) = or_right (is_some (apex ts u v)) (is_some (apex ts v u)) (is_some_of (apex ts v u) (apex_there ts v u y (Face_back ts u y v f)))

and_same : (b : Bool) → (b && b) ≡ b
and_same true = refl
and_same false = refl

-- a name shares a triangle with itself where it is in one
pub near_itself : (ts : List Tri) (v : ℕ) → are_neighbours ts v v ≡ is_corner ts v
near_itself [] v = refl
near_itself (t ∷ ts) v = λ i. and_same (has_corner v t) i || near_itself ts v i

-- both names are in a triangle
pub near_first : (ts : List Tri) (u v : ℕ) → are_neighbours ts u v ≡ true → is_corner ts u ≡ true
near_first [] u v h = absurd (false≢true h)
near_first (t ∷ ts) u v h =
    elim (or_cases (has_both u v t) (are_neighbours ts u v) h) [
      | inl here ↦ or_left (has_corner u t) (is_corner ts u) (and_parts (has_corner u t) (has_corner v t) here).0
      | inr more ↦ or_right (has_corner u t) (is_corner ts u) (near_first ts u v more)
    ]

pub near_second : (ts : List Tri) (u v : ℕ) → are_neighbours ts u v ≡ true → is_corner ts v ≡ true
near_second [] u v h = absurd (false≢true h)
near_second (t ∷ ts) u v h =
    elim (or_cases (has_both u v t) (are_neighbours ts u v) h) [
      | inl here ↦ or_left (has_corner v t) (is_corner ts v) (and_parts (has_corner u t) (has_corner v t) here).1
      | inr more ↦ or_right (has_corner v t) (is_corner ts v) (near_second ts u v more)
    ]

false_of : (b c : Bool) → (b ≡ true → c ≡ true) → c ≡ false → b ≡ false
false_of true c h out = sym (h refl) ∙ out
false_of false c h out = refl

-- so a name in none has no neighbours
pub far_first : (ts : List Tri) (u v : ℕ) → is_corner ts u ≡ false → are_neighbours ts u v ≡ false
far_first ts u v out = false_of (are_neighbours ts u v) (is_corner ts u) (near_first ts u v) out

pub far_second : (ts : List Tri) (u v : ℕ) → is_corner ts v ≡ false → are_neighbours ts u v ≡ false
far_second ts u v out = false_of (are_neighbours ts u v) (is_corner ts v) (near_second ts u v) out

star_none : (v : ℕ) (ts : List Tri) → is_corner ts v ≡ false → star v ts ≡ []
star_none v [] h = refl
star_none v (t ∷ ts) h =
    let parts = or_parts (has_corner v t) (is_corner ts v) h in
    ap (λ b. cond b (t ∷ star v ts) (star v ts)) parts.0 ∙ star_none v ts parts.1

no_ring_in_none : (v : ℕ) → has_closed_ring [] v ≡ false
unfolding link go_round
no_ring_in_none v = refl

no_three_in_none : (v : ℕ) → is_closed_by_three [] v ≡ false
unfolding is_closed_by_three link go_round
no_three_in_none v = refl

-- and no ring
pub no_ring : (v : ℕ) (ts : List Tri) → is_corner ts v ≡ false → has_closed_ring ts v ≡ false
no_ring v ts out = closed_alike v ts [] (star_none v ts out) ∙ no_ring_in_none v

pub no_three : (v : ℕ) (ts : List Tri) → is_corner ts v ≡ false → is_closed_by_three ts v ≡ false
no_three v ts out = three_alike v ts [] (star_none v ts out) ∙ no_three_in_none v
