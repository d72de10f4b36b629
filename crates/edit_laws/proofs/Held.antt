-- Held and free vertices, and moves, by triangles and points.
use Rattle.std.proofs.Common.{◌≡◌, ◌↔◌, ◌<◌, ℕ, zero, suc, Bool, true, false, cond, not, eqb, List, [], ◌∷◌, length, get_or, Option, Some, None, refl, sym, ap, ◌∙◌, arith, inl, inr, flat_map}
use Rattle.std.proofs.lemmas.Bool.{false≢true, and_parts, and_from, or_cases, or_left, or_right, eqb-true, eq-eqb, ne_eqb}
use Rattle.std.proofs.lemmas.List.Folds.{list_any-append}
use Rattle.std.specs.FinMap as finite
use Rattle.std.specs.List.{list_all, Contains}
use Rattle.std.specs.Option.{option_map, option_map_or}
use Rattle.oemm_octree.specs.declared.points.Point.{Point}
use Rattle.mesh_data.specs.declared.geometry.Vertex.{Vertex}
use Rattle.mesh_data.specs.declared.geometry.Tri.{Tri}
use Rattle.mesh_data.specs.declared.edits.Reply.TheVariants.{Done}
use Rattle.mesh_data.specs.Edits.{is_done, is_held, is_free, move_verdict, moved}
use Rattle.mesh_data.specs.Mesh.{Mesh, point_of, planes_of}
use Rattle.mesh_data.specs.Triangles.{corners, has_corner, star, neighbours}
use Rattle.oemm_lists.specs.Numbers.{among}
use Rattle.edit_steps.proofs.Passed.{move_passed}
use Rattle.edit_laws.specs.Held.{IsHeld, IsMoved}
use Rattle.edit_laws.proofs.Locality.{among-other, corner_on, free_around}
use Rattle.edit_laws.proofs.SeenVerdicts.{on_corners}
use Rattle.edit_laws.proofs.SeenEffects.{get-with}
use Rattle.edit_laws.proofs.FarPairs.{beside, among-part, corners_on}

-- ---- held
held_at : (inside : Point → Bool) (o : Option Point) → option_map_or inside o false ≡ true → (p : Point) × (o ≡ Some p) × (inside p ≡ true)
held_at inside None h = absurd (false≢true h)
held_at inside (Some p) h = (p, refl, h)

pub held_is : (inside : Point → Bool) (m : Mesh) (v : ℕ) → (is_held inside m v ≡ true) ↔ IsHeld inside m v
held_is inside m v = (held_at inside (point_of m v), λ h. ap (λ (o : Option Point). option_map_or inside o false) h.1 ∙ h.2)

-- ---- free
-- what a name of the triangles at v is, and such a triangle
sharing_tri : (v w : ℕ) (ts : List Tri) → among w (beside v ts) ≡ true → (t : Tri) × Contains ts t × (has_corner v t ≡ true) × (has_corner w t ≡ true)
sharing_tri v w [] on = absurd (false≢true on)
sharing_tri v w (t ∷ ts) on =
    elim (has_corner v t) as (λ b. has_corner v t ≡ b → among w (flat_map corners (cond b (t ∷ star v ts) (star v ts))) ≡ true → (s : Tri) × Contains (t ∷ ts) s × (has_corner v s ≡ true) × (has_corner w s ≡ true)) [
      | true ↦ λ at on'. elim (or_cases (among w (corners t)) (among w (beside v ts)) (sym (list_any-append (λ n. eqb n w) (corners t) (beside v ts)) ∙ on')) [
        | inl here ↦ (t, (0, omega arith, refl), at, corners_on w t here)
        | inr later ↦ behind (sharing_tri v w ts later)
      ]
      | false ↦ λ _ on'. behind (sharing_tri v w ts on')
    ] refl on
  where
    behind : (s : Tri) × Contains ts s × (has_corner v s ≡ true) × (has_corner w s ≡ true) → (s : Tri) × Contains (t ∷ ts) s × (has_corner v s ≡ true) × (has_corner w s ≡ true)
    behind found = (found.0, (suc found.1.0, omega (arith, found.1.1), found.1.2), found.2, found.3)

corner_beside : (v w : ℕ) (ts : List Tri) (t : Tri) (k : ℕ) → k < length ts → get_or ts k t ≡ t → has_corner v t ≡ true → has_corner w t ≡ true → among w (beside v ts) ≡ true
corner_beside v w [] t k lt is at on = absurd (omega arith)
corner_beside v w (s ∷ ts) t zero lt is at on = corner_on w s ts v (on_corners w s (ap (has_corner w) is ∙ on)) (ap (has_corner v) is ∙ at)
corner_beside v w (s ∷ ts) t (suc k) lt is at on =
    let rest = corner_beside v w ts t k (omega arith) is at on in
    elim (has_corner v s) as (λ b. among w (flat_map corners (cond b (s ∷ star v ts) (star v ts))) ≡ true) [
      | true ↦ list_any-append (λ n. eqb n w) (corners s) (beside v ts) ∙ or_right (among w (corners s)) _ rest
      | false ↦ rest
    ]

all_of : (p : ℕ → Bool) (ns : List ℕ) → ((n : ℕ) → among n ns ≡ true → p n ≡ true) → list_all p ns ≡ true
all_of p [] h = refl
all_of p (n ∷ ns) h = and_from (p n) _ (h n (or_left (eqb n n) _ (eq-eqb n n refl))) (all_of p ns (λ w on. h w (or_right (eqb n w) _ on)))

-- each name of a triangle at v is held
abbrev HoldsAround : (Point → Bool) → Mesh → ℕ → Type 0
HoldsAround inside m v = (t : Tri) (w : ℕ) → Contains m.tris t → has_corner v t ≡ true → has_corner w t ≡ true → IsHeld inside m w

holds_around : (inside : Point → Bool) (m : Mesh) (v : ℕ) → is_free inside m v ≡ true → HoldsAround inside m v
holds_around inside m v free t w on at corner =
    (held_is inside m w).0 (elim (eqb w v) as (λ b. eqb w v ≡ b → is_held inside m w ≡ true) [
      | true ↦ λ e. ap (is_held inside m) (eqb-true w v e) ∙ (and_parts (is_held inside m v) _ free).0
      | false ↦ λ e. free_around inside m v free w (among-other w v (beside v m.tris) e (corner_beside v w m.tris t on.0 on.1 on.2 at corner))
    ] refl)

pub free_is : (inside : Point → Bool) (m : Mesh) (v : ℕ) → (is_free inside m v ≡ true) ↔ (IsHeld inside m v × HoldsAround inside m v)
free_is inside m v = (
  λ free. ((held_is inside m v).0 (and_parts (is_held inside m v) _ free).0, holds_around inside m v free),
  λ h. and_from (is_held inside m v) _ ((held_is inside m v).1 h.0) (all_of (is_held inside m) (neighbours v m.tris) (λ w on.
      let found = sharing_tri v w m.tris (among-part w (λ x. not (eqb x v)) (beside v m.tris) on) in
      (held_is inside m w).1 (h.1 found.0 w found.1 found.2 found.3))),
)

-- ---- moves
point_moved : (o : Option Vertex) (p to : Point) → option_map (λ (x : Vertex). x.point) o ≡ Some p → option_map (λ (x : Vertex). x.point) (option_map {T = Vertex} (λ x. record x { point = to }) o) ≡ Some to
point_moved None p to h = absurd (cc)
point_moved (Some x) p to h = refl

planes_moved : (o : Option Vertex) (to : Point) → option_map (λ (x : Vertex). x.planes) (option_map {T = Vertex} (λ x. record x { point = to }) o) ≡ option_map (λ (x : Vertex). x.planes) o
planes_moved None to = refl
planes_moved (Some x) to = refl

pub moved_is : (inside : Point → Bool) (m : Mesh) (v : ℕ) (to : Point) → move_verdict inside m v to ≡ Done → IsMoved m (moved m v to) v to
moved_is inside m v to done =
    let f : Vertex → Vertex = λ x. record x { point = to } in
    let at : (w : ℕ) → finite.get (moved m v to).vertices w ≡ cond (eqb w v) (option_map f (finite.get m.vertices v)) (finite.get m.vertices w) = λ w. get-with m v w f in
    let held = held_at inside (point_of m v) (move_passed inside m v to (ap is_done done)).0 in
    record {
      there = ap (option_map (λ (x : Vertex). x.point)) (at v ∙ ap (λ (b : Bool). cond b (option_map f (finite.get m.vertices v)) (finite.get m.vertices v)) (eq-eqb v v refl)) ∙ point_moved (finite.get m.vertices v) held.0 to held.1;
      others = λ w apart. ap (option_map (λ (x : Vertex). x.point)) (at w ∙ ap (λ (b : Bool). cond b (option_map f (finite.get m.vertices v)) (finite.get m.vertices w)) (ne_eqb w v apart));
      planes = λ w. ap (option_map (λ (x : Vertex). x.planes)) (at w) ∙ elim (eqb w v) as (λ b. eqb w v ≡ b → option_map (λ (x : Vertex). x.planes) (cond b (option_map f (finite.get m.vertices v)) (finite.get m.vertices w)) ≡ planes_of m w) [
        | true ↦ λ e. planes_moved (finite.get m.vertices v) to ∙ ap (planes_of m) (sym (eqb-true w v e))
        | false ↦ λ _. refl
      ] refl;
      tris = refl;
    }
