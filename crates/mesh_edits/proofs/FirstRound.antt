-- The first triangle at a name that passes a test is the first one round it, in order.
use Rattle.std.proofs.Common.{◌≡◌, ℕ, suc, ◌<◌, Bool, true, false, cond, List, [], ◌∷◌, All, Some, None, sym, ap, ◌∙◌, refl, subst, inl, inr, arith}
use Rattle.std.proofs.lemmas.Bool.{both_ways, false≢true}
use Rattle.std.proofs.lemmas.Cmp.{tied_itself}
use Rattle.std.specs.List.{Contains, find}
use Rattle.std.specs.List.Sorted.{IsSorted}
use Rattle.std.specs.Ordering.{is_gt, ordering_reverse}
use Rattle.std.specs.declared.cmp.Ordering.{Ordering}
use Rattle.std.specs.declared.cmp.Ordering.TheVariants.{Less, Equal, Greater}
use Rattle.oemm_lists.specs.Ascending.{in_order}
use Rattle.mesh_data.specs.declared.geometry.Edge.{Edge}
use Rattle.mesh_data.specs.declared.geometry.Tri.{Tri}
use Rattle.mesh_data.specs.declared.rings.Ring.{Ring}
use Rattle.mesh_data.specs.Rings.{IsRing, from_each_corner, path_edges, ring_path}
use Rattle.mesh_data.specs.Triangles.{IsProper, has_corner, tri_cmp, turned}
use Rattle.triangle_lists.proofs.Orders.{tri_cmp_total, tri_cmp-IsAntisymmetric}
use Rattle.triangle_lists.proofs.Rotations.{least_is_first, turned_alone}
use Rattle.triangle_lists.proofs.Sorting.{IsLeast, Rises, Rises-from_sorted, Rises-in_order}
use Rattle.face_rings.specs.Faces.{◌∈◌, Face, Turns, tri}
use Rattle.face_rings.proofs.Corners.{corner_turns}
use Rattle.face_rings.proofs.Fans.{fan_of}
use Rattle.face_rings.proofs.Members.{in_order_from, in_order_to, map_from, map_to}
use Rattle.mesh_edits.specs.Rounds.{round}

-- ---- what is found first in a list in order

least_at : (x y : Tri) (ys : List Tri) → IsLeast tri_cmp_total x ys → y ∈ ys → is_gt (tri_cmp x y) ≡ false
least_at x y [] least on = absurd on
least_at x y (z ∷ ys) least (inl e) = subst (λ (t : Tri). is_gt (tri_cmp x t) ≡ false) (sym e) least.0
least_at x y (z ∷ ys) least (inr on) = least_at x y ys least.1 on

abbrev IsFirst : (Tri → Bool) → List Tri → Tri → Type 0
IsFirst p ts t = (t ∈ ts) × (p t ≡ true) × ((s : Tri) → s ∈ ts → p s ≡ true → is_gt (tri_cmp t s) ≡ false)

first_found : (p : Tri → Bool) (ts : List Tri) (t : Tri) → Rises tri_cmp_total ts → find p ts ≡ Some t → IsFirst p ts t
first_found p [] t rises is = absurd (cc)
first_found p (x ∷ xs) t rises is =
    elim (p x) as (λ b. p x ≡ b → cond b (Some x) (find p xs) ≡ Some t → IsFirst p (x ∷ xs) t) [
      | true ↦ λ passes here.
          let same : x ≡ t = cc in
          subst (IsFirst p (x ∷ xs)) same (inl refl, passes, λ s on _. by x s on rises.0)
      | false ↦ λ fails later.
          let rest = first_found p xs t rises.1 later in
          (inr rest.0, rest.1, λ s on passes. skip s on passes fails rest)
    ] refl is
  where
    by : (x s : Tri) → s ∈ x ∷ xs → IsLeast tri_cmp_total x xs → is_gt (tri_cmp x s) ≡ false
    by y s (inl e) least = subst (λ (u : Tri). is_gt (tri_cmp y u) ≡ false) (sym e) (ap is_gt (tied_itself tri_cmp_total y))
    by y s (inr on) least = least_at y s xs least on

    skip : (s : Tri) → s ∈ x ∷ xs → p s ≡ true → p x ≡ false → IsFirst p xs t → is_gt (tri_cmp t s) ≡ false
    skip s (inl e) passes fails rest = absurd (both_ways (p x) fails (ap p (sym e) ∙ passes))
    skip s (inr on) passes fails rest = rest.2 s on passes

none_found : (p : Tri → Bool) (ts : List Tri) (t : Tri) → find p ts ≡ None → t ∈ ts → p t ≡ true → ⊥
none_found p [] t none on passes = on
none_found p (x ∷ xs) t none on passes =
    elim (p x) as (λ b. p x ≡ b → cond b (Some x) (find p xs) ≡ None → ⊥) [
      | true ↦ λ _ is. absurd (cc)
      | false ↦ λ fails is. elim on [ inl here ↦ both_ways (p x) fails (ap p (sym here) ∙ passes) | inr later ↦ none_found p xs t is later passes ]
    ] refl none

equal_of : (r : Ordering) → is_gt r ≡ false → is_gt (ordering_reverse r) ≡ false → r ≡ Equal
equal_of Less g l = absurd (false≢true (sym l))
equal_of Equal g l = refl
equal_of Greater g l = absurd (false≢true (sym g))

-- lists in order have the same first one that passes, where they have the same that pass
pub find_alike : (p : Tri → Bool) (ts us : List Tri) → Rises tri_cmp_total ts → Rises tri_cmp_total us
    → ((t : Tri) → p t ≡ true → t ∈ ts → t ∈ us) → ((t : Tri) → p t ≡ true → t ∈ us → t ∈ ts) → find p ts ≡ find p us
find_alike p ts us rt ru to from =
    elim (find p ts) as (λ o. find p ts ≡ o → o ≡ find p us) [
      | None ↦ λ none. elim (find p us) as (λ o. find p us ≡ o → None ≡ o) [
        | None ↦ λ _. refl
        | Some u ↦ λ is. let first = first_found p us u ru is in absurd (none_found p ts u none (from u first.1 first.0) first.1)
      ] refl
      | Some t ↦ λ at. let here = first_found p ts t rt at in elim (find p us) as (λ o. find p us ≡ o → Some t ≡ o) [
        | None ↦ λ none. absurd (none_found p us t none (to t here.1 here.0) here.1)
        | Some u ↦ λ is.
            let there = first_found p us u ru is in
            let up = here.2 u (from u there.1 there.0) there.1 in
            let down = there.2 t (to t here.1 here.0) here.1 in
            ap (λ (x : Tri). Some x) (tri_cmp-IsAntisymmetric t u (equal_of (tri_cmp t u) up (ap is_gt (sym (tri_cmp_total.antisymm u t)) ∙ down)))
      ] refl
    ] refl

-- ---- the triangles round a name

rotation : (t : Tri) (u x y : ℕ) → Turns t u x y → Contains (from_each_corner (tri u x y)) t
rotation t u x y (inl e) = (0, omega arith, sym e)
rotation t u x y (inr (inl e)) = (1, omega arith, sym e)
rotation t u x y (inr (inr e)) = (2, omega arith, sym e)

-- a turned triangle is that of its names
turned_is : (t : Tri) (u x y : ℕ) → IsProper t → turned t ≡ t → Turns t u x y → t ≡ turned (tri u x y)
turned_is t u x y proper itself turns =
    let first = least_is_first t proper in
    turned_alone (tri u x y) t (rotation t u x y turns) (subst (λ (s : Tri). s.a < s.b) itself first.0) (subst (λ (s : Tri). s.a < s.c) itself first.1)

all_in : {X : Type 0} (P : X → Type 0) (xs : List X) → All P xs → (x : X) → x ∈ xs → P x
all_in P [] all x i = absurd i
all_in P (y ∷ ys) all x (inl e) = subst P (sym e) (all 0 y (omega arith))
all_in P (y ∷ ys) all x (inr j) = all_in P ys (λ k d lt. all (suc k) d (omega arith)) x j

module _ (ts : List Tri) (shaped : All (λ t. IsProper t × (turned t ≡ t)) ts) (u : ℕ) (r : Ring) (is : IsRing ts u r) where
  round_from : (t : Tri) → t ∈ round u (path_edges (ring_path r)) → t ∈ ts
  round_from t on =
      let m = map_from (λ (e : Edge). turned (tri u e.a e.b)) (path_edges (ring_path r)) t on in
      let face : Face ts u m.0.a m.0.b = (fan_of ts u r is m.0.a m.0.b).1 m.1 in
      let shape = all_in (λ t. IsProper t × (turned t ≡ t)) ts shaped face.0 face.1 in
      subst (λ (s : Tri). s ∈ ts) (turned_is face.0 u m.0.a m.0.b shape.0 shape.1 face.2 ∙ sym m.2) face.1

  round_to : (t : Tri) → has_corner u t ≡ true → t ∈ ts → t ∈ round u (path_edges (ring_path r))
  round_to t corner on =
      let turns = corner_turns t u corner in
      let shape = all_in (λ t. IsProper t × (turned t ≡ t)) ts shaped t on in
      let leads = (fan_of ts u r is turns.0 turns.1).0 (t, on, turns.2) in
      subst (λ (s : Tri). s ∈ round u (path_edges (ring_path r))) (sym (turned_is t u turns.0 turns.1 shape.0 shape.1 turns.2))
      (map_to (λ (e : Edge). turned (tri u e.a e.b)) (path_edges (ring_path r)) (record { a = turns.0; b = turns.1 }) leads)

  -- a test of triangles that have the name finds the same first one round it, in order, as among all
  pub find_round : (p : Tri → Bool) → ((t : Tri) → p t ≡ true → has_corner u t ≡ true) → IsSorted tri_cmp ts → find p (in_order tri_cmp (round u (path_edges (ring_path r)))) ≡ find p ts
  find_round p at sorted =
      let us = round u (path_edges (ring_path r)) in
      find_alike p (in_order tri_cmp us) ts (Rises-in_order tri_cmp_total us) (Rises-from_sorted tri_cmp_total ts sorted)
      (λ t _ on. round_from t (in_order_from t us on)) (λ t passes on. in_order_to t us (round_to t (at t passes) on))
