-- A collapse leaves the verdicts and costs of pairs away from its ring.
use Rattle.std.proofs.Common.{◌≡◌, ◌≢◌, ℕ, ℤ, Bool, true, false, cond, not, ◌&&◌, ◌||◌, eqb, List, [], ◌∷◌, ◌++◌, map, Option, Some, None, flat_map, refl, sym, ap, ◌∙◌, subst, inl, inr}
use Rattle.std.proofs.lemmas.Bool.{false≢true, both_ways, eqb-true, ne_eqb, or_cases, or_left, or_right, and_parts, and_from, false_from_ne_true}
use Rattle.std.proofs.lemmas.List.Folds.{list_any-append}
use Rattle.std.proofs.lemmas.List.Elements.{filter_agree}
use Rattle.std.proofs.lemmas.List.Sorted.{IsPermutation-refl}
use Rattle.std.specs.FinMap as finite
use Rattle.std.specs.List.{list_any, filter}
use Rattle.std.specs.List.Sorted.{IsSorted}
use Rattle.std.specs.Option.{option_map, option_map_or}
use Rattle.oemm_lists.specs.Ascending.{in_order}
use Rattle.oemm_octree.specs.declared.points.Point.{Point}
use Rattle.mesh_data.specs.declared.geometry.Vertex.{Vertex}
use Rattle.mesh_data.specs.declared.geometry.Tri.{Tri}
use Rattle.mesh_data.specs.declared.planes.Plane.{Plane}
use Rattle.mesh_data.specs.Edits.{is_held, planes_or_none, point_or_origin, renamed, substituted, collapsed_tris, collapsed, collapse_verdict, cost}
use Rattle.mesh_data.specs.Links.{has_both, are_neighbours}
use Rattle.mesh_data.specs.Mesh.{Mesh, origin, with_vertex}
use Rattle.mesh_data.specs.Planes.{squares}
use Rattle.mesh_data.specs.Triangles.{corners, has_corner, star, turned, tri_cmp}
use Rattle.triangle_lists.proofs.Orders.{tri_cmp_total, tri_cmp-IsAntisymmetric}
use Rattle.triangle_lists.proofs.Sorting.{in_order_from_sort}
use Rattle.oemm_lists.specs.Numbers.{among}
use Rattle.edit_laws.specs.Away.{AreTurned, IsAway}
use Rattle.edit_laws.specs.Alike.{Alike, AlikeAround}
use Rattle.edit_laws.proofs.Stars.{apart_from}
use Rattle.triangle_lists.proofs.Filters.{filter-in_order, filter-map, filter-swap}
use Rattle.edit_laws.proofs.Locality.{corner_on, collapse_alike}
use Rattle.edit_laws.proofs.SeenVerdicts.{at_some, on_corners}
use Rattle.edit_laws.proofs.SeenEffects.{get-with, get-collapsed, held-collapsed, any-turned, taking}

-- ---- names that share a triangle
abbrev pub beside : ℕ → List Tri → List ℕ
beside v ts = flat_map corners (star v ts)

pub corners_on : (w : ℕ) (t : Tri) → among w (corners t) ≡ true → has_corner w t ≡ true
corners_on w t on =
    elim (or_cases (eqb t.a w) _ on) [
      | inl e ↦ or_left (eqb t.a w || eqb t.b w) _ (or_left (eqb t.a w) _ e)
      | inr two ↦ elim (or_cases (eqb t.b w) _ two) [
        | inl e ↦ or_left (eqb t.a w || eqb t.b w) _ (or_right (eqb t.a w) _ e)
        | inr three ↦ elim (or_cases (eqb t.c w) false three) [ inl e ↦ or_right (eqb t.a w || eqb t.b w) _ e | inr never ↦ absurd (false≢true never) ]
      ]
    ]

-- they are neighbours
sharing : (v w : ℕ) (ts : List Tri) → among w (beside v ts) ≡ true → list_any (has_both v w) ts ≡ true
sharing v w [] on = absurd (false≢true on)
sharing v w (t ∷ ts) on =
    elim (has_corner v t) as (λ b. has_corner v t ≡ b → among w (flat_map corners (cond b (t ∷ star v ts) (star v ts))) ≡ true → list_any (has_both v w) (t ∷ ts) ≡ true) [
      | true ↦ λ at on'. elim (or_cases (among w (corners t)) (among w (beside v ts)) (sym (list_any-append (λ n. eqb n w) (corners t) (beside v ts)) ∙ on')) [
        | inl here ↦ or_left (has_both v w t) _ (and_from (has_corner v t) (has_corner w t) at (corners_on w t here))
        | inr later ↦ or_right (has_both v w t) _ (sharing v w ts later)
      ]
      | false ↦ λ _ on'. or_right (has_both v w t) _ (sharing v w ts on')
    ] refl on

-- and so is the other
pub beside_both : (v w : ℕ) (ts : List Tri) → among w (beside v ts) ≡ true → among v (beside w ts) ≡ true
beside_both v w ts on =
    at_some (has_both v w) w v ts (λ t h. (and_parts (has_corner v t) (has_corner w t) h).1) (λ t h. (and_parts (has_corner v t) (has_corner w t) h).0) (sharing v w ts on)

pub among-part : (w : ℕ) (p : ℕ → Bool) (ns : List ℕ) → among w (filter p ns) ≡ true → among w ns ≡ true
among-part w p [] on = on
among-part w p (n ∷ ns) on =
    elim (p n) as (λ b. among w (cond b (n ∷ filter p ns) (filter p ns)) ≡ true → among w (n ∷ ns) ≡ true) [
      | true ↦ λ h. elim (or_cases (eqb n w) (among w (filter p ns)) h) [ inl e ↦ or_left (eqb n w) _ e | inr later ↦ or_right (eqb n w) _ (among-part w p ns later) ]
      | false ↦ λ h. or_right (eqb n w) _ (among-part w p ns h)
    ] on

-- ---- triangles away from the ring of u
has-turned : (x : ℕ) (t : Tri) → has_corner x (turned t) ≡ has_corner x t
has-turned x t =
    or_flat (eqb (turned t).a x) (eqb (turned t).b x) (eqb (turned t).c x) ∙ any-turned (λ w. eqb w x) t ∙ sym (or_flat (eqb t.a x) (eqb t.b x) (eqb t.c x))
  where
    or_flat : (a b c : Bool) → ((a || b) || c) ≡ (a || (b || (c || false)))
    or_flat true b c = refl
    or_flat false true c = refl
    or_flat false false true = refl
    or_flat false false false = refl

renamed_is : (u v w x : ℕ) → x ≢ u → x ≢ v → eqb (renamed u v w) x ≡ eqb w x
renamed_is u v w x xu xv =
    elim (eqb w u) as (λ b. eqb w u ≡ b → eqb (cond b v w) x ≡ eqb w x) [
      | true ↦ λ e. ne_eqb v x (λ f. xv (sym f)) ∙ sym (ne_eqb w x (λ f. xu (sym f ∙ eqb-true w u e)))
      | false ↦ λ _. refl
    ] refl

has-put : (u v x : ℕ) (t : Tri) → x ≢ u → x ≢ v → has_corner x (turned (substituted u v t)) ≡ has_corner x t
has-put u v x t xu xv = has-turned x (substituted u v t) ∙ (λ i. (renamed_is u v t.a x xu xv i || renamed_is u v t.b x xu xv i) || renamed_is u v t.c x xu xv i)

pub put-away : (u v : ℕ) (t : Tri) → has_corner u t ≡ false → substituted u v t ≡ t
put-away u v t away =
    let parts = apart_from u t away in
    λ i. record { a = cond (parts.0 i) v t.a; b = cond (parts.1 i) v t.b; c = cond (parts.2 i) v t.c }

star_kept : (u v x : ℕ) (ts : List Tri) → among x (beside u ts) ≡ false → AreTurned ts → map (λ t. turned (substituted u v t)) (filter (λ t. not (has_both u v t)) (star x ts)) ≡ star x ts
star_kept u v x [] away turn = refl
star_kept u v x (t ∷ ts) away turn =
    let kept : Tri → Bool = λ t. not (has_both u v t) in
    let put : Tri → Tri = λ t. turned (substituted u v t) in
    let behind : among x (beside u ts) ≡ false = elim (has_corner u t) as (λ b. among x (flat_map corners (cond b (t ∷ star u ts) (star u ts))) ≡ false → among x (beside u ts) ≡ false) [
      | true ↦ λ h. false_from_ne_true _ (λ on. false≢true (sym h ∙ list_any-append (λ n. eqb n x) (corners t) (beside u ts) ∙ or_right (among x (corners t)) _ on))
      | false ↦ λ h. h
    ] away in
    let rest = star_kept u v x ts behind turn.1 in
    elim (has_corner x t) as (λ b. has_corner x t ≡ b → map put (filter kept (cond b (t ∷ star x ts) (star x ts))) ≡ cond b (t ∷ star x ts) (star x ts)) [
      | true ↦ λ at.
          let out : has_corner u t ≡ false = false_from_ne_true _ (λ on. false≢true (sym away ∙ corner_on x t ts u (on_corners x t at) on)) in
          let stays : kept t ≡ true = ap (λ (b : Bool). not (b && has_corner v t)) out in
          let same : put t ≡ t = ap turned (put-away u v t out) ∙ turn.0 in
          ap (λ (b : Bool). map put (cond b (t ∷ filter kept (star x ts)) (filter kept (star x ts)))) stays ∙ (λ i. same i ∷ rest i)
      | false ↦ λ _. rest
    ] refl

pub star-collapsed : (u v x : ℕ) (ts : List Tri) → x ≢ u → x ≢ v → among x (beside u ts) ≡ false → AreTurned ts → IsSorted tri_cmp ts → star x (collapsed_tris u v ts) ≡ star x ts
unfolding collapsed_tris
star-collapsed u v x ts xu xv away turn up =
    let kept : Tri → Bool = λ t. not (has_both u v t) in
    let put : Tri → Tri = λ t. turned (substituted u v t) in
    let sorted : ts ≡ in_order tri_cmp ts = in_order_from_sort tri_cmp_total tri_cmp-IsAntisymmetric ts ts (IsPermutation-refl ts) up in
    filter-in_order tri_cmp_total (has_corner x) (map put (filter kept ts))
    ∙ ap (in_order tri_cmp) (filter-map (has_corner x) put (filter kept ts) ∙ ap (map put) (filter_agree (λ t. has_corner x (put t)) (has_corner x) (λ t. has-put u v x t xu xv) (filter kept ts) ∙ filter-swap (has_corner x) kept ts) ∙ star_kept u v x ts away turn)
    ∙ sym (filter-in_order tri_cmp_total (has_corner x) ts)
    ∙ ap (star x) (sym sorted)

-- ---- what else stays
pub get-away : (m : Mesh) (u v w : ℕ) → w ≢ u → finite.get (collapsed m u v).vertices w ≡ cond (eqb w v) (option_map (taking m u) (finite.get m.vertices v)) (finite.get m.vertices w)
get-away m u v w wu = get-collapsed m u v w ∙ ap (λ (b : Bool). cond b None (finite.get (with_vertex m v (taking m u)).vertices w)) (ne_eqb w u wu) ∙ get-with m v w (taking m u)

point_taking : (m : Mesh) (u : ℕ) (o : Option Vertex) → option_map (λ (x : Vertex). x.point) (option_map (taking m u) o) ≡ option_map (λ (x : Vertex). x.point) o
point_taking m u None = refl
point_taking m u (Some x) = refl

pub point-away : (m : Mesh) (u v w : ℕ) → w ≢ u → point_or_origin (collapsed m u v) w ≡ point_or_origin m w
point-away m u v w wu =
    let point : Option Vertex → Point = λ o. option_map_or (λ p. p) (option_map (λ (x : Vertex). x.point) o) origin in
    ap point (get-away m u v w wu)
    ∙ elim (eqb w v) as (λ b. eqb w v ≡ b → point (cond b (option_map (taking m u) (finite.get m.vertices v)) (finite.get m.vertices w)) ≡ point_or_origin m w) [
      | true ↦ λ e. ap (λ (o : Option Point). option_map_or (λ p. p) o origin) (point_taking m u (finite.get m.vertices v)) ∙ ap (point_or_origin m) (sym (eqb-true w v e))
      | false ↦ λ _. refl
    ] refl

pub planes-away : (m : Mesh) (u v w : ℕ) → w ≢ u → w ≢ v → planes_or_none (collapsed m u v) w ≡ planes_or_none m w
planes-away m u v w wu wv =
    let planes : Option Vertex → List Plane = λ o. option_map_or (λ ps. ps) (option_map (λ (x : Vertex). x.planes) o) [] in
    ap planes (get-away m u v w wu) ∙ ap (λ (b : Bool). planes (cond b (option_map (taking m u) (finite.get m.vertices v)) (finite.get m.vertices w))) (ne_eqb w v wv)

alike_away : (inside : Point → Bool) (m : Mesh) (u v w : ℕ) → w ≢ u → Alike inside m (collapsed m u v) w
alike_away inside m u v w wu =
    record {
      held_too = sym (held-collapsed inside m u v w ∙ ap (λ (b : Bool). cond b false (is_held inside m w)) (ne_eqb w u wu));
      same = λ _. sym (point-away m u v w wu);
    }

around_away : (inside : Point → Bool) (m : Mesh) (u v x : ℕ) → AreTurned m.tris → IsSorted tri_cmp m.tris → are_neighbours m.tris u v ≡ true → IsAway m u x → AlikeAround inside m (collapsed m u v) x
around_away inside m u v x turn up near away =
    let xv : x ≢ v = λ e. both_ways (are_neighbours m.tris u x) away.from_ring (subst (λ (w : ℕ). are_neighbours m.tris u w ≡ true) (sym e) near) in
    let far : among x (beside u m.tris) ≡ false = false_from_ne_true _ (λ on. both_ways (are_neighbours m.tris u x) away.from_ring (sharing u x m.tris on)) in
    record {
      star = sym (star-collapsed u v x m.tris away.from_u xv far turn up);
      itself = alike_away inside m u v x away.from_u;
      others = λ w on. alike_away inside m u v w (λ e. both_ways (among x (beside u m.tris)) far (beside_both x u m.tris (subst (λ (z : ℕ). among z (beside x m.tris) ≡ true) e (among-part w (λ z. not (eqb z x)) (beside x m.tris) on))));
      planes = λ _. sym (planes-away m u v x away.from_u xv);
    }

-- only pairs with a name of the ring of u, or u itself, can change their verdict
pub far_pairs : (inside : Point → Bool) (m : Mesh) (u v x y : ℕ) (most : ℤ) → AreTurned m.tris → IsSorted tri_cmp m.tris → are_neighbours m.tris u v ≡ true → IsAway m u x → IsAway m u y → collapse_verdict inside (collapsed m u v) x y most ≡ collapse_verdict inside m x y most
far_pairs inside m u v x y most turn up near of_x of_y =
    sym (collapse_alike inside m (collapsed m u v) x y most (around_away inside m u v x turn up near of_x) (around_away inside m u v y turn up near of_y))

-- and only those with v, or with u, their cost
pub far_costs : (m : Mesh) (u v x y : ℕ) → x ≢ u → x ≢ v → y ≢ u → y ≢ v → cost (collapsed m u v) x y ≡ cost m x y
far_costs m u v x y xu xv yu yv = λ i. squares (planes-away m u v x xu xv i ++ planes-away m u v y yu yv i) (point-away m u v y yu i)
