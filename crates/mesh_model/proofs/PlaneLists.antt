-- The planes of each place, a triangle at a time.
use Rattle.std.proofs.Common.{◌≡◌, ◌≢◌, ℕ, ◌+◌, ◌<◌, Bool, true, false, cond, eqb, ◌||◌, List, [], ◌∷◌, ◌++◌, length, take, get_or, set, map, sym, ap, ◌∙◌, refl, subst, arith, get_or-set_same, get_or-set_other, length-set}
use Rattle.std.proofs.lemmas.Bool.{false≢true, eq-eqb, eqb-true}
use Rattle.std.proofs.lemmas.List.{map-append, append-nil}
use Rattle.std.proofs.lemmas.List.Elements.{filter_more}
use Rattle.oemm_octree.specs.declared.points.Point.{Point}
use Rattle.mesh_data.specs.declared.geometry.Tri.{Tri}
use Rattle.mesh_data.specs.declared.planes.Plane.{Plane}
use Rattle.mesh_data.specs.Mesh.{plane_at, planes_at}
use Rattle.mesh_data.specs.Triangles.{IsProper, IsBelow, has_corner, star}
use Rattle.plane_counts.specs.PlaneCounts.{is_bounded, large_of}
use Rattle.plane_counts.proofs.Stocks.{none_large-push}

-- a plane more in the list of the place i
abbrev pub with_plane : Plane → ℕ → List (List Plane) → List (List Plane)
with_plane p i lists = set lists i (get_or lists i [] ++ p ∷ [])

get-with_plane : (p : Plane) (i v : ℕ) (lists : List (List Plane)) → i < length lists → get_or (with_plane p i lists) v [] ≡ cond (eqb i v) (get_or lists v [] ++ p ∷ []) (get_or lists v [])
get-with_plane p i v lists lt =
    elim (eqb i v) as (λ b. eqb i v ≡ b → get_or (with_plane p i lists) v [] ≡ cond b (get_or lists v [] ++ p ∷ []) (get_or lists v [])) [
      | true ↦ λ e. let same : i ≡ v = eqb-true i v e in subst (λ k. get_or (with_plane p i lists) k [] ≡ get_or lists k [] ++ p ∷ []) same (get_or-set_same lists i _ [] lt)
      | false ↦ λ e. let other : v ≢ i = λ is. false≢true (sym e ∙ eq-eqb i v (sym is)) in get_or-set_other lists i v _ [] other
    ] refl

-- of three tests at most one holds, and then the plane is there once
once_of_three : (x y z : Bool) (ps : List Plane) (p : Plane) → (x ≡ true → y ≡ true → ⊥) → (y ≡ true → z ≡ true → ⊥) → (z ≡ true → x ≡ true → ⊥)
    → cond z (cond y (cond x (ps ++ p ∷ []) ps ++ p ∷ []) (cond x (ps ++ p ∷ []) ps) ++ p ∷ []) (cond y (cond x (ps ++ p ∷ []) ps ++ p ∷ []) (cond x (ps ++ p ∷ []) ps)) ≡ ps ++ cond (x || y || z) (p ∷ []) []
once_of_three true true z ps p xy yz zx = absurd (xy refl refl)
once_of_three true false true ps p xy yz zx = absurd (zx refl refl)
once_of_three true false false ps p xy yz zx = refl
once_of_three false true true ps p xy yz zx = absurd (yz refl refl)
once_of_three false true false ps p xy yz zx = refl
once_of_three false false true ps p xy yz zx = refl
once_of_three false false false ps p xy yz zx = sym (append-nil ps)

apart : (a b v : ℕ) → a ≢ b → eqb a v ≡ true → eqb b v ≡ true → ⊥
apart a b v ne ea eb = ne (eqb-true a v ea ∙ sym (eqb-true b v eb))

-- the plane in the lists of the three corners
abbrev pub with_triangle : Plane → Tri → List (List Plane) → List (List Plane)
with_triangle p t lists = with_plane p t.c (with_plane p t.b (with_plane p t.a lists))

get-with_triangle : (p : Plane) (t : Tri) (v : ℕ) (lists : List (List Plane)) → IsProper t → IsBelow (length lists) t → get_or (with_triangle p t lists) v [] ≡ get_or lists v [] ++ cond (has_corner v t) (p ∷ []) []
get-with_triangle p t v lists proper below =
    let first = with_plane p t.a lists in
    let second = with_plane p t.b first in
    let long : length first ≡ length lists = length-set lists t.a _ in
    let longer : length second ≡ length first = length-set first t.b _ in
    get-with_plane p t.c v second (omega arith)
    ∙ ap (λ (l : List Plane). cond (eqb t.c v) (l ++ p ∷ []) l) (get-with_plane p t.b v first (omega arith))
    ∙ ap (λ (l : List Plane). cond (eqb t.c v) (cond (eqb t.b v) (l ++ p ∷ []) l ++ p ∷ []) (cond (eqb t.b v) (l ++ p ∷ []) l)) (get-with_plane p t.a v lists below.0)
    ∙ once_of_three (eqb t.a v) (eqb t.b v) (eqb t.c v) (get_or lists v []) p (apart t.a t.b v proper.0) (apart t.b t.c v proper.1) (apart t.c t.a v proper.2)

map-cond : (b : Bool) (points : List Point) (t : Tri) → map (plane_at points) (cond b (t ∷ []) []) ≡ cond b (plane_at points t ∷ []) []
map-cond true points t = refl
map-cond false points t = refl

planes_at_more : (points : List Point) (ts : List Tri) (k : ℕ) (d : Tri) (v : ℕ) → k < length ts → planes_at points (take (k + 1) ts) v ≡ planes_at points (take k ts) v ++ cond (has_corner v (get_or ts k d)) (plane_at points (get_or ts k d) ∷ []) []
planes_at_more points ts k d v lt =
    ap (map (plane_at points)) (filter_more (has_corner v) ts k d lt)
    ∙ map-append (plane_at points) (star v (take k ts)) _
    ∙ ap (λ (l : List Plane). planes_at points (take k ts) v ++ l) (map-cond (has_corner v (get_or ts k d)) points (get_or ts k d))

-- what the triangles up to k gave a place, and what one more gives it
pub one_triangle_more : (points : List Point) (ts : List Tri) (k : ℕ) (t : Tri) (v : ℕ) (lists : List (List Plane)) → k < length ts → t ≡ get_or ts k t → IsProper t → IsBelow (length lists) t → get_or lists v [] ≡ planes_at points (take k ts) v
    → get_or (with_triangle (plane_at points t) t lists) v [] ≡ planes_at points (take (k + 1) ts) v
one_triangle_more points ts k t v lists lt is proper below before =
    let given : Tri → List Plane = λ s. cond (has_corner v s) (plane_at points s ∷ []) [] in
    get-with_triangle (plane_at points t) t v lists proper below
    ∙ ap (λ (l : List Plane). l ++ given t) before
    ∙ ap (λ (s : Tri). planes_at points (take k ts) v ++ given s) is
    ∙ sym (planes_at_more points ts k t v lt)

none_large-with_plane : (p : Plane) (i : ℕ) (lists : List (List Plane)) (v : ℕ) → i < length lists → ((w : ℕ) → large_of (get_or lists w []) ≡ 0) → is_bounded p ≡ true → large_of (get_or (with_plane p i lists) v []) ≡ 0
none_large-with_plane p i lists v lt none bounded =
    ap large_of (get-with_plane p i v lists lt)
    ∙ elim (eqb i v) as (λ b. large_of (cond b (get_or lists v [] ++ p ∷ []) (get_or lists v [])) ≡ 0) [
      | true ↦ none_large-push (get_or lists v []) p (none v) bounded
      | false ↦ none v
    ]

-- a plane that isn't large leaves none that is
pub none_large-with_triangle : (p : Plane) (t : Tri) (lists : List (List Plane)) (v : ℕ) → IsBelow (length lists) t → ((w : ℕ) → large_of (get_or lists w []) ≡ 0) → is_bounded p ≡ true → large_of (get_or (with_triangle p t lists) v []) ≡ 0
none_large-with_triangle p t lists v below none bounded =
    let first = with_plane p t.a lists in
    let second = with_plane p t.b first in
    let long : length first ≡ length lists = length-set lists t.a _ in
    let longer : length second ≡ length first = length-set first t.b _ in
    none_large-with_plane p t.c second v (omega arith)
    (λ w. none_large-with_plane p t.b first w (omega arith) (λ x. none_large-with_plane p t.a lists x below.0 none bounded) bounded) bounded
