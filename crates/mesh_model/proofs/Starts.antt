-- The triangles of a start mesh: faces that are turned and put in order keep what holds of each.
use Rattle.std.proofs.Common.{◌≡◌, ◌≢◌, ℕ, true, false, cond, ◌&&◌, List, [], ◌∷◌, length, map, nat_lt, ◌∙◌, arith}
use Rattle.std.proofs.lemmas.List.Elements.{All-from_recursion, recursion_from_All}
use Rattle.std.proofs.lemmas.Bool.Decides.{nat_tests}
use Rattle.std.specs.List.{All, AllByRecursion}
use Rattle.std.specs.Ordering.{nat_cmp, is_le}
use Rattle.std.specs.declared.cmp.Ordering.{Ordering}
use Rattle.std.specs.FinMap as finite
use Rattle.oemm_octree.specs.declared.points.Point.{Point}
use Rattle.mesh_data.specs.declared.geometry.Tri.{Tri}
use Rattle.mesh_data.specs.declared.geometry.Vertex.{Vertex}
use Rattle.mesh_data.specs.declared.planes.Plane.{Plane}
use Rattle.oemm_lists.specs.Ascending.{inserted, in_order}
use Rattle.mesh_data.specs.Manifold.{IsTriangleOf}
use Rattle.mesh_data.specs.Mesh.{named_from}
use Rattle.mesh_data.specs.Triangles.{IsProper, IsBelow, turned, tri_cmp}
use Rattle.edit_steps.proofs.Vertices.{contains-vertices_from}

-- what holds of a triangle however it is turned holds of the turned one
turned_keeps : (P : Tri → Type 0) → ((t : Tri) → P t → P (record { a = t.b; b = t.c; c = t.a })) → (t : Tri) → P t → P (turned t)
turned_keeps P turn t h =
    let next = turn t h in
    let third = turn _ next in
    elim (nat_lt t.a t.b && nat_lt t.a t.c) as (λ b. P (cond b t (cond (nat_lt t.b t.c) (record { a = t.b; b = t.c; c = t.a }) (record { a = t.c; b = t.a; c = t.b })))) [
      | true ↦ h
      | false ↦ elim (nat_lt t.b t.c) as (λ b. P (cond b (record { a = t.b; b = t.c; c = t.a }) (record { a = t.c; b = t.a; c = t.b }))) [ true ↦ next | false ↦ third ]
    ]

all_placed : {X : Type 0} (P : X → Type 0) (R : X → X → Ordering) (x : X) (xs : List X) → P x → AllByRecursion P xs → AllByRecursion P (inserted R x xs)
all_placed P R x [] h all = (h, tt)
all_placed P R x (y ∷ ys) h all =
    elim (is_le (R x y)) as (λ b. AllByRecursion P (cond b (x ∷ y ∷ ys) (y ∷ inserted R x ys))) [ true ↦ (h, all) | false ↦ (all.0, all_placed P R x ys h all.1) ]

all_in_order : {X : Type 0} (P : X → Type 0) (R : X → X → Ordering) (xs : List X) → AllByRecursion P xs → AllByRecursion P (in_order R xs)
all_in_order P R [] all = tt
all_in_order P R (x ∷ xs) all = all_placed P R x (in_order R xs) all.0 (all_in_order P R xs all.1)

all_turned : (P : Tri → Type 0) → ((t : Tri) → P t → P (record { a = t.b; b = t.c; c = t.a })) → (ts : List Tri) → AllByRecursion P ts → AllByRecursion P (map turned ts)
all_turned P turn [] all = tt
all_turned P turn (t ∷ ts) all = (turned_keeps P turn t all.0, all_turned P turn ts all.1)

all_started : (P : Tri → Type 0) → ((t : Tri) → P t → P (record { a = t.b; b = t.c; c = t.a })) → (ts : List Tri) → All P ts → All P (in_order tri_cmp (map turned ts))
all_started P turn ts all =
    All-from_recursion P _ (all_in_order P tri_cmp (map turned ts) (all_turned P turn ts (recursion_from_All P ts all)))

pub proper_started : (ts : List Tri) → All IsProper ts → All IsProper (in_order tri_cmp (map turned ts))
proper_started = all_started IsProper (λ t h. (h.1, h.2, h.0))

pub below_started : (n : ℕ) (ts : List Tri) → All (IsBelow n) ts → All (IsBelow n) (in_order tri_cmp (map turned ts))
below_started n = all_started (IsBelow n) (λ t h. (h.1, h.2, h.0))

-- a proper triangle that is turned has its least name first
turned_twice : (t : Tri) → IsProper t → turned (turned t) ≡ turned t
turned_twice t proper =
    let ab : t.a ≢ t.b = proper.0 in
    let bc : t.b ≢ t.c = proper.1 in
    let ca : t.c ≢ t.a = proper.2 in
    grind (arith, nat_tests)

all_are_turned : (ts : List Tri) → AllByRecursion IsProper ts → AllByRecursion (λ t. turned t ≡ t) (map turned ts)
all_are_turned [] all = tt
all_are_turned (t ∷ ts) all = (turned_twice t all.0, all_are_turned ts all.1)

pub turned_started : (ts : List Tri) → All IsProper ts → All (λ t. turned t ≡ t) (in_order tri_cmp (map turned ts))
turned_started ts all =
    All-from_recursion (λ t. turned t ≡ t) _ (all_in_order (λ t. turned t ≡ t) tri_cmp (map turned ts) (all_are_turned ts (recursion_from_All IsProper ts all)))

-- triangles whose names are places of points are triangles of their vertices
pub triangles_started : (planes : ℕ → List Plane) (ps : List Point) (ts : List Tri) → All IsProper ts → All (IsBelow (length ps)) ts → All (IsTriangleOf (finite.from_entries {R = nat_cmp} (named_from planes 0 ps))) (in_order tri_cmp (map turned ts))
triangles_started planes ps ts proper below k d lt =
    let under = below_started (length ps) ts below k d lt in
    record {
      proper = proper_started ts proper k d lt;
      is_turned = turned_started ts proper k d lt;
      a = contains-vertices_from planes ps _ under.0;
      b = contains-vertices_from planes ps _ under.1;
      c = contains-vertices_from planes ps _ under.2;
    }

-- triangles stay those of vertices that have the same names
pub triangles_of_same : (m n : finite.FinMap nat_cmp Vertex) (ts : List Tri) → ((v : ℕ) → finite.contains_key n v ≡ finite.contains_key m v) → All (IsTriangleOf m) ts → All (IsTriangleOf n) ts
triangles_of_same m n ts same all k d lt =
    let old = all k d lt in
    record { proper = old.proper; is_turned = old.is_turned; a = same _ ∙ old.a; b = same _ ∙ old.b; c = same _ ∙ old.c }
