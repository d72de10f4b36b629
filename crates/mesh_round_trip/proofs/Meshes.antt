-- The places of a mesh's names, which stand for them in a file.
use Rattle.std.proofs.Common.{◌≡◌, ◌≢◌, refl, ℕ, ◌+◌, ◌<◌, ◌≤◌, nat_lt, cond, Bool, true, false, ◌||◌, ◌⊎◌, inl, inr, List, [], ◌∷◌, length, map, sym, ◌∙◌, arith, eqb-true}
use Rattle.std.specs.List.{AllByRecursion, list_any}
use Rattle.std.specs.Ordering.{nat_cmp, eq_by_cmp}
use Rattle.std.specs.Cmp.{unsigned_tied}
use Rattle.std.specs.FinMap as finite
use Rattle.std.proofs.lemmas.List.{length-map}
use Rattle.std.proofs.lemmas.List.Elements.{recursion_from_All, All-from_recursion}
use Rattle.std.proofs.lemmas.List.Sums.{count_by-le-length, sum_by-cons}
use Rattle.std.proofs.lemmas.Bool.Decides.{nat_tests}
use Rattle.mesh_data.specs.declared.geometry.Tri.{Tri}
use Rattle.mesh_data.specs.Manifold.{IsTriangleOf}
use Rattle.mesh_data.specs.Mesh.{Mesh, names_of, points_of}
use Rattle.mesh_data.specs.Triangles.{IsProper, IsBelow}
use Rattle.mesh_out.specs.MeshBytes.{position_of, renumbered, faces_of}
use Rattle.mesh_round_trip.specs.Whole.{IsWritable, IsWritableMesh}

-- the name is one of these
abbrev IsAmong : List ℕ → ℕ → Type 0
IsAmong names v = list_any (eq_by_cmp nat_cmp v) names ≡ true

either : (a b : Bool) → (a || b) ≡ true → (a ≡ true) ⊎ (b ≡ true)
either true b holds = inl refl
either false b holds = inr holds

test_rises : (n u v : ℕ) → u ≤ v → cond (nat_lt n u) 1 0 ≤ cond (nat_lt n v) 1 0
test_rises n u v order = grind (arith, nat_tests)

position_of-cons : (n : ℕ) (ns : List ℕ) (v : ℕ) → position_of (n ∷ ns) v ≡ cond (nat_lt n v) 1 0 + position_of ns v
position_of-cons n ns v = sum_by-cons (λ x. cond (nat_lt x v) 1 0) n ns

position_rises : (names : List ℕ) (u v : ℕ) → u ≤ v → position_of names u ≤ position_of names v
position_rises [] u v order = omega arith
position_rises (n ∷ ns) u v order = omega (arith, position_of-cons n ns u, position_of-cons n ns v, test_rises n u v order, position_rises ns u v order)

at_its_name : (n u v : ℕ) → u ≡ n → u < v → cond (nat_lt n u) 1 0 < cond (nat_lt n v) 1 0
at_its_name n u v same order = grind (arith, nat_tests)

-- the greater of two names has the greater place
position_less : (names : List ℕ) (u v : ℕ) → IsAmong names u → u < v → position_of names u < position_of names v
position_less [] u v among order = absurd (cc among)
position_less (n ∷ ns) u v among order =
    elim (either (eq_by_cmp nat_cmp u n) (list_any (eq_by_cmp nat_cmp u) ns) among) [
      | inl here ↦ omega (arith, position_of-cons n ns u, position_of-cons n ns v, at_its_name n u v (eqb-true u n (sym (unsigned_tied u n) ∙ here)) order, position_rises ns u v (omega arith))
      | inr later ↦ omega (arith, position_of-cons n ns u, position_of-cons n ns v, test_rises n u v (omega arith), position_less ns u v later order)
    ]

position_below : (names : List ℕ) (u : ℕ) → IsAmong names u → position_of names u < length names
position_below names u among =
    omega (arith, position_less names u (u + 1) among (omega arith), count_by-le-length (λ n. nat_lt n (u + 1)) names)

positions_apart : (names : List ℕ) (u v : ℕ) → IsAmong names u → IsAmong names v → u ≢ v → position_of names u ≢ position_of names v
positions_apart names u v one other apart same =
    let up : u < v → position_of names u < position_of names v = position_less names u v one in
    let down : v < u → position_of names v < position_of names u = position_less names v u other in
    grind (arith, up, down)

named : (m : Mesh) (v : ℕ) → finite.contains_key m.vertices v ≡ true → IsAmong (names_of m) v
named m v there = sym (finite.contains_key-keys m.vertices v) ∙ there

tris_proper : (m : Mesh) (ts : List Tri) → AllByRecursion (IsTriangleOf m.vertices) ts → AllByRecursion IsProper (map (renumbered (names_of m)) ts)
tris_proper m [] held = tt
tris_proper m (t ∷ ts) held =
    let ns : List ℕ = names_of m in
    let a : IsAmong ns t.a = named m t.a held.0.a in
    let b : IsAmong ns t.b = named m t.b held.0.b in
    let c : IsAmong ns t.c = named m t.c held.0.c in
    ((positions_apart ns t.a t.b a b held.0.proper.0, positions_apart ns t.b t.c b c held.0.proper.1, positions_apart ns t.c t.a c a held.0.proper.2), tris_proper m ts held.1)

tris_below : (m : Mesh) (n : ℕ) (ts : List Tri) → length (names_of m) ≡ n → AllByRecursion (IsTriangleOf m.vertices) ts → AllByRecursion (IsBelow n) (map (renumbered (names_of m)) ts)
tris_below m n [] all held = tt
tris_below m n (t ∷ ts) all held =
    let ns : List ℕ = names_of m in
    let a = position_below ns t.a (named m t.a held.0.a) in
    let b = position_below ns t.b (named m t.b held.0.b) in
    let c = position_below ns t.c (named m t.c held.0.c) in
    ((omega arith, omega arith, omega arith), tris_below m n ts all held.1)

-- a point for each name
names_count : (m : Mesh) → length (names_of m) ≡ finite.len m.vertices
names_count m = length-map (finite.entries m.vertices) (λ e. e.0) ∙ sym (finite.len-entries m.vertices)

points_count : (m : Mesh) → length (points_of m) ≡ finite.len m.vertices
points_count m =
    length-map (finite.values m.vertices) (λ v. v.point) ∙ length-map (finite.entries m.vertices) (λ e. e.1) ∙ sym (finite.len-entries m.vertices)

-- the points and faces of a mesh that a file can hold
pub mesh_writable : (m : Mesh) → IsWritableMesh m → IsWritable (points_of m) (faces_of m)
mesh_writable m writable =
    let held = recursion_from_All (IsTriangleOf m.vertices) m.tris writable.triangles in
    let few = writable.few_vertices in
    let fewer = writable.few_triangles in
    record {
      few_points = omega (arith, points_count m);
      few_faces = omega (arith, length-map m.tris (renumbered (names_of m)));
      points_on_grid = writable.points_on_grid;
      faces_proper = All-from_recursion IsProper (faces_of m) (tris_proper m m.tris held);
      faces_below = All-from_recursion (IsBelow (length (points_of m))) (faces_of m)
          (tris_below m (length (points_of m)) m.tris (names_count m ∙ sym (points_count m)) held);
    }
