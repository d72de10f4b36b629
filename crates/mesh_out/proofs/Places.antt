-- Where a name stands among ascending names.
use Rattle.std.proofs.Common.{◌≡◌, ◌∙◌, ℕ, ◌<◌, ◌≤◌, ◌+◌, List, [], ◌∷◌, length, map, get_or, zero, suc, ltb, Bool, cond, true, false, subst, sym, refl, Some, slice_get, arith, add-one}
use Rattle.std.specs.FinMap as finite
use Rattle.std.specs.List.{All, Contains, count_by}
use Rattle.std.specs.List.Sorted.{IsStrictlyIncreasing, IsPartitionedBy, IsPartitionPoint}
use Rattle.std.proofs.lemmas.Bool.{ltb-true, lt-ltb, le-ltb}
use Rattle.std.proofs.lemmas.Grind.{common_steps}
use Rattle.std.proofs.lemmas.List.{get_or_default, length-map}
use Rattle.std.proofs.lemmas.List.Elements.{All-map}
use Rattle.std.proofs.lemmas.List.Kept.{AllPairs-from_increasing}
use Rattle.std.proofs.lemmas.List.Sums.{count_by-le-length, sum_by-cons}
use Rattle.std.proofs.lemmas.List.Sorted.{IsNonDecreasingBy-from_all_adjacent, IsPartitionedBy-ltb}
use Rattle.std.proofs.lemmas.Map.Lookups.{exact_unsigned}
use Rattle.std.proofs.lemmas.Map.Views.{Contains-from_any, tells_apart}
use Rattle.std.proofs.lemmas.Option.{slice_get_within, get_or_from_slice_get}
use Rattle.mesh_data.specs.declared.geometry.Tri.{Tri}
use Rattle.mesh_data.specs.Manifold.{IsTriangleOf}
use Rattle.mesh_data.specs.Mesh.{Mesh, names_of, points_of}
use Rattle.mesh_data.specs.Triangles.{IsBelow}
use Rattle.mesh_out.specs.MeshBytes.{position_of, renumbered, faces_of, IsNamedBy}

-- among ascending names, those below v come first
pub IsPartitionedBy-increasing : (names : List ℕ) (v : ℕ) → IsStrictlyIncreasing names → IsPartitionedBy (λ n. ltb n v) names
IsPartitionedBy-increasing names v up =
    IsPartitionedBy-ltb (λ n. n) names v (IsNonDecreasingBy-from_all_adjacent (λ n. n) names (λ k d h. grind (arith, common_steps, up k h, get_or_default names k d 0 (omega arith), get_or_default names (k + 1) d 0 h)))

-- the name at place k is at least k
pub place_le : (names : List ℕ) → IsStrictlyIncreasing names → (k : ℕ) → k < length names → k ≤ get_or names k 0
place_le names up zero h = omega arith
place_le names up (suc k) h =
    let step : get_or names k 0 < get_or names (suc k) 0 = rw add-one at (up k (omega arith)) in
    let below : k ≤ get_or names k 0 = place_le names up k (omega arith) in
    omega arith

-- where the names before a place lie below v, the place is at most v
pub place_le_name : (names : List ℕ) (v i : ℕ) → IsStrictlyIncreasing names → i ≤ length names → IsPartitionPoint (λ n. ltb n v ≡ true) (λ n. ltb n v ≡ false) names i → i ≤ v
place_le_name names v zero up within point = omega arith
place_le_name names v (suc i) up within point =
    let last : get_or names i 0 < v = ltb-true (get_or names i 0) v (point.0 i 0 (omega arith) (omega arith)) in
    let low : i ≤ get_or names i 0 = place_le names up i (omega arith) in
    omega arith

-- what a first name adds to the number of names below v
count_by-cons : (n v : ℕ) (ns : List ℕ) (b : Bool) → ltb n v ≡ b → count_by (λ x. ltb x v) (n ∷ ns) ≡ cond b 1 0 + count_by (λ x. ltb x v) ns
count_by-cons n v ns b h = subst (λ (w : Bool). count_by (λ x. ltb x v) (n ∷ ns) ≡ cond w 1 0 + count_by (λ x. ltb x v) ns) h (sum_by-cons (λ x. cond (ltb x v) 1 0) n ns)

-- where the names before a place lie below v and the others don't, the place is the number of names below v
pub count_by_front : (names : List ℕ) (v i : ℕ) → i ≤ length names → IsPartitionPoint (λ n. ltb n v ≡ true) (λ n. ltb n v ≡ false) names i → i ≡ count_by (λ n. ltb n v) names
count_by_front [] v i within point = omega arith
count_by_front (n ∷ ns) v zero within point =
    let rest = count_by_front ns v 0 (omega arith) (λ k d low high. absurd (omega arith), λ k d low high. point.1 (suc k) d (omega arith) (omega arith)) in
    omega (arith, count_by-cons n v ns false (point.1 0 0 (omega arith) (omega arith)))
count_by_front (n ∷ ns) v (suc i) within point =
    let rest = count_by_front ns v i (omega arith) (λ k d low high. point.0 (suc k) d (omega arith) (omega arith), λ k d low high. point.1 (suc k) d (omega arith) (omega arith)) in
    omega (arith, count_by-cons n v ns true (point.0 0 0 (omega arith) (omega arith)))

-- at the place of a name the names below it end
pub place_splits :
    (names : List ℕ) (v k : ℕ) → IsStrictlyIncreasing names → slice_get names k ≡ Some v →
    IsPartitionPoint (λ n. ltb n v ≡ true) (λ n. ltb n v ≡ false) names k
place_splits names v k up at =
    let within : k < length names = slice_get_within names k v at in
    let pairs = AllPairs-from_increasing names up in (
      λ j d low high. lt-ltb (get_or names j d) v (
          let is : get_or names k d ≡ v = get_or_from_slice_get names k v d at in
          let step : get_or names j d < get_or names k d = pairs j k d high within in
          omega arith),
      λ j d low high. le-ltb (get_or names j d) v (
          let is : get_or names k d ≡ v = get_or_from_slice_get names k v d at in
          let same : k ≡ j → get_or names j d ≡ v = λ e. subst (λ (i : ℕ). get_or names i d ≡ v) e is in
          let step : k < j → get_or names k d < get_or names j d = λ lt. pairs k j d lt high in
          grind (arith, is, same, step)),
    )

-- a name's position is its place
pub position_is_place :
    (names : List ℕ) (v k : ℕ) → IsStrictlyIncreasing names → slice_get names k ≡ Some v →
    position_of names v ≡ k
position_is_place names v k up at =
    let within : k < length names = slice_get_within names k v at in
    sym (count_by_front names v k (omega arith) (place_splits names v k up at))

-- fewer names lie below one of them than there are
count_by_lt :
    (names : List ℕ) (v k : ℕ) → k < length names → get_or names k v ≡ v →
    count_by (λ n. ltb n v) names < length names
count_by_lt [] v k lt is = absurd (omega arith)
count_by_lt (n ∷ ns) v zero lt is =
    omega (arith, count_by-cons n v ns false (le-ltb n v (omega arith)), count_by-le-length (λ x. ltb x v) ns)
count_by_lt (n ∷ ns) v (suc k) lt is =
    let rest : count_by (λ x. ltb x v) ns < length ns = count_by_lt ns v k (omega arith) is in
    grind (arith, common_steps, count_by-cons n v ns (ltb n v) refl)

-- the position of one of the names is below their number
one_within : (names : List ℕ) (v : ℕ) → Contains names v → position_of names v < length names
one_within names v h = count_by_lt names v h.0 h.1 h.2

pub all_within :
    (names : List ℕ) (tris : List Tri) → All (IsNamedBy names) tris →
    All (IsBelow (length names)) (map (renumbered names) tris)
all_within names tris named =
    All-map (IsBelow (length names)) (renumbered names) tris (λ k t lt. (one_within names _ (named k t lt).0, one_within names _ (named k t lt).1, one_within names _ (named k t lt).2))

-- a name of a mesh's vertices is among their names
vertex_named : (m : Mesh) (v : ℕ) → finite.contains_key m.vertices v ≡ true → Contains (names_of m) v
vertex_named m v has =
    Contains-from_any (tells_apart exact_unsigned) v (names_of m) (sym (finite.contains_key-keys m.vertices v) ∙ has)

-- a mesh has as many points as names
length-points_of : (m : Mesh) → length (points_of m) ≡ length (names_of m)
length-points_of m =
    length-map (finite.values m.vertices) (λ x. x.point) ∙ length-map (finite.entries m.vertices) (λ e. e.1)
    ∙ sym (length-map (finite.entries m.vertices) (λ e. e.0))

-- no face of a mesh's file has an index out of range
pub faces_within :
    (m : Mesh) → All (IsTriangleOf m.vertices) m.tris → All (IsBelow (length (points_of m))) (faces_of m)
faces_within m on =
    subst (λ (n : ℕ). All (IsBelow n) (faces_of m)) (sym (length-points_of m))
    (all_within (names_of m) m.tris (λ k t lt. (vertex_named m _ (on k t lt).a, vertex_named m _ (on k t lt).b, vertex_named m _ (on k t lt).c)))
