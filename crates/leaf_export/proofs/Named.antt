-- The names of a mesh's triangles are vertices of its sheets.
use Rattle.std.proofs.Common.{◌≡◌, ◌∙◌, ℕ, ◌<◌, Bool, true, false, cond, eqb, List, [], ◌∷◌, ◌++◌, length, flat_map, sym, ap, refl, Some, None, arith, inl, inr, subst}
use Rattle.std.proofs.lemmas.Bool.{eq-eqb, eqb-true, false≢true, or_left, or_right, or_cases}
use Rattle.std.proofs.lemmas.List.Folds.{Any-from_list_any, list_any-append}
use Rattle.std.proofs.lemmas.List.{get_or_default}
use Rattle.std.proofs.lemmas.List.Elements.{All-from_recursion, recursion_from_All}
use Rattle.std.specs.FinMap as finite
use Rattle.std.specs.List.{filter, range_with_len, All, AllByRecursion, Contains}
use Rattle.std.specs.Option.{option_map, option_map_or, is_some}
use Rattle.oemm_octree.specs.declared.cells.Cell.{Cell}
use Rattle.oemm_octree.specs.Leaves.{home, is_one_of}
use Rattle.mesh_data.specs.declared.geometry.Tri.{Tri}
use Rattle.mesh_data.specs.declared.geometry.Vertex.{Vertex}
use Rattle.mesh_data.specs.Manifold.{IsTriangleOf}
use Rattle.mesh_data.specs.Mesh.{Mesh}
use Rattle.mesh_out.specs.MeshBytes.{IsNamedBy}
use Rattle.sheet_data.specs.Summed.{SummedVertex}
use Rattle.mesh_sheets.specs.Assembled.{has_name}
use Rattle.mesh_sheets.specs.Clean.{AreHomed, IsClean}
use Rattle.mesh_sheets.specs.Export.{all_leaves, tris_by_keeper, vertices_by_home}
use Rattle.mesh_sheets.specs.Sheets.{keeper, leaf_of, vertices_in}
use Rattle.mesh_sheets.proofs.Assembling.{one_of_range}
use Rattle.mesh_sheets.proofs.Filters.{all_weaker, any_map, filter_all}
use Rattle.mesh_sheets.proofs.Gathered.{has_held}
use Rattle.leaf_export.specs.OctreeBytes.{vertex_names}

-- the leaf of a vertex is one of the leaves
pub homed_name : (cells : List Cell) (m : Mesh) → AreHomed cells m → (v : ℕ) → finite.contains_key m.vertices v ≡ true
    → leaf_of cells m v < length cells
homed_name cells m homed v there =
    elim (finite.get m.vertices v) as (λ o. finite.get m.vertices v ≡ o → is_some o ≡ true → option_map_or (home cells) (option_map (λ (x : Vertex). x.point) o) (length cells) < length cells) [
      | None ↦ λ _ h. absurd (false≢true h)
      | Some x ↦ λ is _. homed v x is
    ] refl there

in_all : (n l : ℕ) → l < n → is_one_of (range_with_len 0 n) l ≡ true
in_all n l lt =
    ap (λ (ls : List ℕ). is_one_of ls l) (sym (filter_all (range_with_len 0 n)))
    ∙ one_of_range (λ _. true) l 0 n refl (omega arith) (omega arith)

-- the vertices of a leaf
abbrev at_home : List Cell → Mesh → ℕ → List SummedVertex
at_home cells m leaf = vertices_in (λ p. eqb (home cells p) leaf) m

own_leaf : (cells : List Cell) (m : Mesh) (v : ℕ) → finite.contains_key m.vertices v ≡ true
    → has_name (at_home cells m (leaf_of cells m v)) v ≡ true
own_leaf cells m v has =
    has_held (λ p. eqb (home cells p) (leaf_of cells m v)) m v
    ∙ elim (finite.get m.vertices v) as (λ o. is_some o ≡ true → option_map_or (λ p. eqb (home cells p) (option_map_or (home cells) (option_map (λ (x : Vertex). x.point) o) (length cells))) (option_map (λ (x : Vertex). x.point) o) false ≡ true) [
      | None ↦ λ h. absurd (false≢true h)
      | Some x ↦ λ _. eq-eqb (home cells x.point) (home cells x.point) refl
    ] has

some_leaf : (cells : List Cell) (m : Mesh) (v l : ℕ) (ls : List ℕ) → is_one_of ls l ≡ true
    → has_name (at_home cells m l) v ≡ true → has_name (flat_map (at_home cells m) ls) v ≡ true
some_leaf cells m v l [] one has = absurd (false≢true one)
some_leaf cells m v l (k ∷ ls) one has =
    list_any-append (λ x. eqb v x.name) (at_home cells m k) (flat_map (at_home cells m) ls)
    ∙ elim (or_cases (eqb l k) (is_one_of ls l) one) [
      | inl here ↦ or_left (has_name (at_home cells m k) v) (has_name (flat_map (at_home cells m) ls) v) (subst (λ (n : ℕ). has_name (at_home cells m n) v ≡ true) (eqb-true l k here) has)
      | inr later ↦ or_right (has_name (at_home cells m k) v) (has_name (flat_map (at_home cells m) ls) v) (some_leaf cells m v l ls later has)
    ]

name_among : (vs : List SummedVertex) (v : ℕ) → has_name vs v ≡ true → Contains (vertex_names vs) v
name_among vs v has =
    let names = vertex_names vs in
    let at = Any-from_list_any (λ n. eqb v n) names (any_map (λ n. eqb v n) (λ (x : SummedVertex). x.name) vs ∙ has) in
    (at.0, at.2, get_or_default names at.0 v at.1 at.2 ∙ at.3 ∙ sym (eqb-true v at.1 at.4))

named : (cells : List Cell) (m : Mesh) (v : ℕ) → AreHomed cells m → finite.contains_key m.vertices v ≡ true
    → Contains (vertex_names (vertices_by_home cells m)) v
named cells m v homed has =
    name_among (vertices_by_home cells m) v
    (some_leaf cells m v (leaf_of cells m v) (all_leaves cells) (in_all (length cells) (leaf_of cells m v) (homed_name cells m homed v has)) (own_leaf cells m v has))

all_filter : (P : Tri → Type 0) (p : Tri → Bool) (ts : List Tri) → AllByRecursion P ts → AllByRecursion P (filter p ts)
all_filter P p [] all = tt
all_filter P p (t ∷ ts) all = elim (p t) as (λ b. AllByRecursion P (cond b (t ∷ filter p ts) (filter p ts))) [ true ↦ (all.0, all_filter P p ts all.1) | false ↦ all_filter P p ts all.1 ]

all_append : (P : Tri → Type 0) (ss ts : List Tri) → AllByRecursion P ss → AllByRecursion P ts → AllByRecursion P (ss ++ ts)
all_append P [] ts left right = right
all_append P (s ∷ ss) ts left right = (left.0, all_append P ss ts left.1 right)

kept_all : (P : Tri → Type 0) (cells : List Cell) (m : Mesh) (ls : List ℕ) → AllByRecursion P m.tris
    → AllByRecursion P (flat_map (λ leaf. filter (λ t. eqb (keeper cells m t) leaf) m.tris) ls)
kept_all P cells m [] all = tt
kept_all P cells m (l ∷ ls) all =
    all_append P (filter (λ t. eqb (keeper cells m t) l) m.tris) (flat_map (λ leaf. filter (λ t. eqb (keeper cells m t) leaf) m.tris) ls)
    (all_filter P (λ t. eqb (keeper cells m t) l) m.tris all) (kept_all P cells m ls all)

pub all_named : (cells : List Cell) (m : Mesh) → IsClean m → AreHomed cells m
    → All (IsNamedBy (vertex_names (vertices_by_home cells m))) (tris_by_keeper cells m)
all_named cells m clean homed =
    let names = vertex_names (vertices_by_home cells m) in
    let each : AllByRecursion (IsNamedBy names) m.tris = all_weaker (IsTriangleOf m.vertices) (IsNamedBy names) (λ t is. (named cells m t.a homed is.a, named cells m t.b homed is.b, named cells m t.c homed is.c)) m.tris (recursion_from_All (IsTriangleOf m.vertices) m.tris clean.corners) in
    All-from_recursion (IsNamedBy names) (tris_by_keeper cells m) (kept_all (IsNamedBy names) cells m (all_leaves cells) each)
