-- What the patch of a mesh tells of it, and the verdicts on it.
use Rattle.std.proofs.Common.{◌≡◌, ℕ, ℤ, ◌+◌, Bool, true, false, cond, not, ◌&&◌, ◌||◌, eqb, List, [], ◌∷◌, ◌++◌, map, length, Some, None, sym, ap, ◌∙◌, refl, arith}
use Rattle.std.proofs.lemmas.Bool.{and_parts, or_left, eqb-true}
use Rattle.std.proofs.lemmas.List.Elements.{filter_agree}
use Rattle.std.proofs.lemmas.List.Sums.{length-filter}
use Rattle.std.specs.Cmp.{nat_cmp_total, unsigned_tied}
use Rattle.std.specs.FinMap as finite
use Rattle.std.specs.FinMap.Entries.{find as find_entry}
use Rattle.std.specs.List.{filter, find, list_any, list_all}
use Rattle.std.specs.List.Sorted.{IsSorted}
use Rattle.std.specs.Option.{option_map, option_map_or}
use Rattle.std.specs.Ordering.{nat_cmp, eq_by_cmp}
use Rattle.oemm_octree.specs.declared.points.Point.{Point}
use Rattle.oemm_octree.specs.declared.cells.Cell.{Cell}
use Rattle.oemm_octree.specs.Leaves.{is_one_of, in_core}
use Rattle.mesh_data.specs.declared.geometry.Tri.{Tri}
use Rattle.mesh_data.specs.declared.geometry.Vertex.{Vertex}
use Rattle.mesh_data.specs.declared.planes.Plane.{Plane}
use Rattle.oemm_lists.specs.Ascending.{in_order}
use Rattle.mesh_data.specs.Edits.{is_held, moved, whole_count, point_or_origin, planes_or_none, cost, move_verdict, collapse_verdict, flip_verdict}
use Rattle.mesh_data.specs.Mesh.{Mesh, origin}
use Rattle.mesh_data.specs.Planes.{Sums, sums_of, no_sums, sums_value, added}
use Rattle.mesh_data.specs.Seen.{touches}
use Rattle.mesh_data.specs.Triangles.{tri_cmp, corners}
use Rattle.oemm_plane.proofs.Sums.{sums_value-sums_of, sums_of-append}
use Rattle.triangle_lists.proofs.Filters.{filter-weaker}
use Rattle.triangle_lists.proofs.Orders.{tri_cmp_total, tri_cmp-IsAntisymmetric}
use Rattle.triangle_lists.proofs.Sorting.{Rises-from_sorted, Rises-in_order, weight, weight-in_order}
use Rattle.sheet_data.specs.declared.patches.Mixed.{Mixed}
use Rattle.sheet_data.specs.declared.patches.Patch.{Patch}
use Rattle.sheet_data.specs.Summed.{SummedVertex}
use Rattle.mesh_sheets.specs.Clean.{IsClean}
use Rattle.mesh_sheets.specs.Sheets.{leaf_of, leaves_of, keeper, summed, vertices_in, is_whole, is_mixed, patch}
use Rattle.mesh_sheets.specs.Written.{patch_tris}
use Rattle.mesh_sheets.proofs.Filters.{weight-append, sum_filter, one_in_order, rises_filter, map-map, map_itself, filter_all}
use Rattle.mesh_sheets.proofs.Kept.{keep, find_kept, true_of_T}
use Rattle.mesh_sheets.proofs.Leaves.{leaf_held}
use Rattle.sheet_frame.proofs.Frame.{stays_moved}
use Rattle.sheet_frame.proofs.Free.{CanMove}
use Rattle.sheet_frame.proofs.Rest.{seat, all_in}
use Rattle.patch_edits.specs.PatchMesh.{placed, mesh_of, cost_on}
use Rattle.patch_edits.specs.Edits.{collapse_on}
use Rattle.patch_edits.proofs.Fragments.{whole_changed}
use Rattle.patch_edits.proofs.Sight.{SameSight, move_same, collapse_same, flip_same}

-- ---- what a patch tells of held names

find_summed : (v : ℕ) (es : List (ℕ × Vertex)) → find (λ (x : SummedVertex). eqb v x.name) (map summed es) ≡ option_map (λ x. summed (v, x)) (find_entry nat_cmp v es)
find_summed v [] = refl
find_summed v (e ∷ es) =
    let rest = find_summed v es in
    ap (λ b. cond b (Some (summed e)) (find (λ (x : SummedVertex). eqb v x.name) (map summed es))) (sym (unsigned_tied v e.0))
    ∙ elim (eq_by_cmp nat_cmp v e.0) as (λ b. eq_by_cmp nat_cmp v e.0 ≡ b → cond b (Some (summed e)) (find (λ (x : SummedVertex). eqb v x.name) (map summed es)) ≡ option_map (λ x. summed (v, x)) (cond b (Some e.1) (find_entry nat_cmp v es))) [
      | true ↦ λ here. ap (λ (k : ℕ). Some (summed (k, e.1))) (sym (eqb-true v e.0 (sym (unsigned_tied v e.0) ∙ here)))
      | false ↦ λ _. rest
    ] refl

-- what an area's vertices have at a name
pub seen_at : (inside : Point → Bool) (m : Mesh) (v : ℕ) → find (λ (x : SummedVertex). eqb v x.name) (vertices_in inside m) ≡ option_map (λ x. summed (v, x)) (keep (λ x. inside x.point) (finite.get m.vertices v))
seen_at inside m v =
    find_summed v (filter (λ e. inside e.1.point) (finite.entries m.vertices))
    ∙ ap (option_map (λ x. summed (v, x))) (find_kept (λ (x : Vertex). inside x.point) v (finite.entries m.vertices) (true_of_T _ (finite.entries_sorted m.vertices)) ∙ ap (keep (λ x. inside x.point)) (sym (finite.get-entries m.vertices v)))

pub sums_told : (inside : Point → Bool) (m : Mesh) (v : ℕ) → is_held inside m v ≡ true → sums_of (planes_or_none m v) ≡ option_map_or (λ (x : SummedVertex). x.quad) (find (λ (x : SummedVertex). eqb v x.name) (vertices_in inside m)) no_sums
sums_told inside m v on =
    elim (finite.get m.vertices v) as (λ o. option_map_or inside (option_map (λ (x : Vertex). x.point) o) false ≡ true → sums_of (option_map_or (λ (ls : List Plane). ls) (option_map (λ (x : Vertex). x.planes) o) []) ≡ option_map_or (λ (x : SummedVertex). x.quad) (option_map (λ x. summed (v, x)) (keep (λ x. inside x.point) o)) no_sums) [
      | None ↦ λ h. refl
      | Some x ↦ λ h. sym (ap (λ b. option_map_or (λ (x : SummedVertex). x.quad) (option_map (λ x. summed (v, x)) (cond b (Some x) None)) no_sums) h)
    ] on
    ∙ ap (λ o. option_map_or (λ (x : SummedVertex). x.quad) o no_sums) (sym (seen_at inside m v))

-- ---- the triangles of a patch

one_kind : (w p : Bool) (k : ℕ) → (w ≡ true → p ≡ true) → cond w k 0 + cond (p && not w) k 0 ≡ cond p k 0
one_kind true p k h = ap (λ b. k + cond (b && false) k 0) (h refl) ∙ omega arith ∙ ap (λ b. cond b k 0) (sym (h refl))
one_kind false true k h = omega arith
one_kind false false k h = omega arith

both_kinds : (w p : Tri → Bool) (f : Tri → ℕ) → ((t : Tri) → w t ≡ true → p t ≡ true) → (ts : List Tri) → weight (λ t. cond (w t) (f t) 0) ts + weight (λ t. cond (p t && not (w t)) (f t) 0) ts ≡ weight (λ t. cond (p t) (f t) 0) ts
both_kinds w p f h [] = omega arith
both_kinds w p f h (t ∷ ts) = omega (arith, one_kind (w t) (p t) (f t) (h t), both_kinds w p f h ts)

find_placed : (v : ℕ) (vs : List SummedVertex) → find_entry nat_cmp v (map placed vs) ≡ option_map (λ x. (placed x).1) (find (λ x. eqb v x.name) vs)
find_placed v [] = refl
find_placed v (x ∷ vs) =
    ap (λ b. cond b (Some (placed x).1) (find_entry nat_cmp v (map placed vs))) (unsigned_tied v x.name)
    ∙ elim (eqb v x.name) as (λ b. cond b (Some (placed x).1) (find_entry nat_cmp v (map placed vs)) ≡ option_map (λ y. (placed y).1) (cond b (Some x) (find (λ y. eqb v y.name) vs))) [ true ↦ refl | false ↦ find_placed v vs ]

-- the vertex of a patch as its mesh has it
pub get_of : (p : Patch) (v : ℕ) → finite.get (mesh_of p).vertices v ≡ option_map (λ x. (placed x).1) (find (λ x. eqb v x.name) p.vertices)
get_of p v = finite.get-from_entries nat_cmp_total (map placed p.vertices) v ∙ find_placed v p.vertices

module _ (cells : List Cell) (core : List ℕ) (none : is_one_of core (length cells) ≡ false) where
  abbrev inside : Point → Bool
  inside = in_core cells core

  -- the triangles of a patch, in order, are those that touch the core
  pub tris_told : (m : Mesh) → IsSorted tri_cmp m.tris → in_order tri_cmp (patch_tris (patch cells m core)) ≡ filter (touches inside m) m.tris
  unfolding patch
  tris_told m sorted =
      let tag : Tri → Mixed = λ t. record { leaf = keeper cells m t; tri = t } in
      let ws = filter (is_whole cells core m) m.tris in
      let xs = filter (is_mixed cells core m) m.tris in
      let on : Tri → Bool = λ t. list_any (is_one_of core) (leaves_of cells m t) in
      let up = rises_filter tri_cmp_total tri_cmp-IsAntisymmetric on m.tris (Rises-from_sorted tri_cmp_total m.tris sorted) in
      ap (λ (ts : List Tri). in_order tri_cmp (ws ++ ts)) (map-map (λ (x : Mixed). x.tri) tag xs ∙ map_itself xs)
      ∙ one_in_order tri_cmp_total tri_cmp-IsAntisymmetric _ _ (Rises-in_order tri_cmp_total (ws ++ xs)) up (λ f.
      weight-in_order tri_cmp_total f (ws ++ xs)
      ∙ weight-append f ws xs
      ∙ (λ i. sum_filter f (is_whole cells core m) m.tris i + sum_filter f (is_mixed cells core m) m.tris i)
      ∙ both_kinds (is_whole cells core m) on f (λ t whole. or_left (is_one_of core (leaf_of cells m t.a)) _ (and_parts (is_one_of core (leaf_of cells m t.a)) _ whole).0) m.tris
      ∙ sym (sum_filter f on m.tris))
      ∙ filter_agree on (touches inside m) (λ t. λ i. leaf_held cells core none m t.a i || (leaf_held cells core none m t.b i || (leaf_held cells core none m t.c i || false))) m.tris

  pub same_patches : (p q : Patch) → p.vertices ≡ q.vertices → p.whole ≡ q.whole → p.mixed ≡ q.mixed → p.near ≡ q.near → p ≡ q
  same_patches p q v w x y = λ i. record { vertices = v i; whole = w i; mixed = x i; near = y i }

  pub whole_moved : (m : Mesh) (v : ℕ) (to : Point) → CanMove inside m v to → (patch cells (moved m v to) core).whole ≡ (patch cells m core).whole
  unfolding patch
  whole_moved m v to can =
      let n = moved m v to in
      let whole : Tri → Bool = λ t. all_in core (seat cells n t) in
      let old = filter (is_whole cells core m) m.tris in
      ap (filter whole) (sym (map_itself (filter (λ _. true) m.tris) ∙ filter_all m.tris))
      ∙ whole_changed core (seat cells m) (seat cells n) (λ t. t) (λ _. true) m.tris (stays_moved cells core none m v to can)
      ∙ map_itself (filter (λ _. true) old) ∙ filter_all old

  pub count_told : (m : Mesh) → whole_count inside m ≡ length (patch cells m core).whole
  unfolding patch
  count_told m =
      sym (length-filter (λ t. list_all (is_held inside m) (corners t)) m.tris)
      ∙ ap length (filter_agree (λ t. list_all (is_held inside m) (corners t)) (is_whole cells core m) (λ t. λ i. sym (leaf_held cells core none m t.a) i && (sym (leaf_held cells core none m t.b) i && (sym (leaf_held cells core none m t.c) i && true))) m.tris)

  abbrev seen : Mesh → Mesh
  seen m = mesh_of (patch cells m core)

  get_seen : (m : Mesh) (v : ℕ) → finite.get (seen m).vertices v ≡ option_map (λ x. (placed x).1) (option_map (λ x. summed (v, x)) (keep (λ x. inside x.point) (finite.get m.vertices v)))
  unfolding patch
  get_seen m v = get_of (patch cells m core) v ∙ ap (option_map (λ x. (placed x).1)) (seen_at inside m v)

  held_told : (m : Mesh) (v : ℕ) → is_held inside m v ≡ is_held inside (seen m) v
  held_told m v =
      sym (ap (λ o. option_map_or inside (option_map (λ (x : Vertex). x.point) o) false) (get_seen m v)
      ∙ elim (finite.get m.vertices v) as (λ o. option_map_or inside (option_map (λ (x : Vertex). x.point) (option_map (λ x. (placed x).1) (option_map (λ x. summed (v, x)) (keep (λ x. inside x.point) o)))) false ≡ option_map_or inside (option_map (λ (x : Vertex). x.point) o) false) [
        | None ↦ refl
        | Some x ↦ elim (inside x.point) as (λ b. inside x.point ≡ b → option_map_or inside (option_map (λ (x : Vertex). x.point) (option_map (λ x. (placed x).1) (option_map (λ x. summed (v, x)) (cond b (Some x) None)))) false ≡ b) [
          | true ↦ λ on. on
          | false ↦ λ _. refl
        ] refl
      ])

  points_told : (m : Mesh) (v : ℕ) → is_held inside m v ≡ true → point_or_origin m v ≡ point_or_origin (seen m) v
  points_told m v on =
      elim (finite.get m.vertices v) as (λ o. option_map_or inside (option_map (λ (x : Vertex). x.point) o) false ≡ true
      → option_map_or (λ p. p) (option_map (λ (x : Vertex). x.point) o) origin ≡ option_map_or (λ p. p) (option_map (λ (x : Vertex). x.point) (option_map (λ x. (placed x).1) (option_map (λ x. summed (v, x)) (keep (λ x. inside x.point) o)))) origin) [
        | None ↦ λ _. refl
        | Some x ↦ λ h. sym (ap (λ b. option_map_or (λ p. p) (option_map (λ (x : Vertex). x.point) (option_map (λ x. (placed x).1) (option_map (λ x. summed (v, x)) (cond b (Some x) None)))) origin) h)
      ] on
      ∙ ap (λ o. option_map_or (λ p. p) (option_map (λ (x : Vertex). x.point) o) origin) (sym (get_seen m v))

  -- an area sees the same of a mesh and of that of its patch
  pub sight_told : (m : Mesh) → IsClean m → SameSight inside m (seen m)
  sight_told m clean =
      let told = tris_told m clean.sorted in
      let same : (t : Tri) → touches inside (seen m) t ≡ touches inside m t = λ t. λ i. sym (held_told m t.a) i || (sym (held_told m t.b) i || (sym (held_told m t.c) i || false)) in
      record {
        held = held_told m;
        points = points_told m;
        tris = sym (ap (filter (touches inside (seen m))) told
            ∙ filter_agree (touches inside (seen m)) (touches inside m) same (filter (touches inside m) m.tris)
            ∙ filter-weaker (touches inside m) (touches inside m) (λ t h. h) m.tris);
      }

  -- the costs on the patch are those of the mesh
  pub cost_told : (m : Mesh) (u v : ℕ) → is_held inside m u ≡ true → is_held inside m v ≡ true → cost m u v ≡ cost_on (patch cells m core) u v
  unfolding patch
  cost_told m u v hu hv =
      sym (sums_value-sums_of (planes_or_none m u ++ planes_or_none m v) (point_or_origin m v))
      ∙ ap (λ (s : Sums). sums_value s (point_or_origin m v)) (sums_of-append (planes_or_none m u) (planes_or_none m v))
      ∙ (λ i. sums_value (added (sums_told inside m u hu i) (sums_told inside m v hv i)) (points_told m v hv i))

  pub move_told : (m : Mesh) (v : ℕ) (to : Point) → IsClean m → move_verdict inside (seen m) v to ≡ move_verdict inside m v to
  move_told m v to clean = sym (move_same inside m (seen m) (sight_told m clean) v to)

  pub collapse_told : (m : Mesh) (u v : ℕ) (most : ℤ) → IsClean m → collapse_on inside (patch cells m core) u v most ≡ collapse_verdict inside m u v most
  collapse_told m u v most clean =
      sym (collapse_same inside m (seen m) (sight_told m clean) (cost m u v) (cost_on (patch cells m core) u v) u v most (cost_told m u v))

  pub flip_told : (m : Mesh) (a b : ℕ) → IsClean m → flip_verdict inside (seen m) a b ≡ flip_verdict inside m a b
  flip_told m a b clean = sym (flip_same inside m (seen m) (sight_told m clean) a b)
