-- Sheets that a leaf can have keep the rules of a spelling.
use Rattle.std.proofs.Common.{◌≡◌, ◌≢◌, ℕ, ◌<◌, ◌≤◌, Bool, true, false, cond, not, ◌&&◌, ◌||◌, eqb, ltb, List, [], ◌∷◌, ◌++◌, map, length, Some, ap, sym, ◌∙◌, refl, subst, arith}
use Rattle.std.proofs.Math.Bool.{or-false}
use Rattle.std.proofs.lemmas.Bool.{and_from, and_parts, eq-eqb, false≢true, ne_eqb, or_left, or_right}
use Rattle.std.proofs.lemmas.List.{map-append}
use Rattle.std.specs.List.{All, list_any}
use Rattle.std.specs.List.Sorted.{IsSorted, IsStrictlyIncreasing}
use Rattle.oemm_limits.specs.declared.TheConstants.{MOST_ITEMS, MOST_LEAVES}
use Rattle.oemm_lists.specs.Numbers.{among}
use Rattle.oemm_octree.specs.declared.cells.Cell.{Cell}
use Rattle.oemm_octree.specs.Leaves.{is_one_of}
use Rattle.mesh_data.specs.declared.geometry.Tri.{Tri}
use Rattle.mesh_data.specs.Mesh.{Mesh}
use Rattle.mesh_data.specs.Triangles.{IsProper, corners, tri_cmp, turned}
use Rattle.triangle_lists.proofs.Paths.{eqb_comm}
use Rattle.sheet_data.specs.Summed.{SummedVertex}
use Rattle.sheet_data.specs.declared.sheets.LeafSheet.{LeafSheet}
use Rattle.byte_grammar.specs.Keeps.{Keeps}
use Rattle.geometry_bytes.specs.Geometry.{is_turned}
use Rattle.leaf_codec.specs.declared.formats.TheConstants.{MOST_UNITS}
use Rattle.leaf_codec.specs.Sheets.{KeepsSheetRules, face_follows, is_in_order, leaf_follows, names_of, vertex_follows}
use Rattle.mesh_sheets.specs.Assembled.{has_name}
use Rattle.mesh_sheets.specs.Sheets.{sheet}
use Rattle.mesh_sheets.proofs.Filters.{any_agree, any_map}
use Rattle.sheet_forms.specs.Formed.{IsSheetOf}
use Rattle.sheet_forms.specs.Storable.{IsStorable}
use Rattle.sheet_forms.proofs.Counts.{few_faces, few_near, few_vertices}
use Rattle.sheet_forms.proofs.Storable.{storable_sheet}
use Rattle.store_spelling.proofs.Parted.{above_parted, all_parted, keeps_parted, ordered_parted}

-- a triangle of three names that is turned begins with its least name
pub turned_first : (t : Tri) → IsProper t → turned t ≡ t → is_turned t ≡ true
unfolding is_turned
turned_first t proper is =
    let least = ltb t.a t.b && ltb t.a t.c in
    let later = cond (ltb t.b t.c) (let u : Tri = record { a = t.b; b = t.c; c = t.a } in u) (record { a = t.c; b = t.a; c = t.b }) in
    let names : least ≡ true =
    elim least as (λ b. cond b t later ≡ t → b ≡ true) [
      | true ↦ λ _. refl
      | false ↦ λ e. absurd (moved (ltb t.b t.c) e)
    ] is in
    let parts = and_parts (ltb t.a t.b) (ltb t.a t.c) names in
    and_from (ltb t.a t.b) (ltb t.a t.c && not (eqb t.b t.c)) parts.0
    (and_from (ltb t.a t.c) (not (eqb t.b t.c)) parts.1 (ap not (ne_eqb t.b t.c proper.1)))
  where
    moved : (b : Bool) → cond b (let u : Tri = record { a = t.b; b = t.c; c = t.a } in u) (record { a = t.c; b = t.a; c = t.b }) ≡ t → ⊥
    moved true e = proper.0 (sym (ap (λ (u : Tri). u.a) e))
    moved false e = proper.0 (ap (λ (u : Tri). u.b) e)

-- one of the names of vertices
among_names : (vs : List SummedVertex) (v : ℕ) → has_name vs v ≡ among v (names_of vs)
among_names vs v =
    any_agree (λ (x : SummedVertex). eqb v x.name) (λ x. eqb x.name v) (λ x. eqb_comm v x.name) vs
    ∙ sym (any_map (λ (n : ℕ). eqb n v) (λ (x : SummedVertex). x.name) vs)

-- a turned triangle of three names, one of which is that of one of these vertices
abbrev pub IsFace : List SummedVertex → Tri → Type 0
IsFace vs t = IsProper t × (turned t ≡ t) × (list_any (has_name vs) (corners t) ≡ true)

-- a sheet with names that ascend, faces in order that are its own, and near leaves that ascend and are other ones
module _ (s : LeafSheet) (ascend : IsStrictlyIncreasing (names_of s.vertices)) (own : All (IsFace s.vertices) s.faces)
    (sorted : IsSorted tri_cmp s.faces) (near_ascend : IsStrictlyIncreasing s.near)
    (near_others : is_one_of s.near s.leaf ≡ false) where
  vertices_keep : Keeps (λ before v. vertex_follows before v ≡ true) [] s.vertices
  unfolding vertex_follows
  vertices_keep = keeps_parted (λ before v. vertex_follows before v ≡ true) s.vertices [] (λ front x rest is.
      above_parted (names_of front) (names_of rest) x.name
      (subst IsStrictlyIncreasing (ap names_of is ∙ map-append (λ (v : SummedVertex). v.name) front (x ∷ rest)) ascend))

  faces_keep : Keeps (λ before t. face_follows (names_of s.vertices) before t ≡ true) [] s.faces
  unfolding face_follows
  faces_keep = keeps_parted (λ before t. face_follows (names_of s.vertices) before t ≡ true) s.faces [] (λ front t rest is.
      let face : IsFace s.vertices t = all_parted (IsFace s.vertices) front t rest (subst (All (IsFace s.vertices)) is own) in
      let named = names_of s.vertices in
      let has : (v : ℕ) → has_name s.vertices v ≡ among v named = among_names s.vertices in
      let some : (among t.a named || (among t.b named || among t.c named)) ≡ true =
      (λ i. sym (has t.a) i || (sym (has t.b) i || (sym (has t.c) ∙ sym (or-false (has_name s.vertices t.c))) i)) ∙ face.2 in
      and_from (is_turned t) ((among t.a named || (among t.b named || among t.c named)) && is_in_order t front)
      (turned_first t face.0 face.1)
      (and_from (among t.a named || (among t.b named || among t.c named)) (is_in_order t front) some
      (ordered_parted front rest t (subst (IsSorted tri_cmp) is sorted))))

  near_keep : Keeps (λ before n. leaf_follows (Some s.leaf) before n ≡ true) [] s.near
  unfolding leaf_follows
  near_keep = keeps_parted (λ before n. leaf_follows (Some s.leaf) before n ≡ true) s.near [] (λ front n rest is.
      and_from _ (not (eqb n s.leaf)) (above_parted front rest n (subst IsStrictlyIncreasing is near_ascend))
      (ap not (ne_eqb n s.leaf (λ same. other front n rest is (sym same)))))
    where
      other : (front : List ℕ) (n : ℕ) (rest : List ℕ) → s.near ≡ front ++ n ∷ rest → s.leaf ≢ n
      other front n rest is same = false≢true (sym near_others ∙ ap (λ (ns : List ℕ). is_one_of ns s.leaf) is ∙ found front same)
        where
          found : (ns : List ℕ) → s.leaf ≡ n → is_one_of (ns ++ n ∷ rest) s.leaf ≡ true
          found [] e = or_left (eqb s.leaf n) (is_one_of rest s.leaf) (eq-eqb s.leaf n e)
          found (k ∷ ns) e = or_right (eqb s.leaf k) (is_one_of (ns ++ n ∷ rest) s.leaf) (found ns e)

  -- and not too many of each, can be encoded
  pub parts_keep : length s.vertices ≤ MOST_UNITS → length s.faces ≤ MOST_UNITS → length s.near ≤ MOST_UNITS
      → KeepsSheetRules s
  parts_keep few_vertices few_faces few_near = record {
    vertex_count = few_vertices;
    face_count = few_faces;
    near_count = few_near;
    vertices = vertices_keep;
    faces = faces_keep;
    near = near_keep;
  }

-- a sheet that a leaf can have can be encoded
pub formed_keeps : (cells : List Cell) (names leaf : ℕ) (s : LeafSheet) → IsSheetOf cells names leaf s → names ≤ MOST_ITEMS
    → length cells ≤ MOST_LEAVES → length s.faces ≤ MOST_ITEMS → KeepsSheetRules s
formed_keeps cells names leaf s formed few_names few_cells faces =
    parts_keep s formed.ascend formed.faces formed.sorted formed.near_ascend
    (ap (is_one_of s.near) formed.is_leaf ∙ formed.near_others)
    (omega (arith, few_vertices cells names leaf s formed)) (omega arith) (omega (arith, few_near cells names leaf s formed))

-- each sheet of a mesh that can stand in sheets can be encoded
pub storable_keeps : (cells : List Cell) (names : ℕ) (m : Mesh) (leaf : ℕ) → names ≤ MOST_ITEMS
    → length cells ≤ MOST_LEAVES → leaf < length cells → IsStorable cells names m → KeepsSheetRules (sheet cells m leaf)
storable_keeps cells names m leaf few_names few_cells lt good =
    formed_keeps cells names leaf (sheet cells m leaf) (storable_sheet cells names m leaf good lt) few_names few_cells
    (few_faces cells names m leaf good)
