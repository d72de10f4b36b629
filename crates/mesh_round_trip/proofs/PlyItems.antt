-- The vertices and faces of a PLY file, one after another.
use Rattle.std.proofs.Common.{◌≡◌, refl, ℕ, suc, ◌+◌, ◌*◌, ◌<◌, ◌≤◌, List, [], ◌∷◌, ◌++◌, length, map, flat_map, Ok, ap, sym, ◌∙◌, append_assoc, append-nil, arith}
use Rattle.std.specs.List.{AllByRecursion}
use Rattle.oemm_limits.specs.declared.TheConstants.{MOST_ITEMS, MOST_MESH_BYTES}
use Rattle.oemm_octree.specs.declared.points.Point.{Point}
use Rattle.mesh_data.specs.declared.geometry.Tri.{Tri}
use Rattle.mesh_items.specs.declared.items.Item.{Item}
use Rattle.mesh_items.specs.declared.items.Item.TheVariants.{Vertex, Face}
use Rattle.mesh_items.specs.Reading.{Reading, item_then, nothing_more}
use Rattle.mesh_out.specs.Ply.{ply_vertex, ply_face}
use Rattle.ply_header.specs.declared.layout.Layout.{Layout}
use Rattle.ply_reader.specs.Body.{Rest, item_in}
use Rattle.ply_reader.specs.Mesh.{begun_by, items_of}
use Rattle.oemm_octree.specs.Octree.{IsOnGrid}
use Rattle.mesh_round_trip.proofs.Wholes.{IsFace, led_by}
use Rattle.mesh_round_trip.proofs.PlyRecords.{rest_at, written_layout, vertex_item, face_item}

items_next : (l : Layout) (left more done : ℕ) (r s : Rest) (item : Item) → left ≡ suc more → item_in l done r ≡ Ok (item, s) → items_of l left done r ≡ item_then item (items_of l more (done + 1) s)
unfolding items_of
items_next l left more done r s item is read =
    ap (λ n. items_of l n done r) is ∙ ap (λ o. begun_by o (items_of l more (done + 1))) read

items_none : (l : Layout) (left done : ℕ) (r : Rest) → left ≡ 0 → items_of l left done r ≡ nothing_more
unfolding items_of
items_none l left done r is = ap (λ n. items_of l n done r) is

-- things of which each is written in so many bytes, and read back as these items at these places
record IsReadBack {A : Type 0} (bytes_of : A → List ℕ) (item : A → Item) (l : Layout) (low high size : ℕ) (P : A → Type 0) : Type 0 where
  few : size ≤ 13
  read : (a : A) (done at : ℕ) (tail : List ℕ) → P a → low ≤ done → done < high → at + 13 ≤ MOST_MESH_BYTES →
      item_in l done (rest_at at (bytes_of a ++ tail)) ≡ Ok (item a, rest_at (at + size) tail)

items_read :
    {A : Type 0} (bytes_of : A → List ℕ) (item : A → Item) (l : Layout) (low high size : ℕ) (P : A → Type 0) →
    IsReadBack bytes_of item l low high size P → (xs : List A) → AllByRecursion P xs →
    (left more done at : ℕ) (tail : List ℕ) (r : Reading) → left ≡ length xs + more → low ≤ done →
    done + length xs ≤ high → at + 13 * length xs ≤ MOST_MESH_BYTES →
    ((to next : ℕ) → to ≤ at + 13 * length xs → next ≡ done + length xs → items_of l more next (rest_at to tail) ≡ r) →
    items_of l left done (rest_at at (flat_map bytes_of xs ++ tail)) ≡ led_by (map item xs) r
items_read bytes_of item l low high size P back [] held left more done at tail r all above below within after =
    ap (λ n. items_of l n done (rest_at at tail)) (omega arith) ∙ after at done (omega arith) (omega arith)
items_read bytes_of item l low high size P back (x ∷ xs) held left more done at tail r all above below within after =
    let few = back.few in
    let bytes : List ℕ = flat_map bytes_of xs ++ tail in
    ap (λ (t : List ℕ). items_of l left done (rest_at at t)) (append_assoc (bytes_of x) (flat_map bytes_of xs) tail)
    ∙ items_next l left (length xs + more) done (rest_at at (bytes_of x ++ bytes)) (rest_at (at + size) bytes) (item x)
    (omega arith) (back.read x done at bytes held.0 above (omega arith) (omega arith))
    ∙ ap (item_then (item x))
    (items_read bytes_of item l low high size P back xs held.1 (length xs + more) more (done + 1) (at + size) tail r
    refl (omega arith) (omega arith) (omega arith) (λ to next h k. after to next (omega arith) (omega arith)))

vertices_back : (v f : ℕ) → IsReadBack ply_vertex Vertex (written_layout v f) 0 v (2 + 2 + 2) IsOnGrid
vertices_back v f = record {
  few = omega arith;
  read = λ p done at tail grid above below within.
      vertex_item v f done at p tail below grid within ∙ ap (λ n. Ok (Vertex p, rest_at n tail)) (omega arith);
}

faces_back : (v f high : ℕ) → v ≤ MOST_ITEMS → IsReadBack ply_face Face (written_layout v f) v high (1 + 12) (IsFace v)
faces_back v f high few = record {
  few = omega arith;
  read = λ t done at tail face above below within.
      face_item v f done at t tail above face.0 face.1 few within ∙ ap (λ n. Ok (Face t, rest_at n tail)) (omega arith);
}

faces_read : (v f : ℕ) (faces : List Tri) → v ≤ MOST_ITEMS → AllByRecursion (IsFace v) faces → (at : ℕ) → at + 13 * length faces ≤ MOST_MESH_BYTES →
    items_of (written_layout v f) (length faces) v (rest_at at (flat_map ply_face faces)) ≡ led_by (map Face faces) nothing_more
faces_read v f faces few held at within =
    ap (λ (t : List ℕ). items_of (written_layout v f) (length faces) v (rest_at at t)) (sym (append-nil (flat_map ply_face faces)))
    ∙ items_read ply_face Face (written_layout v f) v (v + length faces) (1 + 12) (IsFace v) (faces_back v f (v + length faces) few)
    faces held (length faces) 0 v at [] nothing_more (omega arith) (omega arith) (omega arith) within
    (λ to next h k. items_none (written_layout v f) 0 next (rest_at to []) refl)

-- the vertices, and the faces behind them
pub mesh_read : (points : List Point) (faces : List Tri) → length points ≤ MOST_ITEMS → AllByRecursion IsOnGrid points → AllByRecursion (IsFace (length points)) faces → (at : ℕ) → at + 13 * length points + 13 * length faces ≤ MOST_MESH_BYTES →
    items_of (written_layout (length points) (length faces)) (length points + length faces) 0 (rest_at at (flat_map ply_vertex points ++ flat_map ply_face faces))
    ≡ led_by (map Vertex points) (led_by (map Face faces) nothing_more)
mesh_read points faces few grid held at within =
    items_read ply_vertex Vertex (written_layout (length points) (length faces)) 0 (length points) (2 + 2 + 2) IsOnGrid
    (vertices_back (length points) (length faces)) points grid (length points + length faces) (length faces) 0 at
    (flat_map ply_face faces) (led_by (map Face faces) nothing_more) refl (omega arith) (omega arith) (omega arith) after
  where
    after : (to next : ℕ) → to ≤ at + 13 * length points → next ≡ 0 + length points →
        items_of (written_layout (length points) (length faces)) (length faces) next (rest_at to (flat_map ply_face faces)) ≡ led_by (map Face faces) nothing_more
    after to next h k =
        ap (λ n. items_of (written_layout (length points) (length faces)) (length faces) n (rest_at to (flat_map ply_face faces))) (omega arith)
        ∙ faces_read (length points) (length faces) faces few held to (omega arith)
