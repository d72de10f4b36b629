-- The apex of an edge, and what is told of a name.
use Rattle.std.proofs.Common.{◌≡◌, ℕ, Bool, true, ◌||◌, eqb, List, [], ◌∷◌, Option, Some, None, sym, ap, ◌∙◌, subst}
use Rattle.std.proofs.Common.{inl, inr}
use Rattle.std.proofs.lemmas.Bool.{and_from, and_parts, eq-eqb, false_from_ne_true, or_cases, or_left, or_right}
use Rattle.std.specs.BTreeMap.{BTreeMap, keys}
use Rattle.std.specs.List.{list_any}
use Rattle.mesh_data.specs.declared.geometry.Tri.{Tri}
use Rattle.mesh_data.specs.Links.{apex, has_both}
use Rattle.mesh_data.specs.Manifold.{is_corner}
use Rattle.mesh_data.specs.Rings.{has_closed_ring, link}
use Rattle.mesh_data.specs.Triangles.{has_corner}
use Rattle.triangle_lists.proofs.Candidates.{going_by_found}
use Rattle.half_edge.specs.declared.surgery.Half.{Half}
use Rattle.half_edge.specs.Halves.{Slots, Goes, IsSound, faces_of}
use Rattle.half_edge.specs.Collapses.{tri}
use Rattle.half_edge.specs.Meshes.{Faced, is_held, IsMesh}
use Rattle.half_edge.specs.Rings.{BeginsRing, third_name}
use Rattle.half_edge.proofs.Bridges.{apex_of, apex_none, both_of_half}
use Rattle.half_edge.proofs.Faces.{is_face, half_of_face}
use Rattle.half_edge.proofs.HeldKeys.{held_key}
use Rattle.half_edge.proofs.Sound.{goes}
use Rattle.half_edge.proofs.Walks.{face_at}

pub apex_told : (s : Slots) (k a b x : ℕ) → IsSound s → Goes s k a b → x ≡ third_name s k →
    Some x ≡ apex (faces_of s) a b
apex_told s k a b x sound go is =
    ap (λ (n : ℕ). Some n) (is ∙ ap (λ (o : Option Half). third_name (o ∷ []) 0) go.1)
    ∙ sym (apex_of s k a b go.0.face.c sound (face_at s a sound k b go))

pub apex_missing : (s : Slots) (a b : ℕ) → IsSound s → ((k : ℕ) → Goes s k a b → ⊥) → None ≡ apex (faces_of s) a b
apex_missing s a b sound none =
    sym (apex_none (faces_of s) a b
    (λ c. false_from_ne_true (is_face (faces_of s) a b c) (λ face. let half = half_of_face s a b c sound face in
    none half.0 (goes s half.0 (tri a b c) half.1))))

-- whether the ring that begins is closed
pub closed_told : (s : Slots) (v k : ℕ) (closed : Bool) → BeginsRing s v k closed →
    closed ≡ has_closed_ring (faces_of s) v
closed_told s v k closed begins =
    going_by_found (link v (faces_of s)) (record { names = begins.name ∷ begins.names; closed = closed }) begins.is

corner_of_both : (ts : List Tri) (x y : ℕ) → list_any (has_both x y) ts ≡ true → is_corner ts x ≡ true
corner_of_both [] x y h = h
corner_of_both (t ∷ ts) x y h =
    elim (or_cases (has_both x y t) (list_any (has_both x y) ts) h) [
      | inl here ↦ or_left (has_corner x t) (is_corner ts x) (and_parts (has_corner x t) (has_corner y t) here).0
      | inr later ↦ or_right (has_corner x t) (is_corner ts x) (corner_of_both ts x y later)
    ]

-- a held name is in a triangle
pub held_corner : (s : Slots) (m : BTreeMap ℕ ℕ) (f : Faced) (v : ℕ) → IsMesh s m →
    record { tris = faces_of s; held = keys m } ≡ f → is_held f v ≡ true → is_corner f.tris v ≡ true
held_corner s m f v mesh is held =
    let key = held_key m v (ap (λ (g : Faced). is_held g v) is ∙ held) in
    let go = (mesh.fit v key.0 key.1).1 in
    let t = go.0.face in
    let here : has_corner v t ≡ true =
    or_left (eqb t.a v || eqb t.b v) (eqb t.c v) (or_left (eqb t.a v) (eqb t.b v) (eq-eqb t.a v go.2)) in
    subst (λ (g : Faced). is_corner g.tris v ≡ true) is
    (corner_of_both (faces_of s) v v
    (both_of_half s key.0 go.0 v v mesh.sound go.1 (and_from (has_corner v t) (has_corner v t) here here)))
