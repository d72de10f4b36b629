-- A mesh of half-edges that was made of a list of triangles.
use Rattle.std.proofs.Common.{◌≡◌, ℕ, Bool, true, false, ◌&&◌, ◌||◌, eqb, List, [], ◌∷◌, map, Option, Some, None}
use Rattle.std.proofs.Common.{is_some, sym, ap, ◌∙◌, refl, subst, inl, inr}
use Rattle.std.proofs.lemmas.Bool.{false≢true, eqb-true, eq-eqb, and_parts, and_from, or_cases, or_left, or_right}
use Rattle.std.proofs.lemmas.Bool.{false_from_ne_true}
use Rattle.std.proofs.lemmas.List.Sorted.{list_any-IsPermutation}
use Rattle.std.specs.BTreeMap.{BTreeMap, keys}
use Rattle.std.specs.List.{list_any}
use Rattle.mesh_data.specs.declared.geometry.Tri.{Tri}
use Rattle.mesh_data.specs.declared.geometry.Edge.{Edge}
use Rattle.oemm_lists.specs.Ascending.{in_order}
use Rattle.mesh_data.specs.Manifold.{HasRing, is_corner}
use Rattle.mesh_data.specs.RingChanges.{IsOriented}
use Rattle.mesh_data.specs.Triangles.{has_corner, has_edge, same_edge, turned, tri_cmp}
use Rattle.triangle_lists.proofs.Sorting.{IsPermutation-in_order}
use Rattle.half_edge.specs.Built.{Built}
use Rattle.half_edge.specs.Halves.{Slots, from_next, Goes, faces_of}
use Rattle.half_edge.specs.Collapses.{tri}
use Rattle.half_edge.specs.Meshes.{out_at, IsFit, IsMesh}
use Rattle.half_edge.proofs.Cuts.{corner_cases}
use Rattle.half_edge.proofs.Faces.{is_tri, turns_tri, is_face, is_tri_itself, any_turned, half_of_face}
use Rattle.half_edge.proofs.Growing.{built_faces}
use Rattle.half_edge.proofs.HeldKeys.{key_is}
use Rattle.half_edge.proofs.Sound.{goes}

abbrev edge : ℕ → ℕ → Edge
edge a b = record { a = a; b = b }

-- who has an edge is a corner
corner_of_edge : (ts : List Tri) (v y : ℕ) → has_edge ts (edge v y) ≡ true → is_corner ts v ≡ true
corner_of_edge [] v y h = absurd (false≢true h)
corner_of_edge (t ∷ ts) v y h =
    elim (or_cases (same_edge (edge v y) (edge t.a t.b)) _ h) [
      | inl e ↦ or_left (has_corner v t) _
          (or_left (eqb t.a v || eqb t.b v) (eqb t.c v) (or_left (eqb t.a v) (eqb t.b v) (first v y t.a t.b e)))
      | inr h1 ↦ elim (or_cases (same_edge (edge v y) (edge t.b t.c)) _ h1) [
        | inl e ↦ or_left (has_corner v t) _
            (or_left (eqb t.a v || eqb t.b v) (eqb t.c v) (or_right (eqb t.a v) (eqb t.b v) (first v y t.b t.c e)))
        | inr h2 ↦ elim (or_cases (same_edge (edge v y) (edge t.c t.a)) _ h2) [
          | inl e ↦ or_left (has_corner v t) _ (or_right (eqb t.a v || eqb t.b v) (eqb t.c v) (first v y t.c t.a e))
          | inr later ↦ or_right (has_corner v t) _ (corner_of_edge ts v y later)
        ]
      ]
    ]
  where
    first : (a b c d : ℕ) → same_edge (edge a b) (edge c d) ≡ true → eqb c a ≡ true
    first a b c d e = eq-eqb c a (sym (eqb-true a c (and_parts (eqb a c) (eqb b d) e).0))

-- a corner has a face
face_of_corner : (ts : List Tri) (v : ℕ) → is_corner ts v ≡ true → (y : ℕ) × (z : ℕ) × (is_face ts v y z ≡ true)
face_of_corner [] v h = absurd (false≢true h)
face_of_corner (t ∷ ts) v h =
    elim (or_cases (has_corner v t) (is_corner ts v) h) [
      | inl here ↦ elim (corner_cases v t here) [
        | inl a ↦ (
          t.b,
          t.c,
          or_left (turns_tri v t.b t.c t) _
              (or_left (is_tri v t.b t.c t || is_tri v t.b t.c (from_next t)) _
              (or_left (is_tri v t.b t.c t) _ (is_tri_itself v t.b t.c t (λ i. record { a = a i; b = t.b; c = t.c })))),
        )
        | inr more ↦ elim more [
          | inl b ↦ (
            t.c,
            t.a,
            or_left (turns_tri v t.c t.a t) _
                (or_left (is_tri v t.c t.a t || is_tri v t.c t.a (from_next t)) _
                (or_right (is_tri v t.c t.a t) _
                (is_tri_itself v t.c t.a (from_next t) (λ i. record { a = b i; b = t.c; c = t.a })))),
          )
          | inr c ↦ (
            t.a,
            t.b,
            or_left (turns_tri v t.a t.b t) _
                (or_right (is_tri v t.a t.b t || is_tri v t.a t.b (from_next t)) _
                (is_tri_itself v t.a t.b (from_next (from_next t)) (λ i. record { a = c i; b = t.a; c = t.b }))),
          )
        ]
      ]
      | inr later ↦ let found = face_of_corner ts v later in
          (found.0, found.1, or_right (turns_tri v found.0 found.1 t) _ found.2)
    ]

pub face_in_order : (ts : List Tri) (a b c : ℕ) → is_face (in_order tri_cmp (map turned ts)) a b c ≡ is_face ts a b c
face_in_order ts a b c =
    sym (list_any-IsPermutation (turns_tri a b c) (map turned ts) (in_order tri_cmp (map turned ts))
    (IsPermutation-in_order tri_cmp (map turned ts))) ∙ any_turned a b c ts

-- a corner has a half-edge
half_of_corner : (s : Slots) (m : BTreeMap Edge ℕ) (ts : List Tri) (v : ℕ) → Built s m ts → is_corner ts v ≡ true →
    (k : ℕ) × (y : ℕ) × Goes s k v y
half_of_corner s m ts v built h =
    let found = face_of_corner ts v h in
    let there : is_face (faces_of s) v found.0 found.1 ≡ true = ap (λ (us : List Tri). is_face us v found.0 found.1)
    (built_faces s m ts built) ∙ face_in_order ts v found.0 found.1 ∙ found.2 in
    let half = half_of_face s v found.0 found.1 built.sound there in
    (half.0, found.0, goes s half.0 (tri v found.0 found.1) half.1)

some_is : (o : Option ℕ) → is_some o ≡ true → (k : ℕ) × (o ≡ Some k)
some_is None h = absurd (false≢true h)
some_is (Some k) h = (k, refl)

module _ (s : Slots) (m : BTreeMap Edge ℕ) (ts : List Tri) (outs : BTreeMap ℕ ℕ) (held : List ℕ) (built : Built s m ts)
    (fit : IsFit s outs)
    (among : (v k : ℕ) → out_at outs v ≡ Some k → list_any (λ w. eqb w v) held ≡ true)
    (all : (v k y : ℕ) → Goes s k v y → list_any (λ w. eqb w v) held ≡ true → is_some (out_at outs v) ≡ true) where
  corner : (v k : ℕ) → out_at outs v ≡ Some k → is_corner ts v ≡ true
  corner v k here = let go = fit v k here in corner_of_edge ts v go.0 (built.edges k v go.0 go.1)

  pub mesh_made : IsOriented (in_order tri_cmp (map turned ts)) →
      ((v : ℕ) → list_any (λ w. eqb w v) held ≡ true → is_corner ts v ≡ true →
      HasRing (in_order tri_cmp (map turned ts)) v) → IsMesh s outs
  mesh_made oriented ringed =
      record {
        sound = built.sound;
        oriented = subst IsOriented (sym (built_faces s m ts built)) oriented;
        fit = fit;
        ringed = λ v k here. subst (λ (us : List Tri). HasRing us v) (sym (built_faces s m ts built))
            (ringed v (among v k here) (corner v k here));
      }

  same_answers : (a b : Bool) → (a ≡ true → b ≡ true) → (b ≡ true → a ≡ true) → a ≡ b
  same_answers true b f g = sym (f refl)
  same_answers false b f g = sym (false_from_ne_true b (λ h. false≢true (g h)))

  pub held_made : (v : ℕ) → list_any (λ w. eqb w v) (keys outs) ≡ (list_any (λ w. eqb w v) held && is_corner ts v)
  held_made v =
      key_is outs v ∙ same_answers (is_some (out_at outs v)) (list_any (λ w. eqb w v) held && is_corner ts v)
      (λ h. let k = some_is (out_at outs v) h in and_from (list_any (λ w. eqb w v) held) (is_corner ts v)
      (among v k.0 k.1) (corner v k.0 k.1))
      (λ h. let two = and_parts (list_any (λ w. eqb w v) held) (is_corner ts v) h in let half =
      half_of_corner s m ts v built two.1 in all v half.0 half.1 half.2 two.0)
