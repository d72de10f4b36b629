-- The border and the directed edges, by faces.
use Rattle.face_rings.proofs.Corners.{in_contains}
use Rattle.face_rings.proofs.Faces.{Among, Apart}
use Rattle.face_rings.proofs.Fans.{has_in, in_has}
use Rattle.face_rings.proofs.Tallies.{edge_face, face_edge}
use Rattle.face_rings.specs.Faces.{IsBorder, Face, ◌∈◌}
use Rattle.mesh_data.specs.RingChanges.{HasEdge}
use Rattle.mesh_data.specs.Triangles.{border_edges, directed_edges, has_edge, reversed}
use Rattle.mesh_data.specs.declared.geometry.Edge.{Edge}
use Rattle.mesh_data.specs.declared.geometry.Tri.{Tri}
use Rattle.std.proofs.Common.{List, [], arith, filter, inl, inr, not, suc, sym, zero, ℕ, ◌∙◌, ◌∷◌, ◌≡◌, ◌⊎◌}
use Rattle.std.proofs.lemmas.Bool.{cases_eq}
use Rattle.std.specs.List.{Contains}
use Rattle.triangle_lists.proofs.OnceLaws.{border_has, once_alone, once_strict}
use Rattle.triangle_lists.proofs.Walks.{step}

-- ---- edges and the border, by faces
-- a member by its place is one by recursion
pub contains_in : {X : Type 0} (xs : List X) (x : X) → Contains xs x → x ∈ xs
contains_in [] x at = absurd (omega (arith, at.1))
contains_in (y ∷ ys) x (zero, lt, is) = inl (sym is)
contains_in (y ∷ ys) x (suc k, lt, is) = inr (contains_in ys x (k, omega (arith, lt), is))

-- the border has the edges that have a face, and none back
pub border_by : (ts : List Tri) (e : Edge) → Contains (border_edges ts) e → IsBorder ts e.a e.b
border_by ts e h =
    let parts = (border_has ts e).0 h in
    record {
      there = edge_face ts e (contains_in (directed_edges ts) e parts.0);
      alone = λ z f. parts.1 (in_contains (directed_edges ts) (reversed e) (face_edge ts e.b e.a z f));
    }

pub by_border : (ts : List Tri) (e : Edge) → IsBorder ts e.a e.b → Contains (border_edges ts) e
by_border ts e b =
    (border_has ts e).1 (in_contains (directed_edges ts) e (face_edge ts e.a e.b b.there.0 b.there.1), λ h. let at = edge_face ts (reversed e) (contains_in (directed_edges ts) (reversed e) h) in b.alone at.0 at.1)

-- the same edges on the border make the same border
pub same_border : (ts us : List Tri) → ((a b : ℕ) → IsBorder ts a b → IsBorder us a b) → ((a b : ℕ) → IsBorder us a b → IsBorder ts a b) → border_edges ts ≡ border_edges us
same_border ts us to from =
    let lone : List Edge = filter (λ e. not (has_edge us (reversed e))) (directed_edges us) in
    let strict = once_strict (filter (λ e. not (has_edge ts (reversed e))) (directed_edges ts)) in
    once_alone (border_edges us) (border_edges ts) strict (λ e. ((λ h. by_border us e (to e.a e.b (border_by ts e h))), (λ h. by_border ts e (from e.a e.b (border_by us e h)))))
    ∙ sym (once_alone (border_edges us) (border_edges us) (once_strict lone) (λ e. ((λ h. h), (λ h. h))))

-- ---- both names, or not
-- a name is one of three or is not
among_or : (x a b c : ℕ) → Among x a b c ⊎ (Among x a b c → ⊥)
among_or x a b c =
    elim (cases_eq x a) [
      | inl e ↦ inl (inl e)
      | inr na ↦ elim (cases_eq x b) [
        | inl e ↦ inl (inr (inl e))
        | inr nb ↦ elim (cases_eq x c) [
          | inl e ↦ inl (inr (inr e))
          | inr nc ↦ inr (λ i. elim i [ inl e ↦ na e | inr (inl e) ↦ nb e | inr (inr e) ↦ nc e ])
        ]
      ]
    ]

-- three names lack one of u and v, or have both
pub apart_or : (u v a b c : ℕ) → Apart u v a b c ⊎ (Among u a b c × Among v a b c)
apart_or u v a b c =
    elim (among_or u a b c) [
      | inr n ↦ inl (λ i j. n i)
      | inl i ↦ elim (among_or v a b c) [ inr n ↦ inl (λ i j. n j) | inl j ↦ inr (i, j) ]
    ]

-- the edges of a list are those of its faces
pub edge_of : (ts : List Tri) (a b c : ℕ) → Face ts a b c → HasEdge ts a b
edge_of ts a b c f = in_has (directed_edges ts) (step a b) (face_edge ts a b c f)

pub of_edge : (ts : List Tri) (a b : ℕ) → HasEdge ts a b → (c : ℕ) × Face ts a b c
of_edge ts a b h = edge_face ts (step a b) (has_in (directed_edges ts) (step a b) h)
