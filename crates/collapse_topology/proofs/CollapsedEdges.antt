-- After a collapse no directed edge comes twice.
use Rattle.collapse_topology.proofs.CollapsedFaces.{renamed-other, renamed-same}
use Rattle.face_rings.proofs.Faces.{Apart, Face_back, Face_turn, Near, three}
use Rattle.face_rings.proofs.Tallies.{AreOnce, edge_face, kept_face, kept_tris, often-append, often_either, often_more, sides-turned, some_often, tally, tally-filter, tally-in_order, tally_face, two_at_most, unique_of}
use Rattle.face_rings.proofs.Named.{Different, Unique}
use Rattle.face_rings.specs.Faces.{Face}
use Rattle.mesh_data.specs.Edits.{collapsed_tris, substituted, renamed}
use Rattle.mesh_data.specs.Links.{has_both}
use Rattle.mesh_data.specs.Triangles.{directed_edges, same_edge, sides, turned}
use Rattle.mesh_data.specs.declared.geometry.Edge.{Edge}
use Rattle.mesh_data.specs.declared.geometry.Tri.{Tri}
use Rattle.std.proofs.Common.{Bool, List, [], ap, arith, eq-eqb, eqb, inl, inr, map, not, refl, suc, sym, true, zero, ℕ, ◌∙◌, ◌∷◌, ◌≡◌, ◌≢◌, ◌≤◌, ◌⊎◌}
use Rattle.std.proofs.lemmas.Bool.{and_from, cases_eq}
use Rattle.triangle_lists.proofs.Counts.{often}
use Rattle.triangle_lists.proofs.EdgeSets.{same_edges}
use Rattle.triangle_lists.proofs.Walks.{step}

-- what the verdict knows of the two names: the faces (u, v, r) and (u, s, v), and no common neighbour but r and s
pub record Pinch (ts : List Tri) (u v r s : ℕ) : Type 0 where
  pub first : Face ts u v r
  pub last : Face ts u s v
  pub only : (w : ℕ) → Near ts u w → Near ts v w → (w ≡ r) ⊎ (w ≡ s)

-- no kept face from u to w stands against one from v to w
pub out_apart : (ts : List Tri) (u v r s w z z' : ℕ) → Unique ts → Pinch ts u v r s → Face ts u w z → Apart u v u w z → Face ts v w z' → Apart u v v w z' → ⊥
out_apart ts u v r s w z z' q p f a g b =
    elim (p.only w (z, inl f) (z', inl g)) [
      | inl e ↦ b (inr (inr (sym (q v w z' u g (three ts v r u v w u refl (sym e) refl (Face_turn ts u v r p.first)))))) (inl refl)
      | inr e ↦ a (inl refl) (inr (inr (sym (q u w z v f (three ts u s v u w v refl (sym e) refl p.last)))))
    ]

-- no kept face from w to u stands against one from w to v
pub in_apart : (ts : List Tri) (u v r s w z z' : ℕ) → Unique ts → Pinch ts u v r s → Face ts w u z → Apart u v w u z → Face ts w v z' → Apart u v w v z' → ⊥
in_apart ts u v r s w z z' q p f a g b =
    elim (p.only w (z, inr (Face_turn ts w u z f)) (z', inr (Face_turn ts w v z' g))) [
      | inl e ↦ a (inr (inl refl)) (inr (inr (sym (q w u z v f (three ts r u v w u v (sym e) refl refl (Face_back ts u v r p.first))))))
      | inr e ↦ b (inr (inr (sym (q w v z' u g (three ts s v u w v u (sym e) refl refl (Face_turn ts u s v p.last)))))) (inr (inl refl))
    ]

-- an edge with v in the place of u
abbrev pub moved_edge : ℕ → ℕ → Edge → Edge
moved_edge u v d = step (renamed u v d.a) (renamed u v d.b)

-- edges of renamed triangles are renamed edges
tally-put : (p : Edge → Bool) (u v : ℕ) (ts : List Tri) → tally p (map (λ t. turned (substituted u v t)) ts) ≡ tally (λ d. p (moved_edge u v d)) ts
unfolding tally
tally-put p u v [] = refl
tally-put p u v (t ∷ ts) =
    let put : Tri = turned (substituted u v t) in
    omega (arith, often-append p (sides put) (directed_edges (map (λ t. turned (substituted u v t)) ts)), sides-turned p (substituted u v t), tally-put p u v ts)

-- the edges after a collapse are those that are kept, renamed
pub tally-collapsed : (p : Edge → Bool) (u v : ℕ) (ts : List Tri) → tally p (collapsed_tris u v ts) ≡ tally (λ d. p (moved_edge u v d)) (kept_tris u v ts)
unfolding collapsed_tris
tally-collapsed p u v ts = tally-in_order p (map (λ t. turned (substituted u v t)) (kept_tris u v ts)) ∙ tally-put p u v (kept_tris u v ts)

-- ---- after a collapse no edge comes twice
-- what isn't renamed to v stays
from_v : (u v : ℕ) (x n : ℕ) → n ≢ v → renamed u v x ≡ n → x ≡ n
from_v u v x n nv e =
    elim (cases_eq x u) [ inl xu ↦ absurd (nv (sym e ∙ ap (renamed u v) xu ∙ renamed-same u v)) | inr xu ↦ sym (renamed-other u v x xu) ∙ e ]

-- what is v was u or v
to_v : (u v : ℕ) (x : ℕ) → renamed u v x ≡ v → (x ≡ u) ⊎ (x ≡ v)
to_v u v x e = elim (cases_eq x u) [ inl xu ↦ inl xu | inr xu ↦ inr (sym (renamed-other u v x xu) ∙ e) ]

-- the edge from a to b, by its ends
edge_is : (a b : ℕ) (d : Edge) → d.a ≡ a → d.b ≡ b → same_edge (step a b) d ≡ true
edge_is a b d e f = and_from (eqb a d.a) (eqb b d.b) (eq-eqb a d.a (sym e)) (eq-eqb b d.b (sym f))

-- the ends of an edge that is renamed to e
edge_ends : (u v : ℕ) (e d : Edge) → same_edge e (moved_edge u v d) ≡ true → (renamed u v d.a ≡ e.a) × (renamed u v d.b ≡ e.b)
edge_ends u v e d h = let is = same_edges e (moved_edge u v d) h in (sym (ap (λ (f : Edge). f.a) is), sym (ap (λ (f : Edge). f.b) is))

-- no edge comes twice
pub collapsed_once : (ts : List Tri) (u v r s : ℕ) → u ≢ v → Different ts → AreOnce ts → Pinch ts u v r s → AreOnce (collapsed_tris u v ts)
unfolding tally
collapsed_once ts u v r s uv d once p e =
    let ks = kept_tris u v ts in
    let es = directed_edges ks in
    let q = unique_of ts d once in
    let kept : AreOnce ks = λ f. omega (arith, tally-filter (same_edge f) (λ t. not (has_both u v t)) ts, once f) in
    let moved : Edge → Bool = λ f. same_edge e (moved_edge u v f) in
    let is = tally-collapsed (same_edge e) u v ts in
    elim (cases_eq e.a v) [
      | inl a_is ↦ elim (cases_eq e.b v) [
        | inl b_is ↦
            let none : 1 ≤ often moved es → ⊥ = λ h.
            let some = some_often moved es h in
            let ends = edge_ends u v e some.0 some.2 in
            let face = edge_face ks some.0 some.1 in
            let at = kept_face ts u v some.0.a some.0.b face.0 face.1 in
            let n = (d some.0.a some.0.b face.0 at.0).0 in
            elim (to_v u v some.0.a (ends.0 ∙ a_is)) [
              | inl au ↦ elim (to_v u v some.0.b (ends.1 ∙ b_is)) [ inl bu ↦ n (au ∙ sym bu) | inr bv ↦ at.1 (inl (sym au)) (inr (inl (sym bv))) ]
              | inr av ↦ elim (to_v u v some.0.b (ends.1 ∙ b_is)) [ inl bu ↦ at.1 (inr (inl (sym bu))) (inl (sym av)) | inr bv ↦ n (av ∙ sym bv) ]
            ] in
            few (often moved es) none (is)
        | inr bv ↦
            let sum = often_either moved (same_edge (step v e.b)) (same_edge (step u e.b)) (λ f h. let ends = edge_ends u v e f h in let fb = from_v u v f.b e.b bv ends.1 in
            elim (to_v u v f.a (ends.0 ∙ a_is)) [ inl au ↦ inr (edge_is u e.b f au fb) | inr av ↦ inl (edge_is v e.b f av fb) ]) es in
            let two = two_at_most (often (same_edge (step v e.b)) es) (often (same_edge (step u e.b)) es) (kept (step v e.b)) (kept (step u e.b)) (λ hv hu.
            let fv = tally_face ks v e.b hv in
            let fu = tally_face ks u e.b hu in
            let kv = kept_face ts u v v e.b fv.0 fv.1 in
            let ku = kept_face ts u v u e.b fu.0 fu.1 in
            out_apart ts u v r s e.b fu.0 fv.0 q p ku.0 ku.1 kv.0 kv.1) in
            omega (arith, is, sum, two)
      ]
      | inr av ↦ elim (cases_eq e.b v) [
        | inl b_is ↦
            let sum = often_either moved (same_edge (step e.a v)) (same_edge (step e.a u)) (λ f h. let ends = edge_ends u v e f h in let fa = from_v u v f.a e.a av ends.0 in
            elim (to_v u v f.b (ends.1 ∙ b_is)) [ inl bu ↦ inr (edge_is e.a u f fa bu) | inr bv ↦ inl (edge_is e.a v f fa bv) ]) es in
            let two = two_at_most (often (same_edge (step e.a v)) es) (often (same_edge (step e.a u)) es) (kept (step e.a v)) (kept (step e.a u)) (λ hv hu.
            let fv = tally_face ks e.a v hv in
            let fu = tally_face ks e.a u hu in
            let kv = kept_face ts u v e.a v fv.0 fv.1 in
            let ku = kept_face ts u v e.a u fu.0 fu.1 in
            in_apart ts u v r s e.a fu.0 fv.0 q p ku.0 ku.1 kv.0 kv.1) in
            omega (arith, is, sum, two)
        | inr bv ↦
            let less = often_more moved (same_edge e) (λ f h. let ends = edge_ends u v e f h in edge_is e.a e.b f (from_v u v f.a e.a av ends.0) (from_v u v f.b e.b bv ends.1)) es in
            omega (arith, is, less, kept e)
      ]
    ]
  where
    few : (n : ℕ) → (1 ≤ n → ⊥) → tally (same_edge e) (collapsed_tris u v ts) ≡ n → tally (same_edge e) (collapsed_tris u v ts) ≤ 1
    few zero none is = omega (arith, is)
    few (suc n) none is = absurd (none (omega arith))
