-- The faces at v after a collapse of u onto v.
use Rattle.collapse_topology.proofs.CollapsedFaces.{face_after, face_before, renamed-other, renamed-same}
use Rattle.face_rings.proofs.Faces.{Apart, three}
use Rattle.face_rings.proofs.Members.{append_cases, append_left, append_right, steps-append, steps_in}
use Rattle.face_rings.proofs.Paths.{not_in, path, path_in}
use Rattle.face_rings.proofs.Named.{Different}
use Rattle.face_rings.specs.Faces.{Face, IsFan, Leads, ◌∈◌}
use Rattle.mesh_data.specs.Edits.{collapsed_tris, renamed}
use Rattle.mesh_data.specs.Rings.{closed_path, path_edges}
use Rattle.mesh_data.specs.declared.geometry.Edge.{Edge}
use Rattle.mesh_data.specs.declared.geometry.Tri.{Tri}
use Rattle.std.proofs.Common.{List, [], ap, append_assoc, inl, inr, subst, sym, ℕ, ◌++◌, ◌∙◌, ◌∷◌, ◌≡◌, ◌≢◌, ◌⊎◌}
use Rattle.std.proofs.lemmas.Bool.Decides.{eqb_tells}
use Rattle.triangle_lists.proofs.Walks.{step}

-- ---- the faces at v after the collapse
-- a face at v without u, or one at u without v
abbrev pub Old : List Tri → ℕ → ℕ → ℕ → ℕ → Type 0
Old ts u v x y = (Face ts v x y × (x ≢ u) × (y ≢ u)) ⊎ (Face ts u x y × (x ≢ v) × (y ≢ v))

-- v for u at the first name alone
at_u : (ts : List Tri) (u v x y p q r : ℕ) → Different ts → Face ts p q r → Apart u v p q r → renamed u v q ≡ x → renamed u v r ≡ y → p ≡ u → Face ts u x y × (x ≢ v) × (y ≢ v)
at_u ts u v x y p q r d f n e g h =
    let m = d p q r f in
    let qu : q ≢ u = λ i. m.0 (h ∙ sym i) in
    let ru : r ≢ u = λ i. m.2 (i ∙ sym h) in
    let ex : q ≡ x = sym (renamed-other u v q qu) ∙ e in
    let ey : r ≡ y = sym (renamed-other u v r ru) ∙ g in (
      subst (λ z. Face ts u x z) ey (subst (λ z. Face ts u z r) ex (subst (λ z. Face ts z q r) h f)),
      (λ i. n (inl (sym h)) (inr (inl (sym (ex ∙ i))))),
      (λ i. n (inl (sym h)) (inr (inr (sym (ey ∙ i))))),
    )

-- v itself at the first name
at_v : (ts : List Tri) (u v x y p q r : ℕ) → Face ts p q r → Apart u v p q r → renamed u v q ≡ x → renamed u v r ≡ y → p ≡ v → Face ts v x y × (x ≢ u) × (y ≢ u)
at_v ts u v x y p q r f n e g h =
    let qu : q ≢ u = λ i. n (inr (inl (sym i))) (inl (sym h)) in
    let ru : r ≢ u = λ i. n (inr (inr (sym i))) (inl (sym h)) in
    let ex : q ≡ x = sym (renamed-other u v q qu) ∙ e in
    let ey : r ≡ y = sym (renamed-other u v r ru) ∙ g in (
      subst (λ z. Face ts v x z) ey (subst (λ z. Face ts v z r) ex (subst (λ z. Face ts z q r) h f)),
      (λ i. qu (ex ∙ i)),
      (λ i. ru (ey ∙ i)),
    )

-- a face at v comes from one of these, and each of them stays
pub star_before : (ts : List Tri) (u v x y : ℕ) → Different ts → Face (collapsed_tris u v ts) v x y → Old ts u v x y
star_before ts u v x y d f =
    let b = face_before ts u v v x y f in
    elim (eqb_tells b.x u) [
      | inl e ↦ inr (at_u ts u v x y b.x b.y b.z d b.face b.apart b.by b.cz e.1)
      | inr n ↦ inl (at_v ts u v x y b.x b.y b.z b.face b.apart b.by b.cz (sym (renamed-other u v b.x n.1) ∙ b.ax))
    ]

pub star_after : (ts : List Tri) (u v x y : ℕ) → Different ts → u ≢ v → Old ts u v x y → Face (collapsed_tris u v ts) v x y
star_after ts u v x y d n (inl (f, nx, ny)) =
    three (collapsed_tris u v ts) _ _ _ v x y (renamed-other u v v (λ e. n (sym e))) (renamed-other u v x nx) (renamed-other u v y ny)
    (face_after ts u v v x y f (λ i j. elim i [ inl e ↦ n e | inr (inl e) ↦ nx (sym e) | inr (inr e) ↦ ny (sym e) ]))
star_after ts u v x y d n (inr (f, nx, ny)) =
    let m = d u x y f in
    three (collapsed_tris u v ts) _ _ _ v x y (renamed-same u v) (renamed-other u v x (λ e. m.0 (sym e))) (renamed-other u v y m.2)
    (face_after ts u v u x y f (λ i j. elim j [ inl e ↦ n (sym e) | inr (inl e) ↦ nx (sym e) | inr (inr e) ↦ ny (sym e) ]))

-- ---- loops
-- the steps round a closed path, from z on
pub loop : (z a b : ℕ) (m : List ℕ) → path_edges (closed_path (z ∷ (a ∷ m ++ b ∷ []))) ≡ (step z a) ∷ (path_edges (a ∷ m ++ b ∷ []) ++ (step b z) ∷ [])
loop z a b m = ap (λ l. (step z a) ∷ path_edges l) (append_assoc (a ∷ m) (b ∷ []) (z ∷ [])) ∙ ap (λ l. (step z a) ∷ l) (steps-append (a ∷ m) b (z ∷ []))

-- those without z, and back
pub loop_in : (z a b : ℕ) (m : List ℕ) (x y : ℕ) → (step x y) ∈ path_edges (closed_path (z ∷ (a ∷ m ++ b ∷ []))) → x ≢ z → y ≢ z → (step x y) ∈ path_edges (a ∷ m ++ b ∷ [])
loop_in z a b m x y i nx ny =
    inner (subst (λ l. (step x y) ∈ l) (loop z a b m) i)
  where
    last : Leads x y ((step b z) ∷ []) → (step x y) ∈ path_edges (a ∷ m ++ b ∷ [])
    last (inl e) = absurd (ny (ap (λ (p : Edge). p.b) e))
    last (inr j) = absurd j

    inner : Leads x y ((step z a) ∷ (path_edges (a ∷ m ++ b ∷ []) ++ (step b z) ∷ [])) → (step x y) ∈ path_edges (a ∷ m ++ b ∷ [])
    inner (inl e) = absurd (nx (ap (λ (p : Edge). p.a) e))
    inner (inr j) = elim (append_cases (step x y) (path_edges (a ∷ m ++ b ∷ [])) ((step b z) ∷ []) j) [ inl k ↦ k | inr k ↦ last k ]

pub loop_out : (z a b : ℕ) (m : List ℕ) (x y : ℕ) → (step x y) ∈ path_edges (a ∷ m ++ b ∷ []) → (step x y) ∈ path_edges (closed_path (z ∷ (a ∷ m ++ b ∷ [])))
loop_out z a b m x y i =
    subst (λ l. (step x y) ∈ l) (sym (loop z a b m)) (inr (append_left (step x y) (path_edges (a ∷ m ++ b ∷ [])) ((step b z) ∷ []) i))

-- the steps of a path through r and s
pub arc : (p : List ℕ) (r s : ℕ) (m q : List ℕ) → path_edges (p ++ r ∷ m ++ s ∷ q) ≡ path_edges (p ++ r ∷ []) ++ (path_edges (r ∷ m ++ s ∷ []) ++ path_edges (s ∷ q))
arc p r s m q =
    ap path_edges (append_assoc p (r ∷ m) (s ∷ q)) ∙ steps-append p r (m ++ s ∷ q) ∙ ap (λ l. path_edges (p ++ r ∷ []) ++ l) (steps-append (r ∷ m) s q)

-- the ring of a border v
pub splice_open : (ts : List Tri) (u v r s : ℕ) (mid p q : List ℕ) → Different ts → u ≢ v
    → IsFan ts u (closed_path (v ∷ (r ∷ mid ++ s ∷ []))) → IsFan ts v (p ++ r ∷ u ∷ s ∷ q)
    → ¬ (v ∈ r ∷ mid ++ s ∷ []) → ¬ (u ∈ p ++ r ∷ []) → ¬ (u ∈ s ∷ q)
    → IsFan (collapsed_tris u v ts) v (p ++ r ∷ mid ++ s ∷ q)
splice_open ts u v r s mid p q d n fu fv nv np nq x y = (to, from)
  where
    to : Face (collapsed_tris u v ts) v x y → (step x y) ∈ path_edges (p ++ r ∷ mid ++ s ∷ q)
    to f =
        subst (λ l. (step x y) ∈ l) (sym (arc p r s mid q)) (elim (star_before ts u v x y d f) [
          | inl (g, nx, ny) ↦ elim (path_in p r u s q x y ((fv x y).0 g) nx ny) [
            | inl j ↦ append_left (step x y) (path_edges (p ++ r ∷ [])) _ j
            | inr j ↦ append_right (step x y) (path_edges (p ++ r ∷ [])) _ (append_right (step x y) (path_edges (r ∷ mid ++ s ∷ [])) _ j)
          ]
          | inr (g, nx, ny) ↦ append_right (step x y) (path_edges (p ++ r ∷ [])) _ (append_left (step x y) (path_edges (r ∷ mid ++ s ∷ [])) (path_edges (s ∷ q)) (loop_in v r s mid x y ((fu x y).0 g) nx ny))
        ])

    old : Leads x y (path_edges (p ++ r ∷ u ∷ s ∷ q)) → (x ≢ u) × (y ≢ u) → Face (collapsed_tris u v ts) v x y
    old j (a, b) = star_after ts u v x y d n (inl ((fv x y).1 j, a, b))

    from : (step x y) ∈ path_edges (p ++ r ∷ mid ++ s ∷ q) → Face (collapsed_tris u v ts) v x y
    from i =
        elim (append_cases (step x y) (path_edges (p ++ r ∷ [])) (path_edges (r ∷ mid ++ s ∷ []) ++ path_edges (s ∷ q)) (subst (λ l. (step x y) ∈ l) (arc p r s mid q) i)) [
          | inl j ↦ let k = steps_in (p ++ r ∷ []) (step x y) j in
              old (subst (λ l. (step x y) ∈ l) (sym (path p r u s q)) (append_left (step x y) (path_edges (p ++ r ∷ [])) ((step r u) ∷ (step u s) ∷ path_edges (s ∷ q)) j)) (not_in u x (p ++ r ∷ []) np k.0, not_in u y (p ++ r ∷ []) np k.1)
          | inr j ↦ elim (append_cases (step x y) (path_edges (r ∷ mid ++ s ∷ [])) (path_edges (s ∷ q)) j) [
            | inl h ↦ let k = steps_in (r ∷ mid ++ s ∷ []) (step x y) h in
                star_after ts u v x y d n (inr ((fu x y).1 (loop_out v r s mid x y h), not_in v x (r ∷ mid ++ s ∷ []) nv k.0, not_in v y (r ∷ mid ++ s ∷ []) nv k.1))
            | inr h ↦ let k = steps_in (s ∷ q) (step x y) h in
                old (subst (λ l. (step x y) ∈ l) (sym (path p r u s q)) (append_right (step x y) (path_edges (p ++ r ∷ [])) ((step r u) ∷ (step u s) ∷ path_edges (s ∷ q)) (inr (inr h)))) (not_in u x (s ∷ q) nq k.0, not_in u y (s ∷ q) nq k.1)
          ]
        ]
