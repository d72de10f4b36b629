-- Least steps are one list, and on a mesh with the errors of its planes they are those by its planes.
use Rattle.std.proofs.Common.{◌≡◌, ◌≢◌, inl, inr, ℕ, ℤ, pos, ◌+ℤ◌, ◌*ℤ◌, eqb, Bool, true, false, cond, List, [], ◌∷◌, ◌++◌, Option, Some, None, refl, sym, ap, ◌∙◌, subst, arith}
use Rattle.std.proofs.Math.IntN.{+ℤ_assoc, +ℤ_idl}
use Rattle.std.proofs.lemmas.Bool.{false≢true, eqb-true, eq-eqb}
use Rattle.std.specs.FinMap as finite
use Rattle.std.specs.Option.{option_map, option_map_or}
use Rattle.oemm_octree.specs.declared.points.Point.{Point}
use Rattle.mesh_data.specs.declared.edits.Step.{Step}
use Rattle.mesh_data.specs.declared.geometry.Vertex.{Vertex}
use Rattle.mesh_data.specs.declared.planes.Plane.{Plane}
use Rattle.mesh_data.specs.Edits.{AreLeastSteps, collapse_verdict_by, collapsed, cost, is_held, planes_or_none, point_or_origin}
use Rattle.mesh_data.specs.Mesh.{Mesh, with_vertex}
use Rattle.mesh_data.specs.Planes.{plane_value, squares}
use Rattle.edit_laws.proofs.FarPairs.{get-away, planes-away}
use Rattle.edit_laws.proofs.SeenEffects.{get-collapsed, taking}
use Rattle.edit_steps.proofs.Steps.{le_antisymm}
use Rattle.queued_simplify.specs.Errors.{ErrorMesh, collapse_reply, contracted, contracted_by, made_by, price, with_plane_errors}
use Rattle.queued_simplify.specs.LeastSteps.{AreLeastStepsBy}
use Rattle.queued_simplify.proofs.Prices.{pair_of_done}

pub one_way : (inside : Point → Bool) (w : ErrorMesh) (most : ℤ) (target : ℕ) (ss ts : List Step)
    → AreLeastStepsBy inside w most target ss → AreLeastStepsBy inside w most target ts → ss ≡ ts
one_way inside w most target [] [] h g = refl
one_way inside w most target [] (t ∷ ts) h g =
    elim h [ inl low ↦ absurd (omega (arith, low, g.0)) | inr stuck ↦ absurd (stuck t.u t.v t.cost g.1.done) ]
one_way inside w most target (s ∷ ss) [] h g =
    elim g [ inl low ↦ absurd (omega (arith, low, h.0)) | inr stuck ↦ absurd (stuck s.u s.v s.cost h.1.done) ]
one_way inside w most target (s ∷ ss) (t ∷ ts) h g =
    let first : s ≡ t = le_antisymm s t (h.1.least t.u t.v t.cost g.1.done) (g.1.least s.u s.v s.cost h.1.done) in
    let later : AreLeastStepsBy inside (contracted w s.u s.v) most target ts =
    subst (λ (x : Step). AreLeastStepsBy inside (contracted w x.u x.v) most target ts) (sym first) g.2 in
    let rest : ss ≡ ts = one_way inside (contracted w s.u s.v) most target ss ts h.2 later in
    λ i. first i ∷ rest i

-- ---- errors by planes
squares-append : (ks ls : List Plane) (p : Point) → squares (ks ++ ls) p ≡ squares ks p +ℤ squares ls p
unfolding squares
squares-append [] ls p = sym (+ℤ_idl (squares ls p))
squares-append (k ∷ ks) ls p =
    ap (λ z. (plane_value k p *ℤ plane_value k p) +ℤ z) (squares-append ks ls p)
    ∙ sym (+ℤ_assoc (plane_value k p *ℤ plane_value k p) (squares ks p) (squares ls p))

price_is : (m : Mesh) (u v : ℕ) → price (with_plane_errors m) u v ≡ cost m u v
price_is m u v = sym (squares-append (planes_or_none m u) (planes_or_none m v) (point_or_origin m v))

reply_is : (inside : Point → Bool) (m : Mesh) (u v : ℕ) (most : ℤ)
    → collapse_reply inside (with_plane_errors m) u v most ≡ collapse_verdict_by (cost m u v) inside m u v most
reply_is inside m u v most = ap (λ z. collapse_verdict_by z inside m u v most) (price_is m u v)

-- what v has afterwards
planes_of_option : Option Vertex → List Plane
planes_of_option o = option_map_or (λ ps. ps) (option_map (λ (x : Vertex). x.planes) o) []

planes_taken : (inside : Point → Bool) (m : Mesh) (u v : ℕ) → v ≢ u → is_held inside m v ≡ true
    → planes_or_none (collapsed m u v) v ≡ planes_or_none m v ++ planes_or_none m u
unfolding planes_of_option
planes_taken inside m u v apart held =
    ap planes_of_option (get-away m u v v apart
    ∙ ap (λ (b : Bool). cond b (option_map (taking m u) (finite.get m.vertices v)) (finite.get m.vertices v))
    (eq-eqb v v refl))
    ∙ taken (finite.get m.vertices v) held
  where
    taken : (o : Option Vertex) → option_map_or inside (option_map (λ (x : Vertex). x.point) o) false ≡ true
        → planes_of_option (option_map (taking m u) o) ≡ planes_of_option o ++ planes_or_none m u
    taken None h = absurd (false≢true h)
    taken (Some x) h = refl

planes_gone : (m : Mesh) (u v : ℕ) → planes_or_none (collapsed m u v) u ≡ []
unfolding planes_of_option
planes_gone m u v = ap planes_of_option (get-collapsed m u v u
    ∙ ap (λ (b : Bool). cond b None (finite.get (with_vertex m v (taking m u)).vertices u)) (eq-eqb u u refl))

-- the errors of the planes afterwards
error_then : (inside : Point → Bool) (m : Mesh) (u v : ℕ) → u ≢ v → is_held inside m v ≡ true → (x : ℕ) (p : Point)
    → squares (planes_or_none (collapsed m u v) x) p ≡ (contracted (with_plane_errors m) u v).error x p
unfolding squares
error_then inside m u v apart held x p =
    let of : ℕ → ℤ = λ y. squares (planes_or_none m y) p in
    let now : ℤ = squares (planes_or_none (collapsed m u v) x) p in
    elim (eqb x u) as (λ b. eqb x u ≡ b → now ≡ cond b (pos 0) (cond (eqb x v) (of v +ℤ of u) (of x))) [
      | true ↦ λ e. ap (λ y. squares (planes_or_none (collapsed m u v) y) p) (eqb-true x u e)
          ∙ ap (λ ps. squares ps p) (planes_gone m u v)
      | false ↦ λ e. elim (eqb x v) as (λ b. eqb x v ≡ b → now ≡ cond b (of v +ℤ of u) (of x)) [
        | true ↦ λ f.
            ap (λ y. squares (planes_or_none (collapsed m u v) y) p) (eqb-true x v f)
            ∙ ap (λ ps. squares ps p) (planes_taken inside m u v (λ is. apart (sym is)) held)
            ∙ squares-append (planes_or_none m v) (planes_or_none m u) p
        | false ↦ λ f. ap (λ ps. squares ps p)
            (planes-away m u v x (λ is. false≢true (sym e ∙ eq-eqb x u is)) (λ is. false≢true (sym f ∙ eq-eqb x v is)))
      ] refl
    ] refl

pub contracted_is : (inside : Point → Bool) (m : Mesh) (u v : ℕ) → u ≢ v → is_held inside m v ≡ true
    → contracted (with_plane_errors m) u v ≡ with_plane_errors (collapsed m u v)
contracted_is inside m u v apart held =
    λ i. record { mesh = collapsed m u v; error = λ x p. sym (error_then inside m u v apart held x p) i }

pub by_planes : (inside : Point → Bool) (m : Mesh) (most : ℤ) (target : ℕ) (ss : List Step)
    → AreLeastStepsBy inside (with_plane_errors m) most target ss → AreLeastSteps inside m most target ss
by_planes inside m most target [] h =
    elim h [ inl low ↦ inl low | inr stuck ↦ inr (λ u v k done. stuck u v k (reply_is inside m u v most ∙ done)) ]
by_planes inside m most target (s ∷ ss) h =
    let pair = pair_of_done inside (with_plane_errors m) s.u s.v most s.cost h.1.done in (
      h.0,
      sym (reply_is inside m s.u s.v most) ∙ h.1.done,
      λ u v k done. h.1.least u v k (reply_is inside m u v most ∙ done),
      by_planes inside (collapsed m s.u s.v) most target ss
          (subst (λ (w : ErrorMesh). AreLeastStepsBy inside w most target ss)
          (contracted_is inside m s.u s.v pair.apart pair.onto_held) h.2),
    )

-- one collapse more
pub made_by_more : {X : Type 0} (make : X → ℕ → ℕ → X) (x : X) (ss : List Step) (s : Step)
    → made_by make x (ss ++ s ∷ []) ≡ make (made_by make x ss) s.u s.v
made_by_more make x [] s = refl
made_by_more make x (t ∷ ss) s = made_by_more make (make x t.u t.v) ss s

pub made_more : (w : ErrorMesh) (ss : List Step) (s : Step)
    → contracted_by w (ss ++ s ∷ []) ≡ contracted (contracted_by w ss) s.u s.v
made_more w [] s = refl
made_more w (t ∷ ts) s = made_more (contracted w t.u t.v) ts s
