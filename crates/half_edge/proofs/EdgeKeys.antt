-- The keys of edges.
use Rattle.std.proofs.Common.{◌≡◌, ℕ, Bool, true, false, cond, ◌&&◌, eqb, Option, Some, None, sym, ap, ◌∙◌, refl, subst}
use Rattle.std.proofs.Common.{inl, inr}
use Rattle.std.proofs.lemmas.Bool.{eqb-true, eq-eqb, both_ways, and_parts, and_from}
use Rattle.std.specs.BTreeMap.{BTreeMap, is_at}
use Rattle.std.specs.Map.{lookup}
use Rattle.mesh_data.specs.declared.geometry.Tri.{Tri}
use Rattle.mesh_data.specs.declared.geometry.Edge.{Edge}
use Rattle.mesh_data.specs.Triangles.{edge_cmp}
use Rattle.triangle_lists.proofs.EdgeSets.{same_edge_is}
use Rattle.triangle_lists.proofs.Paths.{eqb_comm}
use Rattle.half_edge.specs.declared.surgery.Half.{Half}
use Rattle.half_edge.specs.Halves.{Slots, at, Goes, IsTwin}
use Rattle.half_edge.specs.Building.{edge_key, Tells, Added, IsAdded}
use Rattle.half_edge.proofs.Adding.{which, goes_old, at_k, at_l, at_m}

at_edge : (a b x y : ℕ) → is_at (edge_cmp (record { a = a; b = b })) (record { a = x; b = y }) ≡ (eqb x a && eqb y b)
at_edge a b x y = sym (same_edge_is (record { a = a; b = b }) (record { a = x; b = y }))
    ∙ (λ i. eqb_comm a x i && eqb_comm b y i)

pub put_edge_is : (m n : BTreeMap Edge ℕ) (a b k : ℕ)
    → ((e : Edge) → lookup (is_at (edge_cmp e)) n.entries ≡ cond (is_at (edge_cmp (record { a = a; b = b })) e) (Some k)
    (lookup (is_at (edge_cmp e)) m.entries))
    → (x y : ℕ) → edge_key n x y ≡ cond (eqb x a && eqb y b) (Some k) (edge_key m x y)
put_edge_is m n a b k after x y = after (record { a = x; b = y }) ∙ ap (λ (z : Bool). cond z (Some k) (edge_key m x y))
    (at_edge a b x y)

-- the keys of edges after a triangle was added
abbrev pub TellsThree : BTreeMap Edge ℕ → BTreeMap Edge ℕ → Tri → Added → Type 0
TellsThree m n t x =
    (a b : ℕ) → edge_key n a b ≡ cond (eqb a t.c && eqb b t.a) (Some x.m)
    (cond (eqb a t.b && eqb b t.c) (Some x.l) (cond (eqb a t.a && eqb b t.b) (Some x.k) (edge_key m a b)))

pub tells_added : (s r : Slots) (t : Tri) (x : Added) (m n : BTreeMap Edge ℕ) → IsAdded s r t x → Tells m s →
    TellsThree m n t x → Tells n r
tells_added s r t x m n is told three a b =
    subst (IsTwin r b a) (sym (three a b))
    (elim (eqb a t.c && eqb b t.a) as (λ z. (eqb a t.c && eqb b t.a) ≡ z →
    IsTwin r b a (cond z (Some x.m)
    (cond (eqb a t.b && eqb b t.c) (Some x.l) (cond (eqb a t.a && eqb b t.b) (Some x.k) (edge_key m a b))))) [
      | true ↦ λ e. let two = and_parts (eqb a t.c) (eqb b t.a) e in
          goes_so x.m a b (at_m s r t x is) (eqb-true a t.c two.0) (eqb-true b t.a two.1)
      | false ↦ λ n1. elim (eqb a t.b && eqb b t.c) as (λ z. (eqb a t.b && eqb b t.c) ≡ z →
          IsTwin r b a (cond z (Some x.l) (cond (eqb a t.a && eqb b t.b) (Some x.k) (edge_key m a b)))) [
            | true ↦ λ e. let two = and_parts (eqb a t.b) (eqb b t.c) e in
                goes_so x.l a b (at_l s r t x is) (eqb-true a t.b two.0) (eqb-true b t.c two.1)
            | false ↦ λ n2. elim (eqb a t.a && eqb b t.b) as (λ z. (eqb a t.a && eqb b t.b) ≡ z →
                IsTwin r b a (cond z (Some x.k) (edge_key m a b))) [
                  | true ↦ λ e. let two = and_parts (eqb a t.a) (eqb b t.b) e in
                      goes_so x.k a b (at_k s r t x is) (eqb-true a t.a two.0) (eqb-true b t.b two.1)
                  | false ↦ λ n3. old (edge_key m a b) n1 n2 n3 (told a b)
                ] refl
          ] refl
    ] refl)
  where
    goes_so : (k d f : ℕ) {h : Half} → at r k ≡ Some h → d ≡ h.face.a → f ≡ h.face.b → Goes r k d f
    goes_so k d f {h} here e g = (h, here, sym e, sym g)

    old : (o : Option ℕ) → (eqb a t.c && eqb b t.a) ≡ false → (eqb a t.b && eqb b t.c) ≡ false →
        (eqb a t.a && eqb b t.b) ≡ false → IsTwin s b a o → IsTwin r b a o
    old (Some g) n1 n2 n3 go = goes_old s r t x is g a b go
    old None n1 n2 n3 lone =
        λ g go.
        elim (which s r t x is g a b go) [
          | inl e ↦ both_ways (eqb a t.a && eqb b t.b) n3
              (and_from (eqb a t.a) (eqb b t.b) (eq-eqb a t.a e.1) (eq-eqb b t.b e.2))
          | inr r1 ↦ elim r1 [
            | inl e ↦ both_ways (eqb a t.b && eqb b t.c) n2
                (and_from (eqb a t.b) (eqb b t.c) (eq-eqb a t.b e.1) (eq-eqb b t.c e.2))
            | inr r2 ↦ elim r2 [
              | inl e ↦ both_ways (eqb a t.c && eqb b t.a) n1
                  (and_from (eqb a t.c) (eqb b t.a) (eq-eqb a t.c e.1) (eq-eqb b t.a e.2))
              | inr e ↦ lone g e
            ]
          ]
        ]

pub three_told : (m m1 m2 n : BTreeMap Edge ℕ) (t : Tri) (x : Added)
    → ((a b : ℕ) → edge_key m1 a b ≡ cond (eqb a t.a && eqb b t.b) (Some x.k) (edge_key m a b))
    → ((a b : ℕ) → edge_key m2 a b ≡ cond (eqb a t.b && eqb b t.c) (Some x.l) (edge_key m1 a b))
    → ((a b : ℕ) → edge_key n a b ≡ cond (eqb a t.c && eqb b t.a) (Some x.m) (edge_key m2 a b)) → TellsThree m n t x
three_told m m1 m2 n t x e1 e2 e3 a b =
    e3 a b ∙ ap (cond (eqb a t.c && eqb b t.a) (Some x.m))
    (e2 a b ∙ ap (cond (eqb a t.b && eqb b t.c) (Some x.l)) (e1 a b))
