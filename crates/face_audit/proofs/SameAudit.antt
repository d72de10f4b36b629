-- The audit of faces in another order, and of the triangles of a mesh.
use Rattle.std.proofs.Common.{◌≡◌, ℕ, ◌+◌, Bool, true, false, cond, not, ◌&&◌, ◌||◌, eqb, List, [], ◌∷◌, length, map, Option, Some, None, sym, ap, ◌∙◌, refl, arith, ◌↔◌}
use Rattle.std.proofs.Math.IntN.{pos, ◌-ℤ◌}
use Rattle.std.proofs.lemmas.List.Recursion.{is_sum_by}
use Rattle.std.proofs.lemmas.List.Folds.{list_any-append}
use Rattle.std.proofs.lemmas.List.Sorted.{IsPermutation-sym, list_any-IsPermutation, sum_by-IsPermutation, length_permutation}
use Rattle.std.proofs.lemmas.Map.Views.{any-filter_same}
use Rattle.std.specs.FinMap as finite
use Rattle.std.specs.FinSet as set
use Rattle.std.specs.List.{list_any, flat_map, filter, All}
use Rattle.std.specs.List.Sorted.{IsPermutation}
use Rattle.mesh_data.specs.declared.geometry.Edge.{Edge}
use Rattle.mesh_data.specs.declared.geometry.Tri.{Tri}
use Rattle.mesh_data.specs.declared.shapes.Audit.{Audit}
use Rattle.mesh_data.specs.declared.shapes.Audit.TheVariants.{Good, Bad}
use Rattle.mesh_data.specs.declared.shapes.Shape.{Shape}
use Rattle.mesh_data.specs.declared.shapes.Shape.TheVariants as shape
use Rattle.mesh_data.specs.Manifold.{Audits, IsTriangleOf, times, is_corner, HasRing, IsRinged, IsEachEdgeOnce}
use Rattle.mesh_data.specs.Mesh.{Mesh}
use Rattle.mesh_data.specs.Rings.{from_each_corner, has_path_edge, link}
use Rattle.mesh_data.specs.Triangles.{same_edge, reversed, undirected, undirected_edges, sides, directed_edges, has_corner, has_edge, border_edges}
use Rattle.triangle_lists.specs.Audit.{FindsShape}
use Rattle.triangle_lists.specs.Links.{behind_all}
use Rattle.triangle_lists.proofs.Counts.{often}
use Rattle.triangle_lists.proofs.EdgeSets.{same_edges}
use Rattle.triangle_lists.proofs.Links.{link_is}
use Rattle.triangle_lists.proofs.OnceLaws.{once_strict}
use Rattle.triangle_lists.proofs.Orders.{edge_cmp_total, edge_cmp-IsAntisymmetric}
use Rattle.triangle_lists.proofs.RingLaws.{contains_step}
use Rattle.triangle_lists.proofs.RingTests.{same_strict, has_path_edge-once}
use Rattle.triangle_lists.proofs.Sorting.{weight}
use Rattle.face_audit.specs.Audit.{AuditsFaces}
use Rattle.face_audit.proofs.Lists.{any_sides, times_often}

-- ---- how often edges come

weight-IsPermutation : (f : Tri → ℕ) (ts us : List Tri) → IsPermutation ts us → weight f ts ≡ weight f us
weight-IsPermutation f ts us moved = is_sum_by (weight f) f refl (λ _ _. refl) ts ∙ sym (sum_by-IsPermutation f ts us moved) ∙ sym (is_sum_by (weight f) f refl (λ _ _. refl) us)

often_sides : (p : Edge → Bool) (ts : List Tri) → often p (directed_edges ts) ≡ weight (λ t. often p (sides t)) ts
often_sides p [] = refl
often_sides p (t ∷ ts) = omega (arith, often_sides p ts)

times_moved : (ts us : List Tri) (e : Edge) → IsPermutation ts us → times ts e ≡ times us e
times_moved ts us e moved =
    times_often ts e ∙ often_sides (same_edge e) ts ∙ weight-IsPermutation (λ t. often (same_edge e) (sides t)) ts us moved ∙ sym (often_sides (same_edge e) us) ∙ sym (times_often us e)

-- ---- rings

abbrev opposite : Tri → Edge
opposite t = record { a = t.b; b = t.c }

any_behind : (p : Edge → Bool) (v : ℕ) (ts : List Tri) → list_any p (behind_all v ts) ≡ list_any (λ t. eqb t.a v && p (opposite t)) ts
any_behind p v [] = refl
any_behind p v (t ∷ ts) =
    elim (eqb t.a v) as (λ b. list_any p (map opposite (cond b (t ∷ filter (λ s. eqb s.a v) ts) (filter (λ s. eqb s.a v) ts))) ≡ ((b && p (opposite t)) || list_any (λ t. eqb t.a v && p (opposite t)) ts)) [
      | true ↦ ap (λ (b : Bool). p (opposite t) || b) (any_behind p v ts)
      | false ↦ any_behind p v ts
    ]

any_corners : (q : Tri → Bool) (ts : List Tri) → list_any q (flat_map from_each_corner ts) ≡ list_any (λ t. list_any q (from_each_corner t)) ts
any_corners q [] = refl
any_corners q (t ∷ ts) = list_any-append q (from_each_corner t) (flat_map from_each_corner ts) ∙ ap (λ (b : Bool). list_any q (from_each_corner t) || b) (any_corners q ts)

link_moved : (ts us : List Tri) (v : ℕ) (e : Edge) → IsPermutation ts us → has_path_edge (link v ts) e ≡ has_path_edge (link v us) e
link_moved ts us v e moved =
    let q : Tri → Bool = λ t. eqb t.a v && same_edge e (opposite t) in
    let of : (ws : List Tri) → has_path_edge (link v ws) e ≡ list_any (λ t. list_any q (from_each_corner t)) ws = λ ws.
    ap (λ es. has_path_edge es e) (link_is v ws) ∙ any_behind (same_edge e) v (flat_map from_each_corner ws) ∙ any_corners q ws in
    of ts ∙ list_any-IsPermutation (λ t. list_any q (from_each_corner t)) ts us moved ∙ sym (of us)

ring_moved : (ts us : List Tri) (v : ℕ) → IsPermutation ts us → HasRing ts v → HasRing us v
ring_moved ts us v moved has =
    (has.0, record { distinct = has.1.distinct; long = has.1.long; along = λ e. sym (link_moved ts us v e moved) ∙ has.1.along e })

ring_back : (ts us : List Tri) (v : ℕ) → IsPermutation ts us → HasRing us v → HasRing ts v
ring_back ts us v moved has =
    (has.0, record { distinct = has.1.distinct; long = has.1.long; along = λ e. link_moved ts us v e moved ∙ has.1.along e })

corner_moved : (ts us : List Tri) (v : ℕ) → IsPermutation ts us → is_corner ts v ≡ is_corner us v
corner_moved ts us v moved = list_any-IsPermutation (has_corner v) ts us moved

-- ---- what is wrong

once_moved : (ts us : List Tri) → IsPermutation ts us → IsEachEdgeOnce ts → IsEachEdgeOnce us
once_moved ts us moved once e = omega (arith, once e, times_moved ts us e moved)

ringed_moved : (ts us : List Tri) → IsPermutation ts us → IsRinged ts → IsRinged us
ringed_moved ts us moved ringed v corner = ring_moved ts us v moved (ringed v (corner_moved ts us v moved ∙ corner))

shape_moved : (ts us : List Tri) (o : Option Shape) → IsPermutation ts us → FindsShape ts o → FindsShape us o
shape_moved ts us (Some (shape.Edge a b)) moved is =
    record { twice = omega (arith, is.twice, times_moved ts us (record { a = a; b = b }) moved); least = λ d many. is.least d (omega (arith, many, times_moved ts us d moved)) }
shape_moved ts us (Some (shape.Vertex v)) moved is = (
  once_moved ts us moved is.0,
  record {
    corner = sym (corner_moved ts us v moved) ∙ is.1.corner;
    ringless = λ has. is.1.ringless (ring_back ts us v moved has);
    least = λ w lt corner. ring_moved ts us w moved (is.1.least w lt (corner_moved ts us w moved ∙ corner));
  },
)
shape_moved ts us None moved is = (once_moved ts us moved is.0, ringed_moved ts us moved is.1)

-- ---- sets of edges

any_moved : (p : Edge → Bool) (ts us : List Tri) → IsPermutation ts us → list_any p (directed_edges ts) ≡ list_any p (directed_edges us)
any_moved p ts us moved = any_sides p ts ∙ list_any-IsPermutation (λ t. list_any p (sides t)) ts us moved ∙ sym (any_sides p us)

any_of_map : (p : Edge → Bool) (es : List Edge) → list_any p (map undirected es) ≡ list_any (λ e. p (undirected e)) es
any_of_map p [] = refl
any_of_map p (e ∷ es) = ap (λ (b : Bool). p (undirected e) || b) (any_of_map p es)

undirected_moved : (ts us : List Tri) → IsPermutation ts us → undirected_edges ts ≡ undirected_edges us
undirected_moved ts us moved =
    set.same_set edge_cmp_total edge_cmp-IsAntisymmetric (undirected_edges ts) (undirected_edges us) (λ q.
    contains_step (map undirected (directed_edges ts)) q
    ∙ any_of_map (same_edge q) (directed_edges ts)
    ∙ any_moved (λ e. same_edge q (undirected e)) ts us moved
    ∙ sym (any_of_map (same_edge q) (directed_edges us))
    ∙ sym (contains_step (map undirected (directed_edges us)) q))

abbrev is_lone : List Tri → Edge → Bool
is_lone ts e = not (has_edge ts (reversed e))

border_test : (ts : List Tri) (q : Edge) → has_path_edge (border_edges ts) q ≡ (is_lone ts q && has_edge ts q)
border_test ts q =
    has_path_edge-once (filter (is_lone ts) (directed_edges ts)) q
    ∙ any-filter_same (same_edge q) (is_lone ts) (is_lone ts q) (λ d same. ap (is_lone ts) (sym (same_edges q d same))) (directed_edges ts)

border_moved : (ts us : List Tri) → IsPermutation ts us → border_edges ts ≡ border_edges us
border_moved ts us moved =
    same_strict (border_edges ts) (border_edges us) (once_strict (filter (is_lone ts) (directed_edges ts))) (once_strict (filter (is_lone us) (directed_edges us))) (λ q.
    border_test ts q
    ∙ (λ i. not (any_moved (same_edge (reversed q)) ts us moved i) && any_moved (same_edge q) ts us moved i)
    ∙ sym (border_test us q))

-- ---- audits

pub audit_in_any_order : (count : ℕ) (ts us : List Tri) (a : Audit) → IsPermutation ts us → AuditsFaces count ts a → AuditsFaces count us a
audit_in_any_order count ts us (Bad s) moved is = shape_moved ts us (Some s) moved is
audit_in_any_order count ts us (Good vertices faces euler border) moved is =
    let same : length ts ≡ length us = sym (length_permutation ts us moved) in (
      shape_moved ts us None moved is.0,
      is.1,
      is.2 ∙ same,
      is.3 ∙ ap length (border_moved ts us moved),
      is.4 ∙ (λ i. pos (count + same i) -ℤ pos (set.len (undirected_moved ts us moved i))),
    )

audit_there : (m : Mesh) (a : Audit) → All (IsTriangleOf m.vertices) m.tris → AuditsFaces (finite.len m.vertices) m.tris a → Audits m a
audit_there m (Bad (shape.Edge a b)) on is = is
audit_there m (Bad (shape.Vertex v)) on is = is
audit_there m (Good vertices faces euler border) on is =
    (record { corners = on; edges = is.0.0; rings = is.0.1 }, is.4, record { of_vertices = is.1; of_faces = is.2; of_border = is.3 })

audit_here : (m : Mesh) (a : Audit) → Audits m a → AuditsFaces (finite.len m.vertices) m.tris a
audit_here m (Bad (shape.Edge a b)) is = is
audit_here m (Bad (shape.Vertex v)) is = is
audit_here m (Good vertices faces euler border) is = ((is.0.edges, is.0.rings), is.2.of_vertices, is.2.of_faces, is.2.of_border, is.1)

pub audit_of_mesh : (m : Mesh) (ts : List Tri) (a : Audit) → All (IsTriangleOf m.vertices) m.tris → IsPermutation ts m.tris → (AuditsFaces (finite.len m.vertices) ts a ↔ Audits m a)
audit_of_mesh m ts a on moved = (
  λ is. audit_there m a on (audit_in_any_order (finite.len m.vertices) ts m.tris a moved is),
  λ is. audit_in_any_order (finite.len m.vertices) m.tris ts a (IsPermutation-sym ts m.tris moved) (audit_here m a is),
)
