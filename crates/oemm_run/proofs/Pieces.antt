-- Texts that are written piece by piece.
use Rattle.std.proofs.Common.{◌≡◌, ℕ, ℤ, List, ◌++◌, length, map, All, Result, Ok, Err, IfOk, OnOk, ap, sym, subst, ◌∙◌, append_assoc}
use Rattle.std.proofs.lemmas.List.{length-map}
use Rattle.std.proofs.lemmas.Result.{IfOk-weaker}
use Rattle.std.specs.FinMap as finite
use Rattle.mesh_data.specs.declared.geometry.Tri.{Tri}
use Rattle.mesh_data.specs.Manifold.{IsTriangleOf}
use Rattle.mesh_data.specs.Mesh.{Mesh, names_of, points_of, euler, border}
use Rattle.mesh_data.specs.Triangles.{IsBelow}
use Rattle.mesh_out.specs.MeshBytes.{renumbered, faces_of}
use Rattle.mesh_out.proofs.Places.{faces_within}
use Rattle.oemm_run.specs.Report.{summary, summary_line}

-- a text of two pieces is written by its pieces
pub written_in_two : {T E : Type 0} (r : Result T E) (old mid new front back : List ℕ) → mid ≡ old ++ front → OnOk r (new ≡ mid ++ back) → OnOk r (new ≡ old ++ (front ++ back))
written_in_two (Ok x) old mid new front back p q = q ∙ ap (λ text. text ++ back) p ∙ append_assoc old front back
written_in_two (Err e) old mid new front back p q = tt

-- a text is another one that is the same
pub written_as : {T E : Type 0} (r : Result T E) (old new text same : List ℕ) → text ≡ same → OnOk r (new ≡ old ++ text) → OnOk r (new ≡ old ++ same)
written_as (Ok x) old new text same e q = q ∙ ap (λ t. old ++ t) e
written_as (Err e) old new text same p q = tt

-- there are as many points as vertices
pub points_count : (m : Mesh) → length (points_of m) ≡ finite.len m.vertices
points_count m =
    length-map (finite.values m.vertices) (λ v. v.point) ∙ length-map (finite.entries m.vertices) (λ e. e.1) ∙ sym (finite.len-entries m.vertices)

-- the line of the counts that were taken is the mesh's summary
pub summary_of : (m : Mesh) (points tris border_count : ℕ) (e : ℤ) → points ≡ length (points_of m) → tris ≡ length m.tris → e ≡ euler m → border_count ≡ length (border m) → summary_line points tris e border_count ≡ summary m
summary_of m points tris border_count e p t h b =
    ap (λ n. summary_line n tris e border_count) (p ∙ points_count m)
    ∙ ap (λ n. summary_line (finite.len m.vertices) n e border_count) t
    ∙ ap (λ x. summary_line (finite.len m.vertices) (length m.tris) x border_count) h
    ∙ ap (λ n. summary_line (finite.len m.vertices) (length m.tris) (euler m) n) b

-- the faces of a mesh's file have places of its points
pub faces_below : {E : Type 0} (m : Mesh) (names : List ℕ) (tris shown : List Tri) (r : Result (List Tri) E) → names ≡ names_of m → tris ≡ m.tris → shown ≡ tris → All (IsTriangleOf m.vertices) tris → IfOk r (λ faces. faces ≡ map (renumbered names) shown) → IfOk r (All (IsBelow (length (points_of m))))
faces_below m names tris shown r ns ts is on put =
    let same : map (renumbered names) shown ≡ faces_of m = cc in
    IfOk-weaker r (λ faces. faces ≡ map (renumbered names) shown) (All (IsBelow (length (points_of m))))
    (λ faces put. subst (All (IsBelow (length (points_of m)))) (sym (put ∙ same)) (faces_within m (subst (All (IsTriangleOf m.vertices)) ts on))) put
