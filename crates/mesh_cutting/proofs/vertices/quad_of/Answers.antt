use Rattle.std.proofs.Common.{◌≡◌, ◌∙◌, ℕ, ◌+◌, List, [], ◌∷◌, ◌++◌, length, map, take, get_or, take-suc, length-take-le, add-one, ap, sym, arith}
use Rattle.std.proofs.lemmas.List.{length-map, map-append}
use Rattle.mesh_data.specs.declared.planes.Plane.{Plane}
use Rattle.mesh_data.specs.declared.geometry.Tri.{Tri}
use Rattle.mesh_data.specs.Mesh.{plane_at}
use Rattle.mesh_data.specs.Planes.{Sums, added, products, sums_of}
use Rattle.oemm_plane.proofs.Sums.{planes-sums_of, sums_of-push}
use Rattle.mesh_cutting.proofs.vertices.quad_of.Goals as goal

pub add_plane-requires-clause-room : goal.add_plane-requires-clause-room
add_plane-requires-clause-room c =
    let xs = c.args.tris.now in
    let i = c.loop-t.t-index in
    let f : ℕ × Tri → Plane = λ x. plane_at c.args.points.now x.1 in
    let counted : c.loop-t.quad.planes ≡ length (map f (take i xs)) =
    ap (λ (s : Sums). s.planes) c.loop-t.invariant.told ∙ planes-sums_of (map f (take i xs)) in
    let lt = c.loop-t-test.true in
    omega (arith, counted, length-map (take i xs) f, length-take-le i xs, c.requires, lt)

pub loop-t-preserved : goal.loop-t-preserved
loop-t-preserved c =
    let xs = c.args.tris.now in
    let i = c.loop-t.t-index in
    let f : ℕ × Tri → Plane = λ x. plane_at c.args.points.now x.1 in
    let x = c.loop-t-item.result in
    let one_more : map f (take (i + 1) xs) ≡ map f (take i xs) ++ f x ∷ [] =
    ap (λ n. map f (take n xs)) (add-one i)
    ∙ ap (map f) (take-suc xs i x (omega (arith, c.loop-t-test.true)))
    ∙ map-append f (take i xs) (get_or xs i x ∷ [])
    ∙ ap (λ y. map f (take i xs) ++ f y ∷ []) (sym c.loop-t-item.is) in
    record {
      told = c.add_plane.ensures
          ∙ (λ j. added (products (c.plane_at.ensures.plane j)) (c.loop-t.invariant.told j))
          ∙ sym (sums_of-push (map f (take i xs)) (f x))
          ∙ ap sums_of (sym one_more);
    }
