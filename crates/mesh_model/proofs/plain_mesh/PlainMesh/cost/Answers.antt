use Rattle.std.proofs.Common.{◌≡◌, ◌∙◌, ◌++◌, length, ap, sym, arith, rules}
use Rattle.mesh_data.specs.Edits.{cost}
use Rattle.mesh_data.specs.Planes.{Sums, added, sums_of, squares}
use Rattle.mesh_data.specs.Quads.{sums_in}
use Rattle.plane_counts.specs.Taken.{planes_in}
use Rattle.plane_counts.specs.PlaneCounts.{large_of}
use Rattle.plane_counts.proofs.Shares.{few_at, bounded_at, few_at_two}
use Rattle.oemm_plane.proofs.Sums.{planes-sums_of, sums_of-append}
use Rattle.oemm_plane.proofs.SumsRead.{read_as}
use Rattle.mesh_model.proofs.plain_mesh.PlainMesh.cost.Goals as goal

pub quad_of-quad-requires-clause-few : goal.quad_of-quad-requires-clause-few
quad_of-quad-requires-clause-few c =
    let few = few_at c.self.inside.vertices c.args.u c.self.invariant.3 in
    omega (arith, ap length c.planes_or_none.ensures, few)

pub quad_of-quad-requires-clause-bounded : goal.quad_of-quad-requires-clause-bounded
quad_of-quad-requires-clause-bounded c =
    ap large_of c.planes_or_none.ensures ∙ bounded_at c.self.inside.vertices c.args.u c.self.invariant.3

pub quad_of-requires-clause-few : goal.quad_of-requires-clause-few
quad_of-requires-clause-few c =
    let few = few_at c.self.inside.vertices c.args.v c.self.invariant.3 in
    omega (arith, ap length c.planes_or_none-2.ensures, few)

pub quad_of-requires-clause-bounded : goal.quad_of-requires-clause-bounded
quad_of-requires-clause-bounded c =
    ap large_of c.planes_or_none-2.ensures ∙ bounded_at c.self.inside.vertices c.args.v c.self.invariant.3

pub merge-requires : goal.merge-requires
merge-requires c =
    let m = c.self.inside.vertices in
    let u : c.quad_of-quad.result.planes ≡ length (planes_in m c.args.u) = ap (λ (s : Sums). s.planes) c.quad_of-quad.ensures ∙ planes-sums_of c.planes_or_none.result.now ∙ ap length c.planes_or_none.ensures in
    let v : c.quad_of.result.planes ≡ length (planes_in m c.args.v) = ap (λ (s : Sums). s.planes) c.quad_of.ensures ∙ planes-sums_of c.planes_or_none-2.result.now ∙ ap length c.planes_or_none-2.ensures in
    omega (arith, u, v, few_at_two m c.args.u c.args.v c.requires c.self.invariant.3)

pub returns : goal.returns
returns c =
    let m = c.self.inside.vertices in
    let ls = planes_in m c.args.u ++ planes_in m c.args.v in
    let sums : sums_in c.merge.new.self ≡ sums_of ls =
    c.merge.ensures
    ∙ (λ i. added ((c.quad_of-quad.ensures ∙ ap sums_of c.planes_or_none.ensures) i) ((c.quad_of.ensures ∙ ap sums_of c.planes_or_none-2.ensures) i))
    ∙ sym (sums_of-append (planes_in m c.args.u) (planes_in m c.args.v)) in
    read_as c.value_at.result (cost c.args.self.now c.args.u c.args.v) (search rules) (c.value_at.ensures.squared ls sums ∙ ap (squares ls) c.point_or_origin.ensures ∙ ap (λ m. cost m c.args.u c.args.v) c.self.view_is)
