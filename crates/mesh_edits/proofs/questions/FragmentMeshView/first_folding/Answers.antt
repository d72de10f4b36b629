use Rattle.std.proofs.Common.{◌∙◌, ap}
use Rattle.std.specs.List.{find}
use Rattle.mesh_data.specs.Rings.{path_edges}
use Rattle.mesh_data.specs.Triangles.{tri_cmp}
use Rattle.oemm_lists.specs.Ascending.{in_order}
use Rattle.triangle_lists.proofs.Orders.{tri_cmp_total, tri_cmp-IsAntisymmetric}
use Rattle.triangle_lists.proofs.Sorting.{in_order_from_sort}
use Rattle.mesh_edits.specs.Rounds.{folds_by, round}
use Rattle.mesh_edits.proofs.Parts.{first_in, folding_now}
use Rattle.mesh_edits.proofs.questions.FragmentMeshView.first_folding.Goals as goal

pub ring-requires : goal.ring-requires
ring-requires c = first_in c.self.inside c.self.invariant.parts c.args.self.now c.self.view_is c.args.u c.args.v c.requires

pub returns : goal.returns
returns c =
    let u = c.args.u in
    let ring = c.in_ok-ring.ring in
    c.first_folding.ensures
    ∙ ap (find (folds_by c.self.inside.vertices u c.args.v)) (c.as_slice-2.ensures.value
    ∙ in_order_from_sort tri_cmp_total tri_cmp-IsAntisymmetric c.in_ok-tris.tris.items c.sort_unstable.new.self.items c.sort_unstable.ensures.permutation c.sort_unstable.ensures.sorted
    ∙ ap (in_order tri_cmp) (c.in_ok-tris.ensures ∙ ap (λ ns. round u (path_edges ns)) (c.as_slice.ensures.value ∙ c.in_ok-path.ensures)))
    ∙ folding_now c.self.inside c.self.invariant.parts c.args.self.now c.self.view_is u c.args.v (record { names = ring.names; closed = ring.closed }) c.in_ok-ring.ensures.ring
