use Rattle.std.proofs.Common.{◌∙◌, ap}
use Rattle.oemm_lists.specs.Ascending.{in_order}
use Rattle.mesh_data.specs.Triangles.{tri_cmp}
use Rattle.triangle_lists.proofs.Orders.{tri_cmp_total, tri_cmp-IsAntisymmetric}
use Rattle.triangle_lists.proofs.Sorting.{in_order_from_sort}
use Rattle.write_back.proofs.writing.faces_of.Goals as goal

pub returns : goal.returns
returns c =
    c.from_vec.ensures
    ∙ in_order_from_sort tri_cmp_total tri_cmp-IsAntisymmetric _ _ c.sort_unstable.ensures.permutation
    c.sort_unstable.ensures.sorted
    ∙ ap (in_order tri_cmp) c.in_ok-faces.ensures
