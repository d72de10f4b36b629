use Rattle.std.proofs.Common.{rules, refl, sym, subst}
use Rattle.mesh_data.specs.Planes.{AreBounded, products}
use Rattle.oemm_plane.proofs.SumsSizes.{read_pair, AreBounded-products}
use Rattle.oemm_plane.proofs.Sums.{sums_same}
use Rattle.oemm_plane.proofs.quad_sums.quad_of_plane.Goals as goal

pub invariant_of-result : goal.invariant_of-result
invariant_of-result c =
    let l = c.args.plane.now in
    record {
      bounded = subst AreBounded (sym (sums_same _ (products l) refl
          (read_pair l.nx l.nx c.product.result (search rules) (search rules) (search rules) c.product.ensures)
          (read_pair l.nx l.ny c.product-2.result (search rules) (search rules) (search rules) c.product-2.ensures)
          (read_pair l.nx l.nz c.product-3.result (search rules) (search rules) (search rules) c.product-3.ensures)
          (read_pair l.nx l.d c.product-4.result (search rules) (search rules) (search rules) c.product-4.ensures)
          (read_pair l.ny l.ny c.product-5.result (search rules) (search rules) (search rules) c.product-5.ensures)
          (read_pair l.ny l.nz c.product-6.result (search rules) (search rules) (search rules) c.product-6.ensures)
          (read_pair l.ny l.d c.product-7.result (search rules) (search rules) (search rules) c.product-7.ensures)
          (read_pair l.nz l.nz c.product-8.result (search rules) (search rules) (search rules) c.product-8.ensures)
          (read_pair l.nz l.d c.product-9.result (search rules) (search rules) (search rules) c.product-9.ensures)
          (read_pair l.d l.d c.product-10.result (search rules) (search rules) (search rules) c.product-10.ensures))) (AreBounded-products l c.requires.nx c.requires.ny c.requires.nz c.requires.d);
    }

pub returns : goal.returns
returns c =
    let l = c.args.plane.now in
    sums_same _ (products l) refl
    (read_pair l.nx l.nx c.product.result (search rules) (search rules) (search rules) c.product.ensures)
    (read_pair l.nx l.ny c.product-2.result (search rules) (search rules) (search rules) c.product-2.ensures)
    (read_pair l.nx l.nz c.product-3.result (search rules) (search rules) (search rules) c.product-3.ensures)
    (read_pair l.nx l.d c.product-4.result (search rules) (search rules) (search rules) c.product-4.ensures)
    (read_pair l.ny l.ny c.product-5.result (search rules) (search rules) (search rules) c.product-5.ensures)
    (read_pair l.ny l.nz c.product-6.result (search rules) (search rules) (search rules) c.product-6.ensures)
    (read_pair l.ny l.d c.product-7.result (search rules) (search rules) (search rules) c.product-7.ensures)
    (read_pair l.nz l.nz c.product-8.result (search rules) (search rules) (search rules) c.product-8.ensures)
    (read_pair l.nz l.d c.product-9.result (search rules) (search rules) (search rules) c.product-9.ensures)
    (read_pair l.d l.d c.product-10.result (search rules) (search rules) (search rules) c.product-10.ensures)
