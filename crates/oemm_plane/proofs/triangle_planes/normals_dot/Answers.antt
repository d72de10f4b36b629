use Rattle.std.proofs.Common.{arith, rules, w64, FitsSigned}
use Rattle.std.proofs.lemmas.Int.{ints, to_z-of_z}
use Rattle.oemm_plane.proofs.PlanesCasts.{sum_of_wides}
use Rattle.oemm_plane.proofs.triangle_planes.normals_dot.Goals as goal

pub overflow_add-result : goal.overflow_add-result
overflow_add-result c = omega (arith, ints)

pub overflow_add-result-2 : goal.overflow_add-result-2
overflow_add-result-2 c = omega (arith, ints)

pub returns : goal.returns
returns c =
    let whole = sum_of_wides c.product.result c.product-2.result c.product-3.result (omega arith) (omega arith) (omega arith) in
    let ox = let f : FitsSigned w64 c.args.old.now.nx = search rules in to_z-of_z w64 c.args.old.now.nx f in
    let oy = let f : FitsSigned w64 c.args.old.now.ny = search rules in to_z-of_z w64 c.args.old.now.ny f in
    let oz = let f : FitsSigned w64 c.args.old.now.nz = search rules in to_z-of_z w64 c.args.old.now.nz f in
    let nx = let f : FitsSigned w64 c.args.new.now.nx = search rules in to_z-of_z w64 c.args.new.now.nx f in
    let ny = let f : FitsSigned w64 c.args.new.now.ny = search rules in to_z-of_z w64 c.args.new.now.ny f in
    let nz = let f : FitsSigned w64 c.args.new.now.nz = search rules in to_z-of_z w64 c.args.new.now.nz f in
    cc
