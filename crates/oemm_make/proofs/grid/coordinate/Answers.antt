use Rattle.std.proofs.Common.{arith}
use Rattle.std.proofs.lemmas.Int.{ints}
use Rattle.oemm_make.proofs.Coordinates.{apart, coordinate_is}
use Rattle.oemm_make.proofs.grid.coordinate.Goals as goal

pub overflow_cast-result-3 : goal.overflow_cast-result-3
overflow_cast-result-3 c =
    let near = apart c.args.side c.args.place c.requires.least c.requires.inside in
    omega (arith, ints)

pub returns : goal.returns
returns c =
    let near = apart c.args.side c.args.place c.requires.least c.requires.inside in
    let is = coordinate_is c.args.side c.args.place in
    omega (arith, ints)
