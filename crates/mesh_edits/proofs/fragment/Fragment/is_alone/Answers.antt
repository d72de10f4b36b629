use Rattle.std.proofs.Common.{◌≡◌, true, false, rules}
use Rattle.mesh_sheets.specs.Assembled.{has_name}
use Rattle.mesh_edits.proofs.Parts.{alone_is, not_there}
use Rattle.mesh_edits.proofs.fragment.Fragment.is_alone.Goals as goal

pub returns-then-not-has : goal.returns-then-not-has
returns-then-not-has c =
    let out : has_name c.self.inside.vertices c.args.v ≡ false = let h = c.has.ensures in search rules in
    not_there c.self.inside c.self.invariant.parts c.args.self.now c.self.view_is c.args.v out

pub returns : goal.returns
returns c =
    let on : has_name c.self.inside.vertices c.args.v ≡ true = let h = c.has.ensures in search rules in
    alone_is c.self.inside c.self.invariant.parts c.args.self.now c.self.view_is c.args.v c.has-2.result on c.has-2.ensures.has c.has-2.ensures.corner
