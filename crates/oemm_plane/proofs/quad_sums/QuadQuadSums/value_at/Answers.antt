use Rattle.std.proofs.Common.{rules}
use Rattle.mesh_data.specs.Quads.{sums_in}
use Rattle.oemm_plane.proofs.Sums.{squares-held, not_negative-held}
use Rattle.oemm_plane.proofs.SumsRead.{read_as}
use Rattle.oemm_plane.proofs.quad_sums.QuadQuadSums.value_at.Goals as goal

pub returns-clause-squared : goal.returns-clause-squared
returns-clause-squared c ls held =
    squares-held (sums_in c.args.self.now) ls c.args.p.now _ (read_as c.quad_value.result _ (search rules) c.quad_value.ensures.value) held

pub returns-clause-not_negative : goal.returns-clause-not_negative
returns-clause-not_negative c ls held =
    not_negative-held (sums_in c.args.self.now) ls c.args.p.now _ (read_as c.quad_value.result _ (search rules) c.quad_value.ensures.value) held
