use Rattle.std.proofs.Common.{rules, tests}
use Rattle.std.proofs.lemmas.Iterator.{items_from_collect, YieldsList-from_map}
use Rattle.std.proofs.lemmas.Iterator.Consumers.{YieldsList-at, YieldsList-from_rest}
use Rattle.std.specs.BTreeMap.{values}
use Rattle.mesh_model.proofs.vertex_map.points_in.Goals as goal

pub returns-clause-points : goal.returns-clause-points
returns-clause-points c =
    items_from_collect _ c.collect.ensures.ran (YieldsList-from_map _ (λ x. x.point) (YieldsList-at c.map.ensures.source (YieldsList-from_rest (values c.args.vertices.now) c.values.ensures.rest)) c.map.ensures.closure (λ x r q k. search (rules, tests)))
