use Rattle.std.proofs.Common.{◌∷◌, [], sym, arith, subst}
use Rattle.std.proofs.lemmas.List.{length-append}
use Rattle.oemm_octree.specs.Counters.{IsTallyOf}
use Rattle.oemm_octree.proofs.Counting.{counters_more}
use Rattle.oemm_octree.proofs.counts.Counts.add.Goals as goal

pub returns-clause-points : goal.returns-clause-points
returns-clause-points c = λ points of.
    let was : IsTallyOf (record { added = c.self.inside.added; counters = c.self.inside.counters.items })
    points = subst (λ t. IsTallyOf t points) (sym c.self.view_is) of in (
      (let one_more = length-append points (c.args.p ∷ []) in let known = was.0 in omega arith),
      counters_more c.self.inside.counters.items points c.args.p c.rank_at-place.result c.index_mut.result.now
          was.1 c.on_grid.ensures c.self.invariant.whole c.rank_at-place.ensures.number
          c.rank_at-place.ensures.small c.index_mut.ensures.value,
    )
