use Rattle.std.proofs.Common.{◌++◌, map, take, ap, ◌∙◌, subst}
use Rattle.sheet_data.specs.Summed.{SummedVertex}
use Rattle.leaf_audit.specs.Tallies.{AreTimes}
use Rattle.leaf_audit.proofs.Tallied.{names_step}
use Rattle.leaf_audit.proofs.names.count_names.Goals as goal

pub loop-x-preserved : goal.loop-x-preserved
loop-x-preserved c =
    let vs = c.args.vertices.now in
    let i = c.loop-x.x-index in
    record {
      len = c.count_name.ensures.len ∙ c.loop-x.invariant.len;
      counted = λ names times.
          subst (AreTimes c.count_name.new.times)
          (names_step names vs i c.x-item.result c.x.inside.name (ap (λ (x : SummedVertex). x.name) c.x.view_is) c.x-item.is c.loop-x-test.true)
          (c.count_name.ensures.counted (names ++ map (λ (x : SummedVertex). x.name) (take i vs)) (c.loop-x.invariant.counted names times));
    }
