use Rattle.std.proofs.Common.{◌≡◌, ◌+◌, ◌∙◌, ap, sym, drop, arith}
use Rattle.ply_reader.specs.Feed.{fixed_from}
use Rattle.ply_reader.proofs.BodyLaws.{size_below, fixed_next, fixed_done, fixed_not, fixed_stops}
use Rattle.ply_reader.proofs.body.fixed_size.Goals as goal

pub returns-in_default : goal.returns-in_default
returns-in_default c =
    sym (fixed_stops c.args.properties.now c.loop-property.property-index c.loop-property.size _ c.loop-property-test.true (fixed_not _ c.in_default.not-Single))
    ∙ c.loop-property.invariant.same

pub loop-property-preserved : goal.loop-property-preserved
loop-property-preserved c = record {
  same =
      ap (λ n. fixed_from (c.loop-property.size + n) (drop (c.loop-property.property-index + 1) c.args.properties.now)) c.size_of.ensures
      ∙ fixed_next c.args.properties.now c.loop-property.property-index c.loop-property.size _ c.in-Single.number c.loop-property-test.true c.in-Single.is
      ∙ c.loop-property.invariant.same;
  few = omega (arith, c.size_of.ensures, size_below c.in-Single.number);
}

pub returns : goal.returns
returns c = sym (sym c.loop-property.invariant.same ∙ fixed_done c.args.properties.now c.loop-property.property-index c.loop-property.size (omega arith))
