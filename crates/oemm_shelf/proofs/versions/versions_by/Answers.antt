use Rattle.std.proofs.Common.{◌+◌, ℕ, cond, sym, ap, ◌∙◌, arith}
use Rattle.oemm_octree.specs.Leaves.{is_one_of}
use Rattle.oemm_shelf.proofs.Gathered.{version_more}
use Rattle.oemm_shelf.proofs.versions.versions_by.Goals as goal

pub loop-number-preserved : goal.loop-number-preserved
loop-number-preserved c =
    let e = c.index-entries-number.result in
    record {
      each = c.raise.ensures.each ∙ c.loop-number.invariant.each;
      is = λ leaf lt.
          c.raise.ensures.is leaf (omega (arith, lt, c.loop-number.invariant.each))
          ∙ ap (λ (k : ℕ). cond (is_one_of e.core leaf) (c.loop-number.number + 1) k) (c.loop-number.invariant.is leaf lt)
          ∙ sym (version_more c.args.entries.now c.loop-number.number e leaf c.index-entries-number.is c.loop-number-test.true);
    }
