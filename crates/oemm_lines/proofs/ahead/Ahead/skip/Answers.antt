use Rattle.oemm_lines.proofs.AheadLaws.{skipped}
use Rattle.oemm_lines.proofs.ahead.Ahead.skip.Goals as goal

pub returns : goal.returns
returns c =
    rw (← c.self.view_is) (skipped _ _ _ _ c.self.invariant.0 (rw (← c.self.view_is) at c.requires))
