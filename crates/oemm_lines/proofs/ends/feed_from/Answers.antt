use Rattle.oemm_lines.proofs.EndLaws.{feed_none, feed_some}
use Rattle.oemm_lines.proofs.ends.feed_from.Goals as goal

pub returns-in-Some : goal.returns-in-Some
returns-in-Some c =
    feed_some _ _ _ _ c.requires.order c.requires.within c.requires.none c.in-Some.ensures

pub returns-in-None : goal.returns-in-None
returns-in-None c =
    feed_none _ _ _ c.requires.order c.requires.within c.requires.none c.in-None.ensures
