use Rattle.std.specs.List.{slice_range}
use Rattle.ply_reader.proofs.FeedLaws.{beyond_limit}
use Rattle.ply_reader.proofs.feed.Feed.expect_end.Goals as goal

pub returns-in-Err-clause-beyond : goal.returns-in-Err-clause-beyond
returns-in-Err-clause-beyond g c =
    let open_then = rw (← c.self.view_is) at c.requires.open in
    let full = rw (← c.self.view_is) at c.requires.full in
    rw (c.fault_of_lines.ensures, ← c.self.view_is)
    (beyond_limit g.S.Source.left c.self.inside.lines c.next.new.self (slice_range c.self.inside.buffer c.self.inside.from c.self.inside.to) c.in-Err.fault
    open_then.0 c.self.invariant.2 full c.self.invariant.3 c.in-Err.ensures.gives c.in-Err.ensures.says)
