use Rattle.std.proofs.Common.{refl}
use Rattle.std.specs.List.{slice_range}
use Rattle.oemm_lines.proofs.AheadLaws.{skipped}
use Rattle.ply_reader.proofs.FeedLaws.{skipped_rest, skipped_within}
use Rattle.ply_reader.proofs.feed.Feed.skip.Goals as goal

pub returns-clause-ahead : goal.returns-clause-ahead
returns-clause-ahead g c =
    rw (← c.self.view_is) (rw (skipped c.self.inside.buffer _ _ c.args.count c.self.invariant.0 (rw (← c.self.view_is) at c.requires)) refl)

pub returns-clause-rest : goal.returns-clause-rest
returns-clause-rest g c =
    let within = rw (← c.self.view_is) at c.requires in
    rw (← c.self.view_is)
    (rw (skipped c.self.inside.buffer _ _ c.args.count c.self.invariant.0 within)
    (skipped_rest g.S.Source.left (record { stream = c.self.inside.lines; ahead = slice_range c.self.inside.buffer c.self.inside.from c.self.inside.to }) c.args.count within c.self.invariant.2))

pub returns-clause-limit : goal.returns-clause-limit
returns-clause-limit g c = λ open_then.
    rw (← c.self.view_is)
    (skipped_within g.S.Source.left (record { stream = c.self.inside.lines; ahead = slice_range c.self.inside.buffer c.self.inside.from c.self.inside.to }) c.args.count
    (rw (← c.self.view_is) at c.requires) c.self.invariant.2 (rw (← c.self.view_is) at open_then))
