use Rattle.std.proofs.Common.{arith, refl}
use Rattle.std.specs.List.{slice_range}
use Rattle.oemm_lines.proofs.AheadLaws.{part_is, grown_part}
use Rattle.ply_reader.proofs.FeedLaws.{refilled}
use Rattle.ply_reader.proofs.feed.Feed.take_block.Goals as goal

pub returns-in-Ok-clause-same : goal.returns-in-Ok-clause-same
returns-in-Ok-clause-same g c =
    let now = slice_range c.self.inside.buffer c.self.inside.from c.self.inside.to in
    let same = part_is now c.self.inside.buffer c.moved_to_front-to.new.buffer c.raw_into-taken.new.buffer c.self.inside.from c.self.inside.to 0 c.moved_to_front-to.result refl c.moved_to_front-to.ensures.kept (omega arith) c.raw_into-taken.ensures.front in
    rw (← c.self.view_is)
    (refilled g.S.Source.left c.self.inside.lines c.raw_into-taken.new.lines now _ _ c.in-Ok.count
    (grown_part now c.raw_into-taken.new.buffer 0 c.moved_to_front-to.result c.in-Ok.count (omega arith) same)
    c.in-Ok.ensures.place c.in-Ok.ensures.part c.in-Ok.ensures.taken)
