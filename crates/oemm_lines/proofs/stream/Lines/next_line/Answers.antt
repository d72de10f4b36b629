use Rattle.std.proofs.Common.{sym, refl, arith}
use Rattle.oemm_lines.proofs.StreamLaws.{gives_feed, gives_last, shows_feed_past, shows_long, shows_past}
use Rattle.oemm_lines.proofs.stream.Lines.next_line.Goals as goal

pub returns-in_ok-line-in-Feed-clause-gives : goal.returns-in_ok-line-in-Feed-clause-gives
returns-in_ok-line-in-Feed-clause-gives g c =
    let found = rw c.in-Feed.is at c.in_ok-length.ensures.found in
    rw (← c.self.view_is)
    (gives_feed g.S.Source.left _ c.pass.new.self c.find_end.new.source c.find_end.new.ahead _ _ c.in-Feed.length _
    (rw (← c.self.view_is) at c.requires) c.in_ok-length.ensures.left (omega (arith, found.0)) found.1 found.2 found.3 (omega arith)
    c.bytes-ahead.ensures c.without_carriage_return.ensures.text c.in_ok-line-in-Feed.ensures c.pass.ensures)

pub returns-in_ok-line-in-Last-clause-gives : goal.returns-in_ok-line-in-Last-clause-gives
returns-in_ok-line-in-Last-clause-gives g c =
    let found = rw c.in-Last.is at c.in_ok-length.ensures.found in
    rw (← c.self.view_is)
    (gives_last g.S.Source.left _ c.pass-in-Last.new.self c.find_end.new.source c.find_end.new.ahead _ c.in-Last.length _
    (rw (← c.self.view_is) at c.requires) c.in_ok-length.ensures.left (omega (arith, found.0)) found.1 found.2 found.3 (omega arith) (omega (arith, found.0))
    c.bytes-ahead-in-Last.ensures c.in_ok-line-in-Last.ensures c.pass-in-Last.ensures)

pub returns-then-length-room-clause-gives : goal.returns-then-length-room-clause-gives
returns-then-length-room-clause-gives g c =
    let found = rw c.in-Feed.is at c.in_ok-length.ensures.found in (
      rw (← c.self.view_is) (record { left = sym c.in_ok-length.ensures.left; place = refl; count = refl }),
      λ calm rest. shows_feed_past _ _ _ _ c.find_end.new.ahead rest c.in-Feed.length (omega (arith, found.0)) found.1 found.2 found.3 (omega arith),
    )

pub returns-then-room-gt-MOST_LINE_BYTES-clause-gives : goal.returns-then-room-gt-MOST_LINE_BYTES-clause-gives
returns-then-room-gt-MOST_LINE_BYTES-clause-gives g c =
    let found = rw c.in-Long.is at c.in_ok-length.ensures.found in (
      rw (← c.self.view_is) (record { left = sym c.in_ok-length.ensures.left; place = refl; count = refl }),
      λ calm rest. shows_long _ _ _ _ c.find_end.new.ahead rest c.min-limit.result found.0 found.1 (omega arith) (omega arith),
    )

pub returns-else-room-gt-MOST_LINE_BYTES-clause-gives : goal.returns-else-room-gt-MOST_LINE_BYTES-clause-gives
returns-else-room-gt-MOST_LINE_BYTES-clause-gives g c =
    let found = rw c.in-Long.is at c.in_ok-length.ensures.found in (
      rw (← c.self.view_is) (record { left = sym c.in_ok-length.ensures.left; place = refl; count = refl }),
      λ calm rest. shows_past _ _ _ _ c.find_end.new.ahead rest c.min-limit.result found.0 found.1 c.self.invariant.0 (omega arith) (omega arith),
    )
