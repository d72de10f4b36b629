use Rattle.std.proofs.Common.{◌∙◌, ap, ◌*◌}
use Rattle.std.specs.Option.{option_map}
use Rattle.ply_header.specs.Layout.{size_of}
use Rattle.ply_reader.specs.Body as grammar
use Rattle.ply_reader.specs.Feed.{rest_left}
use Rattle.ply_reader.proofs.StepLaws.{taken_then, triangle_at-front, pure, pure_finds, finds_same}
use Rattle.ply_reader.proofs.record.indices_in.Goals as goal

pub returns-clause-finds : goal.returns-clause-finds
unfolding grammar.indices_in
returns-clause-finds g c =
    let rec = c.args.here.now in
    let item = c.args.item in
    let ahead = c.need.new.self.ahead in
    let size = c.size_of-size.ensures in
    let there = rw size at c.in_ok-need.ensures.there in
    let value = c.triangle_at-triangle.ensures.exact ∙ ap (grammar.triangle_at rec item) c.bytes.ensures in
    let same = taken_then g.S.Source.left c.need.new.self (3 * size_of item) (grammar.triangle_at rec item) pure (rest_left g.S.Source.left c.skip.new.self)
    (λ rest. triangle_at-front rec item ahead rest there) (rw size at c.skip.ensures.rest) (rw size at c.skip.ensures.limit c.in_ok-need.ensures.open)
    ∙ ap (option_map (grammar.indices_in rec item)) c.in_ok-need.ensures.rest in
    finds_same (grammar.indices_in rec item) (pure (grammar.triangle_at rec item ahead)) (rest_left g.S.Source.left c.args.feed.now) (rest_left g.S.Source.left c.skip.new.self) _ _ same
    (pure_finds _ _ _ value c.triangle_at-triangle.ensures.fault)
