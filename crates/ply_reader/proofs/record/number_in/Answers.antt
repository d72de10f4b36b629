use Rattle.std.proofs.Common.{◌∙◌, ap, sym, w64, rules}
use Rattle.std.proofs.lemmas.Int.{to_z-of_z}
use Rattle.std.specs.Option.{option_map}
use Rattle.ply_header.specs.Layout.{size_of}
use Rattle.ply_reader.specs.Body as grammar
use Rattle.ply_reader.specs.Feed.{rest_left, found}
use Rattle.ply_reader.proofs.StepLaws.{taken_then, number_of-front}
use Rattle.ply_reader.proofs.record.number_in.Goals as goal

pub returns-clause-finds : goal.returns-clause-finds
returns-clause-finds g c =
    let size = c.size_of-size.ensures in
    let there = rw size at c.in_ok-need.ensures.there in
    let value = to_z-of_z w64 c.number_of-value.result (search rules) ∙ c.number_of-value.ensures ∙ ap (grammar.number_of c.args.order c.args.number) c.bytes.ensures in
    ap (option_map (grammar.number_in c.args.order c.args.number)) (sym c.in_ok-need.ensures.rest)
    ∙ sym (taken_then g.S.Source.left c.need.new.self (size_of c.args.number) (grammar.number_of c.args.order c.args.number) found (rest_left g.S.Source.left c.skip.new.self)
    (λ rest. number_of-front c.args.order c.args.number c.need.new.self.ahead rest there) (rw size at c.skip.ensures.rest) (rw size at c.skip.ensures.limit c.in_ok-need.ensures.open))
    ∙ ap (λ v. option_map (found v) (rest_left g.S.Source.left c.skip.new.self)) (sym value)
