use Rattle.half_edge.proofs.Apexes.{apex_told, apex_missing}
use Rattle.half_edge.proofs.edges.apex_from.Goals as goal

pub returns-in-Some : goal.returns-in-Some
returns-in-Some c = apex_told c.args.halves.now.slots c.in-Some.k c.args.a c.args.b c.third_name.result c.requires.sound
    c.in-Some.ensures.found c.third_name.ensures

pub returns-in-None : goal.returns-in-None
returns-in-None c = apex_missing c.args.halves.now.slots c.args.a c.args.b c.requires.sound c.in-None.ensures.none
