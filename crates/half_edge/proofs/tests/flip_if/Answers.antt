use Rattle.std.proofs.Common.{◌≡◌, Option, Some, false, eqb, is_some, rules}
use Rattle.half_edge.proofs.Asked.{may_turn_read}
use Rattle.half_edge.proofs.tests.flip_if.Goals as goal

pub flip-requires-clause-may : goal.flip-requires-clause-may
flip-requires-clause-may c =
    let ahead = c.apexes-ahead.result in
    let across = c.apexes-from_c.result in
    let differ : eqb c.args.a c.args.b ≡ false = search rules in
    let apart : eqb c.in_ok-c.c c.in_ok-d.d ≡ false = search rules in
    let is_c : ahead.0 ≡ Some c.in_ok-c.c = search rules in
    let is_d : ahead.1 ≡ Some c.in_ok-d.d = search rules in
    let none_c : is_some across.0 ≡ false = search rules in
    let none_d : is_some across.1 ≡ false = search rules in
    may_turn_read c.args.mesh.now.tris c.args.a c.args.b c.in_ok-c.c c.in_ok-d.d ahead.0 ahead.1 across.0 across.1 differ
    apart c.apexes-ahead.ensures.ahead c.apexes-ahead.ensures.behind is_c is_d c.apexes-from_c.ensures.ahead
    c.apexes-from_c.ensures.behind none_c none_d
