use Rattle.std.proofs.Common.{◌≡◌, ℕ, Bool, true, false, eqb, List, sym, refl, rules, subst}
use Rattle.std.specs.Option.{is_none}
use Rattle.mesh_data.specs.Rings.{IsRing}
use Rattle.link_test.specs.declared.link.Link.TheVariants.{Good}
use Rattle.half_edge.proofs.Asked.{may_collapse_read}
use Rattle.half_edge.proofs.tests.collapse_if.Goals as goal

pub collapse-requires-clause-may : goal.collapse-requires-clause-may
collapse-requires-clause-may c =
    let ts = c.args.mesh.now.tris in
    let of_u = c.in_ok-of_u.of_u in
    let of_v = c.in_ok-of_v.of_v in
    let differ : eqb c.args.u c.args.v ≡ false = search rules in
    let there : is_none c.apexes-ahead.result.0 ≡ false = search rules in
    let closed : of_u.closed ≡ true = search rules in
    may_collapse_read ts c.args.u c.args.v c.apexes-ahead.result.0 c.slice.result.now c.slice-2.result.now of_u.closed
    of_v.closed Good c.in_ok-of_u.ensures.oriented differ c.apexes-ahead.ensures.ahead there closed
    (subst (λ (ns : List ℕ). IsRing ts c.args.u (record { names = ns; closed = of_u.closed })) (sym c.slice.ensures)
    c.in_ok-of_u.ensures.ring)
    (subst (λ (ns : List ℕ). IsRing ts c.args.v (record { names = ns; closed = of_v.closed })) (sym c.slice-2.ensures)
    c.in_ok-of_v.ensures.ring)
    c.in-Good.ensures refl
