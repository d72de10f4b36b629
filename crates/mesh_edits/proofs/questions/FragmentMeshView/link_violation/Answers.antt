use Rattle.std.proofs.Common.{◌∙◌, ℕ, List, sym, subst}
use Rattle.mesh_data.specs.Rings.{IsRing}
use Rattle.mesh_edits.proofs.Parts.{first_in, second_in, violation_now}
use Rattle.mesh_edits.proofs.questions.FragmentMeshView.link_violation.Goals as goal

pub ring-requires : goal.ring-requires
ring-requires c = first_in c.self.inside c.self.invariant.parts c.args.self.now c.self.view_is c.args.u c.args.v c.requires.pair

pub ring-requires-2 : goal.ring-requires-2
ring-requires-2 c = second_in c.self.inside c.self.invariant.parts c.args.self.now c.self.view_is c.args.u c.args.v c.requires.pair

pub returns : goal.returns
returns c =
    let ts = c.self.inside.halves.tris in
    let of_u = c.in_ok-of_u.of_u in
    let of_v = c.in_ok-of_v.of_v in
    c.shared_in.ensures
    ∙ violation_now c.self.inside c.self.invariant.parts c.args.self.now c.self.view_is c.args.u c.args.v c.slice.result.now c.slice-2.result.now of_u.closed of_v.closed c.verdict-link.result c.requires.pair c.requires.closed
    c.in_ok-of_u.ensures.oriented
    (subst (λ (ns : List ℕ). IsRing ts c.args.u (record { names = ns; closed = of_u.closed })) (sym c.slice.ensures) c.in_ok-of_u.ensures.ring)
    (subst (λ (ns : List ℕ). IsRing ts c.args.v (record { names = ns; closed = of_v.closed })) (sym c.slice-2.ensures) c.in_ok-of_v.ensures.ring)
    c.verdict-link.ensures
