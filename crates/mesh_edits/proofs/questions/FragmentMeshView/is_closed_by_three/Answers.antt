use Rattle.std.proofs.Common.{◌∙◌, rules}
use Rattle.mesh_edits.proofs.Parts.{no_three_now, three_now}
use Rattle.mesh_edits.proofs.questions.FragmentMeshView.is_closed_by_three.Goals as goal

pub returns-then-not-has : goal.returns-then-not-has
returns-then-not-has c =
    no_three_now c.self.inside c.self.invariant.parts c.args.self.now c.self.view_is c.args.v c.requires (let h = c.has.ensures.has in search rules)

pub ring-requires : goal.ring-requires
ring-requires c = let h = c.has.ensures.has in search rules

pub returns : goal.returns
returns c =
    let ring = c.in_ok-ring.ring in
    c.is_three.ensures ∙ three_now c.self.inside c.self.invariant.parts c.args.self.now c.self.view_is c.args.v (record { names = ring.names; closed = ring.closed }) c.in_ok-ring.ensures.ring
