use Rattle.std.proofs.Common.{◌≡◌, ◌∙◌, Bool, true, false, ap, not, List, refl, rules}
use Rattle.mesh_data.specs.declared.geometry.Tri.{Tri}
use Rattle.mesh_data.specs.Rings.{has_closed_ring}
use Rattle.mesh_edits.proofs.Parts.{no_ring_now, tris_now}
use Rattle.mesh_edits.proofs.questions.FragmentMeshView.has_closed_ring.Goals as goal

pub returns-then-not-has : goal.returns-then-not-has
returns-then-not-has c =
    no_ring_now c.self.inside c.self.invariant.parts c.args.self.now c.self.view_is c.args.v c.requires (let h = c.has.ensures.has in search rules)

twice : (b : Bool) → not (not b) ≡ b
twice true = refl
twice false = refl

pub returns : goal.returns
returns c =
    ap not c.is_border.ensures ∙ twice (has_closed_ring c.self.inside.halves.tris c.args.v)
    ∙ ap (λ (ts : List Tri). has_closed_ring ts c.args.v) (tris_now c.self.inside c.self.invariant.parts c.args.self.now c.self.view_is)
