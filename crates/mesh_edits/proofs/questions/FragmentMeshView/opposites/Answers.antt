use Rattle.std.proofs.Common.{◌∙◌, ap, List}
use Rattle.std.specs.Option.{option_zip}
use Rattle.mesh_data.specs.declared.geometry.Tri.{Tri}
use Rattle.mesh_data.specs.Links.{opposites}
use Rattle.mesh_edits.proofs.Parts.{tris_now}
use Rattle.mesh_edits.proofs.questions.FragmentMeshView.opposites.Goals as goal

pub returns : goal.returns
returns c =
    c.zip.ensures ∙ (λ j. option_zip (c.apexes-ahead.ensures.ahead j) (c.apexes-ahead.ensures.behind j))
    ∙ ap (λ (ts : List Tri). opposites ts c.args.a c.args.b) (tris_now c.self.inside c.self.invariant.parts c.args.self.now c.self.view_is)
