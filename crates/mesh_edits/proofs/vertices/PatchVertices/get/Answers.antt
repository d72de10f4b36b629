use Rattle.std.proofs.Common.{◌∙◌, List, ap, eqb, find}
use Rattle.sheet_data.specs.Summed.{SummedVertex}
use Rattle.mesh_edits.proofs.Entries.{found}
use Rattle.mesh_edits.proofs.vertices.PatchVertices.get.Goals as goal

pub returns : goal.returns
returns c =
    c.get.ensures.value ∙ found c.args.v c.self.inside.by_name.entries c.self.invariant.named
    ∙ ap (λ (vs : List SummedVertex). find (λ (x : SummedVertex). eqb c.args.v x.name) vs) c.self.view_is
