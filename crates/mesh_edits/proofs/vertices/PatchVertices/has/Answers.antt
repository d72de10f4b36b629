use Rattle.std.proofs.Common.{◌∙◌, List, ap, is_some}
use Rattle.sheet_data.specs.Summed.{SummedVertex}
use Rattle.mesh_sheets.specs.Assembled.{has_name}
use Rattle.mesh_edits.proofs.Entries.{found, some_found}
use Rattle.mesh_edits.proofs.vertices.PatchVertices.has.Goals as goal

pub returns : goal.returns
returns c =
    let es = c.self.inside.by_name.entries in
    c.contains_key.ensures ∙ ap is_some (found c.args.v es c.self.invariant.named) ∙ some_found c.args.v _
    ∙ ap (λ (vs : List SummedVertex). has_name vs c.args.v) c.self.view_is
