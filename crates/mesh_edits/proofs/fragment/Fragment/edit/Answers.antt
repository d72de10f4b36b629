use Rattle.mesh_edits.proofs.Meshes.{edited, kept}
use Rattle.mesh_edits.proofs.fragment.Fragment.edit.Goals as goal

pub returns-clause-meshes : goal.returns-clause-meshes
returns-clause-meshes c =
    let f = c.args.self.now in
    edited c.make_edit.result f.area f.patch c.args.edit.now c.make_edit.new.self.patch c.make_edit.ensures.reply c.make_edit.ensures.patch

pub returns-clause-keeps : goal.returns-clause-keeps
returns-clause-keeps c =
    let f = c.args.self.now in
    kept c.make_edit.result f.area f.patch c.args.edit.now c.make_edit.ensures.reply
