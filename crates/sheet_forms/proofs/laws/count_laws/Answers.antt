use Rattle.sheet_forms.proofs.Counts.{few_faces, few_near, few_vertices}
use Rattle.sheet_forms.proofs.laws.count_laws.Goals as goal

pub returns-clause-vertices : goal.returns-clause-vertices
returns-clause-vertices c = few_vertices

pub returns-clause-near : goal.returns-clause-near
returns-clause-near c = few_near

pub returns-clause-faces : goal.returns-clause-faces
returns-clause-faces c = few_faces
