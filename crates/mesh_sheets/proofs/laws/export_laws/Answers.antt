use Rattle.mesh_sheets.proofs.Everything.{all_tris, all_vertices}
use Rattle.mesh_sheets.proofs.laws.export_laws.Goals as goal

pub returns-clause-vertices : goal.returns-clause-vertices
returns-clause-vertices c = all_vertices

pub returns-clause-triangles : goal.returns-clause-triangles
returns-clause-triangles c = all_tris
