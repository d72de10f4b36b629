use Rattle.std.proofs.Common.{refl}
use Rattle.mesh_out.specs.Ply.{short, int}
use Rattle.mesh_out.proofs.laws.form_laws.Goals as goal

pub returns-clause-off : goal.returns-clause-off
returns-clause-off c = λ points faces. refl

pub returns-clause-vertex : goal.returns-clause-vertex
unfolding short
returns-clause-vertex c = λ p. refl

pub returns-clause-face : goal.returns-clause-face
unfolding int
returns-clause-face c = λ t. refl
