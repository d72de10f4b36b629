use Rattle.collapse_topology.proofs.Meshes.{collapse_keeps, collapse_rings, may_collapse}
use Rattle.collapse_topology.proofs.laws.collapse_mesh_laws.Goals as goal

pub returns-clause-allowed : goal.returns-clause-allowed
returns-clause-allowed c = may_collapse

pub returns-clause-keeps : goal.returns-clause-keeps
returns-clause-keeps c = collapse_keeps

pub returns-clause-rings : goal.returns-clause-rings
returns-clause-rings c = collapse_rings
