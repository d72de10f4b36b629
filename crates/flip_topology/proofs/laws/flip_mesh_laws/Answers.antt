use Rattle.flip_topology.proofs.Meshes.{flip_keeps, flip_rings, may_flip}
use Rattle.flip_topology.proofs.laws.flip_mesh_laws.Goals as goal

pub returns-clause-allowed : goal.returns-clause-allowed
returns-clause-allowed c = may_flip

pub returns-clause-keeps : goal.returns-clause-keeps
returns-clause-keeps c = flip_keeps

pub returns-clause-rings : goal.returns-clause-rings
returns-clause-rings c = flip_rings
