use Rattle.off_reader.specs.Writes.{mesh_lines, mesh_end}
use Rattle.off_reader.proofs.Writings.{mesh_read, mesh_written}
use Rattle.off_reader.proofs.laws.mesh_laws.Goals as goal

pub returns-clause-read : goal.returns-clause-read
returns-clause-read c = λ bytes points faces write. mesh_read (mesh_end bytes) (mesh_lines bytes) points faces write

pub returns-clause-written : goal.returns-clause-written
returns-clause-written c = λ bytes sound. mesh_written (mesh_end bytes) (mesh_lines bytes) sound
