use Rattle.ply_laws.proofs.WholeLaws.{file_read, file_written}
use Rattle.ply_laws.proofs.laws.file.ply_whole_laws.Goals as goal

pub returns-clause-read : goal.returns-clause-read
returns-clause-read c = file_read

pub returns-clause-written : goal.returns-clause-written
returns-clause-written c = file_written
