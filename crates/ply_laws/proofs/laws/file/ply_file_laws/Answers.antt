use Rattle.ply_laws.proofs.LineLaws.{file_empty, file_head, file_line, file_no_end, file_refused, file_laid}
use Rattle.ply_laws.proofs.laws.file.ply_file_laws.Goals as goal

pub returns-clause-empty : goal.returns-clause-empty
returns-clause-empty c = file_empty

pub returns-clause-head : goal.returns-clause-head
returns-clause-head c = file_head

pub returns-clause-line : goal.returns-clause-line
returns-clause-line c = file_line

pub returns-clause-no_end : goal.returns-clause-no_end
returns-clause-no_end c = file_no_end

pub returns-clause-refused : goal.returns-clause-refused
returns-clause-refused c = file_refused

pub returns-clause-laid : goal.returns-clause-laid
returns-clause-laid c = file_laid
