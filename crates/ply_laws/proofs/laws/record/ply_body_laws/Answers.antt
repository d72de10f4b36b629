use Rattle.ply_laws.proofs.GrammarLaws.{items_whole, items_stopped}
use Rattle.ply_reader.proofs.BodyLaws.{fixed_records}
use Rattle.ply_laws.proofs.laws.record.ply_body_laws.Goals as goal

pub returns-clause-whole : goal.returns-clause-whole
returns-clause-whole c = items_whole

pub returns-clause-stopped : goal.returns-clause-stopped
returns-clause-stopped c = items_stopped

pub returns-clause-fixed : goal.returns-clause-fixed
returns-clause-fixed c = fixed_records
