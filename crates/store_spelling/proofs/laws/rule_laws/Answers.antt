use Rattle.store_spelling.proofs.IndexRules.{first_keeps, index_keeps}
use Rattle.store_spelling.proofs.SheetRules.{formed_keeps, storable_keeps}
use Rattle.store_spelling.proofs.WrittenRules.{written_keep}
use Rattle.store_spelling.proofs.laws.rule_laws.Goals as goal

pub returns-clause-formed : goal.returns-clause-formed
returns-clause-formed c = λ cells names leaf s few_names few_cells faces formed. formed_keeps cells names leaf s formed few_names few_cells faces

pub returns-clause-sheets : goal.returns-clause-sheets
returns-clause-sheets c = storable_keeps

pub returns-clause-written : goal.returns-clause-written
returns-clause-written c = written_keep

pub returns-clause-index : goal.returns-clause-index
returns-clause-index c = index_keeps

pub returns-clause-first : goal.returns-clause-first
returns-clause-first c = first_keeps
