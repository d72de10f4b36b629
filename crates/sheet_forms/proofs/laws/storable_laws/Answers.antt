use Rattle.sheet_forms.proofs.Storable.{play_storable, start_storable, task_storable}
use Rattle.sheet_forms.proofs.laws.storable_laws.Goals as goal

pub returns-clause-begins : goal.returns-clause-begins
returns-clause-begins c = start_storable

pub returns-clause-task : goal.returns-clause-task
returns-clause-task c = task_storable

pub returns-clause-play : goal.returns-clause-play
returns-clause-play c = λ cells limit names m tasks. play_storable cells limit names tasks m
