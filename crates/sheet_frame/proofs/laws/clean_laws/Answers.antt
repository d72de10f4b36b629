use Rattle.sheet_frame.proofs.Cleans.{clean_work}
use Rattle.sheet_frame.proofs.Plays.{clean_play, clean_task, ordered_clean, start_clean}
use Rattle.sheet_frame.proofs.laws.clean_laws.Goals as goal

pub returns-clause-ordered : goal.returns-clause-ordered
returns-clause-ordered c = ordered_clean

pub returns-clause-begins : goal.returns-clause-begins
returns-clause-begins c = start_clean

pub returns-clause-work : goal.returns-clause-work
returns-clause-work c = λ inside m edits clean. (clean_work inside edits m clean).clean

pub returns-clause-task : goal.returns-clause-task
returns-clause-task c = λ cells limit m task clean. (clean_task cells limit m task clean).clean

pub returns-clause-play : goal.returns-clause-play
returns-clause-play c = λ cells limit m tasks clean. (clean_play cells limit tasks m clean).clean
