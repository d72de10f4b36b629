use Rattle.sheet_frame.proofs.Cleans.{clean_work}
use Rattle.sheet_frame.proofs.Plays.{clean_play}
use Rattle.sheet_frame.proofs.laws.count_laws.Goals as goal

pub returns-clause-work : goal.returns-clause-work
returns-clause-work c = λ inside m edits clean. (clean_work inside edits m clean).few

pub returns-clause-play : goal.returns-clause-play
returns-clause-play c = λ cells limit m tasks clean. (clean_play cells limit tasks m clean).few
