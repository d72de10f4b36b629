use Rattle.build_laws.proofs.Contents.{all_sound, aside_before, sheets_aside}
use Rattle.build_laws.proofs.laws.content_laws.Goals as goal

pub returns-clause-aside : goal.returns-clause-aside
returns-clause-aside c = aside_before

pub returns-clause-sheets : goal.returns-clause-sheets
returns-clause-sheets c = sheets_aside

pub returns-clause-sound : goal.returns-clause-sound
returns-clause-sound c = all_sound
