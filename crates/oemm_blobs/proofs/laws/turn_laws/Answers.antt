use Rattle.oemm_blobs.proofs.InTurn.{one_more, stopped, kept_after}
use Rattle.oemm_blobs.proofs.laws.turn_laws.Goals as goal

pub returns-clause-one_more : goal.returns-clause-one_more
returns-clause-one_more g c changes old mid new v change result so_far step =
    one_more changes _ _ _ v so_far change result step

pub returns-clause-stopped : goal.returns-clause-stopped
returns-clause-stopped g c changes more old new fail result err turn =
    stopped changes more _ _ fail result err turn

pub returns-clause-kept : goal.returns-clause-kept
returns-clause-kept g c changes old mid new v w so_far step = kept_after changes _ _ _ v so_far w step
