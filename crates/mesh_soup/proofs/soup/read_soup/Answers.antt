use Rattle.std.proofs.Common.{arith}
use Rattle.mesh_soup.proofs.Readings.{soup_done}
use Rattle.mesh_soup.proofs.Takings.{taken_both}
use Rattle.mesh_soup.proofs.soup.read_soup.Goals as goal

pub returns-clause-told : goal.returns-clause-told
returns-clause-told g c =
    let reading = g.I.Items.reading in
    soup_done c.args.most (reading c.args.items.now) (reading c.next_counts.new.items) (reading c.next_points.new.items) (reading c.next_faces.new.items)
    c.in_ok-counts.counts.0 c.in_ok-counts.counts.1 c.in_ok-points.points c.in_ok-faces.faces (omega arith)
    c.in_ok-counts.ensures.told c.in_ok-points.ensures.told c.in_ok-faces.ensures.told c.in_ok-next_end.ensures.told

pub returns-in_err-points-clause-taken : goal.returns-in_err-points-clause-taken
returns-in_err-points-clause-taken g c = taken_both _ _ _ c.next_counts.ensures.taken c.next_points.ensures.taken

pub returns-in_err-faces-clause-taken : goal.returns-in_err-faces-clause-taken
returns-in_err-faces-clause-taken g c =
    taken_both _ _ _ (taken_both _ _ _ c.next_counts.ensures.taken c.next_points.ensures.taken) c.next_faces.ensures.taken

pub returns-in_err-next_end-clause-taken : goal.returns-in_err-next_end-clause-taken
returns-in_err-next_end-clause-taken g c =
    taken_both _ _ _ (taken_both _ _ _ (taken_both _ _ _ c.next_counts.ensures.taken c.next_points.ensures.taken) c.next_faces.ensures.taken) c.next_end.ensures.taken

pub returns-clause-taken : goal.returns-clause-taken
returns-clause-taken g c =
    taken_both _ _ _ (taken_both _ _ _ (taken_both _ _ _ c.next_counts.ensures.taken c.next_points.ensures.taken) c.next_faces.ensures.taken) c.next_end.ensures.taken
