use Rattle.half_edge.specs.Collapses.{cut_keys}
use Rattle.half_edge.proofs.Collapsed.{sound_after, faces_after}
use Rattle.half_edge.proofs.collapse.collapse_at.Goals as goal

pub returns-clause-sound : goal.returns-clause-sound
returns-clause-sound c =
    sound_after c.args.halves.now.slots c.take_out.new.halves.slots c.args.u c.args.v c.requires.a c.requires.b
    (cut_keys c.args.halves.now.slots c.args.e) c.requires.cut c.take_out.ensures

pub returns-clause-faces : goal.returns-clause-faces
returns-clause-faces c =
    faces_after c.args.halves.now.slots c.take_out.new.halves.slots c.args.u c.args.v c.requires.a c.requires.b
    (cut_keys c.args.halves.now.slots c.args.e) c.requires.cut c.take_out.ensures
