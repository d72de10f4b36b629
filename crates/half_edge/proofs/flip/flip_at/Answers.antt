use Rattle.half_edge.specs.Collapses.{cut_keys}
use Rattle.half_edge.proofs.Flipping.{turned_keys, sound_flipped, faces_flipped}
use Rattle.half_edge.proofs.flip.flip_at.Goals as goal

pub returns-clause-sound : goal.returns-clause-sound
returns-clause-sound c =
    let s = c.args.halves.now.slots in
    sound_flipped s c.turn_edge.new.halves.slots c.args.a c.args.b c.args.c c.args.d (cut_keys s c.args.e)
    (turned_keys s c.args.a c.args.b c.args.c c.args.d c.args.e c.requires) c.turn_edge.ensures

pub returns-clause-faces : goal.returns-clause-faces
returns-clause-faces c =
    let s = c.args.halves.now.slots in
    faces_flipped s c.turn_edge.new.halves.slots c.args.a c.args.b c.args.c c.args.d (cut_keys s c.args.e)
    (turned_keys s c.args.a c.args.b c.args.c c.args.d c.args.e c.requires) c.turn_edge.ensures
