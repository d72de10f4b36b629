use Rattle.ply_reader.proofs.ItemLaws.{given_next}
use Rattle.ply_reader.proofs.reader.PlyReaderItems.next.Goals as goal

pub returns-in-Ok-Some-clause-given : goal.returns-in-Ok-Some-clause-given
returns-in-Ok-Some-clause-given g c =
    let next = rw c.in-Ok-Some.field-0-is at c.in-Ok-Some.ensures.next in
    rw (← c.self.view_is)
    (given_next c.in-Some-layout.layout c.self.inside.layout c.self.inside.fault c.self.inside.done c.in-Ok-Some.item c.in_default.is c.in-Some-layout.is next.0 next.1)
