use Rattle.std.proofs.Common.{Some, take, ap}
use Rattle.oemm_io.proofs.Pieces.{takes_piece}
use Rattle.oemm_io.proofs.memory.MemSourceSource.take.Goals as goal

pub returns-clause-bytes : goal.returns-clause-bytes
returns-clause-bytes c =
    let split =
    takes_piece
    c.deref-2.result.now
    (take c.copy_front-count.result c.copy_front-count.new.buf)
    c.self.inside.at
    c.copy_front-count.result
    c.min.result
    _
    c.copy_front-count.ensures.count
    c.copy_front-count.ensures.bytes in
    rw (← c.self.view_is, ← c.deref-2.ensures.value) (ap Some split)
