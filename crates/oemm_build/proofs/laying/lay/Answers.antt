use Rattle.mesh_cutting.specs.Cuts.{mesh_in}
use Rattle.oemm_build.proofs.Turns.{lays_all, same_cells, same_index, same_puts}
use Rattle.oemm_build.proofs.laying.lay.Goals as goal

pub returns-clause-puts : goal.returns-clause-puts
returns-clause-puts g c =
    let cut = c.args.cut.now in
    let index = c.args.shelf.now.index in
    let old = g.B.Blobs.store c.args.shelf.now.blobs in
    let mid = g.B.Blobs.store c.lay_sheets.new.shelf.blobs in
    let new = g.B.Blobs.store c.put_index.new.self.blobs in
    let laid = c.in_ok-lay_sheets.ensures in
    lays_all index (mesh_in cut) old mid new
    (same_cells cut.cells index.cells c.requires.same c.requires.few)
    (same_index cut.cells index.cells (mesh_in cut) old mid c.requires.same laid.laid)
    c.put_index.result
    (same_puts c.lay_sheets.new.shelf.index index mid new c.put_index.result laid.same.index c.put_index.ensures.puts)
