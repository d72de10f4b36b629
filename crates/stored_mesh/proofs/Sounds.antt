-- The mesh of a sound store can stand in sheets.
use Rattle.std.proofs.Common.{List, length, refl}
use Rattle.mesh_data.specs.declared.edits.Entry.{Entry}
use Rattle.mesh_data.specs.Keeps.{tasks_of}
use Rattle.mesh_data.specs.Mesh.{start}
use Rattle.sheet_forms.specs.Storable.{IsStorable}
use Rattle.sheet_forms.proofs.Storable.{play_storable, start_storable}
use Rattle.stored_mesh.specs.Stored.{Base, BytesAt, IsSound, Spelling, mesh_of}
use Rattle.stored_mesh.proofs.Commits.{tiles}

pub sound_storable : (spell : Spelling) (at : BytesAt) (b : Base) (journal : List Entry) → IsSound spell at b journal → IsStorable b.index.cells (length b.soup.points) (mesh_of b journal)
sound_storable spell at b journal sound =
    let built = sound.stored.built in
    let tile = tiles spell at at b journal sound (λ k out. refl) in
    play_storable b.index.cells b.index.core (length b.soup.points) (tasks_of journal) (start b.soup) tile
    (start_storable b.index.cells b.soup tile built.grid built.few_faces built.good.0)
