use Rattle.std.proofs.Common.{◌+◌, arith}
use Rattle.oemm_limits.specs.declared.what.What.TheVariants.{Vertices, Faces}
use Rattle.off_reader.proofs.LineFaults.{count_missing, count_no_number, count_long, count_many, count_read, counts_read, vertices_refused, faces_refused}
use Rattle.off_reader.proofs.laws.counts_laws.Goals as goal

pub returns-clause-counts : goal.returns-clause-counts
returns-clause-counts c = λ l place v f first few second few_too.
    counts_read place v f l (count_read Vertices place v l first few) (count_read Faces (place + 1) f l second few_too)

pub returns-clause-no_vertices : goal.returns-clause-no_vertices
returns-clause-no_vertices c = λ l place short. vertices_refused place l _ (count_missing Vertices place l short)

pub returns-clause-no_number : goal.returns-clause-no_number
returns-clause-no_number c = λ l place none. vertices_refused place l _ (count_no_number Vertices place l none)

pub returns-clause-long_number : goal.returns-clause-long_number
returns-clause-long_number c = λ l place v first long. vertices_refused place l _ (count_long Vertices place v l first long)

pub returns-clause-many_vertices : goal.returns-clause-many_vertices
returns-clause-many_vertices c = λ l place v first many fits. vertices_refused place l _ (count_many Vertices place v l first many fits)

pub returns-clause-no_faces : goal.returns-clause-no_faces
returns-clause-no_faces c = λ l place v first few last.
    faces_refused place v l _ (count_read Vertices place v l first few) (count_missing Faces (place + 1) l (omega (arith, last)))

pub returns-clause-no_second_number : goal.returns-clause-no_second_number
returns-clause-no_second_number c = λ l place v first few none.
    faces_refused place v l _ (count_read Vertices place v l first few) (count_no_number Faces (place + 1) l none)

pub returns-clause-long_second_number : goal.returns-clause-long_second_number
returns-clause-long_second_number c = λ l place v f first few second long.
    faces_refused place v l _ (count_read Vertices place v l first few) (count_long Faces (place + 1) f l second long)

pub returns-clause-many_faces : goal.returns-clause-many_faces
returns-clause-many_faces c = λ l place v f first few second many fits.
    faces_refused place v l _ (count_read Vertices place v l first few) (count_many Faces (place + 1) f l second many fits)
