use Rattle.std.proofs.Common.{true, false}
use Rattle.off_reader.proofs.LineFaults.{point_read, coordinate_missing, coordinate_not_whole, coordinate_off_grid, vertex_refused}
use Rattle.off_reader.proofs.laws.vertex_laws.Goals as goal

pub returns-clause-point : goal.returns-clause-point
returns-clause-point c = λ l vertex p x y z on. point_read vertex p l x y z on

pub returns-clause-few_words : goal.returns-clause-few_words
returns-clause-few_words c = λ l vertex place within before short.
    vertex_refused vertex place l _ within before (coordinate_missing vertex place l short)

pub returns-clause-fraction : goal.returns-clause-fraction
returns-clause-fraction c = λ l vertex place within before none.
    vertex_refused vertex place l _ within before (coordinate_not_whole vertex place true l none)

pub returns-clause-no_number : goal.returns-clause-no_number
returns-clause-no_number c = λ l vertex place within before none.
    vertex_refused vertex place l _ within before (coordinate_not_whole vertex place false l none)

pub returns-clause-off_grid : goal.returns-clause-off_grid
returns-clause-off_grid c = λ l vertex place n within before stands off.
    vertex_refused vertex place l _ within before (coordinate_off_grid vertex place n l stands off)
