use Rattle.off_reader.proofs.LineFaults.{corners_missing, corners_no_number, corners_other, corners_refused, index_missing, index_no_number, index_refused, face_no_vertex, face_repeated, triangle_read}
use Rattle.off_reader.proofs.laws.face_laws.Goals as goal

pub returns-clause-triangle : goal.returns-clause-triangle
returns-clause-triangle c = λ l vertices face t stand below proper. triangle_read vertices face t l stand below proper

pub returns-clause-no_word : goal.returns-clause-no_word
returns-clause-no_word c = λ l vertices face none. corners_refused vertices face l _ (corners_missing face l none)

pub returns-clause-no_number : goal.returns-clause-no_number
returns-clause-no_number c = λ l vertices face none. corners_refused vertices face l _ (corners_no_number face l none)

pub returns-clause-corners : goal.returns-clause-corners
returns-clause-corners c = λ l vertices face n stands other. corners_refused vertices face l _ (corners_other face n l stands other)

pub returns-clause-few_words : goal.returns-clause-few_words
returns-clause-few_words c = λ l vertices face place front within before short.
    index_refused vertices face place l _ front within before (index_missing vertices place l short)

pub returns-clause-no_index : goal.returns-clause-no_index
returns-clause-no_index c = λ l vertices face place front within before none.
    index_refused vertices face place l _ front within before (index_no_number vertices place l none)

pub returns-clause-no_vertex : goal.returns-clause-no_vertex
returns-clause-no_vertex c = λ l vertices face i j k stand none. face_no_vertex vertices face l i j k stand none

pub returns-clause-repeated : goal.returns-clause-repeated
returns-clause-repeated c = λ l vertices face t stand below same. face_repeated vertices face t l stand below same
