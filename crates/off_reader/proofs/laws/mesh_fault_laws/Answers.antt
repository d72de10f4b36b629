use Rattle.std.proofs.Common.{List, ap, ◌∙◌}
use Rattle.oemm_lines.specs.declared.parts.Line.{Line}
use Rattle.off_reader.specs.Grammar.{mesh_of}
use Rattle.off_reader.specs.Writes.{mesh_end}
use Rattle.off_reader.proofs.Writings.{mesh_head, mesh_counts, mesh_nothing, mesh_no_counts, mesh_vertex, mesh_face, mesh_no_vertex, mesh_no_face}
use Rattle.off_reader.proofs.laws.mesh_fault_laws.Goals as goal

pub returns-clause-head : goal.returns-clause-head
returns-clause-head c = λ bytes rest l lines other.
    ap (λ (ls : List Line). mesh_of (mesh_end bytes) ls) lines ∙ mesh_head l rest (mesh_end bytes) other

pub returns-clause-counts : goal.returns-clause-counts
returns-clause-counts c = λ bytes head rest l place fault lines stand is.
    ap (λ (ls : List Line). mesh_of (mesh_end bytes) ls) lines ∙ mesh_counts head rest l place (mesh_end bytes) fault stand is

pub returns-clause-vertex : goal.returns-clause-vertex
returns-clause-vertex c = λ bytes head vertex_lines rest l v f points fault lines counted placed few is.
    ap (λ (ls : List Line). mesh_of (mesh_end bytes) ls) lines
    ∙ mesh_vertex head vertex_lines rest l v f points (mesh_end bytes) fault counted placed few is

pub returns-clause-face : goal.returns-clause-face
returns-clause-face c = λ bytes head vertex_lines face_lines rest l f points faces fault lines counted placed joined few is.
    ap (λ (ls : List Line). mesh_of (mesh_end bytes) ls) lines
    ∙ mesh_face head vertex_lines face_lines rest l f points faces (mesh_end bytes) fault counted placed joined few is

pub returns-clause-nothing : goal.returns-clause-nothing
returns-clause-nothing c = λ bytes lines.
    ap (λ (ls : List Line). mesh_of (mesh_end bytes) ls) lines ∙ mesh_nothing (mesh_end bytes)

pub returns-clause-no_counts : goal.returns-clause-no_counts
returns-clause-no_counts c = λ bytes head lines first alone.
    ap (λ (ls : List Line). mesh_of (mesh_end bytes) ls) lines ∙ mesh_no_counts head (mesh_end bytes) first alone

pub returns-clause-no_vertex : goal.returns-clause-no_vertex
returns-clause-no_vertex c = λ bytes head vertex_lines v f points lines counted placed few.
    ap (λ (ls : List Line). mesh_of (mesh_end bytes) ls) lines
    ∙ mesh_no_vertex head vertex_lines v f points (mesh_end bytes) counted placed few

pub returns-clause-no_face : goal.returns-clause-no_face
returns-clause-no_face c = λ bytes head vertex_lines face_lines f points faces lines counted placed joined few.
    ap (λ (ls : List Line). mesh_of (mesh_end bytes) ls) lines
    ∙ mesh_no_face head vertex_lines face_lines f points faces (mesh_end bytes) counted placed joined few
