-- A mesh that is written a vertex and a face at a time.
use Rattle.std.specs.Prelude.{ℕ, ◌-◌, ◌≡◌, List, ◌++◌}
use Rattle.fault_counts.specs.Told.{Told, Puts}
use Rattle.mesh_out.specs.declared.form.Form.{Form}

-- the format, and how many vertices and faces are still to be written
pub record Plan : Type 0 where
  pub form : Form
  pub vertices : ℕ
  pub faces : ℕ

-- the sink, what is still to be written, and the bytes that were written and are still to be put
pub record OpenMesh (O : Type 0) : Type 0 where
  pub sink : O
  pub plan : Plan
  pub buffered : List ℕ

-- what is still to be written behind one vertex more, and behind one face more
abbrev pub after_vertex : Plan → Plan
after_vertex plan = record plan { vertices = plan.vertices - 1 }

abbrev pub after_face : Plan → Plan
after_face plan = record plan { faces = plan.faces - 1 }

-- of these bytes those before the rest were put, and no others
pub record PutsBefore (old new : Told) (bytes rest : List ℕ) : Type 0 where
  pub put : List ℕ
  pub parts : bytes ≡ put ++ rest
  pub puts : Puts old new put
