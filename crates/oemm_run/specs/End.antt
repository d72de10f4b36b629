-- The exit statuses and the texts of the ends.
use Rattle.std.specs.Prelude.{ℕ, List, [], ◌∷◌, ◌++◌, codes}
use Rattle.std.specs.Fmt.{decimal}
use Rattle.mesh_items.specs.declared.items.ElementKind.{ElementKind}
use Rattle.mesh_items.specs.declared.items.ElementKind.TheVariants as element
use Rattle.mesh_items.specs.declared.items.MeshWhy.{MeshWhy}
use Rattle.mesh_items.specs.declared.items.MeshWhy.TheVariants as mesh_why
use Rattle.edit_script.specs.declared.fault.ScriptWhy.{ScriptWhy}
use Rattle.edit_script.specs.declared.fault.ScriptWhy.TheVariants as script_why
use Rattle.mesh_data.specs.declared.shapes.Shape.{Shape}
use Rattle.mesh_data.specs.declared.shapes.Shape.TheVariants as shape
use Rattle.oemm_limits.specs.declared.what.What.{What}
use Rattle.oemm_limits.specs.declared.what.What.TheVariants as what
use Rattle.oemm_run.specs.declared.end.End.{End}
use Rattle.oemm_run.specs.declared.end.End.TheVariants.{Done, Usage, ReadMesh, ReadScript, MeshText, MeshShape, ScriptText, WriteOut, WriteReport, Limit, Memory}

abbrev pub status_of : End → ℕ
status_of Done = 0
status_of Usage = 1
status_of ReadMesh = 2
status_of ReadScript = 2
status_of (MeshText at why) = 3
status_of (MeshShape what_is_bad) = 4
status_of (ScriptText line why) = 5
status_of WriteOut = 7
status_of WriteReport = 7
status_of (Limit what count) = 8
status_of Memory = 9

abbrev pub element_text : ElementKind → List ℕ
element_text element.Vertex = codes "Vertex"
element_text element.Face = codes "Face"

-- the variant's name, and its number or element where it has one
abbrev pub mesh_why_text : MeshWhy → List ℕ
mesh_why_text mesh_why.Head = codes "Head"
mesh_why_text mesh_why.Ascii = codes "Ascii"
mesh_why_text mesh_why.HeadLine = codes "HeadLine"
mesh_why_text mesh_why.FaceFirst = codes "FaceFirst"
mesh_why_text mesh_why.Twice = codes "Twice"
mesh_why_text mesh_why.FloatCoordinate = codes "FloatCoordinate"
mesh_why_text mesh_why.Kind = codes "Kind"
mesh_why_text (mesh_why.NoElement which) = codes "NoElement " ++ element_text which
mesh_why_text (mesh_why.NoProperty which) = codes "NoProperty " ++ decimal which
mesh_why_text mesh_why.Words = codes "Words"
mesh_why_text mesh_why.Number = codes "Number"
mesh_why_text mesh_why.ListCount = codes "ListCount"
mesh_why_text (mesh_why.NotInteger v) = codes "NotInteger " ++ decimal v
mesh_why_text (mesh_why.OutOfRange v) = codes "OutOfRange " ++ decimal v
mesh_why_text (mesh_why.NotTriangle f) = codes "NotTriangle " ++ decimal f
mesh_why_text (mesh_why.BadIndex f) = codes "BadIndex " ++ decimal f
mesh_why_text (mesh_why.Repeated f) = codes "Repeated " ++ decimal f
mesh_why_text mesh_why.Cut = codes "Cut"

abbrev pub script_why_text : ScriptWhy → List ℕ
script_why_text script_why.Word = codes "Word"
script_why_text script_why.Words = codes "Words"
script_why_text script_why.Number = codes "Number"
script_why_text script_why.Lane = codes "Lane"
script_why_text script_why.Box = codes "Box"
script_why_text script_why.NoTask = codes "NoTask"

abbrev pub shape_text : Shape → List ℕ
shape_text (shape.Edge a b) = codes "mesh isn't a manifold: edge " ++ (decimal a ++ (codes " " ++ decimal b))
shape_text (shape.Vertex v) = codes "mesh isn't a manifold: vertex " ++ decimal v

abbrev pub what_text : What → List ℕ
what_text what.Vertices = codes "Vertices"
what_text what.Faces = codes "Faces"
what_text what.MeshBytes = codes "MeshBytes"
what_text what.ScriptBytes = codes "ScriptBytes"
what_text what.LineBytes = codes "LineBytes"
what_text what.Tasks = codes "Tasks"
what_text what.Edits = codes "Edits"

-- what stands on the line of an end that isn't Done
abbrev pub end_words : End → List ℕ
end_words Done = []
end_words Usage = codes "usage"
end_words ReadMesh = codes "mesh can't be read"
end_words ReadScript = codes "script can't be read"
end_words (MeshText at why) = codes "mesh fault at byte " ++ (decimal at ++ (codes ": " ++ mesh_why_text why))
end_words (MeshShape what_is_bad) = shape_text what_is_bad
end_words (ScriptText line why) = codes "script fault in line " ++ (decimal line ++ (codes ": " ++ script_why_text why))
end_words WriteOut = codes "output can't be written"
end_words WriteReport = codes "report can't be written"
end_words (Limit what count) = codes "limit " ++ (what_text what ++ (codes ": " ++ decimal count))
end_words Memory = codes "no memory"

-- the line that tells an end, and nothing for Done
abbrev pub end_text : End → List ℕ
end_text Done = []
end_text end = codes "oemm: " ++ (end_words end ++ 10 ∷ [])
