use Rattle.std.proofs.Common.{◌∙◌, ◌++◌, ℕ, ap, sym}
use Rattle.std.specs.Prelude.{codes}
use Rattle.std.specs.Fmt.{decimal}
use Rattle.std.specs.String.{string_bytes}
use Rattle.oemm_run.specs.End.{shape_text}
use Rattle.oemm_run.proofs.Pieces.{written_as}
use Rattle.oemm_run.proofs.end_line.put_shape.Goals as goal

pub returns-in-Edge : goal.returns-in-Edge
returns-in-Edge c =
    let a = c.a.inside.0 in
    let b = c.b.inside.0 in
    let told = codes "mesh isn't a manifold: edge " ++ (decimal a ++ (codes " " ++ decimal b)) in
    written_as c.write.result (string_bytes c.args.text.now) (string_bytes c.write.new.self) told (shape_text c.args.shape.now)
    ((λ i. codes "mesh isn't a manifold: edge " ++ (decimal (c.a.view_is i) ++ (codes " " ++ decimal (c.b.view_is i)))) ∙ sym (ap shape_text c.in-Edge.is))
    c.write.ensures.bytes

pub returns-in-Vertex : goal.returns-in-Vertex
returns-in-Vertex c =
    let told = codes "mesh isn't a manifold: vertex " ++ decimal c.v.inside.0 in
    written_as c.write-in-Vertex.result (string_bytes c.args.text.now) (string_bytes c.write-in-Vertex.new.self) told (shape_text c.args.shape.now)
    (sym (ap shape_text c.in-Vertex.is ∙ ap (λ (n : ℕ). codes "mesh isn't a manifold: vertex " ++ decimal n) (sym c.v.view_is)))
    c.write-in-Vertex.ensures.bytes
