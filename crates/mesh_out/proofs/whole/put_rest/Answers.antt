use Rattle.std.proofs.Common.{ap}
use Rattle.std.specs.List.{flat_map}
use Rattle.std.proofs.lemmas.Result.{on_ok_weaker}
use Rattle.fault_counts.specs.Told.{Puts}
use Rattle.mesh_out.specs.Form.{form_vertex, form_face}
use Rattle.mesh_out.specs.Stream.{Plan}
use Rattle.mesh_out.proofs.Items.{puts_both, puts_prefix_of_both, puts_prefix_of_last}
use Rattle.mesh_out.proofs.whole.put_rest.Goals as goal

pub returns-in-Err-put_faces-clause-front : goal.returns-in-Err-put_faces-clause-front
returns-in-Err-put_faces-clause-front g c =
    let form = ap (λ (plan : Plan). plan.form) c.in_default.ensures.plan in
    rw c.into_sink-in-Err-put_faces.ensures (
    puts_prefix_of_both
    _
    _
    _
    c.args.out.buffered
    (flat_map (form_vertex c.args.out.plan.form) c.args.points.now)
    (flat_map (form_face c.args.out.plan.form) c.args.faces.now)
    c.put_points.new.out.buffered
    c.in_default.ensures.ok
    (rw form at c.in-Err-put_faces.ensures.err)
    )

pub returns-clause-ok : goal.returns-clause-ok
returns-clause-ok g c =
    let form = ap (λ (plan : Plan). plan.form) c.in_default.ensures.plan in
    let faces = rw form at c.in_default-put_faces.ensures.ok in
    on_ok_weaker
    c.end.result.1
    (λ (all : Puts (g.O.Sink.written c.put_faces.new.out.sink) (g.O.Sink.written c.end.result.0) c.put_faces.new.out.buffered).
    puts_both
    _
    _
    _
    _
    c.args.out.buffered
    (flat_map (form_vertex c.args.out.plan.form) c.args.points.now)
    (flat_map (form_face c.args.out.plan.form) c.args.faces.now)
    c.put_points.new.out.buffered
    c.put_faces.new.out.buffered
    c.in_default.ensures.ok
    faces
    all)
    c.end.ensures.ok

pub returns-clause-front : goal.returns-clause-front
returns-clause-front g c =
    let form = ap (λ (plan : Plan). plan.form) c.in_default.ensures.plan in
    puts_prefix_of_last
    _
    _
    _
    _
    c.args.out.buffered
    (flat_map (form_vertex c.args.out.plan.form) c.args.points.now)
    (flat_map (form_face c.args.out.plan.form) c.args.faces.now)
    c.put_points.new.out.buffered
    c.put_faces.new.out.buffered
    c.in_default.ensures.ok
    (rw form at c.in_default-put_faces.ensures.ok)
    c.end.ensures.front
