use Rattle.std.proofs.Common.{ap, ◌∙◌}
use Rattle.mesh_data.specs.declared.geometry.Tri.{Tri}
use Rattle.mesh_out.specs.Form.{form_face}
use Rattle.mesh_out.specs.Stream.{Plan}
use Rattle.mesh_out.proofs.Items.{puts_item, puts_prefix_of_items, on_any_error, next_face}
use Rattle.mesh_out.proofs.whole.put_faces.Goals as goal

pub loop-t-preserved : goal.loop-t-preserved
loop-t-preserved g c = record {
  plan = next_face _ _ _ _ c.loop-t.invariant.plan c.in_ok-put_face.ensures.plan;
  puts =
      puts_item
      (form_face c.args.out.now.plan.form)
      c.args.faces.now
      c.loop-t.t-index
      c.t-item.result
      c.args.out.now.buffered
      (form_face c.loop-t.out.plan.form c.t-item.result)
      c.loop-t-test.true
      (ap (λ (plan : Plan). form_face plan.form c.t-item.result) c.loop-t.invariant.plan ∙ ap (λ (t : Tri). form_face c.args.out.now.plan.form t) c.t-item.is)
      c.loop-t.invariant.puts
      c.in_ok-put_face.ensures.ok;
  open_still = λ was. c.in_ok-put_face.ensures.open (c.loop-t.invariant.open_still was);
  calm = c.in_ok-put_face.ensures.cause.calm ∙ c.loop-t.invariant.calm;
}

pub returns-in_err-put_face-clause-err : goal.returns-in_err-put_face-clause-err
returns-in_err-put_face-clause-err g c =
    on_any_error
    c.from_residual.result
    (
    puts_prefix_of_items
    (form_face c.args.out.now.plan.form)
    c.args.faces.now
    c.loop-t.t-index
    c.args.out.now.buffered
    c.loop-t.invariant.puts
    c.in_err-put_face.ensures.err
    )
