use Rattle.std.proofs.Common.{ap, ◌∙◌, get_or, pos}
use Rattle.mesh_out.specs.Form.{form_vertex}
use Rattle.mesh_out.specs.Stream.{Plan}
use Rattle.mesh_out.proofs.Items.{puts_item, puts_prefix_of_items, on_any_error, next_vertex}
use Rattle.mesh_out.proofs.whole.put_points.Goals as goal

pub loop-p-preserved : goal.loop-p-preserved
loop-p-preserved g c = record {
  plan = next_vertex _ _ _ _ c.loop-p.invariant.plan c.in_ok-vertex.ensures.plan;
  puts =
      puts_item
      (form_vertex c.args.out.now.plan.form)
      c.args.points.now
      c.loop-p.p-index
      (record { x = pos 0; y = pos 0; z = pos 0 })
      c.args.out.now.buffered
      (form_vertex c.loop-p.out.plan.form (get_or c.args.points.now c.loop-p.p-index (record { x = pos 0; y = pos 0; z = pos 0 })))
      c.loop-p-test.true
      (ap (λ (plan : Plan). form_vertex plan.form (get_or c.args.points.now c.loop-p.p-index (record { x = pos 0; y = pos 0; z = pos 0 }))) c.loop-p.invariant.plan)
      c.loop-p.invariant.puts
      c.in_ok-vertex.ensures.ok;
  open_still = λ was. c.in_ok-vertex.ensures.open (c.loop-p.invariant.open_still was);
  calm = c.in_ok-vertex.ensures.cause.calm ∙ c.loop-p.invariant.calm;
}

pub returns-in_err-vertex-clause-err : goal.returns-in_err-vertex-clause-err
returns-in_err-vertex-clause-err g c =
    on_any_error
    c.from_residual.result
    (
    puts_prefix_of_items
    (form_vertex c.args.out.now.plan.form)
    c.args.points.now
    c.loop-p.p-index
    c.args.out.now.buffered
    c.loop-p.invariant.puts
    c.in_err-vertex.ensures.err
    )
