use Rattle.std.proofs.Common.{◌≡◌, List, IfOk, subst}
use Rattle.mesh_data.specs.declared.geometry.Tri.{Tri}
use Rattle.triangle_edits.proofs.Made.{collapsed_by}
use Rattle.triangle_edits.proofs.effects.collapsed_tris.Goals as goal

pub returns-clause-tris : goal.returns-clause-tris
returns-clause-tris c =
    subst (λ (us : List Tri). IfOk c.turned_in_order.result (λ ts. ts.items ≡ us))
    (collapsed_by c.args.u c.args.v c.args.tris.now c.in_ok-kept.kept.items c.as_slice.result.now c.in_ok-put.put.items c.as_slice-2.result.now c.in_ok-kept.ensures.kept c.as_slice.ensures.value c.in_ok-put.ensures c.as_slice-2.ensures.value)
    c.turned_in_order.ensures.tris
