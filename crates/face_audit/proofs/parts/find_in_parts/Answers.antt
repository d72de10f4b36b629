use Rattle.std.proofs.Common.{◌≡◌, ◌+◌, List, Option, arith, sym, ap, ◌∙◌, subst}
use Rattle.mesh_data.specs.declared.geometry.Tri.{Tri}
use Rattle.mesh_data.specs.declared.shapes.Shape.{Shape}
use Rattle.mesh_data.specs.Triangles.{border_edges}
use Rattle.face_audit.specs.Parts.{count_within, part}
use Rattle.face_audit.proofs.Steps.{IsFoundBelow, found_from_none, found_more, found_early, found_all, sum_few}
use Rattle.face_audit.proofs.parts.find_in_parts.Goals as goal

pub loop-low-init : goal.loop-low-init
loop-low-init c = record { found = found_from_none c.args.tris.now; within = omega arith }

pub overflow_add-border : goal.overflow_add-border
overflow_add-border c =
    let low = c.loop-low.low in
    let high = c.end_of-high.result in
    let few = sum_few low high c.args.tris.now c.as_slice-in-loop-low.result.now c.loop-low.border c.in_ok-border.field-0
    (omega (arith, c.end_of-high.ensures.above)) c.loop-low.invariant.found.counts
    (c.as_slice-in-loop-low.ensures.value ∙ c.in_ok-part.ensures) c.in_ok-border.ensures in
    omega (arith, few, c.requires.few)

pub loop-low-preserved : goal.loop-low-preserved
loop-low-preserved c =
    let low = c.loop-low.low in
    let high = c.end_of-high.result in
    let ts = c.args.tris.now in
    let us = c.as_slice.result.now in
    let is : us ≡ part low high ts = c.as_slice.ensures.value ∙ c.in_ok-part.ensures in
    let same : c.as_slice-in-loop-low.result.now ≡ us = c.as_slice-in-loop-low.ensures.value ∙ sym c.as_slice.ensures.value in
    let counted : c.in_ok-border.field-0 ≡ count_within low high (border_edges us) =
    c.in_ok-border.ensures ∙ ap (λ (vs : List Tri). count_within low high (border_edges vs)) same in
    let found = found_more low high ts us c.in_ok-held.held c.loop-low.known c.in_ok-fault.fault c.loop-low.border
    c.in_ok-border.field-0 (omega (arith, c.end_of-high.ensures.above)) c.loop-low.invariant.found is c.in_ok-held.ensures
    c.in_ok-fault.ensures (sym c.is_edge_below.ensures ∙ c.if-is_edge_below.false) counted in
    record {
      found = subst (λ (o : Option Shape). IsFoundBelow high ts o (c.loop-low.border + c.in_ok-border.field-0)) (sym c.or-known.ensures) found;
      within = c.end_of-high.ensures.within;
    }

pub returns-then-is_edge_below : goal.returns-then-is_edge_below
returns-then-is_edge_below c =
    found_early c.loop-low.low c.end_of-high.result c.args.tris.now c.as_slice.result.now c.in_ok-held.held c.loop-low.known
    c.in_ok-fault.fault c.loop-low.border c.loop-low.invariant.found (c.as_slice.ensures.value ∙ c.in_ok-part.ensures)
    c.in_ok-fault.ensures (sym c.is_edge_below.ensures ∙ c.if-is_edge_below.true)

pub returns : goal.returns
returns c = found_all c.args.names c.loop-low.low c.args.tris.now c.loop-low.known c.loop-low.border c.requires.below (omega (arith, c.loop-low-test.false, c.loop-low.invariant.within)) c.loop-low.invariant.found
