use Rattle.std.proofs.Common.{◌∙◌}
use Rattle.patch_assembly.proofs.Made.{too_many, is_made}
use Rattle.patch_assembly.proofs.assembly.assemble.Goals as goal

pub returns-then-count-gt-MOST_ITEMS : goal.returns-then-count-gt-MOST_ITEMS
returns-then-count-gt-MOST_ITEMS c =
    too_many c.args.core.now c.args.inner.now c.args.outer.now c.in_ok-vertices.vertices.items c.in_ok-vertices.held
    c.as_slice-kept.result.now c.in_ok-vertices.ensures.tells c.in_ok-vertices.ensures.vertices
    c.in_ok-vertices.ensures.names (c.as_slice-kept.ensures.value ∙ c.in_ok-faces.ensures)
    c.if-count-gt-MOST_ITEMS.true

pub returns : goal.returns
returns c =
    is_made c.args.core.now c.args.inner.now c.args.outer.now c.in_ok-vertices.vertices.items c.in_ok-vertices.held
    c.as_slice-kept.result.now c.in_ok-vertices.ensures.tells c.in_ok-vertices.ensures.vertices
    c.in_ok-vertices.ensures.names (c.as_slice-kept.ensures.value ∙ c.in_ok-faces.ensures)
    c.if-count-gt-MOST_ITEMS.false
    (record {
      vertices = c.from_vec.result;
      whole = c.in_ok-whole_of.field-0;
      mixed = c.in_ok-mixed_of.field-0;
      near = c.in_ok-near_lists.field-0;
    })
    c.from_vec.ensures c.in_ok-whole_of.ensures c.in_ok-mixed_of.ensures c.in_ok-near_lists.ensures
