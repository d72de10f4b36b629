use Rattle.std.proofs.Common.{◌++◌, ◌∷◌, ◌∙◌}
use Rattle.triangle_edits.proofs.Made.{flipped_by}
use Rattle.triangle_edits.proofs.effects.flipped_tris.Goals as goal

pub returns : goal.returns
returns c =
    flipped_by c.args.a c.args.b c.args.c c.args.d c.args.tris.now c.extend_from_slice.new.self.items c.sort_unstable.new.self.items
    (c.in_ok-extend_from_slice.ensures.items
    ∙ (λ i. c.in_ok-flipped.ensures.items i ++ c.as_slice.ensures.value i)
    ∙ (λ i. c.turned_tri-at_a.ensures i ∷ c.turned_tri-at_b.ensures i ∷ c.in_ok-kept.ensures.kept i))
    c.sort_unstable.ensures.permutation c.sort_unstable.ensures.sorted
