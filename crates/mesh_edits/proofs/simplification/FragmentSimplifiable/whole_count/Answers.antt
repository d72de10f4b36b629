use Rattle.std.proofs.Common.{ap, length, sym, ◌∙◌}
use Rattle.mesh_edits.specs.Fragments.{Fragmented}
use Rattle.mesh_edits.proofs.Counts.{whole_counted}
use Rattle.mesh_edits.proofs.Parts.{on_now}
use Rattle.mesh_edits.proofs.simplification.FragmentSimplifiable.whole_count.Goals as goal

pub returns : goal.returns
returns c =
    let now = c.args.self.now in
    c.self.invariant.count ∙ ap (λ (f : Fragmented). length f.patch.whole) c.self.view_is
    ∙ sym (whole_counted now.area now.patch (on_now c.self.inside c.self.invariant.parts now c.self.view_is))
