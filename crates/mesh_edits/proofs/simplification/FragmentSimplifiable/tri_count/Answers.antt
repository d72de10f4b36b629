use Rattle.std.proofs.Common.{ap, arith, length, List}
use Rattle.sheet_data.specs.declared.patches.Mixed.{Mixed}
use Rattle.mesh_edits.specs.Fragments.{Fragmented}
use Rattle.mesh_edits.proofs.Counts.{few_counted, tris_count}
use Rattle.mesh_edits.proofs.Parts.{on_now}
use Rattle.mesh_edits.proofs.simplification.FragmentSimplifiable.tri_count.Goals as goal

pub returns : goal.returns
returns c =
    let now = c.args.self.now in
    omega (
      arith,
      c.self.invariant.count,
      ap (λ (f : Fragmented). length f.patch.whole) c.self.view_is,
      ap (λ (f : Fragmented). length f.patch.mixed) c.self.view_is,
      ap (λ (xs : List Mixed). length xs) c.slice.ensures,
      few_counted now.area now.patch (on_now c.self.inside c.self.invariant.parts now c.self.view_is),
      tris_count now.patch,
    )
