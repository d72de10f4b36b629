use Rattle.std.proofs.Common.{◌≡◌}
use Rattle.std.specs.List.{range_with_len}
use Rattle.std.specs.Prelude.{slice_index_or}
use Rattle.mesh_cutting.specs.Cuts.{tagged}
use Rattle.mesh_cutting.proofs.grouping.tagged_names.Given as goal

abbrev pub invariant-loop-place : goal.invariant-loop-place
invariant-loop-place l = l.names.items ≡ tagged (λ v. slice_index_or l.homes v l.none) (range_with_len 0 l.place)
