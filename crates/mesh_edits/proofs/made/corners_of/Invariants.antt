use Rattle.std.proofs.Common.{◌≡◌, take}
use Rattle.std.specs.List.{flat_map}
use Rattle.mesh_data.specs.Triangles.{corners}
use Rattle.sheet_data.specs.declared.patches.Mixed.{Mixed}
use Rattle.mesh_edits.proofs.made.corners_of.Given as goal

abbrev pub invariant-loop-x : goal.invariant-loop-x
invariant-loop-x l = l.names.items ≡ flat_map (λ (x : Mixed). corners x.tri) (take l.x-index l.mixed)
