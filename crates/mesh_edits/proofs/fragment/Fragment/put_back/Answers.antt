use Rattle.std.proofs.Common.{ap}
use Rattle.mesh_edits.specs.Fragments.{Fragmented, patch_by}
use Rattle.mesh_edits.proofs.PutBack.{with_rim}
use Rattle.mesh_edits.proofs.fragment.Fragment.put_back.Goals as goal

pub invariant_of-self : goal.invariant_of-self
invariant_of-self c =
    with_rim c.self.inside c.self.invariant c.args.self.now c.self.view_is c.args.parts.vertices c.args.parts.halves c.args.parts.whole c.requires

pub returns-clause-patch : goal.returns-clause-patch
returns-clause-patch c =
    ap (λ (f : Fragmented). patch_by c.args.parts.vertices c.args.parts.halves.tris f.patch.mixed f.patch.near) c.self.view_is
