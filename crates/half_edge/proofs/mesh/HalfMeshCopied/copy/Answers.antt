use Rattle.std.proofs.lemmas.Map.Entries.{entries_from_clone}
use Rattle.half_edge.proofs.Copies.{same_slots, mesh_copied, faced_copied}
use Rattle.half_edge.proofs.mesh.HalfMeshCopied.copy.Goals as goal

pub invariant_of-result : goal.invariant_of-result
invariant_of-result c =
    mesh_copied c.self.inside.halves.slots c.in_ok-clone.field-0.slots c.self.inside.outs c.in_ok-clone-2.field-0
    (same_slots _ (λ h i same. same) _ _ c.in_ok-clone.ensures.cases.slots)
    (entries_from_clone _ _ (λ x y same. same) (λ x y same. same) _ _ c.in_ok-clone-2.ensures.cases)
    c.self.invariant

pub returns : goal.returns
returns c =
    faced_copied c.self.inside.halves.slots c.in_ok-clone.field-0.slots c.self.inside.outs c.in_ok-clone-2.field-0
    c.args.self.now (same_slots _ (λ h i same. same) _ _ c.in_ok-clone.ensures.cases.slots)
    (entries_from_clone _ _ (λ x y same. same) (λ x y same. same) _ _ c.in_ok-clone-2.ensures.cases)
    c.self.view_is
