use Rattle.std.proofs.Common.{◌∙◌, List, map, refl, sym, subst}
use Rattle.std.specs.List.Sorted.{IsStrictlyIncreasing}
use Rattle.sheet_data.specs.Summed.{SummedVertex}
use Rattle.mesh_edits.proofs.Entries.{name}
use Rattle.mesh_edits.proofs.Parts.{on_now}
use Rattle.mesh_edits.proofs.PutBack.{own_parts, own_patch}
use Rattle.mesh_edits.proofs.fragment.Fragment.parts.Goals as goal

pub of-requires : goal.of-requires
of-requires c =
    subst (λ (vs : List SummedVertex). IsStrictlyIncreasing (map name vs)) (sym (c.slice.ensures ∙ c.in_ok-listed.ensures)) c.self.invariant.parts.formed.formed.ascend

pub returns-clause-parts : goal.returns-clause-parts
returns-clause-parts c =
    own_parts c.self.inside c.self.invariant c.args.self.now c.self.view_is _ _ c.self.inside.whole (c.in_ok-of.ensures ∙ c.slice.ensures ∙ c.in_ok-listed.ensures) c.in_ok-copy.ensures refl

pub returns-clause-patch : goal.returns-clause-patch
returns-clause-patch c =
    own_patch c.self.inside c.self.invariant c.args.self.now c.self.view_is _ _ (c.in_ok-of.ensures ∙ c.slice.ensures ∙ c.in_ok-listed.ensures) c.in_ok-copy.ensures

pub returns-clause-formed : goal.returns-clause-formed
returns-clause-formed c = on_now c.self.inside c.self.invariant.parts c.args.self.now c.self.view_is
