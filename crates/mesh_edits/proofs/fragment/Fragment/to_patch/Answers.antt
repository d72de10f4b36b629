use Rattle.std.proofs.Common.{◌∙◌, ap, sym, subst}
use Rattle.std.specs.List.{filter}
use Rattle.mesh_edits.specs.Fragments.{Fragmented, IsPatchOn}
use Rattle.mesh_edits.proofs.Parts.{on_now}
use Rattle.mesh_edits.proofs.Settled.{whole_by}
use Rattle.mesh_edits.proofs.fragment.Fragment.to_patch.Goals as goal

pub returns-clause-patch : goal.returns-clause-patch
returns-clause-patch c =
    let i = c.self.inside in
    let whole = c.in_ok-whole_of.ensures ∙ ap (filter (whole_by i.vertices)) (c.slice.ensures ∙ c.in_ok-tris.ensures) in
    (λ j. record { vertices = c.in_ok-to_list.ensures j; whole = whole j; mixed = c.in_ok-copy.ensures j; near = c.in_ok-copy-2.ensures j })
    ∙ ap (λ (f : Fragmented). f.patch) c.self.view_is

pub returns-clause-formed : goal.returns-clause-formed
returns-clause-formed c =
    subst (IsPatchOn c.args.self.now.area) (sym (returns-clause-patch c)) (on_now c.self.inside c.self.invariant.parts c.args.self.now c.self.view_is)
