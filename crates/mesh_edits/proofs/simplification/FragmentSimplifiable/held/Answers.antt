use Rattle.std.proofs.Common.{◌∙◌, ap, sym, subst, List}
use Rattle.std.specs.List.Sorted.{IsStrictlyIncreasing}
use Rattle.oemm_lists.specs.Numbers.{among}
use Rattle.sheet_data.specs.Summed.{SummedVertex}
use Rattle.mesh_edits.specs.Faults.{names}
use Rattle.mesh_edits.proofs.Parts.{held_now}
use Rattle.mesh_edits.proofs.Settled.{among_names}
use Rattle.mesh_edits.proofs.simplification.FragmentSimplifiable.held.Goals as goal

pub of-requires : goal.of-requires
of-requires c =
    subst IsStrictlyIncreasing
    (sym (c.from_vec.ensures ∙ c.in_ok-names.ensures ∙ ap (λ (vs : List SummedVertex). names vs) (c.slice.ensures ∙ c.in_ok-listed.ensures)))
    c.self.invariant.parts.formed.formed.ascend

pub returns : goal.returns
returns c = λ x.
    ap (among x) (c.of.ensures ∙ c.from_vec.ensures ∙ c.in_ok-names.ensures ∙ ap (λ (vs : List SummedVertex). names vs) (c.slice.ensures ∙ c.in_ok-listed.ensures))
    ∙ among_names x c.self.inside.vertices
    ∙ held_now c.self.inside c.self.invariant.parts c.args.self.now c.self.view_is x
