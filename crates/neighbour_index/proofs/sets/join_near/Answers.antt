use Rattle.std.proofs.Common.{◌≡◌, ◌++◌, List, ℕ, eqb, ap, ◌∙◌}
use Rattle.std.proofs.lemmas.List.Folds.{list_any-append}
use Rattle.oemm_octree.specs.Leaves.{is_one_of}
use Rattle.neighbour_index.proofs.sets.join_near.Goals as goal

pub returns : goal.returns
returns c = λ l.
    let both : c.extend_from_slice.new.self.items ≡ c.args.outside.now ++ c.args.inside.now =
    c.in_ok-extend_from_slice.ensures.items
    ∙ (λ i. (c.in_ok-leaves.ensures.items ∙ c.slice.ensures.items) i ++ c.slice-2.ensures.items i) in
    c.set_of.ensures l
    ∙ ap (λ (xs : List ℕ). is_one_of xs l) both
    ∙ list_any-append (λ m. eqb l m) c.args.outside.now c.args.inside.now
