use Rattle.std.proofs.Common.{◌≡◌, ◌++◌, ◌∷◌, ap, sym, ◌∙◌, subst}
use Rattle.std.specs.FinMap as finite
use Rattle.std.specs.List.Sorted.{IsStrictlySortedBy}
use Rattle.std.specs.Map.{keys_of}
use Rattle.std.specs.Ordering.{nat_cmp}
use Rattle.edit_steps.proofs.Vertices.{keys-from_ordered, IsAboveLast-of_sorted}
use Rattle.mesh_model.proofs.vertex_map.VertexMap.names.Goals as goal

pub loop-name-init : goal.loop-name-init
loop-name-init c =
    let es = c.self.inside.vertices.entries in
    let all : c.into_iter-name-iterator.result ≡ finite.keys c.args.self.now =
    c.into_iter-name-iterator.ensures.into_iter_gives ∙ c.keys-name-items.ensures.rest
    ∙ sym (keys-from_ordered es c.keys-name-items.ensures.ordered) ∙ ap finite.keys c.self.view_is in
    record { can = tt; ends = tt; told = ap (λ ns. ns ++ c.into_iter-name-iterator.result) c.new-names.ensures ∙ all }

pub add-requires : goal.add-requires
add-requires c =
    let es = c.self.inside.vertices.entries in
    let told : c.loop-name.names ++ c.in-Some.name.now ∷ c.next.new.self ≡ keys_of es =
    ap (λ ns. c.loop-name.names ++ ns) (sym c.in-Some.ensures.steps) ∙ c.loop-name.invariant.told
    ∙ ap finite.keys (sym c.self.view_is) ∙ keys-from_ordered es c.keys-name-items.ensures.ordered in
    IsAboveLast-of_sorted c.loop-name.names c.next.new.self c.in-Some.name.now (subst (IsStrictlySortedBy nat_cmp) (sym told) c.keys-name-items.ensures.ordered)
