use Rattle.std.proofs.Common.{◌≡◌, ◌∷◌, ◌++◌, [], append_assoc, map, ap, ◌∙◌, sym, subst}
use Rattle.std.proofs.lemmas.List.{map-append}
use Rattle.std.specs.FinMap as finite
use Rattle.std.specs.List.Sorted.{IsStrictlySortedBy}
use Rattle.std.specs.Map.{keys_of}
use Rattle.std.specs.Map.Iter.{deref_pair}
use Rattle.std.specs.Ordering.{nat_cmp}
use Rattle.mesh_model.proofs.Copies.{copied_on}
use Rattle.edit_steps.proofs.Vertices.{Entries, entries-from_ordered}
use Rattle.mesh_model.proofs.vertex_map.VertexMap.copy.Goals as goal

pub loop-name-init : goal.loop-name-init
loop-name-init c =
    let es = c.self.inside.vertices.entries in
    record {
      can = tt;
      ends = tt;
      told = c.into_iter-name-iterator.ensures.into_iter_gives ∙ c.iter-name-items.ensures.rest ∙ sym (entries-from_ordered es c.iter-name-items.ensures.ordered) ∙ ap finite.entries c.self.view_is;
      copied = c.new-copy.ensures;
    }

pub loop-name-preserved : goal.loop-name-preserved
loop-name-preserved c =
    let es = c.self.inside.vertices.entries in
    let done = map deref_pair c.loop-name.yielded in
    let k = c.in-Some.name.now in
    let x = c.in-Some.vertex.now in
    let rest = c.next.new.self in
    let told : done ++ (k, x) ∷ rest ≡ finite.entries c.args.self.now = ap (λ (xs : Entries). done ++ xs) (sym c.in-Some.ensures.steps) ∙ c.loop-name.invariant.told in
    let ordered : finite.entries c.args.self.now ≡ es = ap finite.entries (sym c.self.view_is) ∙ entries-from_ordered es c.iter-name-items.ensures.ordered in
    let up = subst (λ (fs : Entries). IsStrictlySortedBy nat_cmp (keys_of fs)) (sym (told ∙ ordered)) c.iter-name-items.ensures.ordered in
    let pushed : map deref_pair (c.loop-name.yielded ++ (c.in-Some.name, c.in-Some.vertex) ∷ []) ≡ done ++ (k, x) ∷ [] = map-append deref_pair c.loop-name.yielded ((c.in-Some.name, c.in-Some.vertex) ∷ []) in
    record {
      can = tt;
      ends = tt;
      told = ap (λ (xs : Entries). xs ++ rest) pushed ∙ append_assoc done ((k, x) ∷ []) rest ∙ told;
      copied = c.in_ok-insert.ensures.ok ∙ (λ i. finite.insert (c.loop-name.invariant.copied i) k (c.in_ok-copy.ensures i)) ∙ copied_on done k x rest up ∙ ap (λ (fs : Entries). finite.from_entries {R = nat_cmp} fs) (sym pushed);
    }
