use Rattle.std.proofs.Common.{◌≡◌, Some, find, ap, eqb, map, sym, subst, ◌∙◌, arith}
use Rattle.std.specs.BTreeMap.{values}
use Rattle.std.specs.Map.{values_of}
use Rattle.std.specs.Option.{option_map_or}
use Rattle.mesh_data.specs.Planes.{Sums, added, no_sums}
use Rattle.mesh_data.specs.Quads.{sums_in}
use Rattle.sheet_data.specs.Summed.{SummedVertex}
use Rattle.mesh_edits.specs.Keyed.{IsKeyed}
use Rattle.mesh_edits.proofs.Altered.{changed_at, keyed_set, none_set, values_set}
use Rattle.mesh_edits.proofs.Entries.{found}
use Rattle.mesh_edits.proofs.vertices.PatchVertices.merge.Goals as goal
use Rattle.mesh_edits.proofs.vertices.PatchVertices.merge.Goals.{in-Some, in_default}

pub merge-requires : goal.merge-requires
merge-requires c =
    let x = c.in-Some.vertex.now in
    let there : Some x ≡ find (λ (y : SummedVertex). eqb c.args.v y.name) c.args.self.now =
    c.in-Some.ensures.value ∙ found c.args.v c.self.inside.by_name.entries c.self.invariant.named
    ∙ ap (λ vs. find (λ (y : SummedVertex). eqb c.args.v y.name) vs) c.self.view_is in
    omega (arith, c.requires, ap (λ o. (option_map_or (λ (y : SummedVertex). y.quad) o no_sums).planes) there, ap (λ (y : SummedVertex). y.quad.planes) c.vertex.view_is)

pub invariant_of-self : goal.invariant_of-self
invariant_of-self c =
    let es = c.self.inside.by_name.entries in
    elim c.match-get_mut.branch [
      | in-Some w ↦
          let x = w.in-Some.vertex.now in
          let y : SummedVertex = record { name = w.vertex.inside.name; point = w.vertex.inside.point; quad = sums_in w.merge.new.self } in
          let holds = c.get_mut.follows.holds y in
          subst (λ s. IsKeyed s.by_name.entries) (sym w.self-inside-is)
          (keyed_set c.args.v es (c.get_mut.follows.lender y).entries x y (ap (λ (z : SummedVertex). z.name) w.vertex.view_is) c.self.invariant (sym w.in-Some.ensures.value) holds.0 holds.4)
      | in_default w ↦
          subst (λ s. IsKeyed s.by_name.entries) (sym w.self-inside-is) (subst (λ m. IsKeyed m.entries) (sym c.get_mut.follows.holds-at-none) c.self.invariant)
    ]

pub returns : goal.returns
returns c =
    let es = c.self.inside.by_name.entries in
    let v = c.args.v in
    let f : SummedVertex → SummedVertex = λ x. record x { quad = added x.quad (sums_in c.args.quad.now) } in
    let old = ap (map (changed_at v f)) c.self.view_is in
    elim c.match-get_mut.branch [
      | in-Some w ↦
          let x = w.in-Some.vertex.now in
          let y : SummedVertex = record { name = w.vertex.inside.name; point = w.vertex.inside.point; quad = sums_in w.merge.new.self } in
          let made : y ≡ f x = ap (λ (s : Sums). let z : SummedVertex = record { name = w.vertex.inside.name; point = w.vertex.inside.point; quad = s } in z) w.merge.ensures ∙ ap f w.vertex.view_is in
          ap (λ s. values s.by_name) w.self-inside-is
          ∙ ap values_of (c.get_mut.follows.holds y).0
          ∙ values_set v f es x y made c.self.invariant.named c.self.invariant.ordered (sym w.in-Some.ensures.value) ∙ old
      | in_default w ↦
          ap (λ s. values s.by_name) w.self-inside-is ∙ ap (λ m. values m) c.get_mut.follows.holds-at-none
          ∙ none_set v f es c.self.invariant.named (sym w.in_default.ensures.value) ∙ old
    ]
