use Rattle.std.proofs.Common.{ap, map, sym, subst, ◌∙◌}
use Rattle.std.specs.BTreeMap.{values}
use Rattle.std.specs.Map.{values_of}
use Rattle.mesh_data.specs.Quads.{sums_in}
use Rattle.sheet_data.specs.Summed.{SummedVertex}
use Rattle.mesh_edits.specs.Keyed.{IsKeyed}
use Rattle.mesh_edits.proofs.Altered.{changed_at, keyed_set, none_set, values_set}
use Rattle.mesh_edits.proofs.vertices.PatchVertices.set_point.Goals as goal
use Rattle.mesh_edits.proofs.vertices.PatchVertices.set_point.Goals.{in-Some, in_default}

pub invariant_of-self : goal.invariant_of-self
invariant_of-self c =
    let es = c.self.inside.by_name.entries in
    elim c.match-get_mut.branch [
      | in-Some w ↦
          let x = w.in-Some.vertex.now in
          let y : SummedVertex = record { name = w.vertex.inside.name; point = c.args.to; quad = sums_in w.vertex.inside.quad } in
          let holds = c.get_mut.follows.holds y in
          subst (λ s. IsKeyed s.by_name.entries) (sym w.self-inside-is)
          (keyed_set c.args.v es (c.get_mut.follows.lender y).entries x y (ap (λ (z : SummedVertex). z.name) w.vertex.view_is) c.self.invariant (sym w.in-Some.ensures.value) holds.0 holds.4)
      | in_default w ↦
          subst (λ s. IsKeyed s.by_name.entries) (sym w.self-inside-is) (subst (λ m. IsKeyed m.entries) (sym c.get_mut.follows.holds-at-none) c.self.invariant)
    ]

pub returns : goal.returns
returns c =
    let es = c.self.inside.by_name.entries in
    let v = c.args.v in
    let f : SummedVertex → SummedVertex = λ x. record x { point = c.args.to } in
    let old = ap (map (changed_at v f)) c.self.view_is in
    elim c.match-get_mut.branch [
      | in-Some w ↦
          let x = w.in-Some.vertex.now in
          let y : SummedVertex = record { name = w.vertex.inside.name; point = c.args.to; quad = sums_in w.vertex.inside.quad } in
          ap (λ s. values s.by_name) w.self-inside-is
          ∙ ap values_of (c.get_mut.follows.holds y).0
          ∙ values_set v f es x y (ap f w.vertex.view_is) c.self.invariant.named c.self.invariant.ordered (sym w.in-Some.ensures.value) ∙ old
      | in_default w ↦
          ap (λ s. values s.by_name) w.self-inside-is ∙ ap (λ m. values m) c.get_mut.follows.holds-at-none
          ∙ none_set v f es c.self.invariant.named (sym w.in_default.ensures.value) ∙ old
    ]
