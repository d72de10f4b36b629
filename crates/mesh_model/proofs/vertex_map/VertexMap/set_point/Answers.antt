use Rattle.std.proofs.Common.{ap, sym, ◌∙◌, rules}
use Rattle.std.specs.FinMap as finite
use Rattle.std.specs.Ordering.{nat_cmp}
use Rattle.mesh_data.specs.declared.geometry.Vertex.{Vertex}
use Rattle.edit_steps.proofs.Vertices.{changed, changed_there, changed_nowhere, len-changed}
use Rattle.mesh_model.proofs.vertex_map.VertexMap.set_point.Goals as goal
use Rattle.mesh_model.proofs.vertex_map.VertexMap.set_point.Goals.{in-Some, in_default}

pub returns-clause-vertices : goal.returns-clause-vertices
returns-clause-vertices c =
    let es = c.self.inside.vertices.entries in
    let v = c.args.v in
    let move : Vertex → Vertex = λ x. record x { point = c.args.to } in
    let old = ap (changed move v) c.self.view_is in
    elim c.match-get_mut.branch [
      | in-Some w ↦
          let x = w.in-Some.vertex.now in
          ap (λ s. finite.from_entries {R = nat_cmp} s.vertices.entries) w.self-inside-is
          ∙ changed_there move es (c.get_mut.follows.lender (move x)).entries v x (sym w.in-Some.ensures.value) ((c.get_mut.follows.holds (move x)).3 (search rules)).0 ∙ old
      | in_default w ↦
          ap (λ s. finite.from_entries {R = nat_cmp} s.vertices.entries) w.self-inside-is
          ∙ ap (λ m. finite.from_entries {R = nat_cmp} m.entries) c.get_mut.follows.holds-at-none
          ∙ changed_nowhere move es v (sym w.in_default.ensures.value) ∙ old
    ]

pub returns-clause-len : goal.returns-clause-len
returns-clause-len c =
    ap finite.len (returns-clause-vertices c) ∙ len-changed (λ x. record x { point = c.args.to }) c.args.v c.args.self.now
