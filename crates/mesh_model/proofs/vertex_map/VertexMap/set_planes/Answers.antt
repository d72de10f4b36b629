use Rattle.std.proofs.Common.{ap, sym, ◌∙◌, rules}
use Rattle.std.specs.FinMap as finite
use Rattle.std.specs.Ordering.{nat_cmp}
use Rattle.mesh_data.specs.declared.geometry.Vertex.{Vertex}
use Rattle.edit_steps.proofs.Vertices.{changed, changed_there, changed_nowhere}
use Rattle.mesh_model.proofs.vertex_map.VertexMap.set_planes.Goals as goal
use Rattle.mesh_model.proofs.vertex_map.VertexMap.set_planes.Goals.{in-Some, in_default}

pub returns : goal.returns
returns c =
    let es = c.self.inside.vertices.entries in
    let v = c.args.v in
    let change : Vertex → Vertex = λ x. record x { planes = c.args.planes } in
    let old = ap (changed change v) c.self.view_is in
    elim c.match-get_mut.branch [
      | in-Some w ↦
          let x = w.in-Some.vertex.now in
          ap (λ s. finite.from_entries {R = nat_cmp} s.vertices.entries) w.self-inside-is
          ∙ changed_there change es (c.get_mut.follows.lender (change x)).entries v x (sym w.in-Some.ensures.value) ((c.get_mut.follows.holds (change x)).3 (search rules)).0 ∙ old
      | in_default w ↦
          ap (λ s. finite.from_entries {R = nat_cmp} s.vertices.entries) w.self-inside-is
          ∙ ap (λ m. finite.from_entries {R = nat_cmp} m.entries) c.get_mut.follows.holds-at-none
          ∙ changed_nowhere change es v (sym w.in_default.ensures.value) ∙ old
    ]
