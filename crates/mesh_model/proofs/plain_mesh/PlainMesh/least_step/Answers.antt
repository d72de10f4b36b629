use Rattle.std.proofs.Common.{◌≡◌, ◌∙◌, ◌≤◌, ◌<◌, ℕ, List, length, None, flat_map, get_or, take, take_all, ℤ, to_z, of_z, ap, subst, rules}
use Rattle.std.specs.Int.{w128}
use Rattle.std.proofs.lemmas.Int.{to_z-of_z}
use Rattle.mesh_data.specs.declared.geometry.Tri.{Tri}
use Rattle.mesh_data.specs.declared.edits.Reply.{Reply}
use Rattle.oemm_octree.specs.Octree.{is_inside}
use Rattle.mesh_data.specs.Mesh.{Mesh}
use Rattle.edit_steps.specs.Steps.{best_of, both_ways, answer_of}
use Rattle.edit_steps.proofs.Tried.{best_is_least, best_more}
use Rattle.mesh_model.proofs.plain_mesh.PlainMesh.least_step.Goals as goal

pub loop-t-preserved : goal.loop-t-preserved
loop-t-preserved c =
    let ts = c.args.self.now.tris in
    let i = c.loop-t.t-index in
    let verdict_of : ℕ → ℕ → Reply = answer_of (is_inside c.args.area.now) c.args.self.now (to_z w128 (of_z w128 c.args.max)) in
    let whole : c.deref-t-items.result.now ≡ ts = c.deref-t-items.ensures.value ∙ ap (λ (m : Mesh). m.tris) c.self.view_is in
    let lt : i < length ts = subst (λ (us : List Tri). i < length us) whole c.loop-t-test.true in
    let item : c.t-item.result ≡ get_or ts i c.t-item.result = c.t-item.is ∙ ap (λ (us : List Tri). get_or us i c.t-item.result) whole in
    record {
      told = c.in_ok-best.ensures
          ∙ (λ j. best_of verdict_of (c.loop-t.invariant.told j) (both_ways (item j)))
          ∙ best_more verdict_of ts i c.t-item.result lt;
    }

pub returns : goal.returns
returns c =
    let m = c.args.self.now in
    let inside = is_inside c.args.area.now in
    let whole : c.deref-t-items.result.now ≡ m.tris = c.deref-t-items.ensures.value ∙ ap (λ (k : Mesh). k.tris) c.self.view_is in
    let ended : length m.tris ≤ c.loop-t.t-index = subst (λ (us : List Tri). length us ≤ c.loop-t.t-index) whole c.loop-t-test.false in
    c.loop-t.invariant.told
    ∙ ap (λ (most : ℤ). best_of (answer_of inside m most) None (flat_map both_ways (take c.loop-t.t-index m.tris))) (to_z-of_z w128 c.args.max (search rules))
    ∙ ap (λ (ts : List Tri). best_of (answer_of inside m c.args.max) None (flat_map both_ways ts)) (take_all c.loop-t.t-index m.tris ended)
    ∙ best_is_least inside m c.args.max
