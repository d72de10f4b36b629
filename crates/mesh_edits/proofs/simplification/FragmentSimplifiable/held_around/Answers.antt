use Rattle.std.proofs.Common.{◌≡◌, ◌∙◌, ◌++◌, ℕ, List, [], eqb, false, filter, refl, rules, sym, subst}
use Rattle.std.specs.List.{IsDistinct}
use Rattle.oemm_octree.specs.Octree.{is_inside}
use Rattle.half_edge.specs.Meshes.{is_held as in_face}
use Rattle.mesh_sheets.specs.Assembled.{has_name}
use Rattle.queued_simplify.specs.Filled.{AreHeldAround}
use Rattle.patch_edits.specs.PatchMesh.{mesh_of}
use Rattle.mesh_edits.proofs.Held.{kept_once, none_around, on_ok, ring_around}
use Rattle.mesh_edits.proofs.simplification.FragmentSimplifiable.held_around.Goals as goal

pub returns-then-not-has-clause-around : goal.returns-then-not-has-clause-around
returns-then-not-has-clause-around c =
    let f = c.args.self.now in
    let out : in_face c.self.inside.halves c.args.u ≡ false = let h = c.has.ensures.has in search rules in
    subst (AreHeldAround (is_inside f.area) (mesh_of f.patch) c.args.u) (sym c.clear.ensures.items)
    (none_around c.self.inside c.self.invariant.parts f c.self.view_is c.args.u c.requires out)

pub returns-then-not-has-clause-once : goal.returns-then-not-has-clause-once
returns-then-not-has-clause-once c =
    subst (IsDistinct (λ x y. eqb x y)) (sym c.clear.ensures.items) (kept_once (λ x. eqb x x) [] refl)

pub returns-clause-around : goal.returns-clause-around
returns-clause-around c =
    let i = c.self.inside in
    let ring = c.in_ok-ring.ring in
    let pick : List ℕ → List ℕ = filter (has_name i.vertices) in
    on_ok c.push_held.result (λ (listed : c.push_held.new.names.items ≡ c.clear.new.self.items ++ pick c.slice.result.now).
    ring_around i c.self.invariant.parts c.args.self.now c.self.view_is c.args.u (record { names = ring.names; closed = ring.closed }) c.push_held.new.names.items c.requires c.in_ok-ring.ensures.oriented c.in_ok-ring.ensures.ring
    (listed ∙ (λ j. c.clear.ensures.items j ++ pick (c.slice.ensures j)))) c.push_held.ensures

pub returns-clause-once : goal.returns-clause-once
returns-clause-once c =
    let i = c.self.inside in
    let ring = c.in_ok-ring.ring in
    let pick : List ℕ → List ℕ = filter (has_name i.vertices) in
    on_ok c.push_held.result (λ (listed : c.push_held.new.names.items ≡ c.clear.new.self.items ++ pick c.slice.result.now).
    subst (IsDistinct (λ x y. eqb x y)) (sym (listed ∙ (λ j. c.clear.ensures.items j ++ pick (c.slice.ensures j))))
    (kept_once (has_name i.vertices) ring.names c.in_ok-ring.ensures.ring.distinct)) c.push_held.ensures
