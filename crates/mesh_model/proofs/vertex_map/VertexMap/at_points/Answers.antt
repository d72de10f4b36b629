use Rattle.std.proofs.Common.{◌≡◌, ℕ, ◌+◌, ◌<◌, ◌++◌, ◌∷◌, List, [], length, get_or, drop, ap, sym, ◌∙◌, arith, length-append}
use Rattle.std.proofs.Math.Seq.{drop-length}
use Rattle.std.proofs.lemmas.List.{get_or_append_left, get_or_at}
use Rattle.std.specs.FinMap as finite
use Rattle.std.specs.Ordering.{nat_cmp}
use Rattle.oemm_octree.specs.declared.points.Point.{Point}
use Rattle.mesh_data.specs.declared.geometry.Vertex.{Vertex}
use Rattle.mesh_data.specs.declared.planes.Plane.{Plane}
use Rattle.mesh_data.specs.Mesh.{named_from, origin}
use Rattle.edit_steps.proofs.Vertices.{vertices_from, one_named_before, len-one_before}
use Rattle.mesh_model.proofs.vertex_map.VertexMap.at_points.Goals as goal

pub loop-last-init : goal.loop-last-init
loop-last-init c =
    let ps = c.args.points.now in
    let f : ℕ → List Plane = λ v. get_or c.args.planes.items v [] in
    let none : drop (length c.args.planes.items) ps ≡ [] = ap (λ n. drop n ps) c.requires.whole ∙ drop-length ps in
    record {
      told = c.new-vertices.ensures ∙ ap (λ (qs : List Point). finite.from_entries {R = nat_cmp} (named_from f (length c.args.planes.items) qs)) (sym none);
      left = λ v lt i. get_or c.args.planes.items v [];
      within = omega arith;
      len = ap (λ (m : finite.FinMap nat_cmp Vertex). finite.len m + length c.args.planes.items) c.new-vertices.ensures ∙ ap (λ n. n + length c.args.planes.items) (finite.len-empty nat_cmp Vertex) ∙ omega arith;
    }

pub loop-last-preserved : goal.loop-last-preserved
loop-last-preserved c =
    let ps = c.args.points.now in
    let f : ℕ → List Plane = λ v. get_or c.args.planes.items v [] in
    let rest = c.pop.new.self.items in
    let k = length rest in
    let last = c.in-Some.last in
    let items : c.loop-last.planes.items ≡ rest ++ last ∷ [] = c.in-Some.ensures.items in
    let more : length c.loop-last.planes.items ≡ k + 1 = ap length items ∙ length-append rest (last ∷ []) in
    let low : k < length c.loop-last.planes.items = omega (arith, more) in
    let within : k < length ps = omega (arith, more) in
    let is : last ≡ f k = sym (get_or_at rest last [] [] k (λ i. k)) ∙ ap (λ (l : List (List Plane)). get_or l k []) (sym items) ∙ c.loop-last.invariant.left k low in
    let before : c.loop-last.vertices ≡ vertices_from f ps (k + 1) = c.loop-last.invariant.told ∙ ap (vertices_from f ps) more in
    let place : c.len-place.result ≡ k = omega arith in
    let grown : c.insert.new.self ≡ finite.insert (vertices_from f ps (k + 1)) k (record { point = get_or ps k origin; planes = f k }) =
    c.in_ok-insert.ensures.ok ∙ (λ i. finite.insert (before i) (place i) (record { point = get_or ps (place i) origin; planes = is i })) in
    record {
      told = grown ∙ one_named_before f ps k origin within;
      left = λ v lt. sym (get_or_append_left rest (last ∷ []) [] v lt) ∙ ap (λ (l : List (List Plane)). get_or l v []) (sym items) ∙ c.loop-last.invariant.left v (omega (arith, more));
      within = omega arith;
      len = omega (arith, more, ap finite.len grown, len-one_before f ps k (record { point = get_or ps k origin; planes = f k }), ap finite.len before, c.loop-last.invariant.len);
    }
