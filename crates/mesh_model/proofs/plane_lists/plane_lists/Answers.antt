use Rattle.std.proofs.Common.{◌≡◌, ◌∙◌, ap, sym, subst, length, [], get_or, length-set}
use Rattle.mesh_data.specs.Mesh.{plane_at}
use Rattle.mesh_data.specs.Triangles.{IsProper, IsBelow}
use Rattle.std.proofs.lemmas.List.Elements.{All-get_or}
use Rattle.plane_counts.specs.PlaneCounts.{large_of}
use Rattle.mesh_model.proofs.PlaneLists.{with_plane, with_triangle, one_triangle_more, none_large-with_triangle}
use Rattle.mesh_model.proofs.plane_lists.plane_lists.Goals as goal

pub loop-t-preserved : goal.loop-t-preserved
loop-t-preserved c =
    let points = c.args.points.now in
    let ts = c.args.tris.now in
    let t = c.t-item.result in
    let lists = c.loop-t.lists.items in
    let p = c.plane_at-plane.result in
    let first : c.push_plane.new.lists.items ≡ with_plane p t.a lists = c.in_ok-push_plane.ensures in
    let second : c.push_plane-in-loop-t.new.lists.items ≡ with_plane p t.b (with_plane p t.a lists) = c.in_ok-push_plane-2.ensures ∙ ap (with_plane p t.b) first in
    let third : c.push_plane-in-loop-t-2.new.lists.items ≡ with_triangle p t lists = c.in_ok-push_plane-3.ensures ∙ ap (with_plane p t.c) second in
    let at : c.push_plane-in-loop-t-2.new.lists.items ≡ with_triangle (plane_at points t) t lists = third ∙ ap (λ q. with_triangle q t lists) c.plane_at-plane.ensures.plane in
    let proper : IsProper t = subst IsProper (sym c.t-item.is) (All-get_or IsProper ts c.loop-t.t-index t c.loop-t-test.true c.requires.proper) in
    let below : IsBelow (length points) t = subst (IsBelow (length points)) (sym c.t-item.is) (All-get_or (IsBelow (length points)) ts c.loop-t.t-index t c.loop-t-test.true c.requires.below) in
    let same : length lists ≡ length points = c.loop-t.invariant.len in
    record {
      len = ap length at ∙ length-set _ t.c _ ∙ length-set _ t.b _ ∙ length-set lists t.a _ ∙ same;
      bounded = λ v. ap (λ l. large_of (get_or l v [])) third
          ∙ none_large-with_triangle p t lists v (subst (λ n. IsBelow n t) (sym same) below) c.loop-t.invariant.bounded c.plane_at-plane.ensures.bounded;
      told = λ v lt. ap (λ l. get_or l v []) at ∙ one_triangle_more points ts c.loop-t.t-index t v lists c.loop-t-test.true c.t-item.is proper (subst (λ n. IsBelow n t) (sym same) below) (c.loop-t.invariant.told v lt);
    }
