use Rattle.std.proofs.Common.{◌≡◌, ◌≢◌, ◌∙◌, true, List, All, ap, sym, subst, arith, length, Some}
use Rattle.std.specs.FinMap as finite
use Rattle.std.specs.List.Sorted.{IsSorted}
use Rattle.mesh_data.specs.declared.geometry.Tri.{Tri}
use Rattle.mesh_data.specs.Edits.{flipped_tris}
use Rattle.mesh_data.specs.Links.{opposites}
use Rattle.mesh_data.specs.Manifold.{IsTriangleOf}
use Rattle.mesh_data.specs.Mesh.{Mesh}
use Rattle.mesh_data.specs.Triangles.{tri_cmp}
use Rattle.triangle_edits.proofs.Results.{triangles_flipped, few_flipped}
use Rattle.mesh_model.proofs.Sorted.{sorted_flipped}
use Rattle.mesh_model.proofs.plain_mesh.PlainMesh.flip.Goals as goal

pub invariant_of-self : goal.invariant_of-self
invariant_of-self c =
    let m = c.self.inside.vertices in
    let ts = c.self.inside.tris.items in
    let a = c.args.a in
    let b = c.args.b in
    let x = c.in-Some.across.0 in
    let y = c.in-Some.across.1 in
    let listed : c.as_slice-tris.result.now ≡ ts = c.as_slice-tris.ensures.value in
    let ends : opposites ts a b ≡ Some (x, y) = ap (λ (us : List Tri). opposites us a b) (sym listed) ∙ sym c.opposites.ensures ∙ c.in-Some.is in
    let whole : c.args.self.now.tris ≡ ts = ap (λ (k : Mesh). k.tris) (sym c.self.view_is) in
    let differ : x ≢ y = c.requires.ends x y (ap (λ (us : List Tri). opposites us a b) whole ∙ ends) in
    let tris : c.in_ok-self-inside.field-0.items ≡ flipped_tris a b x y ts = c.in_ok-self-inside.ensures ∙ ap (flipped_tris a b x y) listed in (
      c.self.invariant.0,
      omega (arith, ap length tris, few_flipped a b x y ts c.requires.apart differ ends, c.self.invariant.1),
      subst (All (IsTriangleOf m)) (sym tris) (triangles_flipped (λ w. finite.contains_key m w ≡ true) a b x y ts c.requires.apart differ ends c.self.invariant.2),
      c.self.invariant.3,
      subst (IsSorted tri_cmp) (sym tris) (sorted_flipped a b x y ts),
    )
