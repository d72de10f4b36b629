use Rattle.std.proofs.Common.{◌≡◌, ◌≢◌, ◌∙◌, ◌||◌, Bool, true, false, sym, ap, is_some, rules, List}
use Rattle.oemm_octree.specs.Octree.{is_inside}
use Rattle.mesh_data.specs.Links.{apex, are_neighbours}
use Rattle.mesh_data.specs.declared.geometry.Tri.{Tri}
use Rattle.mesh_edits.proofs.Near.{far_first, far_second, near_by_apexes, near_itself}
use Rattle.patch_edits.specs.PatchMesh.{mesh_of}
use Rattle.mesh_edits.proofs.Parts.{alone_out, not_alone_in, tris_now}
use Rattle.mesh_edits.proofs.questions.FragmentMeshView.are_neighbours.Goals as goal

pub returns-then-is_some : goal.returns-then-is_some
returns-then-is_some c =
    let ts = c.self.inside.halves.tris in
    let apart : c.args.u ≢ c.args.v = search rules in
    let ahead : c.is_some.result ≡ is_some (apex ts c.args.u c.args.v) = let h = c.apexes-ahead.ensures.ahead in search rules in
    let yes : c.is_some.result ≡ true = search rules in
    let one : c.is_some.result ≡ (is_some (apex ts c.args.u c.args.v) || is_some (apex ts c.args.v c.args.u)) = yes ∙ sym (ap (λ (b : Bool). b || is_some (apex ts c.args.v c.args.u)) (sym ahead ∙ yes)) in
    one ∙ near_by_apexes ts c.args.u c.args.v apart ∙ ap (λ (us : List Tri). are_neighbours us c.args.u c.args.v) (tris_now c.self.inside c.self.invariant.parts c.args.self.now c.self.view_is)

pub returns-else-is_some : goal.returns-else-is_some
returns-else-is_some c =
    let ts = c.self.inside.halves.tris in
    let apart : c.args.u ≢ c.args.v = search rules in
    let ahead : c.is_some.result ≡ is_some (apex ts c.args.u c.args.v) = let h = c.apexes-ahead.ensures.ahead in search rules in
    let no_one : c.is_some.result ≡ false = search rules in
    let behind : c.is_some-else-is_some.result ≡ is_some (apex ts c.args.v c.args.u) = let h = c.apexes-ahead.ensures.behind in search rules in
    behind ∙ ap (λ (b : Bool). b || is_some (apex ts c.args.v c.args.u)) (sym no_one ∙ ahead)
    ∙ near_by_apexes ts c.args.u c.args.v apart ∙ ap (λ (us : List Tri). are_neighbours us c.args.u c.args.v) (tris_now c.self.inside c.self.invariant.parts c.args.self.now c.self.view_is)

pub returns-then-is_alone : goal.returns-then-is_alone
returns-then-is_alone c =
    let p = c.args.self.now.patch in
    sym (far_first (mesh_of p).tris c.args.u c.args.v (alone_out p c.args.u (sym c.is_alone.ensures ∙ c.if-is_alone.true)))

pub returns-then-is_alone-2 : goal.returns-then-is_alone-2
returns-then-is_alone-2 c =
    let p = c.args.self.now.patch in
    sym (far_second (mesh_of p).tris c.args.u c.args.v (alone_out p c.args.v (sym c.is_alone-2.ensures ∙ c.if-is_alone-2.true)))

pub returns-then-eq : goal.returns-then-eq
returns-then-eq c =
    let p = c.args.self.now.patch in
    let same : c.args.u ≡ c.args.v = search rules in
    sym (sym (ap (are_neighbours (mesh_of p).tris c.args.u) same) ∙ near_itself (mesh_of p).tris c.args.u ∙ not_alone_in (is_inside c.args.self.now.area) p c.args.u c.requires (sym c.is_alone.ensures ∙ c.if-is_alone.false))
