use Rattle.std.proofs.Common.{◌≡◌, ◌∙◌, ap, sym, subst, map, take, arith}
use Rattle.std.proofs.lemmas.List.{take_all}
use Rattle.std.specs.BTreeMap.{insert_entry}
use Rattle.std.specs.Map.{values_of}
use Rattle.std.specs.Ordering.{nat_cmp}
use Rattle.mesh_edits.specs.Keyed.{IsKeyed}
use Rattle.mesh_edits.proofs.Entries.{keyed, name, keyed_is, keyed_values, one_more}
use Rattle.mesh_edits.proofs.vertices.PatchVertices.of.Goals as goal

pub loop-vertex-preserved : goal.loop-vertex-preserved
loop-vertex-preserved c =
    let vs = c.args.vertices.now in
    let i = c.loop-vertex.vertex-index in
    let x = c.vertex-item.result in
    let name_is : c.vertex.inside.name ≡ x.name = ap name c.vertex.view_is in
    c.in_ok-insert.ensures.entries
    ∙ (λ j. insert_entry nat_cmp (c.loop-vertex.invariant j) (name_is j) (c.in_ok-copy.ensures j))
    ∙ one_more vs i x c.requires c.loop-vertex-test.true c.vertex-item.is

pub invariant_of-result : goal.invariant_of-result
invariant_of-result c =
    let vs = c.args.vertices.now in
    let all : take c.loop-vertex.vertex-index vs ≡ vs = take_all c.loop-vertex.vertex-index vs (omega (arith, c.loop-vertex-test.false)) in
    subst IsKeyed (sym (c.loop-vertex.invariant ∙ ap (map keyed) all)) (keyed_is vs c.requires)

pub returns : goal.returns
returns c =
    let vs = c.args.vertices.now in
    let all : take c.loop-vertex.vertex-index vs ≡ vs = take_all c.loop-vertex.vertex-index vs (omega (arith, c.loop-vertex-test.false)) in
    ap values_of (c.loop-vertex.invariant ∙ ap (map keyed) all) ∙ keyed_values vs
