use Rattle.std.proofs.Common.{◌≡◌, ◌∙◌, ℕ, List, [], ap, sym, subst, length, map, flat_map, arith, None, Ok}
use Rattle.std.specs.List.{find}
use Rattle.std.proofs.lemmas.List.{length-map}
use Rattle.mesh_data.specs.declared.geometry.Tri.{Tri}
use Rattle.mesh_data.specs.Triangles.{corners}
use Rattle.patch_assembly.specs.Clashes.{clash_in}
use Rattle.leaf_export.specs.Tables.{ArePlaces, lacks, looked_up}
use Rattle.leaf_export.proofs.Clashing.{clashes, few_names}
use Rattle.leaf_export.proofs.Parting.{parts_are, parts_miss}
use Rattle.leaf_export.proofs.Steps.{written_back}
use Rattle.leaf_export.proofs.kept.Kept.into_parts.Goals as goal

pub returns-in-Some : goal.returns-in-Some
returns-in-Some c = λ sheets cells keeps formed.
    clashes sheets c.in-Some.clash
    (sym c.in-Some.is ∙ c.in_ok-clash.ensures.told sheets cells c.args.below keeps formed c.requires.most)

pub place_names-requires-clause-few : goal.place_names-requires-clause-few
place_names-requires-clause-few c =
    let few = few_names c.args.self.names.items c.args.below c.requires.names (c.in_ok-clash.ensures.once c.in_default.is) in
    let same = ap (λ (ns : List ℕ). length ns) c.as_slice.ensures.value in
    omega (arith, few, same, c.requires.most)

pub returns-in-Some-first_unplaced : goal.returns-in-Some-first_unplaced
returns-in-Some-first_unplaced c = λ sheets cells keeps formed.
    let kept = c.args.self in
    let table = c.in_ok-table.table.items in
    let none : None ≡ clash_in sheets [] = sym c.in_default.is ∙ c.in_ok-clash.ensures.told sheets cells c.args.below keeps formed c.requires.most in
    let few = few_names kept.names.items c.args.below c.requires.names (c.in_ok-clash.ensures.once c.in_default.is) in
    let are = subst (λ (ns : List ℕ). ArePlaces ns table) c.as_slice.ensures.value c.in_ok-table.ensures.places in
    let first : c.first_unplaced.result ≡ find (lacks table) (flat_map corners kept.faces.items) =
    c.first_unplaced.ensures ∙ (λ j. find (lacks (c.as_slice-2.ensures.value j)) (flat_map corners (c.as_slice-3.ensures.value j))) in
    parts_miss sheets kept keeps none table are (omega (arith, few, c.requires.most)) c.args.below c.in_ok-table.ensures.len c.requires.faces
    c.in-Some-first_unplaced.v (sym first ∙ c.in-Some-first_unplaced.is)

pub returns : goal.returns
returns c = λ sheets cells keeps formed.
    let kept = c.args.self in
    let table = c.in_ok-table.table.items in
    let none : None ≡ clash_in sheets [] = sym c.in_default.is ∙ c.in_ok-clash.ensures.told sheets cells c.args.below keeps formed c.requires.most in
    let few = few_names kept.names.items c.args.below c.requires.names (c.in_ok-clash.ensures.once c.in_default.is) in
    let are = subst (λ (ns : List ℕ). ArePlaces ns table) c.as_slice.ensures.value c.in_ok-table.ensures.places in
    let first : c.first_unplaced.result ≡ find (lacks table) (flat_map corners kept.faces.items) =
    c.first_unplaced.ensures ∙ (λ j. find (lacks (c.as_slice-2.ensures.value j)) (flat_map corners (c.as_slice-3.ensures.value j))) in
    let long : length c.place_faces.new.faces ≡ kept.faces.len =
    ap (λ (ts : List Tri). length ts) c.place_faces.ensures ∙ length-map c.as_mut_slice.result.now (looked_up c.as_slice-4.result.now) ∙ c.as_mut_slice.ensures.len in
    let changed : c.from_vec-2.result ≡ map (looked_up table) kept.faces.items =
    c.from_vec-2.ensures ∙ written_back kept.faces.len c.place_faces.new.faces kept.faces.items long ∙ c.place_faces.ensures ∙ (λ j. map (looked_up (c.as_slice-4.ensures.value j)) (c.as_mut_slice.ensures.value j)) in
    parts_are sheets kept keeps none table are (omega (arith, few, c.requires.most)) c.args.below c.in_ok-table.ensures.len c.requires.faces
    (sym first ∙ c.in_default-first_unplaced.is)
    ∙ (λ j. Ok (sym c.from_vec.ensures j, sym changed j))
