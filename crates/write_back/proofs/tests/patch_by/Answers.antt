use Rattle.std.proofs.Common.{◌<◌, ◌∙◌, not, length, map, arith, sym, ap, subst}
use Rattle.std.proofs.lemmas.List.Elements.{All-filter}
use Rattle.std.specs.List.{All, filter, range_with_len}
use Rattle.oemm_lists.specs.Numbers.{among}
use Rattle.oemm_octree.proofs.Searches.{few_tiles}
use Rattle.mesh_cutting.specs.Cuts.{mesh_in}
use Rattle.mesh_sheets.specs.Sheets.{sheet}
use Rattle.patch_assembly.specs.Clashes.{AreNamed, made}
use Rattle.write_back.proofs.CutPatches.{cut_formed, cut_named, range_under}
use Rattle.write_back.proofs.tests.patch_by.Goals as goal

pub overflow_cast-len : goal.overflow_cast-len
overflow_cast-len c =
    omega (arith, c.len.ensures, ap length c.cells.ensures, few_tiles c.args.cut.now.cells c.requires.tiles)

pub sheets_at-requires : goal.sheets_at-requires
sheets_at-requires c =
    let cells = c.args.cut.now.cells in
    let core = c.args.core.now in
    let rest_is =
    c.as_slice.ensures.value ∙ c.in_ok-rest.ensures
    ∙ ap (λ n. filter (λ l. not (among l core)) (range_with_len 0 n)) (c.len.ensures ∙ ap length c.cells.ensures) in
    subst (All (λ l. l < length cells)) (sym rest_is)
    (All-filter (λ l. not (among l core)) (λ l. l < length cells) (range_with_len 0 (length cells)) (range_under (length cells)))

pub assemble-requires : goal.assemble-requires
assemble-requires c =
    let cut = c.args.cut.now in
    subst AreNamed (sym (c.slice.ensures ∙ c.requires.inner))
    (cut_named cut.cells (length cut.points) (mesh_in cut) c.args.core.now c.requires.storable c.requires.few c.requires.below)

pub returns-in-Ok : goal.returns-in-Ok
returns-in-Ok c =
    let cut = c.args.cut.now in
    let core = c.args.core.now in
    let inner_is = c.slice.ensures ∙ c.requires.inner in
    let rest_is =
    c.as_slice.ensures.value ∙ c.in_ok-rest.ensures
    ∙ ap (λ n. filter (λ l. not (among l core)) (range_with_len 0 n)) (c.len.ensures ∙ ap length c.cells.ensures) in
    let outer_is = c.slice-2.ensures ∙ c.in_ok-outer.ensures ∙ ap (map (sheet cut.cells (mesh_in cut))) rest_is in
    cut_formed cut.cells (length cut.points) (mesh_in cut) core c.requires.storable c.requires.few c.requires.below
    c.in-Ok.patch (sym (λ i. made core (inner_is i) (outer_is i)) ∙ c.in-Ok.ensures)
