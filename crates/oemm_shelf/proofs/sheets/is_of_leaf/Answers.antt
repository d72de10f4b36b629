use Rattle.std.proofs.Common.{◌≡◌, sym, ap, ◌∙◌, Some}
use Rattle.std.specs.Prelude.{slice_get}
use Rattle.oemm_shelf.proofs.Lying.{low_enough, of_leaf_from}
use Rattle.oemm_shelf.proofs.sheets.is_of_leaf.Goals as goal

pub lie_in-lie-requires : goal.lie_in-lie-requires
lie_in-lie-requires c =
    low_enough c.args.index.now.cells c.leaf.inside.0 c.at-cell.result.now c.requires.tiles c.at-cell.ensures

pub returns : goal.returns
returns c =
    let at : slice_get c.args.index.now.cells c.args.leaf ≡ Some c.at-cell.result.now =
    ap (slice_get c.args.index.now.cells) (sym c.leaf.view_is) ∙ c.at-cell.ensures in
    c.all_hold.ensures
    ∙ of_leaf_from c.args.index.now c.args.leaf c.args.sheet.now c.at-cell.result.now c.requires.tiles at
    c.says_leaf-says.result c.lie_in-lie.result c.are_named-named.result c.are_below-below.result
    c.slice.result.now c.slice-2.result.now c.slice-3.result.now c.len.result
    c.says_leaf-says.ensures c.lie_in-lie.ensures c.are_named-named.ensures c.are_below-below.ensures
    c.slice.ensures c.slice-2.ensures c.slice-3.ensures.items c.len.ensures
