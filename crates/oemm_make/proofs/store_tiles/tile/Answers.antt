use Rattle.std.proofs.Common.{◌≡◌, ℕ, ◌≤◌, ℤ, List, length, sym, ap, ◌∙◌, subst, arith}
use Rattle.std.proofs.lemmas.Int.{to_z-of_z}
use mir.Syntax.{w128}
use Rattle.oemm_limits.specs.declared.TheConstants.{MOST_SCRIPT_BYTES}
use Rattle.oemm_octree.specs.Leaves.{AreBelow}
use Rattle.mesh_data.specs.declared.edits.Edit.TheVariants.{Simplify}
use Rattle.mesh_data.specs.declared.edits.Task.{Task}
use Rattle.sheet_data.specs.declared.index.IndexSheet.{IndexSheet}
use Rattle.oemm_make.specs.Fits.{FitsScript}
use Rattle.oemm_make.specs.Text.{script_text}
use Rattle.oemm_make.specs.Tiles.{tiles}
use Rattle.oemm_make.proofs.TileLaws.{tiles_fit, tiles_short}
use Rattle.oemm_make.proofs.store_tiles.tile.Goals as goal

pub returns-clause-fits : goal.returns-clause-fits
returns-clause-fits g c =
    let leaves = c.in_ok-leaves.leaves in
    let cells = c.cells.result.now in
    let whole : length cells ≡ length c.args.shelf.now.index.cells
    = ap length (c.cells.ensures.cells ∙ ap (λ (i : IndexSheet). i.cells) c.in_ok-leaves.ensures.same.index) in
    let below : AreBelow (length cells) leaves = subst (λ (n : ℕ). AreBelow n leaves) (sym whole) c.in_ok-leaves.ensures.below in
    let made : c.in_ok-tasks.tasks ≡ tiles cells leaves (Simplify c.args.max c.args.target)
    = c.in_ok-tasks.ensures ∙ ap (λ (z : ℤ). tiles cells leaves (Simplify z c.args.target)) (to_z-of_z w128 c.args.max c.ranges.max) in
    subst FitsScript (sym made)
    (tiles_fit cells leaves (Simplify c.args.max c.args.target) c.cells.ensures.tiles c.slice-ascending.ensures.ascending below
    (c.requires.max, omega (arith, c.requires.target)))

pub returns-clause-short : goal.returns-clause-short
returns-clause-short g c =
    let leaves = c.in_ok-leaves.leaves in
    let cells = c.cells.result.now in
    let whole : length cells ≡ length c.args.shelf.now.index.cells
    = ap length (c.cells.ensures.cells ∙ ap (λ (i : IndexSheet). i.cells) c.in_ok-leaves.ensures.same.index) in
    let below : AreBelow (length cells) leaves = subst (λ (n : ℕ). AreBelow n leaves) (sym whole) c.in_ok-leaves.ensures.below in
    let made : c.in_ok-tasks.tasks ≡ tiles cells leaves (Simplify c.args.max c.args.target)
    = c.in_ok-tasks.ensures ∙ ap (λ (z : ℤ). tiles cells leaves (Simplify z c.args.target)) (to_z-of_z w128 c.args.max c.ranges.max) in
    subst (λ (ts : List Task). length (script_text ts) ≤ MOST_SCRIPT_BYTES) (sym made)
    (tiles_short cells leaves c.args.max c.args.target c.cells.ensures.tiles c.slice-ascending.ensures.ascending below
    c.requires.max (omega (arith, c.requires.target)))
