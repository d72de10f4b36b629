use Rattle.std.proofs.Common.{◌≡◌, ◌∙◌, ℕ, List, [], ◌∷◌, ap, map, arith, refl}
use Rattle.std.proofs.lemmas.Grind.{common_steps}
use Rattle.oemm_octree.specs.declared.cells.Cell.{Cell}
use Rattle.mesh_sheets.specs.Written.{sheets_of, written}
use Rattle.sheet_data.specs.declared.patches.NearList.{NearList}
use Rattle.sheet_data.specs.declared.patches.Patch.{Patch}
use Rattle.sheet_data.specs.declared.sheets.LeafSheet.{LeafSheet}
use Rattle.write_back.proofs.writing.sheets_of.Goals as goal

-- each sheet is that of its list's leaf
leaves_are : (cells : List Cell) (p : Patch) (lists : List NearList)
    → map (λ s. s.leaf) (map (written cells p) lists) ≡ map (λ l. l.leaf) lists
unfolding written
leaves_are cells p [] = refl
leaves_are cells p (l ∷ lists) = ap (λ (ls : List ℕ). l.leaf ∷ ls) (leaves_are cells p lists)

pub returns-clause-leaves : goal.returns-clause-leaves
returns-clause-leaves c =
    let cells = c.args.cells.now in
    let p = c.args.patch.now in
    let all : c.from_vec.result ≡ sheets_of cells p = grind (arith, common_steps) in
    ap (map (λ (s : LeafSheet). s.leaf)) all ∙ leaves_are cells p p.near ∙ c.requires.formed.lists
