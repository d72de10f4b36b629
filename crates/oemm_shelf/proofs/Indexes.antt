-- Values that pass a test, and cells that tile the cube.
use Rattle.std.proofs.Common.{◌≡◌, Bool, true, false, cond, eqb, List, length, refl, sym, ap, ◌∙◌, Option, Some, None}
use Rattle.std.proofs.lemmas.Bool.{both_ways, false_from_ne_true}
use Rattle.oemm_octree.specs.declared.cells.Cell.{Cell}
use Rattle.oemm_octree.specs.Leaves.{AreTiles}
use Rattle.oemm_octree.specs.Octree.{root_cell}
use Rattle.oemm_octree.specs.Walks.{walk}
use Rattle.oemm_octree.proofs.Steps.{tiles_refused, tiles_tested}
use Rattle.oemm_shelf.specs.Opened.{is_all, tile_cube}
use Rattle.oemm_shelf.specs.Readings.{if_passes}

pub passes : {T : Type 0} (test : T → Bool) (o : Option T) (x : T) → o ≡ Some x → test x ≡ true
    → Some x ≡ if_passes test o
passes test o x is on = sym (ap (if_passes test) is ∙ ap (λ (b : Bool). cond b (Some x) None) on)

pub fails : {T : Type 0} (test : T → Bool) (o : Option T) (x : T) → o ≡ Some x → test x ≡ false
    → None ≡ if_passes test o
fails test o x is off = sym (ap (if_passes test) is ∙ ap (λ (b : Bool). cond b (Some x) None) off)

pub tile_cube_is : (cells : List Cell) → (tile_cube cells ≡ true → AreTiles cells) × (AreTiles cells → tile_cube cells ≡ true)
tile_cube_is cells =
    elim (walk 6 root_cell cells) as (λ o. walk 6 root_cell cells ≡ o → (is_all o ≡ true → AreTiles cells) × (AreTiles cells → is_all o ≡ true)) [
      | None ↦ λ walked. tiles_refused root_cell cells cells walked refl refl
      | Some rest ↦ λ walked. tiles_tested (eqb (length rest) 0) root_cell cells cells rest refl walked refl refl
    ] refl

-- what tells whether cells tile the cube tells it as the walk does
pub tiles_told : (b : Bool) (cells : List Cell) → ((b ≡ true → AreTiles cells) × (AreTiles cells → b ≡ true))
    → tile_cube cells ≡ b
tiles_told true cells told = (tile_cube_is cells).1 (told.0 refl)
tiles_told false cells told = false_from_ne_true (tile_cube cells) (λ on. both_ways false refl (told.1 ((tile_cube_is cells).0 on)))
