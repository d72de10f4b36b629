-- Near leaves are near to each other.
use Rattle.std.proofs.Common.{◌≡◌, ℕ, ◌<◌, Bool, true, false, not, ◌&&◌, eqb, length, List, sym, ap, ◌∙◌, refl}
use Rattle.oemm_octree.specs.declared.cells.Cell.{Cell}
use Rattle.oemm_octree.specs.Leaves.{is_one_of}
use Rattle.mesh_data.specs.Mesh.{Mesh}
use Rattle.triangle_lists.proofs.Paths.{eqb_comm}
use Rattle.mesh_sheets.specs.Sheets.{are_near, leaves_of, near}
use Rattle.mesh_sheets.proofs.Filters.{any_agree}
use Rattle.mesh_sheets.proofs.Writing.{near_has}

and_comm : (a b : Bool) → (a && b) ≡ (b && a)
and_comm true true = refl
and_comm true false = refl
and_comm false true = refl
and_comm false false = refl

are_near_both : (cells : List Cell) (m : Mesh) (k l : ℕ) → are_near cells m k l ≡ are_near cells m l k
are_near_both cells m k l =
    let apart : not (eqb k l) ≡ not (eqb l k) = ap not (eqb_comm k l) in
    let some = any_agree (λ t. is_one_of (leaves_of cells m t) k && is_one_of (leaves_of cells m t) l) (λ t. is_one_of (leaves_of cells m t) l && is_one_of (leaves_of cells m t) k)
    (λ t. and_comm (is_one_of (leaves_of cells m t) k) (is_one_of (leaves_of cells m t) l)) m.tris in
    λ i. apart i && some i

-- a leaf is near to another where this is near to it
pub near_both_ways : (cells : List Cell) (m : Mesh) (k l : ℕ) → k < length cells → l < length cells → is_one_of (near cells m k) l ≡ is_one_of (near cells m l) k
near_both_ways cells m k l below other = near_has cells m k l other ∙ are_near_both cells m k l ∙ sym (near_has cells m l k below)
