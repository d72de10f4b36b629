-- Each vertex keeps a home.
use Rattle.std.proofs.Common.{◌≡◌, ℕ, suc, ◌+◌, ◌<◌, true, false, cond, List, [], ◌∷◌, length, All, None, Some, sym, ◌∙◌, refl, subst, arith}
use Rattle.std.proofs.lemmas.Bool.{eqb-true}
use Rattle.std.proofs.lemmas.List.Elements.{recursion_from_All}
use Rattle.std.specs.Cmp.{nat_cmp_total, unsigned_tied}
use Rattle.std.specs.FinMap as finite
use Rattle.std.specs.FinMap.Entries.{find}
use Rattle.std.specs.List.{AllByRecursion}
use Rattle.std.specs.Ordering.{nat_cmp, eq_by_cmp}
use Rattle.oemm_octree.specs.declared.points.Point.{Point}
use Rattle.oemm_octree.specs.declared.cells.Cell.{Cell}
use Rattle.mesh_data.specs.declared.geometry.Soup.{Soup}
use Rattle.mesh_data.specs.declared.geometry.Vertex.{Vertex}
use Rattle.mesh_data.specs.declared.planes.Plane.{Plane}
use Rattle.mesh_data.specs.declared.edits.Task.{Task}
use Rattle.mesh_data.specs.Mesh.{Mesh, start, named_from, planes_at, start_tris}
use Rattle.oemm_octree.specs.Octree.{IsOnGrid}
use Rattle.mesh_data.specs.Work.{do_task}
use Rattle.oemm_octree.proofs.CellParts.{root_holds}
use Rattle.oemm_octree.specs.Leaves.{AreTiles, home}
use Rattle.mesh_sheets.specs.Clean.{AreHomed, AreNamed}
use Rattle.sheet_forms.proofs.Each.{each_task}
use Rattle.oemm_octree.proofs.Tilings.{home_there}

-- ---- at the start

homed_named : (cells : List Cell) (planes : ℕ → List Plane) (n : ℕ) (ps : List Point) → AreTiles cells → AllByRecursion IsOnGrid ps → (v : ℕ) (x : Vertex) → find nat_cmp v (named_from planes n ps) ≡ Some x → home cells x.point < length cells
homed_named cells planes n [] tiles all v x is = let e = is in absurd (cc)
homed_named cells planes n (p ∷ ps) tiles all v x is =
    let y : Vertex = record { point = p; planes = planes n } in
    elim (eq_by_cmp nat_cmp v n) as (λ b. cond b (Some y) (find nat_cmp v (named_from planes (n + 1) ps)) ≡ Some x → home cells x.point < length cells) [
      | true ↦ λ h. let same : y ≡ x = some_is y x h in subst (λ (z : Vertex). home cells z.point < length cells) same (home_there cells p tiles (root_holds p all.0)).0
      | false ↦ λ h. homed_named cells planes (n + 1) ps tiles all.1 v x h
    ] is
  where
    some_is : (a b : Vertex) → Some a ≡ Some b → a ≡ b
    some_is a b e = cc

pub start_homed : (cells : List Cell) (s : Soup) → AreTiles cells → All IsOnGrid s.points → AreHomed cells (start s)
start_homed cells s tiles on v x is =
    homed_named cells (planes_at s.points (start_tris s)) 0 s.points tiles (recursion_from_All IsOnGrid s.points on) v x
    (sym (finite.get-from_entries nat_cmp_total (named_from (planes_at s.points (start_tris s)) 0 s.points) v) ∙ is)

-- ---- the names at the start

named_below : (planes : ℕ → List Plane) (n : ℕ) (ps : List Point) (v : ℕ) (x : Vertex) → find nat_cmp v (named_from planes n ps) ≡ Some x → v < n + length ps
named_below planes n [] v x is = let no : None ≡ Some x = is in absurd (cc)
named_below planes n (p ∷ ps) v x is =
    elim (eq_by_cmp nat_cmp v n) as (λ b. eq_by_cmp nat_cmp v n ≡ b → cond b (Some (let y : Vertex = record { point = p; planes = planes n } in y)) (find nat_cmp v (named_from planes (n + 1) ps)) ≡ Some x → v < n + suc (length ps)) [
      | true ↦ λ on _. let same : v ≡ n = eqb-true v n (sym (unsigned_tied v n) ∙ on) in omega arith
      | false ↦ λ _ h. let later = named_below planes (n + 1) ps v x h in omega arith
    ] refl is

pub start_named : (s : Soup) → AreNamed (length s.points) (start s)
start_named s v x is =
    let lt = named_below (planes_at s.points (start_tris s)) 0 s.points v x (sym (finite.get-from_entries nat_cmp_total (named_from (planes_at s.points (start_tris s)) 0 s.points) v) ∙ is) in
    omega arith

-- ---- through tasks

-- a task leaves each vertex a home, and its name
pub homed_task : (cells : List Cell) (limit : ℕ) (m : Mesh) (t : Task) → AreTiles cells → AreHomed cells m → AreHomed cells (do_task cells limit m t).mesh
homed_task cells limit m t tiles homed =
    each_task (λ v x. home cells x.point < length cells) (λ v x ls has. has) cells tiles (λ v x core to below on has. below (home cells to) on) limit m t homed

pub named_task : (cells : List Cell) (limit n : ℕ) (m : Mesh) (t : Task) → AreTiles cells → AreNamed n m → AreNamed n (do_task cells limit m t).mesh
named_task cells limit n m t tiles named =
    each_task (λ v x. v < n) (λ v x ls has. has) cells tiles (λ v x core to below on has. has) limit m t named
