-- Held and free names of a well-formed patch, by its vertices and its mixed triangles.
use Rattle.std.proofs.Common.{◌≡◌, ℕ, Bool, true, false, cond, not, ◌&&◌, ◌||◌, eqb, length, List, [], ◌∷◌, sym, ap, ◌∙◌, refl, subst}
use Rattle.std.proofs.lemmas.Bool.{and_from, and_parts, both_ways, or_parts}
use Rattle.std.proofs.lemmas.List.Elements.{recursion_from_All}
use Rattle.std.specs.List.{filter, flat_map, list_all, list_any, AllByRecursion}
use Rattle.oemm_octree.specs.declared.cells.Cell.{Cell}
use Rattle.oemm_octree.specs.declared.points.Point.{Point}
use Rattle.oemm_octree.specs.Leaves.{AreBelow, AreTiles, in_core}
use Rattle.oemm_octree.specs.Octree.{area_of, is_inside}
use Rattle.oemm_octree.proofs.Tilings.{area_is_core}
use Rattle.mesh_data.specs.declared.geometry.Tri.{Tri}
use Rattle.mesh_data.specs.Edits.{is_free, is_held}
use Rattle.mesh_data.specs.Triangles.{corners, has_corner, neighbours, star}
use Rattle.edit_laws.proofs.Locality.{all_agree}
use Rattle.edit_laws.proofs.Stars.{neighbours_alike}
use Rattle.sheet_data.specs.declared.patches.Mixed.{Mixed}
use Rattle.sheet_data.specs.declared.patches.Patch.{Patch}
use Rattle.mesh_sheets.specs.Assembled.{has_name}
use Rattle.sheet_forms.specs.Formed.{IsPatchFor}
use Rattle.patch_edits.specs.PatchMesh.{mesh_of}
use Rattle.patch_edits.proofs.Formed.{held_on, mixed_away, star_away, star_whole}

none_each : {X : Type 0} (q : X → Bool) (xs : List X) → list_any q xs ≡ false → AllByRecursion (λ x. q x ≡ false) xs
none_each q [] h = tt
none_each q (x ∷ xs) h = let parts = or_parts (q x) (list_any q xs) h in (parts.0, none_each q xs parts.1)

each_none : {X : Type 0} (q : X → Bool) (xs : List X) → AllByRecursion (λ x. q x ≡ false) xs → list_any q xs ≡ false
each_none q [] all = refl
each_none q (x ∷ xs) all = λ i. all.0 i || each_none q xs all.1 i

all_kept : (q p : ℕ → Bool) (ns : List ℕ) → list_all q ns ≡ true → list_all q (filter p ns) ≡ true
all_kept q p [] h = refl
all_kept q p (n ∷ ns) h =
    let parts = and_parts (q n) (list_all q ns) h in
    let rest = all_kept q p ns parts.1 in
    elim (p n) as (λ b. list_all q (cond b (n ∷ filter p ns) (filter p ns)) ≡ true) [ true ↦ and_from (q n) (list_all q (filter p ns)) parts.0 rest | false ↦ rest ]

all_corners : (q : ℕ → Bool) (u : ℕ) (ts : List Tri) → AllByRecursion (λ t. list_all q (corners t) ≡ true) ts → list_all q (flat_map corners (star u ts)) ≡ true
all_corners q u [] all = refl
all_corners q u (t ∷ ts) all =
    let rest = all_corners q u ts all.1 in
    let a = and_parts (q t.a) (q t.b && (q t.c && true)) all.0 in
    let b = and_parts (q t.b) (q t.c && true) a.1 in
    let c = and_parts (q t.c) true b.1 in
    elim (has_corner u t) as (λ b. list_all q (flat_map corners (cond b (t ∷ star u ts) (star u ts))) ≡ true) [
      | true ↦ λ i. a.0 i && (b.0 i && (c.0 i && rest i))
      | false ↦ rest
    ]

module _ (cells : List Cell) (core : List ℕ) (p : Patch) (formed : IsPatchFor cells core p) where
  abbrev inside : Point → Bool
  inside = in_core cells core

  abbrev has : ℕ → Bool
  has = has_name p.vertices

  abbrev on_rim : ℕ → Bool
  on_rim u = list_any (λ (x : Mixed). has_corner u x.tri) p.mixed

  free_of_away : (u : ℕ) → is_held inside (mesh_of p) u ≡ true → on_rim u ≡ false → is_free inside (mesh_of p) u ≡ true
  free_of_away u on out =
      let away = none_each (λ (x : Mixed). has_corner u x.tri) p.mixed out in
      let round = all_kept has (λ w. not (eqb w u)) (flat_map corners (star u p.whole)) (all_corners has u p.whole (recursion_from_All (λ t. list_all has (corners t) ≡ true) p.whole formed.whole)) in
      and_from (is_held inside (mesh_of p) u) (list_all (is_held inside (mesh_of p)) (neighbours u (mesh_of p).tris)) on
      (ap (list_all (is_held inside (mesh_of p))) (neighbours_alike u (mesh_of p).tris p.whole (star_away cells core p formed u away))
      ∙ all_agree (is_held inside (mesh_of p)) has (neighbours u p.whole) (λ w _. held_on cells core p formed w)
      ∙ round)

  -- a held name is free exactly where no mixed triangle has it
  pub free_is : (u : ℕ) → is_held inside (mesh_of p) u ≡ true → is_free inside (mesh_of p) u ≡ not (on_rim u)
  free_is u on =
      elim (on_rim u) as (λ b. on_rim u ≡ b → is_free inside (mesh_of p) u ≡ not b) [
        | true ↦ λ some. elim (is_free inside (mesh_of p) u) as (λ c. is_free inside (mesh_of p) u ≡ c → c ≡ false) [
          | true ↦ λ free. absurd (both_ways (on_rim u) (each_none (λ (x : Mixed). has_corner u x.tri) p.mixed (mixed_away cells core p formed u free)) some)
          | false ↦ λ _. refl
        ] refl
        | false ↦ λ none. free_of_away u on none
      ] refl

-- ---- by the cells of the core

pub held_on_core : (cells : List Cell) (core : List ℕ) (p : Patch) (v : ℕ) → AreTiles cells → AreBelow (length cells) core → IsPatchFor cells core p
    → is_held (is_inside (area_of cells core)) (mesh_of p) v ≡ has_name p.vertices v
held_on_core cells core p v tiles below formed =
    subst (λ (area : Point → Bool). is_held area (mesh_of p) v ≡ has_name p.vertices v) (sym (area_is_core cells core tiles below)) (held_on cells core p formed v)

pub free_on_core : (cells : List Cell) (core : List ℕ) (p : Patch) (v : ℕ) → AreTiles cells → AreBelow (length cells) core → IsPatchFor cells core p
    → is_held (is_inside (area_of cells core)) (mesh_of p) v ≡ true
    → is_free (is_inside (area_of cells core)) (mesh_of p) v ≡ not (list_any (λ x. has_corner v x.tri) p.mixed)
free_on_core cells core p v tiles below formed =
    subst (λ (area : Point → Bool). is_held area (mesh_of p) v ≡ true → is_free area (mesh_of p) v ≡ not (list_any (λ x. has_corner v x.tri) p.mixed)) (sym (area_is_core cells core tiles below))
    (free_is cells core p formed v)

pub star_on_core : (cells : List Cell) (core : List ℕ) (p : Patch) (v : ℕ) → AreTiles cells → AreBelow (length cells) core → IsPatchFor cells core p
    → is_free (is_inside (area_of cells core)) (mesh_of p) v ≡ true → star v (mesh_of p).tris ≡ star v p.whole
star_on_core cells core p v tiles below formed =
    subst (λ (area : Point → Bool). is_free area (mesh_of p) v ≡ true → star v (mesh_of p).tris ≡ star v p.whole) (sym (area_is_core cells core tiles below))
    (star_whole cells core p formed v)
