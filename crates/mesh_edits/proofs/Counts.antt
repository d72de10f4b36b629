-- How many triangles a patch has.
use Rattle.std.proofs.Common.{◌≡◌, ◌+◌, ◌≤◌, ◌&&◌, true, List, length, length-append, map, sym, ap, ◌∙◌, arith}
use Rattle.std.proofs.lemmas.List.{length-map}
use Rattle.std.proofs.lemmas.List.Elements.{filter_agree}
use Rattle.std.proofs.lemmas.List.Sums.{length-filter}
use Rattle.std.specs.List.{list_all}
use Rattle.oemm_limits.specs.declared.TheConstants.{MOST_ITEMS}
use Rattle.oemm_octree.specs.declared.cells.Cell.{Cell}
use Rattle.oemm_octree.specs.Octree.{is_inside}
use Rattle.mesh_data.specs.declared.geometry.Tri.{Tri}
use Rattle.mesh_data.specs.Edits.{is_held, whole_count}
use Rattle.mesh_data.specs.Triangles.{corners, tri_cmp}
use Rattle.triangle_edits.proofs.Results.{length-in_order}
use Rattle.sheet_data.specs.declared.patches.Mixed.{Mixed}
use Rattle.sheet_data.specs.declared.patches.Patch.{Patch}
use Rattle.mesh_sheets.specs.Written.{patch_tris}
use Rattle.patch_edits.specs.PatchMesh.{mesh_of}
use Rattle.mesh_edits.specs.Fragments.{IsPatchOn}
use Rattle.mesh_edits.proofs.On.{held_on}
use Rattle.mesh_edits.proofs.Settled.{whole_by, whole_told}

-- the triangles of its mesh are whole or mixed
pub tris_count : (p : Patch) → length (mesh_of p).tris ≡ length p.whole + length p.mixed
tris_count p = omega (
  arith,
  length-in_order tri_cmp (patch_tris p),
  length-append p.whole (map (λ (x : Mixed). x.tri) p.mixed),
  length-map p.mixed (λ (x : Mixed). x.tri),
)

module _ (area : List Cell) (p : Patch) (on : IsPatchOn area p) where
  -- those with three held names are the whole ones
  pub whole_counted : whole_count (is_inside area) (mesh_of p) ≡ length p.whole
  whole_counted =
      let held = held_on area p on in
      sym (length-filter (λ t. list_all (is_held (is_inside area) (mesh_of p)) (corners t)) (mesh_of p).tris)
      ∙ ap (λ (ts : List Tri). length ts) (filter_agree (λ t. list_all (is_held (is_inside area) (mesh_of p)) (corners t)) (whole_by p.vertices) (λ t. λ i. held t.a i && (held t.b i && (held t.c i && true))) (mesh_of p).tris
      ∙ whole_told on.cells on.core p on.formed)

  -- and there are no more than a mesh has
  pub few_counted : length p.whole + length p.mixed ≤ MOST_ITEMS
  few_counted = omega (
    arith,
    on.formed.few,
    length-append p.whole (map (λ (x : Mixed). x.tri) p.mixed),
    length-map p.mixed (λ (x : Mixed). x.tri),
  )

  pub few_tris : length (mesh_of p).tris ≤ MOST_ITEMS
  few_tris = omega (arith, tris_count p, few_counted)
