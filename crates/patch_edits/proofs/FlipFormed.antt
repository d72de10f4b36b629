-- A flip that is done leaves a well-formed patch well formed.
use Rattle.std.proofs.Common.{◌≡◌, ◌≢◌, ℕ, Bool, true, ◌&&◌, length-append, List, ◌++◌, map, Option, Some, All, sym, ◌∙◌, subst, arith}
use Rattle.std.proofs.lemmas.List.Elements.{All-from_recursion, recursion_from_All}
use Rattle.std.specs.List.{list_all}
use Rattle.std.specs.Option.{option_map_or, option_zip}
use Rattle.oemm_octree.specs.declared.cells.Cell.{Cell}
use Rattle.oemm_octree.specs.Leaves.{in_core}
use Rattle.oemm_octree.proofs.Each.{all_append}
use Rattle.mesh_data.specs.declared.geometry.Tri.{Tri}
use Rattle.mesh_data.specs.Edits.{flipped_tris}
use Rattle.mesh_data.specs.Links.{opposites}
use Rattle.mesh_data.specs.Manifold.{IsTriangleOn}
use Rattle.mesh_data.specs.Triangles.{corners, turned, IsProper}
use Rattle.triangle_edits.proofs.Results.{few_flipped, triangles_flipped}
use Rattle.triangle_edits.proofs.Turns.{apexes_differ}
use Rattle.edit_steps.proofs.Passed.{FlipPassed}
use Rattle.edit_laws.proofs.Stars.{apex_alike}
use Rattle.work_topology.proofs.Kept.{flipped_sorted}
use Rattle.sheet_data.specs.declared.patches.Patch.{Patch}
use Rattle.mesh_sheets.specs.Assembled.{has_name}
use Rattle.mesh_sheets.specs.Written.{patch_tris}
use Rattle.sheet_forms.specs.Formed.{IsPatchFor}
use Rattle.patch_edits.specs.PatchMesh.{mesh_of}
use Rattle.patch_edits.specs.Edits.{flipped_on}
use Rattle.patch_edits.proofs.Formed.{each_of, rec_right, star_whole, triangles}

module _ (cells : List Cell) (core : List ℕ) (p : Patch) (formed : IsPatchFor cells core p) (a b : ℕ) (passed : FlipPassed (in_core cells core) (mesh_of p) a b) where
  abbrev has : ℕ → Bool
  has = has_name p.vertices

  abbrev rim : List Tri
  rim = map (λ x. x.tri) p.mixed

  abbrev ts : List Tri
  ts = (mesh_of p).tris

  abbrev c : ℕ
  c = passed.c

  abbrev d : ℕ
  d = passed.d

  abbrev Shape : Tri → Type 0
  Shape t = IsProper t × (turned t ≡ t)

  cd : c ≢ d
  cd = apexes_differ ts a b c d passed.ends passed.new

  -- the whole triangles at the edge are all triangles at it
  ends : opposites p.whole a b ≡ Some (c, d)
  ends =
      let at_a = apex_alike ts p.whole a b (star_whole cells core p formed a passed.pair.free) in
      let at_b = apex_alike ts p.whole b a (star_whole cells core p formed b passed.pair.onto_free) in
      (λ i. option_zip (sym at_a i) (sym at_b i)) ∙ passed.ends

  new : All (IsTriangleOn (λ w. has w ≡ true)) (flipped_tris a b c d p.whole)
  new = triangles_flipped (λ w. has w ≡ true) a b c d p.whole passed.pair.apart cd ends (triangles cells core p formed)

  formed_turned : IsPatchFor cells core (record p { whole = flipped_tris a b c d p.whole })
  formed_turned = record {
    ascend = formed.ascend;
    below = formed.below;
    homes = formed.homes;
    proper = All-from_recursion Shape (flipped_tris a b c d p.whole ++ rim) (all_append Shape (flipped_tris a b c d p.whole) rim
        (each_of (IsTriangleOn (λ w. has w ≡ true)) Shape (λ t h. (h.proper, h.is_turned)) (flipped_tris a b c d p.whole) new)
        (rec_right Shape p.whole rim (recursion_from_All Shape (patch_tris p) formed.proper)));
    whole = All-from_recursion (λ t. list_all has (corners t) ≡ true) (flipped_tris a b c d p.whole)
        (each_of (IsTriangleOn (λ w. has w ≡ true)) (λ t. list_all has (corners t) ≡ true) (λ t h i. h.a i && (h.b i && (h.c i && true))) (flipped_tris a b c d p.whole) new);
    touch = formed.touch;
    not_whole = formed.not_whole;
    whole_sorted = flipped_sorted a b c d p.whole;
    mixed_sorted = formed.mixed_sorted;
    kept = formed.kept;
    lists = formed.lists;
    outside = formed.outside;
    few = omega (arith, few_flipped a b c d p.whole passed.pair.apart cd ends, formed.few, length-append p.whole rim, length-append (flipped_tris a b c d p.whole) rim);
    planes = formed.planes;
  }

  -- the patch that a flip leaves is well formed
  pub formed_flipped : IsPatchFor cells core (flipped_on p a b)
  formed_flipped =
      subst (λ (o : Option (ℕ × ℕ)). IsPatchFor cells core (option_map_or (λ ends. record p { whole = flipped_tris a b ends.0 ends.1 p.whole }) o p)) (sym passed.ends) formed_turned
