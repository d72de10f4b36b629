-- What edits change of a fragment, apart from what stays.
use Rattle.std.proofs.Common.{◌≡◌, ℕ, List, sym, ap, ◌∙◌, subst}
use Rattle.half_edge.specs.Meshes.{Faced}
use Rattle.sheet_data.specs.Summed.{SummedVertex}
use Rattle.mesh_edits.specs.declared.fragment.Fragment.TheInside.{Inside}
use Rattle.mesh_edits.specs.Fragments.{ArePartsOf, Fragmented, IsCounted, fragmented, patch_by}
use Rattle.mesh_edits.specs.Simplified.{kept_of}

module _ (i : Inside) (is : IsCounted i.vertices i.halves i.mixed i.rim i.near i.area i.whole) (now : Fragmented) (told : fragmented i.vertices i.halves i.mixed i.near i.area ≡ now) where
  -- its own parts
  pub own_parts : (vs : List SummedVertex) (mesh : Faced) (whole : ℕ) → vs ≡ i.vertices → mesh ≡ i.halves → whole ≡ i.whole → ArePartsOf now vs mesh whole
  own_parts vs mesh whole v h w =
      let own : ArePartsOf now i.vertices i.halves i.whole = subst (λ (f : Fragmented). ArePartsOf f i.vertices i.halves i.whole) told (i.rim, is) in
      subst (λ (us : List SummedVertex). ArePartsOf now us mesh whole) (sym v)
      (subst (λ (k : Faced). ArePartsOf now i.vertices k whole) (sym h)
      (subst (λ (n : ℕ). ArePartsOf now i.vertices i.halves n) (sym w) own))

  pub own_patch : (vs : List SummedVertex) (mesh : Faced) → vs ≡ i.vertices → mesh ≡ i.halves → patch_by vs mesh.tris now.patch.mixed now.patch.near ≡ now.patch
  own_patch vs mesh v h =
      let back = sym told in
      (λ k. patch_by (v k) (h k).tris (back k).patch.mixed (back k).patch.near) ∙ ap (λ (f : Fragmented). f.patch) told

  -- others, with the rim that it has
  pub with_rim : (vs : List SummedVertex) (mesh : Faced) (whole : ℕ) → ArePartsOf now vs mesh whole → IsCounted vs mesh i.mixed i.rim i.near i.area whole
  with_rim vs mesh whole are =
      let here : ArePartsOf (fragmented i.vertices i.halves i.mixed i.near i.area) vs mesh whole = subst (λ (f : Fragmented). ArePartsOf f vs mesh whole) (sym told) are in
      let parts = here.1.parts in
      record {
        parts = record { formed = parts.formed; tris = parts.tris; oriented = parts.oriented; held = parts.held; rim_has = is.parts.rim_has };
        count = here.1.count;
      }

-- parts are those of each fragment with the same rest
pub parts_stay : (f g : Fragmented) (vs : List SummedVertex) (mesh : Faced) (whole : ℕ) → kept_of g ≡ kept_of f → ArePartsOf f vs mesh whole → ArePartsOf g vs mesh whole
parts_stay f g vs mesh whole same are = subst (λ (k : Fragmented). ArePartsOf k vs mesh whole) (sym same) are

-- and put back they make the fragment from which they came
pub back_again : (f g new : Fragmented) (vs : List SummedVertex) (mesh : Faced) → kept_of g ≡ kept_of f → patch_by vs mesh.tris f.patch.mixed f.patch.near ≡ f.patch
    → new.patch ≡ patch_by vs mesh.tris g.patch.mixed g.patch.near → new.area ≡ g.area → new ≡ f
back_again f g new vs mesh same was put area =
    let patch : new.patch ≡ f.patch = put ∙ ap (λ (k : Fragmented). patch_by vs mesh.tris k.patch.mixed k.patch.near) same ∙ was in
    let place = area ∙ ap (λ (k : Fragmented). k.area) same in
    λ j. record { patch = patch j; area = place j }
