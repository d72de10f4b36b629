-- A copy of half-edges is the mesh that they are.
use Rattle.std.proofs.Common.{◌≡◌, ℕ, [], ◌∷◌, Option, Some, None, sym, ap, ◌∙◌, refl, subst}
use Rattle.std.specs.BTreeMap.{BTreeMap, is_at, keys}
use Rattle.std.specs.List.{AllZip}
use Rattle.std.specs.Map.{lookup, keys_of}
use Rattle.std.specs.Ordering.{nat_cmp}
use Rattle.slab.specs.Slab.{IsSlotClone}
use Rattle.half_edge.specs.declared.surgery.Half.{Half}
use Rattle.half_edge.specs.Halves.{Slots, faces_of}
use Rattle.half_edge.specs.Meshes.{Faced, out_at, IsMesh}

same_slot : (C : Half → Half → Type 0) → ((h i : Half) → C h i → i ≡ h) → (x y : Option Half) → IsSlotClone C x y →
    y ≡ x
same_slot C same None y is = is
same_slot C same (Some h) None is = absurd is
same_slot C same (Some h) (Some i) is = ap (λ (j : Half). Some j) (same h i is)

-- half-edges whose clones are equal to them, under the same keys
pub same_slots : (C : Half → Half → Type 0) → ((h i : Half) → C h i → i ≡ h) → (s t : Slots) →
    AllZip (IsSlotClone C) s t → t ≡ s
same_slots C same [] [] all = refl
same_slots C same [] (y ∷ t) all = absurd all
same_slots C same (x ∷ s) [] all = absurd all
same_slots C same (x ∷ s) (y ∷ t) all = λ i. same_slot C same x y all.0 i ∷ same_slots C same s t all.1 i

pub mesh_copied : (s t : Slots) (m n : BTreeMap ℕ ℕ) → t ≡ s → n.entries ≡ m.entries → IsMesh s m → IsMesh t n
mesh_copied s t m n slots entries mesh =
    subst (λ (x : Slots). IsMesh x n) (sym slots)
    (record {
      sound = mesh.sound;
      oriented = mesh.oriented;
      fit = λ v k here. mesh.fit v k (key v ∙ here);
      ringed = λ v k here. mesh.ringed v k (key v ∙ here);
    })
  where
    key : (v : ℕ) → out_at m v ≡ out_at n v
    key v = sym (ap (lookup (is_at (nat_cmp v))) entries)

pub faced_copied : (s t : Slots) (m n : BTreeMap ℕ ℕ) (f : Faced) → t ≡ s → n.entries ≡ m.entries →
    record { tris = faces_of s; held = keys m } ≡ f → record { tris = faces_of t; held = keys n } ≡ f
faced_copied s t m n f slots entries is = (λ i. record { tris = faces_of (slots i); held = keys_of (entries i) }) ∙ is
