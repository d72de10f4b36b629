-- The neighbours of a leaf by the triangles from its corners are those by all triangles.
use Rattle.std.proofs.Common.{◌≡◌, ℕ, Bool, true, false, not, ◌&&◌, ◌||◌, eqb, List, [], ◌∷◌, map, ap, ◌∙◌, refl}
use Rattle.std.proofs.lemmas.Bool.{eqb-true, eq-eqb, or_left, or_right}
use Rattle.std.specs.List.{AllByRecursion, filter, flat_map, list_any}
use Rattle.oemm_lists.specs.Numbers.{among}
use Rattle.oemm_octree.specs.Leaves.{is_one_of}
use Rattle.mesh_data.specs.declared.geometry.Tri.{Tri}
use Rattle.mesh_data.specs.Triangles.{corners}
use Rattle.triangle_lists.proofs.Paths.{eqb_comm}
use Rattle.neighbour_index.specs.Neighbours.{are_neighbours, is_listed, lives_in}
use Rattle.neighbour_index.proofs.Any.{any_kept}
use Rattle.mesh_sheets.proofs.Filters.{IsMember, all_weaker, members}
use Rattle.write_back.specs.Homes.{at_corners, leaf_in, with_homes}
use Rattle.write_back.proofs.Truths.{at_one, taken_out}

module _ (homes : List (ℕ × ℕ)) (none : ℕ) where
  abbrev k : ℕ → ℕ
  k v = leaf_in homes none v

  abbrev listed : List Tri → List (ℕ × ℕ)
  listed ts = flat_map (with_homes homes none) ts

  -- the triangle has a corner in the leaf
  abbrev pub lives : ℕ → Tri → Bool
  lives l t = is_one_of (map k (corners t)) l

  here : (a v m : ℕ) → (eqb a v && eqb (k a) m) ≡ (eqb a v && eqb (k v) m)
  here a v m =
      elim (eqb a v) as (λ b. eqb a v ≡ b → (b && eqb (k a) m) ≡ (b && eqb (k v) m)) [
        | true ↦ λ on. ap (λ (n : ℕ). eqb (k n) m) (eqb-true a v on)
        | false ↦ λ _. refl
      ] refl

  listed_is : (ts : List Tri) (m v : ℕ)
      → is_listed (listed ts) m v ≡ (list_any (λ t. among v (corners t)) ts && eqb (k v) m)
  listed_is [] m v = refl
  listed_is (t ∷ ts) m v =
      let first = here t.a v m in
      let second = here t.b v m in
      let third = here t.c v m in
      let rest = listed_is ts m v in
      (λ i. first i || (second i || (third i || rest i)))
      ∙ taken_out (eqb t.a v) (eqb t.b v) (eqb t.c v) (list_any (λ t. among v (corners t)) ts) (eqb (k v) m)

  listed_corner : (ts : List Tri) (t : Tri) (m v : ℕ) → IsMember ts t → among v (corners t) ≡ true
      → is_listed (listed ts) m v ≡ eqb m (k v)
  listed_corner ts t m v on is =
      listed_is ts m v ∙ ap (λ (b : Bool). b && eqb (k v) m) (on (λ s. among v (corners s)) is) ∙ eqb_comm (k v) m

  lives_is : (ts : List Tri) (t : Tri) (m : ℕ) → IsMember ts t → lives_in (listed ts) m t ≡ lives m t
  lives_is ts t m on =
      let yes : (v : ℕ) → eqb v v ≡ true = λ v. eq-eqb v v refl in
      let first = listed_corner ts t m t.a on (or_left (eqb t.a t.a) _ (yes t.a)) in
      let second = listed_corner ts t m t.b on (or_right (eqb t.a t.b) _ (or_left (eqb t.b t.b) _ (yes t.b))) in
      let third = listed_corner ts t m t.c on (or_right (eqb t.a t.c) _ (or_right (eqb t.b t.c) _ (or_left (eqb t.c t.c) _ (yes t.c)))) in
      λ i. first i || (second i || (third i || false))

  any_agree_each : (p q : Tri → Bool) (ts : List Tri) → AllByRecursion (λ t. p t ≡ q t) ts → list_any p ts ≡ list_any q ts
  any_agree_each p q [] all = refl
  any_agree_each p q (t ∷ ts) all =
      let first = all.0 in
      let rest = any_agree_each p q ts all.1 in
      λ i. first i || rest i

  -- a triangle with a corner in the leaf stands among those from its corners
  from_corners : (leaf l : ℕ) (ts : List Tri)
      → list_any (λ x. eqb x.0 leaf && (lives leaf x.1 && lives l x.1)) (flat_map (at_corners homes none) ts)
      ≡ list_any (λ t. lives leaf t && lives l t) ts
  from_corners leaf l [] = refl
  from_corners leaf l (t ∷ ts) =
      let q = lives leaf t && lives l t in
      let first = eqb_comm (k t.a) leaf in
      let second = eqb_comm (k t.b) leaf in
      let third = eqb_comm (k t.c) leaf in
      let rest = from_corners leaf l ts in
      (λ i. (first i && q) || ((second i && q) || ((third i && q) || rest i)))
      ∙ at_one (eqb leaf (k t.a)) (eqb leaf (k t.b)) (eqb leaf (k t.c)) (lives l t)
      (list_any (λ t. lives leaf t && lives l t) ts)

  pub near_by_own : (leaf l : ℕ) (ts : List Tri) (own : List (ℕ × Tri))
      → own ≡ filter (λ x. eqb x.0 leaf) (flat_map (at_corners homes none) ts)
      → are_neighbours (map (λ x. x.1) own) (listed (map (λ x. x.1) own)) leaf l
      ≡ (not (eqb leaf l) && list_any (λ t. lives leaf t && lives l t) ts)
  near_by_own leaf l ts own is =
      let us = map (λ (x : ℕ × Tri). x.1) own in
      let both : Tri → Bool = λ t. lives leaf t && lives l t in
      ap (λ (b : Bool). not (eqb leaf l) && b) (
      any_agree_each (λ t. lives_in (listed us) leaf t && lives_in (listed us) l t) both us
      (all_weaker (IsMember us) (λ t. (lives_in (listed us) leaf t && lives_in (listed us) l t) ≡ both t)
      (λ t on i. lives_is us t leaf on i && lives_is us t l on i) us (members us))
      ∙ ap (λ (xs : List (ℕ × Tri)). list_any both (map (λ x. x.1) xs)) is
      ∙ any_kept both (λ (x : ℕ × Tri). x.1) (λ x. eqb x.0 leaf) (flat_map (at_corners homes none) ts)
      ∙ from_corners leaf l ts)
