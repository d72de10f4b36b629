-- The leaves that are found are the neighbours.
use Rattle.std.proofs.Common.{◌≡◌, ℕ, Bool, true, false, not, ◌&&◌, eqb, List, map, sym, ap, ◌∙◌, refl, subst}
use Rattle.std.proofs.lemmas.Bool.{eqb-true, eq-eqb}
use Rattle.std.specs.List.{list_any, filter, flat_map}
use Rattle.mesh_data.specs.declared.geometry.Tri.{Tri}
use Rattle.mesh_data.specs.Triangles.{corners}
use Rattle.oemm_lists.specs.Numbers.{among}
use Rattle.triangle_lists.proofs.Candidates.{and_comm}
use Rattle.triangle_lists.proofs.Paths.{eqb_comm}
use Rattle.oemm_octree.specs.Leaves.{is_one_of}
use Rattle.neighbour_index.specs.Neighbours.{is_listed, lives_in, are_neighbours}
use Rattle.neighbour_index.proofs.Any.{any_and, any_swap, any_kept, any_flat}

-- the names that are listed in a leaf
pub own_is : (homes : List (ℕ × ℕ)) (leaf v : ℕ)
    → among v (map (λ h. h.0) (filter (λ h. eqb h.1 leaf) homes)) ≡ is_listed homes leaf v
own_is homes leaf v =
    any_kept (λ n. eqb n v) (λ h. h.0) (λ h. eqb h.1 leaf) homes
    ∙ (λ i. list_any (λ h. and_comm (eqb h.1 leaf) (eqb h.0 v) i) homes)

-- the face has a corner among these names
abbrev pub touches : List ℕ → Tri → Bool
touches names t = list_any (λ v. among v names) (corners t)

pub shared_is : (faces : List Tri) (own : List ℕ) (w : ℕ)
    → among w (flat_map corners (filter (touches own) faces))
    ≡ list_any (λ t. touches own t && among w (corners t)) faces
shared_is faces own w = any_flat (λ n. eqb n w) corners (touches own) faces

and_false : (b : Bool) → (b && false) ≡ false
and_false true = refl
and_false false = refl

and_true : (b : Bool) → (b && true) ≡ b
and_true true = refl
and_true false = refl

-- another leaf, asked from both sides
other_leaf : (a leaf l : ℕ) (s : Bool) → ((not (eqb a leaf) && s) && eqb l a) ≡ (not (eqb leaf l) && (eqb a l && s))
other_leaf a leaf l s =
    elim (eqb l a) as (λ b. eqb l a ≡ b → ((not (eqb a leaf) && s) && b) ≡ (not (eqb leaf l) && (eqb a l && s))) [
      | true ↦ λ same.
          subst (λ (a : ℕ). ((not (eqb a leaf) && s) && true) ≡ (not (eqb leaf l) && (eqb a l && s)))
          (eqb-true l a same)
          (and_true (not (eqb l leaf) && s) ∙ (λ i. not (eqb_comm l leaf i) && (sym (eq-eqb l l refl) i && s)))
      | false ↦ λ apart.
          and_false (not (eqb a leaf) && s)
          ∙ sym ((λ i. not (eqb leaf l) && ((eqb_comm a l ∙ apart) i && s)) ∙ and_false (not (eqb leaf l)))
    ] refl

-- a corner is listed in a leaf where a home there is that of a corner
corner_listed : (homes : List (ℕ × ℕ)) (l : ℕ) (t : Tri)
    → list_any (λ h. eqb h.1 l && among h.0 (corners t)) homes ≡ lives_in homes l t
corner_listed homes l t =
    (λ i. list_any (λ h. sym (any_and (eqb h.1 l) (λ n. eqb n h.0) (corners t)) i) homes)
    ∙ any_swap (λ h n. eqb h.1 l && eqb n h.0) homes (corners t)
    ∙ (λ i. list_any (λ n. list_any (λ h. (and_comm (eqb h.1 l) (eqb n h.0)
    ∙ (λ j. eqb_comm n h.0 j && eqb h.1 l)) i) homes) (corners t))

pull : (a b c : Bool) → (a && (b && c)) ≡ (b && (a && c))
pull true b c = refl
pull false b c = sym (and_false b)

module _ (homes : List (ℕ × ℕ)) (faces : List Tri) (leaf : ℕ) (own shared : List ℕ)
    (owns : (v : ℕ) → among v own ≡ is_listed homes leaf v)
    (shares : (w : ℕ) → among w shared ≡ list_any (λ t. touches own t && among w (corners t)) faces) where
  touches_is : (t : Tri) → touches own t ≡ lives_in homes leaf t
  touches_is t = λ i. list_any (λ v. owns v i) (corners t)

  at_face : (l : ℕ) (t : Tri) → list_any (λ h. eqb h.1 l && (touches own t && among h.0 (corners t))) homes
      ≡ (lives_in homes leaf t && lives_in homes l t)
  at_face l t =
      (λ i. list_any (λ h. pull (eqb h.1 l) (touches own t) (among h.0 (corners t)) i) homes)
      ∙ any_and (touches own t) (λ h. eqb h.1 l && among h.0 (corners t)) homes
      ∙ (λ i. touches_is t i && corner_listed homes l t i)

  listed_shared : (l : ℕ) → list_any (λ h. eqb h.1 l && among h.0 shared) homes
      ≡ list_any (λ t. lives_in homes leaf t && lives_in homes l t) faces
  listed_shared l =
      (λ i. list_any (λ h. eqb h.1 l && shares h.0 i) homes)
      ∙ (λ i. list_any (λ h. sym (any_and (eqb h.1 l) (λ t. touches own t && among h.0 (corners t)) faces) i) homes)
      ∙ any_swap (λ h t. eqb h.1 l && (touches own t && among h.0 (corners t))) homes faces
      ∙ (λ i. list_any (λ t. at_face l t i) faces)

  -- the other leaves of the names that share a face with one of the leaf's
  pub near_is : (l : ℕ) → is_one_of (map (λ h. h.1)
      (filter (λ h. not (eqb h.1 leaf) && among h.0 shared) homes)) l ≡ are_neighbours faces homes leaf l
  near_is l =
      any_kept (λ m. eqb l m) (λ h. h.1) (λ h. not (eqb h.1 leaf) && among h.0 shared) homes
      ∙ (λ i. list_any (λ h. other_leaf h.1 leaf l (among h.0 shared) i) homes)
      ∙ any_and (not (eqb leaf l)) (λ h. eqb h.1 l && among h.0 shared) homes
      ∙ ap (λ (b : Bool). not (eqb leaf l) && b) (listed_shared l)
