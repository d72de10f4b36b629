-- Names with their homes, and what is found among them.
use Rattle.std.proofs.Common.{◌≡◌, ℕ, zero, suc, ◌<◌, Bool, true, false, cond, ◌||◌, eqb, find, List, [], ◌∷◌, length, map, get_or, Some, Result, is_ok, sym, ap, ◌∙◌, refl, arith}
use Rattle.std.proofs.lemmas.Bool.{ne_eqb, false≢true}
use Rattle.std.proofs.lemmas.List.{get_or-map, length-map}
use Rattle.std.proofs.lemmas.List.Kept.{AllPairs-from_increasing}
use Rattle.std.specs.List.Sorted.{IsBinarySearchResult, IsSearchInRange, IsStrictlyIncreasing}
use Rattle.std.specs.Cmp.{unsigned_tied}
use Rattle.std.specs.Option.{option_map_or}
use Rattle.std.specs.Ordering.{is_eq, nat_cmp}
use Rattle.std.specs.declared.cmp.Ordering.TheVariants.{Equal}
use Rattle.std.proofs.lemmas.Bool.{eqb-true}
use Rattle.oemm_lists.specs.Numbers.{among}
use Rattle.oemm_lists.proofs.Searches.{ascending_rises, found_by}
use Rattle.oemm_octree.specs.declared.cells.Cell.{Cell}
use Rattle.oemm_octree.specs.Leaves.{home}
use Rattle.sheet_data.specs.Summed.{SummedVertex}
use Rattle.triangle_lists.proofs.Paths.{eqb_comm}
use Rattle.mesh_sheets.specs.Written.{leaf_by}
use Rattle.write_back.specs.Homes.{leaf_in}

-- a name that none of the first i has, and the next one has
leaf_here : (homes : List (ℕ × ℕ)) (none v i : ℕ) (d : ℕ × ℕ) → ((k : ℕ) → k < i → eqb v (get_or homes k d).0 ≡ false)
    → i < length homes → eqb v (get_or homes i d).0 ≡ true → leaf_in homes none v ≡ (get_or homes i d).1
leaf_here [] none v i d before lt is = absurd (omega arith)
leaf_here (h ∷ homes) none v zero d before lt is =
    ap (λ (b : Bool). option_map_or (λ (h : ℕ × ℕ). h.1) (cond b (Some h) (find (λ h. eqb v h.0) homes)) none) is
leaf_here (h ∷ homes) none v (suc i) d before lt is =
    ap (λ (b : Bool). option_map_or (λ (h : ℕ × ℕ). h.1) (cond b (Some h) (find (λ h. eqb v h.0) homes)) none)
    (before 0 (omega arith))
    ∙ leaf_here homes none v i d (λ k below. before (suc k) (omega arith)) (omega arith) is

leaf_none : (homes : List (ℕ × ℕ)) (none v : ℕ) → among v (map (λ h. h.0) homes) ≡ false → leaf_in homes none v ≡ none
leaf_none [] none v out = refl
leaf_none (h ∷ homes) none v out =
    elim (eqb h.0 v) as (λ b. eqb h.0 v ≡ b → (b || among v (map (λ h. h.0) homes)) ≡ false
    → leaf_in (h ∷ homes) none v ≡ none) [
      | true ↦ λ _ no. absurd (false≢true (sym no))
      | false ↦ λ off rest.
          ap (λ (b : Bool). option_map_or (λ (h : ℕ × ℕ). h.1) (cond b (Some h) (find (λ h. eqb v h.0) homes)) none)
          (eqb_comm v h.0 ∙ off)
          ∙ leaf_none homes none v rest
    ] refl out

-- where a search by the name among ascending names ends with a place
pub leaf_found : (homes : List (ℕ × ℕ)) (none v i : ℕ) (d : ℕ × ℕ) → IsStrictlyIncreasing (map (λ h. h.0) homes)
    → i < length homes → nat_cmp (get_or homes i d).0 v ≡ Equal → leaf_in homes none v ≡ (get_or homes i d).1
leaf_found homes none v i d up lt tied =
    let names = map (λ (h : ℕ × ℕ). h.0) homes in
    let name : (k : ℕ) → k < length homes → get_or names k d.0 ≡ (get_or homes k d).0 = λ k below. get_or-map (λ (h : ℕ × ℕ). h.0) homes k d d.0 below in
    let same : eqb (get_or homes i d).0 v ≡ true = sym (unsigned_tied (get_or homes i d).0 v) ∙ ap is_eq tied in
    let long : length names ≡ length homes = length-map homes (λ (h : ℕ × ℕ). h.0) in
    let is : (get_or homes i d).0 ≡ v = eqb-true (get_or homes i d).0 v same in
    leaf_here homes none v i d
    (λ k below.
    let low : get_or names k d.0 < get_or names i d.0 = AllPairs-from_increasing names up k i d.0 below (omega (arith, lt, long)) in
    ne_eqb v (get_or homes k d).0 (λ e. omega (arith, low, is, e, name k (omega (arith, below, lt)), name i lt)))
    lt (eqb_comm v (get_or homes i d).0 ∙ same)

-- where it ends without one
pub leaf_missing : (homes : List (ℕ × ℕ)) (none v : ℕ) (r : Result ℕ ℕ) → IsStrictlyIncreasing (map (λ h. h.0) homes)
    → IsSearchInRange r (length homes) → IsBinarySearchResult (λ y. nat_cmp y.0 v) homes r → is_ok r ≡ false
    → leaf_in homes none v ≡ none
leaf_missing homes none v r up range at lost =
    leaf_none homes none v (sym (found_by (λ (h : ℕ × ℕ). h.0) homes v r (ascending_rises _ up) range at) ∙ lost)

-- the leaf of a name by the vertices is that by their names and homes
pub leaf_is : (cells : List Cell) (none : ℕ) (vs : List SummedVertex) (v : ℕ) → none ≡ length cells
    → leaf_in (map (λ x. (x.name, home cells x.point)) vs) none v ≡ leaf_by cells vs v
leaf_is cells none [] v is = is
leaf_is cells none (x ∷ vs) v is =
    elim (eqb v x.name) as (λ b.
    option_map_or (λ (h : ℕ × ℕ). h.1)
    (cond b (Some (x.name, home cells x.point)) (find (λ h. eqb v h.0) (map (λ x. (x.name, home cells x.point)) vs))) none
    ≡ option_map_or (λ (x : SummedVertex). home cells x.point) (cond b (Some x) (find (λ x. eqb v x.name) vs)) (length cells)) [
      | true ↦ refl
      | false ↦ leaf_is cells none vs v is
    ]
