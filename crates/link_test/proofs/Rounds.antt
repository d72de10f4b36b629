-- The steps of a closed ring: each name follows the one before it, and the first the last.
use Rattle.std.proofs.Common.{◌≡◌, ◌≢◌, ℕ, zero, suc, ◌+◌, ◌-◌, ◌<◌, ◌≤◌, true, false, eqb, List, [], ◌∷◌, length, get_or, Some, None, sym, ap, ◌∙◌, refl, arith, inl, inr}
use Rattle.std.proofs.lemmas.Bool.{or_left, or_right, ne_eqb, cases_lt}
use Rattle.std.proofs.lemmas.Option.{get_or_from_slice_get, slice_get-get_or}
use Rattle.std.proofs.lemmas.List.{get_or_default}
use Rattle.std.proofs.lemmas.List.Folds.{list_any_none}
use Rattle.std.specs.List.{slice_get}
use Rattle.mesh_data.specs.declared.geometry.Edge.{Edge}
use Rattle.mesh_data.specs.Rings.{has_path_edge}
use Rattle.mesh_data.specs.Triangles.{same_edge}
use Rattle.triangle_lists.proofs.Walks.{step, steps_to, steps_closed, same_itself}
use Rattle.oemm_lists.specs.Numbers.{among}
use Rattle.link_test.specs.Links.{follows}

-- along the way
along : (home x : ℕ) (ns : List ℕ) (k : ℕ) → k < length ns → has_path_edge (steps_to true home x ns) (step (get_or (x ∷ ns) k 0) (get_or ns k 0)) ≡ true
along home x [] k lt = absurd (omega arith)
along home x (y ∷ ns) zero lt = or_left (same_edge (step x y) (step x y)) _ (same_itself (step x y))
along home x (y ∷ ns) (suc k) lt = or_right (same_edge (step (get_or (y ∷ ns) k 0) (get_or ns k 0)) (step x y)) _ (along home y ns k (omega (arith, lt)))

-- back home
home_again : (home x : ℕ) (ns : List ℕ) → has_path_edge (steps_to true home x ns) (step (get_or (x ∷ ns) (length ns) 0) home) ≡ true
home_again home x [] = or_left (same_edge (step x home) (step x home)) _ (same_itself (step x home))
home_again home x (y ∷ ns) = or_right (same_edge (step (get_or (y ∷ ns) (length ns) 0) home) (step x y)) _ (home_again home y ns)

-- the last of these names
abbrev pub last_of : List ℕ → ℕ
last_of ring = get_or ring (length ring - 1) 0

pub follows_last : (ring : List ℕ) (last k : ℕ) → last ≡ last_of ring → k < length ring → follows ring (get_or (last ∷ ring) k 0) (get_or ring k 0) ≡ true
follows_last [] last k is lt = absurd (omega arith)
follows_last (x ∷ ns) last zero is lt =
    let end : last ≡ get_or (x ∷ ns) (length ns) 0 = is ∙ ap (λ (n : ℕ). get_or (x ∷ ns) n 0) (let e : length (x ∷ ns) - 1 ≡ length ns = omega arith in e) in
    (λ i. has_path_edge (steps_closed x x ns i) (step (end i) x)) ∙ home_again x x ns
follows_last (x ∷ ns) last (suc k) is lt =
    ap (λ (es : List Edge). has_path_edge es (step (get_or (x ∷ ns) k 0) (get_or ns k 0))) (steps_closed x x ns) ∙ along x x ns k (omega (arith, lt))

-- the last name, as `last` gives it
pub last_told : (ring : List ℕ) (x : ℕ) → Some x ≡ slice_get ring (length ring - 1) → x ≡ last_of ring
last_told ring x is = sym (get_or_from_slice_get ring (length ring - 1) x 0 (sym is))

pub none_told : (ring : List ℕ) (v : ℕ) → None ≡ slice_get ring (length ring - 1) → among v ring ≡ false
none_told [] v is = refl
none_told (n ∷ ns) v is = absurd (let there : slice_get (n ∷ ns) (length (n ∷ ns) - 1) ≡ Some (get_or (n ∷ ns) (length (n ∷ ns) - 1) 0) = slice_get-get_or (n ∷ ns) (length (n ∷ ns) - 1) 0 (omega arith) in cc)

-- where no name is v
pub not_among : (ring : List ℕ) (v i : ℕ) → length ring ≤ i → ((k : ℕ) → k < i → get_or ring k 0 ≢ v) → among v ring ≡ false
not_among ring v i past none =
    list_any_none (λ n. eqb n v) ring (λ k d lt. ne_eqb (get_or ring k d) v (λ e. none k (omega (arith, lt, past)) (sym (get_or_default ring k d 0 lt) ∙ e)))

-- and no name but the last, nor that
pub not_among_later : (ring : List ℕ) (last v i : ℕ) → last ≡ last_of ring → length ring ≤ i → ((k : ℕ) → k < i → get_or (last ∷ ring) k 0 ≢ v) → among v ring ≡ false
not_among_later [] last v i is past none = refl
not_among_later (x ∷ xs) last v i is past none =
    let ring = x ∷ xs in
    not_among ring v (length ring) (omega arith) (λ k lt e. elim (cases_lt (k + 1) (length ring)) [
      | inl more ↦ none (suc k) (omega (arith, more, past)) e
      | inr end ↦ none 0 (omega (arith, past)) (is ∙ ap (λ (n : ℕ). get_or ring n 0) (let n : length ring - 1 ≡ k = omega (arith, end, lt) in n) ∙ e)
    ])
