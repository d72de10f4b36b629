-- The faces of a sample by their places.
use Rattle.std.proofs.Common.{◌≡◌, ℕ, zero, suc, ◌+◌, ◌-◌, ◌*◌, ◌/◌, ◌%◌, ◌<◌, ◌≤◌, List, [], ◌∷◌, ◌++◌, length, get_or, Some, refl, ap, sym, subst, ◌∙◌, length-append, arith}
use Rattle.std.specs.List.{flat_map, range_with_len, slice_get}
use Rattle.std.proofs.Math.Nat.{mul-le-mul_right, div-lt_iff_lt-mul}
use Rattle.std.proofs.lemmas.List.{get_or_append_left, get_or-append-add}
use Rattle.std.proofs.lemmas.Option.{slice_get-get_or}
use Rattle.mesh_data.specs.declared.geometry.Tri.{Tri}
use Rattle.oemm_make.specs.Sample.{faces, faces_at}

-- lists of one length, one behind another
length-blocks :
    {A : Type 0} (f : ℕ → List A) (m a n : ℕ) → ((i : ℕ) → length (f i) ≡ m) → length (flat_map f (range_with_len a n)) ≡ n * m
length-blocks f m a zero each = omega arith
length-blocks f m a (suc n) each =
    let rest : length (flat_map f (range_with_len (a + 1) n)) ≡ n * m = length-blocks f m (a + 1) n each in
    length-append (f a) (flat_map f (range_with_len (a + 1) n)) ∙ omega (arith, each a)

-- an item of one of them
at_block :
    {A : Type 0} (f : ℕ → List A) (m a n q r : ℕ) (d : A) → ((i : ℕ) → length (f i) ≡ m) → q < n → r < m →
    get_or (flat_map f (range_with_len a n)) (q * m + r) d ≡ get_or (f (a + q)) r d
at_block f m a zero q r d each inside within = absurd (omega arith)
at_block f m a (suc n) zero r d each inside within =
    let first : zero * m + r ≡ r = omega arith in
    let here : a ≡ a + zero = omega arith in
    ap (λ (k : ℕ). get_or (f a ++ flat_map f (range_with_len (a + 1) n)) k d) first
    ∙ get_or_append_left (f a) (flat_map f (range_with_len (a + 1) n)) d r (omega (arith, each a))
    ∙ ap (λ (i : ℕ). get_or (f i) r d) here
at_block f m a (suc n) (suc q) r d each inside within =
    let later : suc q * m + r ≡ length (f a) + (q * m + r) = omega (arith, each a) in
    let there : a + 1 + q ≡ a + suc q = omega arith in
    ap (λ (k : ℕ). get_or (f a ++ flat_map f (range_with_len (a + 1) n)) k d) later
    ∙ get_or-append-add (f a) (flat_map f (range_with_len (a + 1) n)) (q * m + r) d
    ∙ at_block f m (a + 1) n q r d each (omega arith) within
    ∙ ap (λ (i : ℕ). get_or (f i) r d) there

-- the faces of a row
row_faces : ℕ → ℕ → List Tri
row_faces side row = flat_map (λ column. faces_at side (row * side + column)) (range_with_len 0 (side - 1))

length-row : (side row : ℕ) → length (row_faces side row) ≡ (side - 1) * 2
unfolding row_faces
length-row side row = length-blocks (λ column. faces_at side (row * side + column)) 2 0 (side - 1) (λ i. refl)

pub length-faces : (side : ℕ) → length (faces side) ≡ 2 * (side - 1) * (side - 1)
unfolding faces row_faces
length-faces side = length-blocks (row_faces side) ((side - 1) * 2) 0 (side - 1) (length-row side) ∙ omega arith

-- the face at a place, by its row, its column and which of the two it is
pub face_there :
    (side row column which place : ℕ) (d : Tri) → row < side - 1 → column < side - 1 → which < 2 →
    place ≡ row * ((side - 1) * 2) + (column * 2 + which) →
    get_or (faces side) place d ≡ get_or (faces_at side (row * side + column)) which d
unfolding faces row_faces
face_there side row column which place d inside within either is =
    let first : zero + row ≡ row = omega arith in
    let second : zero + column ≡ column = omega arith in
    ap (λ (k : ℕ). get_or (faces side) k d) is
    ∙ at_block (row_faces side) ((side - 1) * 2) 0 (side - 1) row (column * 2 + which) d (length-row side) inside (omega arith)
    ∙ ap (λ (r : ℕ). get_or (row_faces side r) (column * 2 + which) d) first
    ∙ at_block (λ c. faces_at side (row * side + c)) 2 0 (side - 1) column which d (λ i. refl) within either
    ∙ ap (λ (c : ℕ). get_or (faces_at side (row * side + c)) which d) second

-- the row, the column and which of the two, by the place
pub record AreParts (m place : ℕ) : Type 0 where
  pub row : place / 2 / m < m
  pub column : place / 2 % m < m
  pub whole : place ≡ place / 2 / m * (m * 2) + (place / 2 % m * 2 + place % 2)

pub parts : (m place : ℕ) → 0 < m → place < 2 * m * m → AreParts m place
parts m place some within =
    let half : place / 2 < m * m = omega arith in
    record {
      row = (div-lt_iff_lt-mul some).1 half;
      column = omega arith;
      whole = omega arith;
    }

-- the vertices of a face are there
below : (m row column : ℕ) → row < m → column < m → row * (m + 1) + column + (m + 1) + 1 < (m + 1) * (m + 1)
below m row column inside within =
    let up : suc row * (m + 1) ≤ m * (m + 1) = mul-le-mul_right (m + 1) inside in
    omega arith

pub corners_below :
    (side row column : ℕ) → row < side - 1 → column < side - 1 → row * side + column + side + 1 < side * side
corners_below side row column inside within =
    let whole : side - 1 + 1 ≡ side = omega arith in
    let P : ℕ → Type 0 = λ n. row * n + column + n + 1 < n * n in
    subst P whole (below (side - 1) row column inside within)

-- the face at a place
pub face_is :
    (side place : ℕ) (t : Tri) → 2 ≤ side → place < 2 * (side - 1) * (side - 1) →
    t ≡ get_or (faces_at side (place / 2 / (side - 1) * side + place / 2 % (side - 1))) (place % 2) t →
    slice_get (faces side) place ≡ Some t
face_is side place t least within is =
    let p : AreParts (side - 1) place = parts (side - 1) place (omega arith) within in
    let either : place % 2 < 2 = omega arith in
    let there = face_there side (place / 2 / (side - 1)) (place / 2 % (side - 1)) (place % 2) place t p.row p.column either p.whole in
    slice_get-get_or (faces side) place t (omega (arith, length-faces side)) ∙ ap Some (there ∙ sym is)

-- its vertices
pub corners_there :
    (side place : ℕ) → 2 ≤ side → place < 2 * (side - 1) * (side - 1) →
    place / 2 / (side - 1) * side + place / 2 % (side - 1) + side + 1 < side * side
corners_there side place least within =
    let p : AreParts (side - 1) place = parts (side - 1) place (omega arith) within in
    corners_below side (place / 2 / (side - 1)) (place / 2 % (side - 1)) p.row p.column

-- the face of a square
pub face_of_square :
    (side row column which : ℕ) → row < side - 1 → column < side - 1 → which < 2 →
    slice_get (faces side) (2 * (row * (side - 1) + column) + which) ≡ slice_get (faces_at side (row * side + column)) which
face_of_square side row column which inside within either =
    let d : Tri = record { a = 0; b = 0; c = 0 } in
    let place : ℕ = 2 * (row * (side - 1) + column) + which in
    let is : 2 * (row * (side - 1) + column) + which ≡ row * ((side - 1) * 2) + (column * 2 + which) = omega arith in
    let up : suc row * (side - 1) ≤ (side - 1) * (side - 1) = mul-le-mul_right (side - 1) inside in
    let there = face_there side row column which (2 * (row * (side - 1) + column) + which) d inside within either is in
    slice_get-get_or (faces side) (2 * (row * (side - 1) + column) + which) d (omega (arith, length-faces side))
    ∙ ap Some there
    ∙ sym (slice_get-get_or (faces_at side (row * side + column)) which d either)
