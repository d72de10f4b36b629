-- The leaves that have a vertex, one after another.
use Rattle.std.proofs.Common.{◌≡◌, ◌⊎◌, inl, inr, ℤ, ℕ, zero, suc, ◌+◌, ◌-◌, ◌<◌, ◌≤◌, Bool, true, false, cond, nat_lt, eqb, ◌||◌, List, [], ◌∷◌, ◌++◌, length, get_or, map, refl, sym, ap, ◌∙◌, subst, arith, lt-ltb, append_assoc, append-nil, Option, Some, Result, Ok, Err}
use Rattle.std.specs.List.{filter, list_any, range_with_len}
use Rattle.std.proofs.lemmas.Bool.{eqb-true, or_left, or_right, or_cases}
use Rattle.std.proofs.lemmas.List.{length-map}
use Rattle.std.specs.FinMap as finite
use Rattle.oemm_lists.specs.Ascending.{IsAboveLast}
use Rattle.oemm_octree.specs.declared.cells.Cell.{Cell}
use Rattle.oemm_octree.specs.Leaves.{AreBelow, home, is_one_of}
use Rattle.mesh_data.specs.declared.geometry.Vertex.{Vertex}
use Rattle.mesh_data.specs.declared.edits.Edit.TheVariants.{Simplify}
use Rattle.mesh_data.specs.declared.edits.Entry.{Entry}
use Rattle.mesh_data.specs.declared.edits.Script.{Script}
use Rattle.mesh_data.specs.Mesh.{Mesh}
use Rattle.sheet_data.specs.declared.index.IndexSheet.{IndexSheet}
use Rattle.sheet_data.specs.declared.sheets.LeafSheet.{LeafSheet}
use Rattle.sheet_forms.proofs.Counts.{below_of}
use Rattle.mesh_sheets.specs.Sheets.{sheet, summed}
use Rattle.oemm_blobs.specs.Content.{Content}
use Rattle.oemm_blobs.specs.Store.{IfTold}
use Rattle.stored_mesh.specs.Stored.{Base, mesh_of}
use Rattle.oemm_shelf.specs.Readings.{◌>>=◌, Answers, current_sheet}
use Rattle.oemm_shelf.specs.Shelves.{IsOver}
use Rattle.oemm_shelf.specs.declared.fault.ShelfFault.{ShelfFault}
use Rattle.oemm_shelf.specs.declared.fault.ShelfFault.TheVariants as fault
use Rattle.oemm_shelf.proofs.Sound.{sheet_sound}
use Rattle.oemm_make.specs.Held.{held_by, held_leaves, homes, is_home, tile_script}
use Rattle.oemm_make.specs.Tiles.{tiles}

-- ---- answers of leaves one after another

-- these leaves before those of an answer
abbrev pub with_front : List ℕ → Result (List ℕ) ShelfFault → Result (List ℕ) ShelfFault
with_front held (Ok rest) = Ok (held ++ rest)
with_front held (Err why) = Err why

-- a leaf by its sheet, and those of an answer
abbrev pub then_more : ℕ → Result LeafSheet ShelfFault → Result (List ℕ) ShelfFault → Result (List ℕ) ShelfFault
then_more leaf first rest = first >>= (λ s. rest >>= (λ held. Ok (held_by leaf s ++ held)))

front_none : (r : Result (List ℕ) ShelfFault) → r ≡ with_front [] r
front_none (Ok held) = refl
front_none (Err why) = refl

front_more : (held : List ℕ) (leaf : ℕ) (s : LeafSheet) (r : Result (List ℕ) ShelfFault)
    → with_front held (then_more leaf (Ok s) r) ≡ with_front (held ++ held_by leaf s) r
front_more held leaf s (Ok rest) = ap Ok (sym (append_assoc held (held_by leaf s) rest))
front_more held leaf s (Err why) = refl

stops : (why : ShelfFault) (leaf : ℕ) (want : Result LeafSheet ShelfFault) (held : List ℕ)
    (rest all : Result (List ℕ) ShelfFault) → Answers {T = LeafSheet} (Err why) want
    → all ≡ with_front held (then_more leaf want rest) → Answers {T = List ℕ} (Err why) all
stops fault.Store leaf want held rest all is split = tt
stops fault.Memory leaf want held rest all is split = tt
stops (fault.Damaged key bytes) leaf want held rest all is split = split ∙ ap (λ (w : Result LeafSheet ShelfFault). with_front held (then_more leaf w rest)) is
stops (fault.Absent key) leaf want held rest all is split = split ∙ ap (λ (w : Result LeafSheet ShelfFault). with_front held (then_more leaf w rest)) is
stops (fault.Clash clash) leaf want held rest all is split = split ∙ ap (λ (w : Result LeafSheet ShelfFault). with_front held (then_more leaf w rest)) is

-- what is told of the leaves so far and of the rest
abbrev pub Splits : Option Content → IndexSheet → List ℕ → ℕ → List ℕ → ℕ → Type 0
Splits told i versions count held leaf = IfTold told (λ m.
    held_leaves i versions m (range_with_len 0 count)
    ≡ with_front held (held_leaves i versions m (range_with_len leaf (count - leaf))))

module _ (told : Option Content) (i : IndexSheet) (versions : List ℕ) (count : ℕ) where
  pub splits_none : Splits told i versions count [] 0
  splits_none = λ m is.
      let all : count ≡ count - 0 = omega arith in
      ap (λ (n : ℕ). held_leaves i versions m (range_with_len 0 n)) all
      ∙ front_none (held_leaves i versions m (range_with_len 0 (count - 0)))

  module _ (held : List ℕ) (leaf : ℕ) (splits : Splits told i versions count held leaf) where
    module _ (lt : leaf < count) (now : Option Content) (same : now ≡ told) where
      next_leaf : range_with_len leaf (count - leaf) ≡ leaf ∷ range_with_len (leaf + 1) (count - (leaf + 1))
      next_leaf =
          let more : count - leaf ≡ suc (count - (leaf + 1)) = omega arith in
          ap (λ (n : ℕ). range_with_len leaf n) more

      there : (m : Content) → told ≡ Some m → held_leaves i versions m (range_with_len 0 count)
          ≡ with_front held (then_more leaf (current_sheet i versions m leaf) (held_leaves i versions m (range_with_len (leaf + 1) (count - (leaf + 1)))))
      there m is = splits m is ∙ ap (λ (ls : List ℕ). with_front held (held_leaves i versions m ls)) next_leaf

      pub splits_more : (s : LeafSheet) → IfTold now (λ m. Answers (Ok s) (current_sheet i versions m leaf))
          → Splits told i versions count (held ++ held_by leaf s) (leaf + 1)
      splits_more s answer = λ m is.
          there m is
          ∙ ap (λ (w : Result LeafSheet ShelfFault). with_front held (then_more leaf w (held_leaves i versions m (range_with_len (leaf + 1) (count - (leaf + 1)))))) (answer m (same ∙ is))
          ∙ front_more held leaf s (held_leaves i versions m (range_with_len (leaf + 1) (count - (leaf + 1))))

      pub splits_stop : (why : ShelfFault) → IfTold now (λ m. Answers {T = LeafSheet} (Err why) (current_sheet i versions m leaf))
          → IfTold told (λ m. Answers {T = List ℕ} (Err why) (held_leaves i versions m (range_with_len 0 count)))
      splits_stop why answer = λ m is.
          stops why leaf (current_sheet i versions m leaf) held (held_leaves i versions m (range_with_len (leaf + 1) (count - (leaf + 1))))
          (held_leaves i versions m (range_with_len 0 count)) (answer m (same ∙ is)) (there m is)

    pub splits_end : count ≤ leaf → IfTold told (λ m. Answers (Ok held) (held_leaves i versions m (range_with_len 0 count)))
    splits_end end = λ m is.
        let none : count - leaf ≡ 0 = omega arith in
        splits m is
        ∙ ap (λ (n : ℕ). with_front held (held_leaves i versions m (range_with_len leaf n))) none
        ∙ ap Ok (append-nil held)

-- what is told of a leaf by an index and versions that are the same
pub moved : (told : Option Content) (i j : IndexSheet) (versions others : List ℕ) (leaf : ℕ) (r : Result LeafSheet ShelfFault)
    → j ≡ i → others ≡ versions → IfTold told (λ m. Answers r (current_sheet j others m leaf))
    → IfTold told (λ m. Answers r (current_sheet i versions m leaf))
moved told i j versions others leaf r index same answer = λ m is.
    subst (λ (k : IndexSheet). Answers r (current_sheet k versions m leaf)) index
    (subst (λ (vs : List ℕ). Answers r (current_sheet j vs m leaf)) same (answer m is))

-- ---- the leaves ascend

one_more : (leaf : ℕ) (held : List ℕ) (l : ℕ) → is_one_of (held ++ leaf ∷ []) l ≡ true → (is_one_of held l ≡ true) ⊎ (l ≡ leaf)
one_more leaf [] l on = elim (or_cases (eqb l leaf) false on) [
  | inl same ↦ inr (eqb-true l leaf same)
  | inr none ↦ absurd (cc none)
]
one_more leaf (x ∷ xs) l on = elim (or_cases (eqb l x) (is_one_of (xs ++ leaf ∷ []) l) on) [
  | inl same ↦ inl (or_left (eqb l x) (is_one_of xs l) same)
  | inr later ↦ elim (one_more leaf xs l later) [
    | inl there ↦ inl (or_right (eqb l x) (is_one_of xs l) there)
    | inr same ↦ inr same
  ]
]

below_next : (leaf : ℕ) (held : List ℕ) (b : Bool) → AreBelow leaf held → AreBelow (leaf + 1) (held ++ cond b (leaf ∷ []) [])
below_next leaf held true below = λ l on. elim (one_more leaf held l on) [
  | inl there ↦ omega (arith, below l there)
  | inr same ↦ omega (arith, same)
]
below_next leaf held false below = λ l on.
    let there : is_one_of held l ≡ true = subst (λ (ls : List ℕ). is_one_of ls l ≡ true) (append-nil held) on in
    omega (arith, below l there)

pub below_more : (leaf : ℕ) (held new : List ℕ) (s : LeafSheet) → new ≡ held ++ held_by leaf s → AreBelow leaf held → AreBelow (leaf + 1) new
below_more leaf held new s is below =
    subst (λ (ls : List ℕ). AreBelow (leaf + 1) ls) (sym is) (below_next leaf held (nat_lt 0 (length s.vertices)) below)

pub below_none : (n : ℕ) → AreBelow n []
below_none n = λ l on. absurd (cc on)

pub above_last : (leaf : ℕ) (held : List ℕ) → AreBelow leaf held → IsAboveLast leaf held
above_last leaf held below = λ some. below_of leaf held below (length held - 1) (omega arith)

-- ---- a script over these leaves

pub script_answer : (i : IndexSheet) (versions : List ℕ) (m : Content) (max : ℤ) (target : ℕ) (held : List ℕ)
    → held_leaves i versions m (range_with_len 0 (length i.cells)) ≡ Ok held
    → tile_script i versions m max target ≡ Ok (record { tasks = tiles i.cells held (Simplify max target) })
script_answer i versions m max target held is =
    ap (λ (r : Result (List ℕ) ShelfFault). r >>= (λ ls. Ok (record { tasks = tiles i.cells ls (Simplify max target) }))) is

script_fault_by : (i : IndexSheet) (max : ℤ) (target : ℕ) (why : ShelfFault) (r : Result (List ℕ) ShelfFault)
    → Answers {T = List ℕ} (Err why) r
    → Answers {T = Script} (Err why) (r >>= (λ ls. Ok (record { tasks = tiles i.cells ls (Simplify max target) })))
script_fault_by i max target fault.Store r is = tt
script_fault_by i max target fault.Memory r is = tt
script_fault_by i max target (fault.Damaged key bytes) r is = ap (λ (w : Result (List ℕ) ShelfFault). w >>= (λ ls. Ok (record { tasks = tiles i.cells ls (Simplify max target) }))) is
script_fault_by i max target (fault.Absent key) r is = ap (λ (w : Result (List ℕ) ShelfFault). w >>= (λ ls. Ok (record { tasks = tiles i.cells ls (Simplify max target) }))) is
script_fault_by i max target (fault.Clash clash) r is = ap (λ (w : Result (List ℕ) ShelfFault). w >>= (λ ls. Ok (record { tasks = tiles i.cells ls (Simplify max target) }))) is

pub script_fault : (i : IndexSheet) (versions : List ℕ) (m : Content) (max : ℤ) (target : ℕ) (why : ShelfFault)
    → Answers {T = List ℕ} (Err why) (held_leaves i versions m (range_with_len 0 (length i.cells)))
    → Answers {T = Script} (Err why) (tile_script i versions m max target)
script_fault i versions m max target why is =
    script_fault_by i max target why (held_leaves i versions m (range_with_len 0 (length i.cells))) is

-- ---- over a sound store

first_passes : {X : Type 0} (p : X → Bool) (x : X) (xs : List X) (b : Bool) → nat_lt 0 (length (filter p xs)) ≡ list_any p xs
    → nat_lt 0 (length (cond b (x ∷ filter p xs) (filter p xs))) ≡ (b || list_any p xs)
first_passes p x xs true rest = lt-ltb 0 (suc (length (filter p xs))) (omega arith)
first_passes p x xs false rest = rest

any_passes : {X : Type 0} (p : X → Bool) (xs : List X) → nat_lt 0 (length (filter p xs)) ≡ list_any p xs
any_passes p [] = refl
any_passes p (x ∷ xs) = first_passes p x xs (p x) (any_passes p xs)

has_vertex : (cells : List Cell) (m : Mesh) (leaf : ℕ) → nat_lt 0 (length (sheet cells m leaf).vertices) ≡ is_home cells m leaf
unfolding sheet
has_vertex cells m leaf =
    let lives : ℕ × Vertex → Bool = λ e. eqb (home cells e.1.point) leaf in
    ap (λ (n : ℕ). nat_lt 0 n) (length-map (filter lives (finite.entries m.vertices)) summed)
    ∙ any_passes lives (finite.entries m.vertices)

one_home : (leaf : ℕ) (b : Bool) (rest : List ℕ) → cond b (leaf ∷ []) [] ++ rest ≡ cond b (leaf ∷ rest) rest
one_home leaf true rest = refl
one_home leaf false rest = refl

module _ (b : Base) (journal : List Entry) (m : Content) (versions : List ℕ) (over : IsOver b.index versions m b journal) where
  held_sound : (leaf n : ℕ) → leaf + n ≤ length b.index.cells
      → held_leaves b.index versions m (range_with_len leaf n) ≡ Ok (filter (is_home b.index.cells (mesh_of b journal)) (range_with_len leaf n))
  held_sound leaf zero within = refl
  held_sound leaf (suc n) within =
      let cells : List Cell = b.index.cells in
      let mesh : Mesh = mesh_of b journal in
      let rest : List ℕ = filter (is_home cells mesh) (range_with_len (leaf + 1) n) in
      ap (λ (w : Result LeafSheet ShelfFault). then_more leaf w (held_leaves b.index versions m (range_with_len (leaf + 1) n))) (sheet_sound b journal m versions over leaf (omega arith))
      ∙ ap (λ (r : Result (List ℕ) ShelfFault). then_more leaf (Ok (sheet cells mesh leaf)) r) (held_sound (leaf + 1) n (omega arith))
      ∙ ap (λ (is : Bool). Ok (cond is (leaf ∷ []) [] ++ rest)) (has_vertex cells mesh leaf)
      ∙ ap Ok (one_home leaf (is_home cells mesh leaf) rest)

  pub script_sound : (max : ℤ) (target : ℕ) → tile_script b.index versions m max target
      ≡ Ok (record { tasks = tiles b.index.cells (homes b.index.cells (mesh_of b journal)) (Simplify max target) })
  script_sound max target =
      script_answer b.index versions m max target (homes b.index.cells (mesh_of b journal)) (held_sound 0 (length b.index.cells) (omega arith))
