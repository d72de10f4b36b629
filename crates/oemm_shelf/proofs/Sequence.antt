-- Answers of leaves one after another.
use Rattle.std.proofs.Common.{◌≡◌, ℕ, ◌+◌, ◌<◌, List, [], ◌∷◌, ◌++◌, length, get_or, drop, refl, sym, ap, ◌∙◌, arith, append_assoc, append-nil, Option, Some, Result, Ok, Err}
use Rattle.std.proofs.lemmas.List.{drop_all, drop_more}
use Rattle.oemm_blobs.specs.Content.{Content}
use Rattle.oemm_blobs.specs.Store.{IfTold}
use Rattle.sheet_data.specs.declared.index.IndexSheet.{IndexSheet}
use Rattle.sheet_data.specs.declared.sheets.LeafSheet.{LeafSheet}
use Rattle.oemm_shelf.specs.Readings.{◌>>=◌, Answers, current_sheet, current_sheets}
use Rattle.oemm_shelf.specs.declared.fault.ShelfFault.{ShelfFault}
use Rattle.oemm_shelf.specs.declared.fault.ShelfFault.TheVariants as fault

-- these sheets before those of an answer
abbrev pub with_front : List LeafSheet → Result (List LeafSheet) ShelfFault → Result (List LeafSheet) ShelfFault
with_front sheets (Ok rest) = Ok (sheets ++ rest)
with_front sheets (Err why) = Err why

-- a sheet, and those of an answer
abbrev pub then_more : Result LeafSheet ShelfFault → Result (List LeafSheet) ShelfFault → Result (List LeafSheet) ShelfFault
then_more first rest = first >>= (λ s. rest >>= (λ sheets. Ok (s ∷ sheets)))

front_none : (r : Result (List LeafSheet) ShelfFault) → r ≡ with_front [] r
front_none (Ok sheets) = refl
front_none (Err why) = refl

front_more : (sheets : List LeafSheet) (s : LeafSheet) (r : Result (List LeafSheet) ShelfFault)
    → with_front sheets (then_more (Ok s) r) ≡ with_front (sheets ++ s ∷ []) r
front_more sheets s (Ok rest) = ap Ok (sym (append_assoc sheets (s ∷ []) rest))
front_more sheets s (Err why) = refl

stops : (why : ShelfFault) (want : Result LeafSheet ShelfFault) (sheets : List LeafSheet)
    (rest all : Result (List LeafSheet) ShelfFault) → Answers {T = LeafSheet} (Err why) want
    → all ≡ with_front sheets (then_more want rest) → Answers {T = List LeafSheet} (Err why) all
stops fault.Store want sheets rest all is split = tt
stops fault.Memory want sheets rest all is split = tt
stops (fault.Damaged key bytes) want sheets rest all is split = split ∙ ap (λ (w : Result LeafSheet ShelfFault). with_front sheets (then_more w rest)) is
stops (fault.Absent key) want sheets rest all is split = split ∙ ap (λ (w : Result LeafSheet ShelfFault). with_front sheets (then_more w rest)) is
stops (fault.Clash clash) want sheets rest all is split = split ∙ ap (λ (w : Result LeafSheet ShelfFault). with_front sheets (then_more w rest)) is

-- what is told of the leaves so far and of the rest
abbrev pub Splits : Option Content → IndexSheet → List ℕ → List ℕ → List LeafSheet → ℕ → Type 0
Splits told i versions leaves sheets n = IfTold told (λ m.
    current_sheets i versions m leaves ≡ with_front sheets (current_sheets i versions m (drop n leaves)))

module _ (told : Option Content) (i : IndexSheet) (versions leaves : List ℕ) where
  pub splits_none : Splits told i versions leaves [] 0
  splits_none = λ m is. front_none (current_sheets i versions m leaves)

  module _ (sheets : List LeafSheet) (n : ℕ) (splits : Splits told i versions leaves sheets n) where
    module _ (leaf : ℕ) (is_leaf : get_or leaves n leaf ≡ leaf) (lt : n < length leaves) (now : Option Content)
        (same : now ≡ told) where
      next_leaf : drop n leaves ≡ leaf ∷ drop (n + 1) leaves
      next_leaf = drop_more leaves n leaf lt ∙ ap (λ (l : ℕ). l ∷ drop (n + 1) leaves) is_leaf

      there : (m : Content) → told ≡ Some m → current_sheets i versions m leaves
          ≡ with_front sheets (then_more (current_sheet i versions m leaf) (current_sheets i versions m (drop (n + 1) leaves)))
      there m is = splits m is ∙ ap (λ (ls : List ℕ). with_front sheets (current_sheets i versions m ls)) next_leaf

      pub splits_more : (s : LeafSheet) → IfTold now (λ m. Answers (Ok s) (current_sheet i versions m leaf))
          → Splits told i versions leaves (sheets ++ s ∷ []) (n + 1)
      splits_more s answer = λ m is.
          there m is
          ∙ ap (λ (w : Result LeafSheet ShelfFault). with_front sheets (then_more w (current_sheets i versions m (drop (n + 1) leaves)))) (answer m (same ∙ is))
          ∙ front_more sheets s (current_sheets i versions m (drop (n + 1) leaves))

      pub splits_stop : (why : ShelfFault) → IfTold now (λ m. Answers {T = LeafSheet} (Err why) (current_sheet i versions m leaf))
          → IfTold told (λ m. Answers {T = List LeafSheet} (Err why) (current_sheets i versions m leaves))
      splits_stop why answer = λ m is.
          stops why (current_sheet i versions m leaf) sheets (current_sheets i versions m (drop (n + 1) leaves))
          (current_sheets i versions m leaves) (answer m (same ∙ is)) (there m is)

    pub splits_end : n ≡ length leaves → IfTold told (λ m. Answers (Ok sheets) (current_sheets i versions m leaves))
    splits_end end = λ m is.
        splits m is
        ∙ ap (λ (ls : List ℕ). with_front sheets (current_sheets i versions m ls)) (ap (λ (k : ℕ). drop k leaves) end ∙ drop_length leaves)
        ∙ ap Ok (append-nil sheets)
      where
        drop_length : (xs : List ℕ) → drop (length xs) xs ≡ []
        drop_length xs = drop_all (length xs) xs (omega arith)
