-- The sheets of the leaves that were read.
use Rattle.std.proofs.Common.{◌≡◌, ℕ, ◌+◌, ◌<◌, List, [], ◌∷◌, ◌++◌, length, get_or, map, take, zero-add, refl, sym, ◌∙◌, subst, arith, Option, Result, Ok, Err}
use Rattle.std.specs.Prelude.{slice_index}
use Rattle.std.specs.List.{All}
use Rattle.std.proofs.lemmas.List.{take_all}
use Rattle.std.proofs.lemmas.List.FromFn.{get_or-range_with_len, length-range_with_len}
use Rattle.sheet_data.specs.declared.index.IndexSheet.{IndexSheet}
use Rattle.sheet_data.specs.declared.sheets.LeafSheet.{LeafSheet}
use Rattle.oemm_blobs.specs.Content.{Content}
use Rattle.oemm_blobs.specs.Store.{IfTold}
use Rattle.mesh_sheets.specs.Export.{all_leaves}
use Rattle.sheet_forms.specs.Formed.{IsSheetOf}
use Rattle.oemm_shelf.specs.Readings.{Answers, current_sheet, current_sheets, leaf_key}
use Rattle.oemm_shelf.specs.Shown.{ShowsLeaf, ShowsSheet}
use Rattle.oemm_shelf.specs.declared.fault.ShelfFault.{ShelfFault}
use Rattle.oemm_shelf.proofs.Gathered.{formed_more, leaves_more, shows_leaf}
use Rattle.oemm_shelf.proofs.Sequence.{Splits, splits_end, splits_more, splits_none, splits_stop}
use Rattle.leaf_export.specs.Exported.{AreOfAll}
use Rattle.leaf_export.specs.Kept.{Keeps}
use Rattle.leaf_export.specs.declared.kept.Kept.{Kept}

-- ---- answers of a shelf that is the same

pub told_moved : (told : Option Content) (r : Result LeafSheet ShelfFault) (i j : IndexSheet) (v w : List ℕ) (n : ℕ) → i ≡ j → v ≡ w
    → IfTold told (λ m. Answers r (current_sheet i v m n)) → IfTold told (λ m. Answers r (current_sheet j w m n))
told_moved told r i j v w n e f h = λ m is.
    subst (λ (k : IndexSheet). Answers r (current_sheet k w m n)) e
    (subst (λ (u : List ℕ). Answers r (current_sheet i u m n)) f (h m is))

pub shown_moved : (why : ShelfFault) (i j : IndexSheet) (v w : List ℕ) (n : ℕ) → i ≡ j → v ≡ w → n < length j.cells
    → ShowsSheet i n (leaf_key v n) (Err why) → ShowsLeaf j w why
shown_moved why i j v w n e f lt h =
    shows_leaf j w n (slice_index w n) why lt refl
    (subst (λ (k : IndexSheet). ShowsSheet k n (leaf_key w n) (Err why)) e
    (subst (λ (u : List ℕ). ShowsSheet i n (leaf_key u n) (Err why)) f h))

-- ---- so many leaves

-- so many leaves were read, and this is kept of their sheets
pub record AreRead (told : Option Content) (i : IndexSheet) (versions : List ℕ) (n : ℕ) (kept : Kept) : Type 0 where
  pub sheets : List LeafSheet
  pub splits : Splits told i versions (all_leaves i.cells) sheets n
  pub leaves : map (λ s. s.leaf) sheets ≡ take n (all_leaves i.cells)
  pub formed : All (λ s. IsSheetOf i.cells i.vertices s.leaf s) sheets
  pub keeps : Keeps sheets kept

module _ (told : Option Content) (i : IndexSheet) (versions : List ℕ) where
  pub read_none : (kept : Kept) → Keeps [] kept → AreRead told i versions 0 kept
  read_none kept keeps = record {
    sheets = [];
    splits = splits_none told i versions (all_leaves i.cells);
    leaves = refl;
    formed = λ k d lt. absurd (omega (arith, lt));
    keeps = keeps;
  }

  leaf_at : (n : ℕ) → n < length i.cells → get_or (all_leaves i.cells) n n ≡ n
  leaf_at n lt = get_or-range_with_len 0 (length i.cells) n n lt ∙ zero-add n

  in_range : (n : ℕ) → n < length i.cells → n < length (all_leaves i.cells)
  in_range n lt = let len = length-range_with_len 0 (length i.cells) in omega (arith, len, lt)

  module _ (n : ℕ) (lt : n < length i.cells) (kept : Kept) (so_far : AreRead told i versions n kept) (now : Option Content) (same : now ≡ told) where
    pub read_more : (s : LeafSheet) (new : Kept) → IfTold now (λ m. Answers (Ok s) (current_sheet i versions m n))
        → IsSheetOf i.cells i.vertices n s
        → ((sheets : List LeafSheet) → Keeps sheets kept → Keeps (sheets ++ s ∷ []) new) → AreRead told i versions (n + 1) new
    read_more s new answer formed keeps = record {
      sheets = so_far.sheets ++ s ∷ [];
      splits = splits_more told i versions (all_leaves i.cells) so_far.sheets n so_far.splits n (leaf_at n lt) (in_range n lt)
          now same s answer;
      leaves = leaves_more so_far.sheets s (so_far.sheets ++ s ∷ []) (all_leaves i.cells) n n refl so_far.leaves formed.is_leaf
          (leaf_at n lt) (in_range n lt);
      formed = formed_more i so_far.sheets s (so_far.sheets ++ s ∷ []) n refl so_far.formed formed;
      keeps = keeps so_far.sheets so_far.keeps;
    }

    pub read_stops : (why : ShelfFault) → IfTold now (λ m. Answers {T = LeafSheet} (Err why) (current_sheet i versions m n))
        → IfTold told (λ m. Answers {T = List LeafSheet} (Err why) (current_sheets i versions m (all_leaves i.cells)))
    read_stops why answer =
        splits_stop told i versions (all_leaves i.cells) so_far.sheets n so_far.splits n (leaf_at n lt) (in_range n lt) now same why
        answer

  pub read_all : (n : ℕ) (kept : Kept) → n ≡ length i.cells → AreRead told i versions n kept
      → (sheets : List LeafSheet) × AreOfAll i sheets × Keeps sheets kept
      × IfTold told (λ m. current_sheets i versions m (all_leaves i.cells) ≡ Ok sheets)
  read_all n kept end so_far =
      let len = length-range_with_len 0 (length i.cells) in
      let all : n ≡ length (all_leaves i.cells) = end ∙ sym len in (
        so_far.sheets,
        record {
          leaves = so_far.leaves ∙ take_all n (all_leaves i.cells) (omega (arith, all));
          formed = so_far.formed;
        },
        so_far.keeps,
        splits_end told i versions (all_leaves i.cells) so_far.sheets n so_far.splits all,
      )
