-- A text cut at its first line feed.
use Rattle.std.proofs.Common.{◌≡◌, ℕ, ◌+◌, ◌<◌, Bool, true, false, List, [], ◌∷◌, ◌++◌, length, take, drop, get_or, Some, None, refl, sym, ap, ◌∙◌, arith, add-one, drop-cons}
use Rattle.std.proofs.lemmas.Bool.{eqb-true}
use Rattle.std.proofs.lemmas.List.{get_or-take, get_or_default, length-take, take-append-drop}
use Rattle.std.proofs.lemmas.List.Splits.{slice_split_at, slice_split_none}
use Rattle.std.proofs.lemmas.Grind.{take_at_read}
use Rattle.std.specs.List.{All, slice_split}
use Rattle.memchr.specs.Find.{IsFirstByte, is_byte}
use Rattle.journal_reader.specs.Journal.{is_feed}

not_true : (b : Bool) → (b ≡ true → ⊥) → b ≡ false
not_true true h = absurd (h refl)
not_true false h = refl

pub cut_none : (text : List ℕ) → IsFirstByte (is_byte 10) text None → slice_split is_feed text ≡ text ∷ []
cut_none text none = slice_split_none is_feed text (λ k d lt. not_true (is_feed (get_or text k d)) (λ h. none k (omega arith) lt (at k d lt h))) where
  at : (k d : ℕ) → k < length text → is_feed (get_or text k d) ≡ true → is_feed (get_or text k 0) ≡ true
  at k d lt h = rw (get_or_default text k 0 d lt) h

pub cut_some : (text : List ℕ) (n : ℕ) → IsFirstByte (is_byte 10) text (Some n)
    → (take (n + 1) text ≡ take n text ++ 10 ∷ []) × (slice_split is_feed text ≡ take n text ∷ slice_split is_feed (drop (n + 1) text))
cut_some text n found =
    let lt : n < length text = found.0.high in
    let feed : get_or text n 0 ≡ 10 = eqb-true (get_or text n 0) 10 found.1 in
    let behind : drop n text ≡ 10 ∷ drop (n + 1) text = rw (add-one, drop-cons text n 0 lt, feed) refl in
    let whole : take n text ++ 10 ∷ drop (n + 1) text ≡ text = ap (λ (xs : List ℕ). take n text ++ xs) (sym behind) ∙ take-append-drop n text in (
      (take_at_read text n 0 lt).1 ∙ ap (λ (c : ℕ). take n text ++ c ∷ []) feed,
      ap (slice_split is_feed) (sym whole) ∙ slice_split_at is_feed (take n text) 10 (drop (n + 1) text) free refl,
    ) where
      free : All (λ x. is_feed x ≡ false) (take n text)
      free k d lt =
          let short : k < n = omega (arith, length-take n text) in
          let within : k < length text = omega (arith, length-take n text) in
          not_true (is_feed (get_or (take n text) k d)) (λ h. found.0.before k (omega arith) short
          (rw (get_or_default text k 0 d within) (rw (get_or-take n text k d short) at h)))
