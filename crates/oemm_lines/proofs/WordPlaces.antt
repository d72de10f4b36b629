-- The places of words hold the words.
use Rattle.std.proofs.Common.{◌≡◌, ℕ, suc, ◌+◌, ◌-◌, ◌<◌, ◌≤◌, Bool, true, false, List, [], ◌∷◌, ◌++◌, length, take, drop, map, not, ◌==◌, refl, ap, sym, subst, ◌∙◌, append-nil, arith}
use Rattle.std.specs.List.{slice_range, All, AllByRecursion, position_or_len}
use Rattle.std.proofs.lemmas.List.{take-append-drop, drop-drop, length-drop}
use Rattle.std.proofs.lemmas.List.Elements.{All-from_recursion}
use Rattle.oemm_lines.specs.declared.parts.Word.{Word}
use Rattle.oemm_lines.specs.Words.{is_blank, begins_with_word, lengthened, words_of}
use Rattle.oemm_lines.specs.Stream.{begun_at, words_from, words_in, uncommented, word_in, IsWordIn}
use Rattle.oemm_lines.proofs.WordLaws.{words_of-blank, words_of-more, words_of-alone, words_of-empty}
use Rattle.oemm_lines.proofs.PlaceLaws.{words_from-none, words_from-blank, words_from-more, words_from-alone}

-- the words of a part of the bytes, which begins at this place, are at their places
record Placed (all : List ℕ) (at : ℕ) (part : List ℕ) (words : List Word) : Type 0 where
  texts : map (word_in all) words ≡ words_of part
  within : AllByRecursion (IsWordIn all) words

-- and the first of them begins where the part does
record Begun (at : ℕ) (words : List Word) : Type 0 where
  first : Word
  rest : List Word
  is : words ≡ first ∷ rest
  begins : first.from ≡ at

next_part : (all part tail : List ℕ) (at c : ℕ) → drop at all ≡ c ∷ (part ++ tail) → drop (at + 1) all ≡ part ++ tail
next_part all part tail at c here = sym (drop-drop 1 at all) ∙ ap (drop 1) here

room_for : (all rest : List ℕ) (at c : ℕ) → drop at all ≡ c ∷ rest → at + 1 ≤ length all
room_for all rest at c here = omega (arith, length-drop at all, ap length here)

word_of_one : (all rest : List ℕ) (at c : ℕ) → drop at all ≡ c ∷ rest → slice_range all at (at + 1) ≡ c ∷ []
word_of_one all rest at c here =
    let one : (at + 1) - at ≡ 1 = omega arith in
    ap (λ n. take n (drop at all)) one ∙ ap (take 1) here

word_of_more : (all rest : List ℕ) (at c from to : ℕ) → drop at all ≡ c ∷ rest → drop (at + 1) all ≡ rest → from ≡ at + 1 → from < to → slice_range all at to ≡ c ∷ slice_range all from to
word_of_more all rest at c from to here next begins some =
    let more : to - at ≡ suc (to - from) = omega arith in
    ap (λ n. take n (drop at all)) more ∙ ap (take (suc (to - from))) here
    ∙ ap (λ (t : List ℕ). c ∷ take (to - from) t) (sym next)
    ∙ ap (λ n. c ∷ take (to - from) (drop n all)) (sym begins)

placed_more : (all part rest : List ℕ) (at c : ℕ) (words : List Word) → drop at all ≡ c ∷ rest → drop (at + 1) all ≡ rest → Begun (at + 1) words → Placed all (at + 1) part words → is_blank c ≡ false → begins_with_word part ≡ true → Placed all at (c ∷ part) (begun_at at words)
placed_more all part rest at c [] here next begun placed dark more = absurd (cc begun.is)
placed_more all part rest at c (w ∷ ws) here next begun placed dark more =
    let begins : w.from ≡ at + 1 = cc (begun.is, begun.begins) in
    record {
      texts = ap (λ t. t ∷ map (word_in all) ws) (word_of_more all rest at c w.from w.to here next begins placed.within.0.0)
          ∙ ap (lengthened c) placed.texts ∙ sym (words_of-more c part dark more);
      within = ((omega (arith, placed.within), placed.within.0.1), placed.within.1);
    }

same_words : (all part : List ℕ) (at : ℕ) (words other : List Word) → words ≡ other → Placed all at part other → Placed all at part words
same_words all part at words other same placed = subst (λ ws. Placed all at part ws) (sym same) placed

begun_more : (at : ℕ) (words : List Word) → Begun (at + 1) words → Begun at (begun_at at words)
begun_more at [] begun = absurd (cc begun.is)
begun_more at (w ∷ ws) begun = record { first = record { from = at; to = w.to }; rest = ws; is = refl; begins = refl }

begun_at_word : (at c : ℕ) (part : List ℕ) (b : Bool) → is_blank c ≡ false → begins_with_word part ≡ b → (begins_with_word part ≡ true → Begun (at + 1) (words_from (at + 1) part)) → Begun at (words_from at (c ∷ part))
begun_at_word at c part true dark more next =
    subst (λ ws. Begun at ws) (sym (words_from-more at c part dark more)) (begun_more at (words_from (at + 1) part) (next more))
begun_at_word at c part false dark none next = record {
  first = record { from = at; to = at + 1 };
  rest = words_from (at + 1) part;
  is = words_from-alone at c part dark none;
  begins = refl;
}

is_dark : (b : Bool) → not b ≡ true → b ≡ false
is_dark true h = cc
is_dark false h = refl

begun_part : (at : ℕ) (part : List ℕ) → begins_with_word part ≡ true → Begun at (words_from at part)
begun_part at [] begins = absurd (cc begins)
begun_part at (c ∷ part) begins =
    begun_at_word at c part (begins_with_word part) (is_dark (is_blank c) begins) refl (begun_part (at + 1) part)

placed_byte : (all part tail : List ℕ) (at c : ℕ) (blank more : Bool) → is_blank c ≡ blank → begins_with_word part ≡ more → drop at all ≡ c ∷ (part ++ tail) → Placed all (at + 1) part (words_from (at + 1) part) → Placed all at (c ∷ part) (words_from at (c ∷ part))
placed_byte all part tail at c true more blank is here placed =
    same_words all (c ∷ part) at (words_from at (c ∷ part)) (words_from (at + 1) part) (words_from-blank at c part blank)
    (record { texts = placed.texts ∙ sym (words_of-blank c part blank); within = placed.within })
placed_byte all part tail at c false true dark more here placed =
    same_words all (c ∷ part) at (words_from at (c ∷ part)) (begun_at at (words_from (at + 1) part)) (words_from-more at c part dark more)
    (placed_more all part (part ++ tail) at c (words_from (at + 1) part) here (next_part all part tail at c here) (begun_part (at + 1) part more) placed dark more)
placed_byte all part tail at c false false dark none here placed =
    same_words all (c ∷ part) at (words_from at (c ∷ part)) (record { from = at; to = at + 1 } ∷ words_from (at + 1) part) (words_from-alone at c part dark none)
    (record {
      texts = ap (λ t. t ∷ map (word_in all) (words_from (at + 1) part)) (word_of_one all (part ++ tail) at c here)
          ∙ ap (λ ts. (c ∷ []) ∷ ts) placed.texts ∙ sym (words_of-alone c part dark none);
      within = ((omega arith, room_for all (part ++ tail) at c here), placed.within);
    })

placed_part : (all part tail : List ℕ) (at : ℕ) → drop at all ≡ part ++ tail → Placed all at part (words_from at part)
placed_part all [] tail at here =
    same_words all [] at (words_from at []) [] (words_from-none at)
    (record { texts = sym (words_of-empty [] refl); within = tt })
placed_part all (c ∷ part) tail at here =
    placed_byte all part tail at c (is_blank c) (begins_with_word part) refl refl here
    (placed_part all part tail (at + 1) (next_part all part tail at c here))

placed_in : (comments : Bool) (bytes : List ℕ) → Placed bytes 0 (uncommented comments bytes) (words_in comments bytes)
placed_in true bytes = placed_part bytes (uncommented true bytes) (drop (position_or_len (λ c. c == 35) bytes) bytes) 0 (sym (take-append-drop (position_or_len (λ c. c == 35) bytes) bytes))
placed_in false bytes = placed_part bytes bytes [] 0 (sym (append-nil bytes))

-- the words of a line at their places
pub word_texts : (comments : Bool) (bytes : List ℕ) → map (word_in bytes) (words_in comments bytes) ≡ words_of (uncommented comments bytes)
word_texts comments bytes = (placed_in comments bytes).texts

-- each has a byte, and lies in the line
pub words_within : (comments : Bool) (bytes : List ℕ) → All (IsWordIn bytes) (words_in comments bytes)
words_within comments bytes = All-from_recursion (IsWordIn bytes) (words_in comments bytes) (placed_in comments bytes).within
