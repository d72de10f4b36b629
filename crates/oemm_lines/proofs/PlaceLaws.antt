-- The words of a line, by their places.
use Rattle.std.proofs.Common.{◌≡◌, ℕ, zero, suc, ◌+◌, ◌<◌, ◌≤◌, true, false, not, List, [], ◌∷◌, ◌++◌, length, get_or, drop, refl, ap, sym, ◌∙◌, append_assoc, arith, add-zero, zero-add, append-nil, length-drop, Bool, Some, None}
use Rattle.std.specs.List.{position_or_len}
use Rattle.std.proofs.lemmas.List.Sums.{position_or_len_is}
use Rattle.std.proofs.lemmas.Bool.{true≢false}
use Rattle.memchr.specs.Find.{IsFirstByte}
use Rattle.std.proofs.lemmas.List.{get_or-drop, drop-drop, drop_all}
use Rattle.oemm_lines.specs.declared.parts.Word.{Word}
use Rattle.oemm_lines.specs.Words.{is_blank, begins_with_word}
use Rattle.oemm_lines.specs.Stream.{begun_at, words_from}

-- no bytes have no words
pub words_from-none : (at : ℕ) → words_from at [] ≡ []
unfolding words_from
words_from-none at = refl

-- a blank in front makes no word
pub words_from-blank : (at c : ℕ) (cs : List ℕ) → is_blank c ≡ true → words_from at (c ∷ cs) ≡ words_from (at + 1) cs
unfolding words_from
words_from-blank at c cs blank = rw blank

-- a byte in front of a word belongs to it
pub words_from-more : (at c : ℕ) (cs : List ℕ) → is_blank c ≡ false → begins_with_word cs ≡ true → words_from at (c ∷ cs) ≡ begun_at at (words_from (at + 1) cs)
unfolding words_from
words_from-more at c cs dark more = rw (dark, more)

-- a byte in front of no word is one
pub words_from-alone : (at c : ℕ) (cs : List ℕ) → is_blank c ≡ false → begins_with_word cs ≡ false → words_from at (c ∷ cs) ≡ record { from = at; to = at + 1 } ∷ words_from (at + 1) cs
unfolding words_from
words_from-alone at c cs dark none = rw (dark, none)

moved : (at m n : ℕ) (text : List ℕ) → m ≡ n → words_from m text ≡ words_from n text
moved at m n text same = ap (λ k. words_from k text) same

-- blanks in front make no word
pub words_from-blanks : (at : ℕ) (text : List ℕ) (i : ℕ) → i ≤ length text → ((k : ℕ) → k < i → is_blank (get_or text k 0) ≡ true) → words_from at text ≡ words_from (at + i) (drop i text)
words_from-blanks at text zero within before = ap (λ k. words_from k text) (sym (add-zero at))
words_from-blanks at [] (suc i) within before = absurd (omega arith)
words_from-blanks at (c ∷ cs) (suc i) within before =
    let place : at + 1 + i ≡ at + suc i = omega arith in
    words_from-blank at c cs (before 0 (omega arith))
    ∙ words_from-blanks (at + 1) cs i (omega arith) (λ k h. before (suc k) (omega arith))
    ∙ ap (λ k. words_from k (drop i cs)) place

no_word : (text : List ℕ) → (0 < length text → is_blank (get_or text 0 0) ≡ true) → begins_with_word text ≡ false
no_word [] blank = refl
no_word (c ∷ cs) blank = ap not (blank (omega arith))

-- bytes that are no blanks, in front of a blank or at the end, are the first word
pub words_from-first : (at : ℕ) (text : List ℕ) (i : ℕ) → suc i ≤ length text → ((k : ℕ) → k < suc i → is_blank (get_or text k 0) ≡ false) → (suc i < length text → is_blank (get_or text (suc i) 0) ≡ true) → words_from at text ≡ record { from = at; to = at + suc i } ∷ words_from (at + suc i) (drop (suc i) text)
words_from-first at [] i within before found = absurd (omega arith)
words_from-first at (c ∷ cs) zero within before found =
    words_from-alone at c cs (before 0 (omega arith)) (no_word cs (λ h. found (omega arith)))
words_from-first at (c ∷ []) (suc i) within before found = absurd (omega arith)
words_from-first at (c ∷ d ∷ ds) (suc i) within before found =
    let place : at + 1 + suc i ≡ at + suc (suc i) = omega arith in
    words_from-more at c (d ∷ ds) (before 0 (omega arith)) (ap not (before 1 (omega arith)))
    ∙ ap (begun_at at) (words_from-first (at + 1) (d ∷ ds) i (omega arith) (λ k h. before (suc k) (omega arith)) (λ h. found (omega arith)))
    ∙ ap (λ n. record { from = at; to = n } ∷ words_from n (drop (suc i) (d ∷ ds))) place

some_first : (at : ℕ) (text : List ℕ) (n : ℕ) → 0 < n → n ≤ length text → ((k : ℕ) → k < n → is_blank (get_or text k 0) ≡ false) → (n < length text → is_blank (get_or text n 0) ≡ true) → words_from at text ≡ record { from = at; to = at + n } ∷ words_from (at + n) (drop n text)
some_first at text zero some within before found = absurd (omega arith)
some_first at text (suc i) some within before found = words_from-first at text i within before found

-- the blanks in front are passed over
pub words_from-begin : (text : List ℕ) (i : ℕ) → i ≤ length text → ((k : ℕ) → k < i → is_blank (get_or text k 0) ≡ true) → words_from i (drop i text) ≡ words_from 0 text
words_from-begin text i within before = sym (words_from-blanks 0 text i within before ∙ ap (λ n. words_from n (drop i text)) (zero-add i))

dark_first : (text : List ℕ) (at n : ℕ) → at < length text → is_blank (get_or text at 0) ≡ false → (n < length (drop at text) → is_blank (get_or (drop at text) n 0) ≡ true) → 0 < n
dark_first text at zero within dark found =
    let here : get_or (drop at text) 0 0 ≡ get_or text at 0 = get_or-drop at text 0 0 ∙ ap (λ k. get_or text k 0) (add-zero at) in
    absurd (true≢false (sym (found (omega (arith, length-drop at text))) ∙ ap is_blank here ∙ dark))
dark_first text at (suc n) within dark found = omega arith

-- a word and the blanks behind it
pub words_from-step : (text : List ℕ) (at n b : ℕ) → at < length text → is_blank (get_or text at 0) ≡ false → n ≤ length (drop at text) → ((k : ℕ) → k < n → is_blank (get_or (drop at text) k 0) ≡ false) → (n < length (drop at text) → is_blank (get_or (drop at text) n 0) ≡ true) → b ≤ length (drop (at + n) text) → ((k : ℕ) → k < b → is_blank (get_or (drop (at + n) text) k 0) ≡ true) → words_from at (drop at text) ≡ record { from = at; to = at + n } ∷ words_from (at + n + b) (drop (at + n + b) text)
words_from-step text at n b within dark size word found blanks before =
    some_first at (drop at text) n (dark_first text at n within dark found) size word found
    ∙ ap (λ (t : List ℕ). record { from = at; to = at + n } ∷ words_from (at + n) t) (drop-drop n at text)
    ∙ ap (λ ws. record { from = at; to = at + n } ∷ ws) (words_from-blanks (at + n) (drop (at + n) text) b blanks before)
    ∙ ap (λ (t : List ℕ). record { from = at; to = at + n } ∷ words_from (at + n + b) t) (drop-drop b (at + n) text)

-- and the words that were found before it
pub words_found : (done more : List Word) (word : Word) (left rest all : List Word) → done ++ left ≡ all → left ≡ word ∷ rest → more ≡ done ++ word ∷ [] → more ++ rest ≡ all
words_found done more word left rest all was is now =
    ap (λ ws. ws ++ rest) now ∙ append_assoc done (word ∷ []) rest ∙ ap (λ ws. done ++ ws) (sym is) ∙ was

-- what stands behind the blanks
pub dark_behind : (text : List ℕ) (at b : ℕ) → at ≤ length text → at + b < length text → (b < length (drop at text) → is_blank (get_or (drop at text) b 0) ≡ false) → is_blank (get_or text (at + b) 0) ≡ false
dark_behind text at b order within found =
    ap is_blank (sym (get_or-drop at text b 0)) ∙ found (omega (arith, length-drop at text))

-- at the end no word is left
pub words_from-end : (done all : List Word) (text : List ℕ) (at : ℕ) → length text ≤ at → done ++ words_from at (drop at text) ≡ all → done ≡ all
words_from-end done all text at end is =
    sym (append-nil done) ∙ ap (λ ws. done ++ ws) (sym (ap (words_from at) (drop_all at text end) ∙ words_from-none at)) ∙ is

not_true : (b : Bool) → ¬ (b ≡ true) → b ≡ false
not_true true other = absurd (other refl)
not_true false other = refl

-- the first byte that passes a test
pub first_place : (test : ℕ → Bool) (text : List ℕ) (k : ℕ) → IsFirstByte test text (Some k) → position_or_len test text ≡ k
first_place test text k (first, passes) =
    position_or_len_is test text k 0 (omega arith) (λ j h. not_true (test (get_or text j 0)) (first.before j (omega arith) h)) (λ h. passes)

-- no byte passes it
pub no_place : (test : ℕ → Bool) (text : List ℕ) → IsFirstByte test text None → position_or_len test text ≡ length text
no_place test text none =
    position_or_len_is test text (length text) 0 (omega arith) (λ j h. not_true (test (get_or text j 0)) (none j (omega arith) h)) (λ h. absurd (omega arith))
