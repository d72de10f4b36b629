use Rattle.std.proofs.Common.{◌≡◌, ℕ, true, false, not, ◌≢◌, ◌++◌, List, [], ◌∷◌, length, refl, ap, ◌∙◌, arith}
use Rattle.std.specs.List.{AllByRecursion}
use Rattle.oemm_lines.specs.Words.{is_blank, begins_with_word, lengthened, words_of}

-- a blank in front makes no word
pub words_of-blank : (c : ℕ) (cs : List ℕ) → is_blank c ≡ true → words_of (c ∷ cs) ≡ words_of cs
unfolding words_of
words_of-blank c cs blank = rw blank

-- a byte in front of a word belongs to it
pub words_of-more : (c : ℕ) (cs : List ℕ) → is_blank c ≡ false → begins_with_word cs ≡ true → words_of (c ∷ cs) ≡ lengthened c (words_of cs)
unfolding words_of
words_of-more c cs dark more = rw (dark, more)

-- a byte in front of no word is one
pub words_of-alone : (c : ℕ) (cs : List ℕ) → is_blank c ≡ false → begins_with_word cs ≡ false → words_of (c ∷ cs) ≡ (c ∷ []) ∷ words_of cs
unfolding words_of
words_of-alone c cs dark none = rw (dark, none)

-- a text without bytes has no words
pub words_of-empty : (text : List ℕ) → length text ≡ 0 → words_of text ≡ []
unfolding words_of
words_of-empty [] empty = refl
words_of-empty (c ∷ cs) empty = absurd (omega arith)

-- the first word of a line, in front of a blank
pub word_first : (word rest : List ℕ) (c : ℕ) → AllByRecursion (λ b. is_blank b ≡ false) word → is_blank c ≡ true → word ≢ [] → words_of (word ++ c ∷ rest) ≡ word ∷ words_of rest
word_first [] rest c dark blank some = absurd (some refl)
word_first (b ∷ []) rest c dark blank some =
    words_of-alone b (c ∷ rest) dark.0 (ap not blank) ∙ ap (λ ws. (b ∷ []) ∷ ws) (words_of-blank c rest blank)
word_first (b ∷ d ∷ ds) rest c dark blank some =
    words_of-more b (d ∷ ds ++ c ∷ rest) dark.0 (ap not dark.1.0)
    ∙ ap (lengthened b) (word_first (d ∷ ds) rest c dark.1 blank (λ e. cc))

-- a line of one word
pub word_last : (word : List ℕ) → AllByRecursion (λ b. is_blank b ≡ false) word → word ≢ [] → words_of word ≡ word ∷ []
word_last [] dark some = absurd (some refl)
word_last (b ∷ []) dark some = words_of-alone b [] dark.0 refl ∙ ap (λ ws. (b ∷ []) ∷ ws) (words_of-empty [] refl)
word_last (b ∷ d ∷ ds) dark some =
    words_of-more b (d ∷ ds) dark.0 (ap not dark.1.0) ∙ ap (lengthened b) (word_last (d ∷ ds) dark.1 (λ e. cc))
