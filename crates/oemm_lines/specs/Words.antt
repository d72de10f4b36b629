use Rattle.std.specs.Prelude.{ℕ, Bool, false, not, ◌||◌, List, [], ◌∷◌, ◌==◌, if◌then◌else◌}

-- a space or a tab
abbrev pub is_blank : ℕ → Bool
is_blank c = (c == 32) || (c == 9)

-- whether a word stands at the very front
abbrev pub begins_with_word : List ℕ → Bool
begins_with_word [] = false
begins_with_word (c ∷ cs) = not (is_blank c)

-- the words with a byte put before the first of them
abbrev pub lengthened : ℕ → List (List ℕ) → List (List ℕ)
lengthened c [] = (c ∷ []) ∷ []
lengthened c (w ∷ ws) = (c ∷ w) ∷ ws

-- the words of a line: its longest parts without blanks
unfoldable pub words_of : List ℕ → List (List ℕ)
words_of [] = []
words_of (c ∷ cs) =
    if is_blank c
    then words_of cs
    else (if begins_with_word cs then lengthened c (words_of cs) else (c ∷ []) ∷ words_of cs)
