-- The bytes of a line that is written, and the line that they are read as.
use Rattle.std.proofs.Common.{◌≡◌, ◌≢◌, ℕ, ◌+◌, ◌*◌, ◌<◌, ◌≤◌, Bool, true, false, ◌==◌, List, [], ◌∷◌, ◌++◌, length, map, take, refl, ap, sym, subst, ◌∙◌, append_assoc, append-nil, length-append, arith, ne_eqb}
use Rattle.std.specs.List.{AllByRecursion, before_first, position_or_len}
use Rattle.std.proofs.lemmas.List.{take_all}
use Rattle.std.proofs.lemmas.List.Elements.{All-from_recursion}
use Rattle.std.proofs.lemmas.List.Sums.{position_or_len_is}
use Rattle.oemm_lists.specs.TextLine.{line}
use Rattle.oemm_lines.specs.Words.{is_blank, words_of}
use Rattle.oemm_lines.specs.Lines.{without_return}
use Rattle.oemm_lines.specs.Stream.{line_then, line_of, told_lines, word_in, words_in}
use Rattle.oemm_lines.proofs.WordLaws.{word_first, word_last, words_of-empty}
use Rattle.oemm_lines.proofs.WordPlaces.{word_texts}
use Rattle.oemm_lines.proofs.FlowLaws.{told_lines-ended}
use Rattle.mesh_round_trip.proofs.Ink.{IsInk, IsInked}

-- the bytes of a line before its line feed
abbrev pub body : List (List ℕ) → List ℕ
body [] = []
body (word ∷ []) = word
body (word ∷ next ∷ words) = word ++ 32 ∷ body (next ∷ words)

pub line_is_body : (words : List (List ℕ)) (rest : List ℕ) → line words ++ rest ≡ body words ++ 10 ∷ rest
line_is_body [] rest = refl
line_is_body (word ∷ []) rest = append_assoc word (10 ∷ []) rest
line_is_body (word ∷ next ∷ words) rest =
    append_assoc word (32 ∷ line (next ∷ words)) rest
    ∙ ap (λ t. word ++ 32 ∷ t) (line_is_body (next ∷ words) rest)
    ∙ sym (append_assoc word (32 ∷ body (next ∷ words)) (10 ∷ rest))

-- a byte that neither ends a line nor begins a comment
abbrev pub IsInside : ℕ → Type 0
IsInside c = (c ≢ 10) × (c ≢ 13) × (c ≢ 35)

inside_word : (word rest : List ℕ) → AllByRecursion IsInk word → AllByRecursion IsInside rest → AllByRecursion IsInside (word ++ rest)
inside_word [] rest ink inside = inside
inside_word (c ∷ cs) rest ink inside = ((omega arith, omega arith, omega arith), inside_word cs rest ink.1 inside)

body_inside : (words : List (List ℕ)) → AllByRecursion IsInked words → AllByRecursion IsInside (body words)
body_inside [] inked = tt
body_inside (word ∷ []) inked =
    subst (λ (t : List ℕ). AllByRecursion IsInside t) (append-nil word) (inside_word word [] inked.0.ink tt)
body_inside (word ∷ next ∷ words) inked =
    inside_word word (32 ∷ body (next ∷ words)) inked.0.ink
    ((omega arith, omega arith, omega arith), body_inside (next ∷ words) inked.1)

no_feed : (text : List ℕ) → AllByRecursion IsInside text → AllByRecursion (λ c. c ≢ 10) text
no_feed [] inside = tt
no_feed (c ∷ cs) inside = (inside.0.0, no_feed cs inside.1)

no_return : (text : List ℕ) → AllByRecursion IsInside text → without_return text ≡ text
no_return [] inside = refl
no_return (c ∷ []) inside = rw (ne_eqb c 13 inside.0.1)
no_return (c ∷ d ∷ ds) inside = ap (λ t. c ∷ t) (no_return (d ∷ ds) inside.1)

no_comment : (text : List ℕ) → AllByRecursion IsInside text → AllByRecursion (λ c. (c == 35) ≡ false) text
no_comment [] inside = tt
no_comment (c ∷ cs) inside = (ne_eqb c 35 inside.0.2, no_comment cs inside.1)

-- where no byte passes the test, none stands behind the first that does
pub place_of_none : (test : ℕ → Bool) (text : List ℕ) → AllByRecursion (λ c. test c ≡ false) text → position_or_len test text ≡ length text
place_of_none test text none =
    position_or_len_is test text (length text) 0 (omega arith)
    (λ k h. All-from_recursion (λ c. test c ≡ false) text none k 0 h) (λ h. absurd (omega arith))

pub before_none : (test : ℕ → Bool) (text : List ℕ) → AllByRecursion (λ c. test c ≡ false) text → before_first test text ≡ text
before_none test text none = ap (λ n. take n text) (place_of_none test text none) ∙ take_all (length text) text (omega arith)

dark : (word : List ℕ) → AllByRecursion IsInk word → AllByRecursion (λ c. is_blank c ≡ false) word
dark [] ink = tt
dark (c ∷ cs) ink = (rw (ne_eqb c 32 (omega arith), ne_eqb c 9 (omega arith)), dark cs ink.1)

some_word : (word : List ℕ) → 0 < length word → word ≢ []
some_word [] some none = omega arith
some_word (c ∷ cs) some none = cc

pub body_words : (words : List (List ℕ)) → AllByRecursion IsInked words → words_of (body words) ≡ words
body_words [] inked = words_of-empty [] refl
body_words (word ∷ []) inked = word_last word (dark word inked.0.ink) (some_word word inked.0.some)
body_words (word ∷ next ∷ words) inked =
    word_first word (body (next ∷ words)) 32 (dark word inked.0.ink) refl (some_word word inked.0.some)
    ∙ ap (λ ws. word ∷ ws) (body_words (next ∷ words) inked.1)

body_within : (words : List (List ℕ)) → AllByRecursion IsInked words → 0 < length words → length (body words) + 1 ≤ 21 * length words
body_within [] inked some = absurd (omega arith)
body_within (word ∷ []) inked some = omega (arith, inked.0.short)
body_within (word ∷ next ∷ words) inked some =
    omega (arith, inked.0.short, body_within (next ∷ words) inked.1 (omega arith), length-append word (32 ∷ body (next ∷ words)))

-- one to five short words
pub record IsWritten (words : List (List ℕ)) : Type 0 where
  pub some : 0 < length words
  pub few : length words ≤ 5
  pub inked : AllByRecursion IsInked words

-- no line is longer than this, with its line feed
pub body_short : (words : List (List ℕ)) → IsWritten words → length (body words) + 1 ≤ 105
body_short words written =
    let few : length words ≤ 5 = written.few in
    omega (arith, body_within words written.inked written.some)

-- a line that is written comes first, and then what follows it
pub body_told : (comments : Bool) (budget : ℕ) (words : List (List ℕ)) (at number : ℕ) (rest : List ℕ) → IsWritten words → at + 105 ≤ budget →
    told_lines comments budget at number (line words ++ rest)
    ≡ line_then (line_of comments at number (body words)) (told_lines comments budget (at + (length (body words) + 1)) (number + 1) rest)
body_told comments budget words at number rest written within =
    let short : length (body words) + 1 ≤ 105 = body_short words written in
    let inside : AllByRecursion IsInside (body words) = body_inside words written.inked in
    ap (told_lines comments budget at number) (line_is_body words rest)
    ∙ told_lines-ended comments budget at number (body words) rest (no_feed (body words) inside) (omega arith) (omega arith)
    ∙ ap (λ text. line_then (line_of comments at number text) (told_lines comments budget (at + (length (body words) + 1)) (number + 1) rest)) (no_return (body words) inside)

-- in a line that is written no comment begins
body_uncommented : (words : List (List ℕ)) → AllByRecursion IsInked words → before_first (λ c. c == 35) (body words) ≡ body words
body_uncommented words inked = before_none (λ c. c == 35) (body words) (no_comment (body words) (body_inside words inked))

-- and the bytes at the places of its words are the words
pub words_told : (comments : Bool) (words : List (List ℕ)) → AllByRecursion IsInked words → map (word_in (body words)) (words_in comments (body words)) ≡ words
words_told true words inked = word_texts true (body words) ∙ ap words_of (body_uncommented words inked) ∙ body_words words inked
words_told false words inked = word_texts false (body words) ∙ body_words words inked
