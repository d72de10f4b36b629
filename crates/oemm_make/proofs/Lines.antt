-- The bytes of lines that are written, and the lines that they are read as.
use Rattle.std.proofs.Common.{◌≡◌, ◌≢◌, ℕ, suc, ◌+◌, ◌*◌, ◌<◌, ◌≤◌, Bool, true, false, ◌==◌, nat_lt, List, [], ◌∷◌, ◌++◌, length, map, take, None, Result, refl, ap, sym, subst, ◌∙◌, append_assoc, append-nil, length-append, arith, ne_eqb, lt-ltb}
use Rattle.std.specs.List.{AllByRecursion, before_first, filter, flat_map, position_or_len}
use Rattle.std.proofs.lemmas.List.{length-map, take_all}
use Rattle.std.proofs.lemmas.List.Elements.{All-from_recursion}
use Rattle.std.proofs.lemmas.List.Sums.{position_or_len_is}
use Rattle.oemm_limits.specs.declared.TheConstants.{MOST_SCRIPT_BYTES}
use Rattle.oemm_lists.specs.TextLine.{line}
use Rattle.oemm_lines.specs.declared.parts.Line.{Line}
use Rattle.oemm_lines.specs.Words.{is_blank, words_of}
use Rattle.oemm_lines.specs.Lines.{without_return}
use Rattle.oemm_lines.specs.Stream.{Flow, line_then, line_of, told_lines, word_in, words_in, texts_of}
use Rattle.oemm_lines.proofs.WordLaws.{word_first, word_last, words_of-empty}
use Rattle.oemm_lines.proofs.WordPlaces.{word_texts}
use Rattle.oemm_lines.proofs.FlowLaws.{told_lines-ended, told_lines-none}
use Rattle.edit_script.specs.Grammar.{has_words}
use Rattle.edit_script.specs.Line.{line_says}
use Rattle.edit_script.specs.Tells.{saying, sayings}
use Rattle.edit_script.specs.declared.fault.ScriptWhy.{ScriptWhy}
use Rattle.edit_script.specs.declared.line.LineMeaning.{LineMeaning}
use Rattle.oemm_make.proofs.Ink.{IsInk, IsInked}

-- the bytes of a line before its line feed
abbrev pub body : List (List ℕ) → List ℕ
body [] = []
body (word ∷ []) = word
body (word ∷ next ∷ words) = word ++ 32 ∷ body (next ∷ words)

pub line_is_body : (words : List (List ℕ)) (rest : List ℕ) → line words ++ rest ≡ body words ++ 10 ∷ rest
line_is_body [] rest = refl
line_is_body (word ∷ []) rest = append_assoc word (10 ∷ []) rest
line_is_body (word ∷ next ∷ words) rest =
    append_assoc word (32 ∷ line (next ∷ words)) rest
    ∙ ap (λ t. word ++ 32 ∷ t) (line_is_body (next ∷ words) rest)
    ∙ sym (append_assoc word (32 ∷ body (next ∷ words)) (10 ∷ rest))

-- a byte that neither ends a line nor begins a comment
abbrev pub IsInside : ℕ → Type 0
IsInside c = (c ≢ 10) × (c ≢ 13) × (c ≢ 35)

inside_word : (word rest : List ℕ) → AllByRecursion IsInk word → AllByRecursion IsInside rest → AllByRecursion IsInside (word ++ rest)
inside_word [] rest ink inside = inside
inside_word (c ∷ cs) rest ink inside = ((omega arith, omega arith, omega arith), inside_word cs rest ink.1 inside)

-- words of 40 bytes at most
abbrev pub IsWord : List ℕ → Type 0
IsWord word = IsInked 40 word

body_inside : (words : List (List ℕ)) → AllByRecursion IsWord words → AllByRecursion IsInside (body words)
body_inside [] inked = tt
body_inside (word ∷ []) inked =
    subst (λ (t : List ℕ). AllByRecursion IsInside t) (append-nil word) (inside_word word [] inked.0.ink tt)
body_inside (word ∷ next ∷ words) inked =
    inside_word word (32 ∷ body (next ∷ words)) inked.0.ink
    ((omega arith, omega arith, omega arith), body_inside (next ∷ words) inked.1)

no_feed : (text : List ℕ) → AllByRecursion IsInside text → AllByRecursion (λ c. c ≢ 10) text
no_feed [] inside = tt
no_feed (c ∷ cs) inside = (inside.0.0, no_feed cs inside.1)

no_return : (text : List ℕ) → AllByRecursion IsInside text → without_return text ≡ text
no_return [] inside = refl
no_return (c ∷ []) inside = rw (ne_eqb c 13 inside.0.1)
no_return (c ∷ d ∷ ds) inside = ap (λ t. c ∷ t) (no_return (d ∷ ds) inside.1)

no_comment : (text : List ℕ) → AllByRecursion IsInside text → AllByRecursion (λ c. (c == 35) ≡ false) text
no_comment [] inside = tt
no_comment (c ∷ cs) inside = (ne_eqb c 35 inside.0.2, no_comment cs inside.1)

-- where no byte passes the test, none stands behind the first that does
place_of_none : (test : ℕ → Bool) (text : List ℕ) → AllByRecursion (λ c. test c ≡ false) text → position_or_len test text ≡ length text
place_of_none test text none =
    position_or_len_is test text (length text) 0 (omega arith)
    (λ k h. All-from_recursion (λ c. test c ≡ false) text none k 0 h) (λ h. absurd (omega arith))

before_none : (test : ℕ → Bool) (text : List ℕ) → AllByRecursion (λ c. test c ≡ false) text → before_first test text ≡ text
before_none test text none = ap (λ n. take n text) (place_of_none test text none) ∙ take_all (length text) text (omega arith)

dark : (word : List ℕ) → AllByRecursion IsInk word → AllByRecursion (λ c. is_blank c ≡ false) word
dark [] ink = tt
dark (c ∷ cs) ink = (rw (ne_eqb c 32 (omega arith), ne_eqb c 9 (omega arith)), dark cs ink.1)

some_word : (word : List ℕ) → 0 < length word → word ≢ []
some_word [] some none = omega arith
some_word (c ∷ cs) some none = cc

body_words : (words : List (List ℕ)) → AllByRecursion IsWord words → words_of (body words) ≡ words
body_words [] inked = words_of-empty [] refl
body_words (word ∷ []) inked = word_last word (dark word inked.0.ink) (some_word word inked.0.some)
body_words (word ∷ next ∷ words) inked =
    word_first word (body (next ∷ words)) 32 (dark word inked.0.ink) refl (some_word word inked.0.some)
    ∙ ap (λ ws. word ∷ ws) (body_words (next ∷ words) inked.1)

body_within : (words : List (List ℕ)) → AllByRecursion IsWord words → 0 < length words → length (body words) + 1 ≤ 41 * length words
body_within [] inked some = absurd (omega arith)
body_within (word ∷ []) inked some = omega (arith, inked.0.short)
body_within (word ∷ next ∷ words) inked some =
    omega (arith, inked.0.short, body_within (next ∷ words) inked.1 (omega arith), length-append word (32 ∷ body (next ∷ words)))

-- one to eight words
pub record IsWritten (words : List (List ℕ)) : Type 0 where
  pub some : 0 < length words
  pub few : length words ≤ 8
  pub inked : AllByRecursion IsWord words

-- no line is longer than this
body_short : (words : List (List ℕ)) → IsWritten words → length (body words) + 1 ≤ 328
body_short words written =
    let few : length words ≤ 8 = written.few in
    omega (arith, body_within words written.inked written.some)

-- a line that is written comes first, and then what follows it
body_told : (budget : ℕ) (words : List (List ℕ)) (at number : ℕ) (rest : List ℕ) → IsWritten words → at + (length (body words) + 1) ≤ budget →
    told_lines true budget at number (line words ++ rest)
    ≡ line_then (line_of true at number (body words)) (told_lines true budget (at + (length (body words) + 1)) (number + 1) rest)
body_told budget words at number rest written within =
    let short : length (body words) + 1 ≤ 328 = body_short words written in
    let inside : AllByRecursion IsInside (body words) = body_inside words written.inked in
    ap (told_lines true budget at number) (line_is_body words rest)
    ∙ told_lines-ended true budget at number (body words) rest (no_feed (body words) inside) (omega arith) within
    ∙ ap (λ text. line_then (line_of true at number text) (told_lines true budget (at + (length (body words) + 1)) (number + 1) rest)) (no_return (body words) inside)

-- in a line that is written no comment begins
body_uncommented : (words : List (List ℕ)) → AllByRecursion IsWord words → before_first (λ c. c == 35) (body words) ≡ body words
body_uncommented words inked = before_none (λ c. c == 35) (body words) (no_comment (body words) (body_inside words inked))

-- and the bytes at the places of its words are the words
words_told : (words : List (List ℕ)) → AllByRecursion IsWord words → map (word_in (body words)) (words_in true (body words)) ≡ words
words_told words inked = word_texts true (body words) ∙ ap words_of (body_uncommented words inked) ∙ body_words words inked

some_words : (l : Line) (words : List (List ℕ)) → texts_of l ≡ words → 0 < length words → has_words l ≡ true
some_words l words says some =
    lt-ltb 0 (length l.words) (omega (arith, ap length says, length-map l.words (word_in l.bytes)))

kept : (l : Line) (ls : List Line) → has_words l ≡ true → filter has_words (l ∷ ls) ≡ l ∷ filter has_words ls
kept l ls some = rw some

-- a line that is written says what its words say
one_says : (words : List (List ℕ)) (at number : ℕ) (ls : List Line) → IsWritten words →
    sayings (filter has_words (line_of true at number (body words) ∷ ls)) ≡ line_says words ∷ sayings (filter has_words ls)
one_says words at number ls written =
    let first : Line = line_of true at number (body words) in
    let says : texts_of first ≡ words = words_told words written.inked in
    ap (λ (lines : List Line). sayings lines) (kept first ls (some_words first words says written.some))
    ∙ ap (λ (ws : List (List ℕ)). line_says ws ∷ sayings (filter has_words ls)) says

-- lines that are written say one after another what their words say, and nothing stands behind them
pub record ReadsLines (lines : List (List (List ℕ))) (flow : Flow) : Type 0 where
  pub whole : flow.fault ≡ None
  pub told : sayings (filter has_words flow.lines) ≡ map line_says lines

pub read_lines : (lines : List (List (List ℕ))) (at number : ℕ) → AllByRecursion IsWritten lines →
    at + length (flat_map line lines) ≤ MOST_SCRIPT_BYTES →
    ReadsLines lines (told_lines true MOST_SCRIPT_BYTES at number (flat_map line lines))
read_lines [] at number written within =
    subst (λ (f : Flow). ReadsLines [] f) (sym (told_lines-none true MOST_SCRIPT_BYTES at number)) (record { whole = refl; told = refl })
read_lines (words ∷ lines) at number written within =
    let rest : List ℕ = flat_map line lines in
    let size : length (line words ++ rest) ≡ length (body words) + (1 + length rest)
    = ap (λ (t : List ℕ). length t) (line_is_body words rest) ∙ length-append (body words) (10 ∷ rest) ∙ omega arith in
    let behind : ReadsLines lines (told_lines true MOST_SCRIPT_BYTES (at + (length (body words) + 1)) (number + 1) rest)
    = read_lines lines (at + (length (body words) + 1)) (number + 1) written.1 (omega arith) in
    subst (λ (f : Flow). ReadsLines (words ∷ lines) f)
    (sym (body_told MOST_SCRIPT_BYTES words at number rest written.0 (omega arith))) (record {
      whole = behind.whole;
      told = one_says words at number (told_lines true MOST_SCRIPT_BYTES (at + (length (body words) + 1)) (number + 1) rest).lines written.0
          ∙ ap (λ (more : List (Result LineMeaning ScriptWhy)). line_says words ∷ more) behind.told;
    })

-- the length of a line
pub line_length : (words : List (List ℕ)) → 0 < length words → length (line words) ≡ length (body words) + 1
line_length words some =
    ap (λ (t : List ℕ). length t) (sym (append-nil (line words)) ∙ line_is_body words []) ∙ length-append (body words) (10 ∷ []) ∙ omega arith

-- the bytes of words
abbrev pub bytes_in : List (List ℕ) → ℕ
bytes_in [] = 0
bytes_in (word ∷ words) = length word + bytes_in words

pub body_size : (words : List (List ℕ)) → 0 < length words → length (body words) + 1 ≡ bytes_in words + length words
body_size [] some = absurd (omega arith)
body_size (word ∷ []) some = omega arith
body_size (word ∷ next ∷ words) some =
    let rest : length (body (next ∷ words)) + 1 ≡ bytes_in (next ∷ words) + length (next ∷ words) = body_size (next ∷ words) (omega arith) in
    let whole : length (body (word ∷ next ∷ words)) ≡ length word + (1 + length (body (next ∷ words)))
    = length-append word (32 ∷ body (next ∷ words)) ∙ omega arith in
    let all : bytes_in (word ∷ next ∷ words) ≡ length word + bytes_in (next ∷ words) = refl in
    omega arith
