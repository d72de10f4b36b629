-- The lines of an OFF file, as they are read.
use Rattle.std.proofs.Common.{◌≡◌, ℕ, ◌+◌, ◌<◌, ◌≤◌, true, List, [], ◌∷◌, ◌++◌, length, refl, ap, ◌∙◌, arith}
use Rattle.std.specs.List.{filter}
use Rattle.std.proofs.lemmas.List.{length-map}
use Rattle.oemm_limits.specs.declared.TheConstants.{MOST_MESH_BYTES}
use Rattle.oemm_lists.specs.TextLine.{line}
use Rattle.oemm_lines.specs.declared.parts.Line.{Line}
use Rattle.oemm_lines.specs.declared.parts.Word.{Word}
use Rattle.oemm_lines.specs.Stream.{Flow, line_of, told_lines, word_in, texts_of}
use Rattle.off_reader.specs.Grammar.{has_any, has_words}
use Rattle.mesh_round_trip.proofs.Lines.{IsWritten, body, body_told, body_short, words_told}

-- the lines with words of bytes that stand at this place of a file
abbrev pub lines_at : ℕ → ℕ → List ℕ → List Line
lines_at at number bytes = filter has_words (told_lines true MOST_MESH_BYTES at number bytes).lines

-- the first of them has these words
pub record Begins (words : List (List ℕ)) (at number : ℕ) (rest : List ℕ) : Type 0 where
  pub first : Line
  pub next : ℕ
  pub says : texts_of first ≡ words
  pub near : next ≤ at + 105
  pub is : lines_at at number (line words ++ rest) ≡ first ∷ lines_at next (number + 1) rest

some_words : (l : Line) (words : List (List ℕ)) → texts_of l ≡ words → 0 < length words → has_words l ≡ true
some_words l words says some = some_any l.words (omega (arith, ap length says, length-map l.words (word_in l.bytes)))
  where
    some_any : (ws : List Word) → 0 < length ws → has_any ws ≡ true
    some_any [] some = absurd (omega arith)
    some_any (w ∷ ws) some = refl

kept : (l : Line) (ls : List Line) → has_words l ≡ true → filter has_words (l ∷ ls) ≡ l ∷ filter has_words ls
kept l ls some = rw some

-- a line that is written is read as a line of its words
pub begins : (words : List (List ℕ)) (at number : ℕ) (rest : List ℕ) → IsWritten words → at + 105 ≤ MOST_MESH_BYTES → Begins words at number rest
begins words at number rest written within =
    let first : Line = line_of true at number (body words) in
    let says : texts_of first ≡ words = words_told true words written.inked in
    let short : length (body words) + 1 ≤ 105 = body_short words written in
    record {
      first = first;
      next = at + (length (body words) + 1);
      says = says;
      near = omega arith;
      is = ap (λ (f : Flow). filter has_words f.lines) (body_told true MOST_MESH_BYTES words at number rest written within)
          ∙ kept first (told_lines true MOST_MESH_BYTES (at + (length (body words) + 1)) (number + 1) rest).lines (some_words first words says written.some);
    }
