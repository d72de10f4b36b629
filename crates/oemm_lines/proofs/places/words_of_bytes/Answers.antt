use Rattle.std.proofs.Common.{◌∙◌, ◌+◌, length-drop, arith}
use Rattle.std.proofs.lemmas.List.{take_rest}
use Rattle.oemm_lines.proofs.PlaceLaws.{words_from-begin, words_from-step, words_found, dark_behind, words_from-end}
use Rattle.oemm_lines.proofs.places.words_of_bytes.Goals as goal

pub loop-at-init : goal.loop-at-init
loop-at-init c = record {
  in_range = c.blanks_in_front-at.ensures.within;
  begins = c.blanks_in_front-at.ensures.found;
  words = rw c.new-words.ensures.items (words_from-begin _ _ c.blanks_in_front-at.ensures.within c.blanks_in_front-at.ensures.before);
}

pub loop-at-preserved : goal.loop-at-preserved
loop-at-preserved c =
    let word = rw take_rest at c.word_length.ensures in
    let blanks = rw take_rest at c.blanks_in_front.ensures in
    let dark = c.loop-at.invariant.begins c.loop-at-test.true in
    record {
      in_range = omega (arith, blanks.within, word.within, length-drop (c.loop-at.at + c.word_length.result) c.args.text.now, length-drop c.loop-at.at c.args.text.now);
      begins = λ h. dark_behind _ _ _ (omega (arith, word.within, length-drop c.loop-at.at c.args.text.now)) h blanks.found;
      words = words_found _ _ _ _ _ _ c.loop-at.invariant.words
          (words_from-step _ _ _ _ c.loop-at-test.true dark word.within word.before word.found blanks.within blanks.before)
          c.in_ok-push.ensures.items;
    }

pub returns : goal.returns
returns c = c.from_vec.ensures ∙ words_from-end _ _ _ c.loop-at.at c.loop-at-test.false c.loop-at.invariant.words
