-- The numbers that words write.
use Rattle.std.proofs.Common.{◌≡◌, ◌≢◌, ℕ, ◌+◌, ◌-◌, true, Bool, List, [], ◌∷◌, length, take, drop, Option, Some, None, MatchOption, ℤ, pos, refl, ap, sym, ◌∙◌, arith, ne_eqb, option_map, length-drop}
use Rattle.std.specs.List.{position_or_len, before_first, after_first}
use Rattle.std.specs.Option.{is_some}
use Rattle.std.proofs.lemmas.List.{take_all, drop_all}
use Rattle.memchr.specs.Find.{IsFirstByte}
use Rattle.oemm_lines.specs.Numbers.{unsigned_of, integer_of, held_back}
use Rattle.oemm_lines.proofs.PlaceLaws.{first_place, no_place}
use Rattle.off_reader.specs.Numbers.{signed_of, is_exponent}

-- no bytes are no number
pub signed_of-empty : (word : List ℕ) → length word ≡ 0 → signed_of word ≡ None
unfolding signed_of
signed_of-empty [] empty = refl
signed_of-empty (c ∷ cs) empty = absurd (omega arith)

-- digits behind a plus
pub signed_of-plus : (word : List ℕ) (c : ℕ) (cs : List ℕ) → word ≡ c ∷ cs → c ≡ 43 → signed_of word ≡ option_map pos (unsigned_of cs)
unfolding signed_of
signed_of-plus word c cs is plus = rw (is, plus) refl

-- another byte in front
pub signed_of-other : (word : List ℕ) (c : ℕ) (cs : List ℕ) → word ≡ c ∷ cs → c ≢ 43 → signed_of word ≡ integer_of word
unfolding signed_of
signed_of-other word c cs is other = rw (is, ne_eqb c 43 other) refl

-- where the first byte that passes a test stands
pub front_of : (test : ℕ → Bool) (text : List ℕ) (k : ℕ) → IsFirstByte test text (Some k) → take k text ≡ before_first test text
front_of test text k first = ap (λ n. take n text) (sym (first_place test text k first))

pub back_of : (test : ℕ → Bool) (text : List ℕ) (k : ℕ) → IsFirstByte test text (Some k) → take (length text - (k + 1)) (drop (k + 1) text) ≡ after_first test text
back_of test text k first =
    take_all (length text - (k + 1)) (drop (k + 1) text) (omega (arith, length-drop (k + 1) text))
    ∙ ap (λ n. drop (n + 1) text) (sym (first_place test text k first))

pub rest_of : (test : ℕ → Bool) (text : List ℕ) (k : ℕ) → IsFirstByte test text (Some k) → drop k text ≡ drop (position_or_len test text) text
rest_of test text k first = ap (λ n. drop n text) (sym (first_place test text k first))

-- no byte passes it
pub front_none : (test : ℕ → Bool) (text : List ℕ) → IsFirstByte test text None → text ≡ before_first test text
front_none test text none =
    sym (ap (λ n. take n text) (no_place test text none) ∙ take_all (length text) text (omega arith))

pub back_none : (test : ℕ → Bool) (text : List ℕ) → IsFirstByte test text None → [] ≡ after_first test text
back_none test text none =
    sym (ap (λ n. drop (n + 1) text) (no_place test text none) ∙ drop_all (length text + 1) text (omega arith))

pub rest_none : (test : ℕ → Bool) (text : List ℕ) → IsFirstByte test text None → [] ≡ drop (position_or_len test text) text
rest_none test text none =
    sym (ap (λ n. drop n text) (no_place test text none) ∙ drop_all (length text) text (omega arith))

-- an exponent
pub is_exponent-none : (text : List ℕ) → length text ≡ 0 → true ≡ is_exponent text
unfolding is_exponent
is_exponent-none [] none = refl
is_exponent-none (c ∷ cs) none = absurd (omega arith)

some_by : (found : Option ℤ) (n : Option ℤ) → MatchOption n (found ≡ None) (λ m. (z : ℤ) × (found ≡ Some z) × (m ≡ held_back z)) → is_some n ≡ is_some found
some_by found None is = sym (ap is_some is)
some_by found (Some m) is = sym (ap is_some is.1)

pub is_exponent-some : (text digits : List ℕ) (c : ℕ) (n : Option ℤ) → text ≡ c ∷ digits → MatchOption n (signed_of digits ≡ None) (λ m. (z : ℤ) × (signed_of digits ≡ Some z) × (m ≡ held_back z)) → is_some n ≡ is_exponent text
unfolding is_exponent
is_exponent-some text digits c n is found = rw is (some_by (signed_of digits) n found)
