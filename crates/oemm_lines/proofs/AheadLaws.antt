-- Parts of a buffer.
use Rattle.std.proofs.Common.{◌≡◌, ℕ, ◌+◌, ◌-◌, ◌≤◌, List, ◌++◌, length, take, drop, Some, None, refl, ap, sym, ◌∙◌, append_assoc, arith, rules}
use Rattle.std.specs.List.{slice_range, CopiedTo}
use Rattle.std.proofs.Math.Seq.{take-add}
use Rattle.std.proofs.lemmas.List.{drop-take, drop-drop, length-take, take_all, take_at, same_lists, places}
use Rattle.fault_counts.specs.Told.{Told, Takes}
use Rattle.oemm_lines.specs.Stream.{left_with}

-- the part without its first bytes
pub skipped : (xs : List ℕ) (from to count : ℕ) → from ≤ to → count ≤ length (slice_range xs from to) → slice_range xs (from + count) to ≡ drop count (slice_range xs from to)
skipped xs from to count order within =
    let size : to - from ≡ count + (to - (from + count)) = omega (arith, length-take (to - from) (drop from xs)) in
    sym (ap (λ n. drop count (take n (drop from xs))) size ∙ drop-take count (to - (from + count)) (drop from xs)
    ∙ ap (take (to - (from + count))) (drop-drop count from xs))

as_front : (xs : List ℕ) (from to : ℕ) → from ≤ to → drop from (take to xs) ≡ slice_range xs from to
as_front xs from to within =
    let size : to ≡ from + (to - from) = omega arith in
    ap (λ n. drop from (take n xs)) size ∙ drop-take from (to - from) xs

-- the part of an unchanged front
pub front_kept : (xs ys : List ℕ) (from to : ℕ) → from ≤ to → take to ys ≡ take to xs → slice_range ys from to ≡ slice_range xs from to
front_kept xs ys from to within same = sym (as_front ys from to within) ∙ ap (drop from) same ∙ as_front xs from to within

-- the part and what stands behind it
pub grown : (xs : List ℕ) (from to n : ℕ) → from ≤ to → slice_range xs from (to + n) ≡ slice_range xs from to ++ slice_range xs to (to + n)
grown xs from to n within =
    let whole : (to + n) - from ≡ (to - from) + n = omega arith in
    let more : (to + n) - to ≡ n = omega arith in
    let place : from + (to - from) ≡ to = omega arith in
    ap (λ m. take m (drop from xs)) whole ∙ take-add (to - from) n (drop from xs)
    ∙ ap (λ (t : List ℕ). slice_range xs from to ++ take n t) (drop-drop (to - from) from xs)
    ∙ ap (λ m. slice_range xs from to ++ take n (drop m xs)) place
    ∙ ap (λ m. slice_range xs from to ++ take m (drop to xs)) (sym more)

-- the bytes that are left are the same where some were read ahead
pub read_ahead : (old new : Told) (ahead more : List ℕ) → Takes old new more → left_with ahead old ≡ left_with (ahead ++ more) new
read_ahead old None ahead more taken = ap (left_with ahead) taken
read_ahead old (Some rest) ahead more taken = ap (left_with ahead) taken ∙ ap Some (sym (append_assoc ahead more rest))

-- the part copied to the front
pub copied : (xs ys : List ℕ) (from to : ℕ) → from ≤ to → to ≤ length xs → length ys ≡ length xs → CopiedTo xs ys from 0 (to - from) → slice_range ys 0 (to - from) ≡ slice_range xs from to
copied xs ys from to order within sizes same =
    same_lists _ _ (search (rules, places)) (λ k d h. grind (arith, places, same k d (omega arith)))

-- the part that was moved, and behind which a block was taken
pub part_is : (now before moved after : List ℕ) (from to at end : ℕ) → slice_range before from to ≡ now → slice_range moved at end ≡ slice_range before from to → at ≤ end → take end after ≡ take end moved → slice_range after at end ≡ now
part_is now before moved after from to at end is kept order front = front_kept moved after at end order front ∙ kept ∙ is

-- and with the bytes that were taken
pub grown_part : (now after : List ℕ) (at end n : ℕ) → at ≤ end → slice_range after at end ≡ now → slice_range after at (end + n) ≡ now ++ slice_range after end (end + n)
grown_part now after at end n order is = grown after at end n order ∙ ap (λ (t : List ℕ). t ++ slice_range after end (end + n)) is

pub unmoved_front : (now part : List ℕ) → part ≡ now → take (length now) part ≡ now
unmoved_front now part same = ap (take (length now)) same ∙ take_all (length now) now (omega arith)

pub grown_front : (now part more : List ℕ) → part ≡ now ++ more → take (length now) part ≡ now
grown_front now part more same = ap (take (length now)) same ∙ take_at now more (length now) refl

pub unmoved_left : (old new : Told) (now part : List ℕ) → part ≡ now → new ≡ old → left_with now old ≡ left_with part new
unmoved_left old new now part same left = cc

pub grown_left : (old new : Told) (now part more : List ℕ) → part ≡ now ++ more → Takes old new more → left_with now old ≡ left_with part new
grown_left old new now part more same taken = read_ahead old new now more taken ∙ ap (λ (t : List ℕ). left_with t new) (sym same)
