-- What is told of an object after several calls.
use Rattle.std.proofs.Common.{ℕ, ◌+◌, ◌-◌, ◌<◌, List, ◌++◌, length, take, drop, Some, None, sym, subst, arith, length-append}
use Rattle.std.proofs.Math.Seq.{take-add}
use Rattle.std.proofs.lemmas.List.{take_rest}
use Rattle.fault_counts.specs.Told.{Told, Takes, Puts}
use Rattle.fault_counts.proofs.InRow.{puts_more}
use Rattle.oemm_io.specs.Whole.{IsLongerThan}

-- more bytes than the limit were taken
pub takes_longer :
    (old new : Told) (bytes : List ℕ) (limit : ℕ) → Takes old new bytes → limit < length bytes →
    IsLongerThan old limit
takes_longer old None bytes limit h i = subst (λ (told : Told). IsLongerThan told limit) (sym h) tt
takes_longer old (Some rest) bytes limit h i =
    let more : limit < length (bytes ++ rest) = omega (arith, length-append bytes rest) in
    subst (λ (told : Told). IsLongerThan told limit) (sym h) more

-- a prefix of the rest was put behind the first bytes
pub puts_next :
    (old mid new : Told) (bytes : List ℕ) (at n : ℕ) → Puts old mid (take at bytes) →
    Puts mid new (take n (take (length bytes - at) (drop at bytes))) → Puts old new (take (at + n) bytes)
puts_next old mid new bytes at n h i =
    let rest = take_rest bytes at in
    rw take-add (puts_more old mid new (take at bytes) (take n (drop at bytes)) h (rw rest at i))
