-- Truths about four tests and about lists of tests.
use Rattle.std.proofs.Common.{◌≡◌, Bool, true, false, ◌&&◌, ◌||◌, refl}

-- what all have in common can be taken out
pub taken_out : (a b c r m : Bool) → ((a && m) || ((b && m) || ((c && m) || (r && m)))) ≡ (((a || (b || (c || false))) || r) && m)
taken_out true true true true true = refl
taken_out true true true false true = refl
taken_out true true false true true = refl
taken_out true true false false true = refl
taken_out true false true true true = refl
taken_out true false true false true = refl
taken_out true false false true true = refl
taken_out true false false false true = refl
taken_out false true true true true = refl
taken_out false true true false true = refl
taken_out false true false true true = refl
taken_out false true false false true = refl
taken_out false false true true true = refl
taken_out false false true false true = refl
taken_out false false false true true = refl
taken_out false false false false true = refl
taken_out true true true true false = refl
taken_out true true true false false = refl
taken_out true true false true false = refl
taken_out true true false false false = refl
taken_out true false true true false = refl
taken_out true false true false false = refl
taken_out true false false true false = refl
taken_out true false false false false = refl
taken_out false true true true false = refl
taken_out false true true false false = refl
taken_out false true false true false = refl
taken_out false true false false false = refl
taken_out false false true true false = refl
taken_out false false true false false = refl
taken_out false false false true false = refl
taken_out false false false false false = refl

-- a test that implies one of three is made at one of them
pub at_one : (a b c x r : Bool) → (let q = (a || (b || (c || false))) && x in ((a && q) || ((b && q) || ((c && q) || r))) ≡ (q || r))
at_one true true true true r = refl
at_one true true false true r = refl
at_one true false true true r = refl
at_one true false false true r = refl
at_one false true true true r = refl
at_one false true false true r = refl
at_one false false true true r = refl
at_one false false false true r = refl
at_one true true true false r = refl
at_one true true false false r = refl
at_one true false true false r = refl
at_one true false false false r = refl
at_one false true true false r = refl
at_one false true false false r = refl
at_one false false true false r = refl
at_one false false false false r = refl
