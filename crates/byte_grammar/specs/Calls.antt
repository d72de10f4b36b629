-- What calls that read give.
use Rattle.std.specs.Prelude.{◌≡◌, ℕ, ◌+◌, ◌≤◌, ◌++◌, List, length, take, Result, Ok, Err, Option, Some, None, IsErr}
use Rattle.byte_grammar.specs.declared.stop.Stop.{Stop}
use Rattle.byte_grammar.specs.declared.stop.Stop.TheVariants as stop
use Rattle.byte_grammar.specs.declared.fault.CodecFault.{CodecFault}
use Rattle.byte_grammar.specs.declared.fault.CodecFault.TheVariants as faults
use Rattle.byte_grammar.specs.Reader.{Reader, whole, IsBytes, IsWithin}

-- what a call found, seen by a view, is what a reader gives; it finds nothing where the reader stops
abbrev pub Finds : {X Y : Type 0} → (X → Y) → Option X → Result Y ℕ → Type 0
Finds view (Some x) read = read ≡ Ok (view x)
Finds view None read = IsErr read

abbrev pub Stops : {Y : Type 0} → Stop → Result Y ℕ → Type 0
Stops stop.Memory read = Unit {0}
Stops (stop.Bad left) read = read ≡ Err left

-- what a call gives, seen by a view, is what a reader gives, unless memory ran out
abbrev pub Gives : {X Y : Type 0} → (X → Y) → Result X Stop → Result Y ℕ → Type 0
Gives view (Ok x) read = read ≡ Ok (view x)
Gives view (Err e) read = Stops e read

-- what a call gives inside a unit, where the place is that of the unit
abbrev pub Fills : {X Y : Type 0} → (X → Y) → Result X Stop → Result Y ℕ → Type 0
Fills view (Ok x) read = read ≡ Ok (view x)
Fills view (Err (stop.Bad left)) read = IsErr read
Fills view (Err stop.Memory) read = Unit {0}

-- no more is left than there was
abbrev pub ReadsWithin : {X : Type 0} → (X → ℕ) → ℕ → Result X Stop → Type 0
ReadsWithin left n (Ok x) = left x ≤ n
ReadsWithin left n (Err (stop.Bad k)) = k ≤ n
ReadsWithin left n (Err stop.Memory) = Unit {0}

-- ---- decoding

-- The call gives what reading gives: the value, or the place where reading stops; or memory ran out.
abbrev pub Decodes : {X : Type 0} → Reader X → List ℕ → Result X CodecFault → Type 0
Decodes read bytes (Ok x) = whole read bytes ≡ Ok x
Decodes read bytes (Err (faults.Bad at)) = (left : ℕ) × (whole read bytes ≡ Err left) × (at + left ≡ length bytes)
Decodes read bytes (Err faults.Memory) = Unit {0}

-- the value is answered, unless memory runs out
abbrev pub GivesIt : {X : Type 0} → X → Result X CodecFault → Type 0
GivesIt y (Ok x) = x ≡ y
GivesIt y (Err (faults.Bad at)) = ⊥
GivesIt y (Err faults.Memory) = Unit {0}

-- Whatever bytes stand behind the place of the fault, reading stops at no place before it.
abbrev pub StopsFirst : {X : Type 0} → Reader X → List ℕ → Result X CodecFault → Type 0
StopsFirst read bytes (Ok x) = Unit {0}
StopsFirst read bytes (Err (faults.Bad at)) =
    (tail : List ℕ) → IsBytes tail → IsWithin (length tail) (read (take at bytes ++ tail))
StopsFirst read bytes (Err faults.Memory) = Unit {0}
