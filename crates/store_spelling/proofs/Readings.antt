-- What a call that decodes answers, and what a codec spells.
use Rattle.std.proofs.Common.{◌≡◌, ℕ, List, Result, Ok, Err, Some, None, ap}
use Rattle.std.specs.Result.{result_ok}
use Rattle.byte_grammar.specs.Calls.{Decodes}
use Rattle.byte_grammar.specs.Codec.{IsCodec}
use Rattle.byte_grammar.specs.Reader.{Reader, whole, IsBytes}
use Rattle.byte_grammar.specs.declared.fault.CodecFault.{CodecFault}
use Rattle.byte_grammar.specs.declared.fault.CodecFault.TheVariants as faults
use Rattle.store_spelling.specs.Spelled.{Tells, read_as}

-- what decoding answers is what the bytes spell
pub told : {A : Type 0} (read : Reader A) (bytes : List ℕ) (answer : Result A CodecFault) → Decodes read bytes answer
    → Tells (read_as read) bytes answer
told read bytes (Ok x) h = ap result_ok h
told read bytes (Err (faults.Bad at)) h = ap result_ok h.1
told read bytes (Err faults.Memory) h = tt

is_read : {A : Type 0} (r : Result A ℕ) (x : A) → result_ok r ≡ Some x → r ≡ Ok x
is_read (Ok y) x e = let same : Some y ≡ Some x = e in cc
is_read {A = A} (Err n) x e = let none : None ≡ Some x = e in absurd (cc)

module _ {A : Type 0} {read : Reader A} {Rules : A → Type 0} {Spelling : ℕ → List ℕ → A → Type 0}
    (codec : IsCodec read Rules Spelling) where
  -- what spells a value is read as it
  pub is_spelled : (format : ℕ) (bytes : List ℕ) (x : A) → Spelling format bytes x → read_as read bytes ≡ Some x
  is_spelled format bytes x s = ap result_ok (codec.again format bytes x s)

  -- what is read as a value spells it
  pub has_spelling : (bytes : List ℕ) (x : A) → IsBytes bytes → read_as read bytes ≡ Some x
      → (format : ℕ) × Spelling format bytes x
  has_spelling bytes x fits e = codec.takes bytes x fits (is_read (whole read bytes) x e)
