-- Values that have spellings.
use Rattle.std.specs.Prelude.{◌≡◌, ℕ, ◌-◌, ◌++◌, List, length, take, Ok, Err}
use Rattle.byte_grammar.specs.Reader.{Reader, whole, IsBytes, IsWithin}

-- A reader, the rules of values, and the bytes that spell a value in a format, which is a number.
pub record IsCodec {A : Type 0} (read : Reader A) (Rules : A → Type 0) (Spelling : ℕ → List ℕ → A → Type 0) : Type 0 where
  -- what is read of all the bytes is spelled so in some format
  pub takes : (bytes : List ℕ) (x : A) → IsBytes bytes → whole read bytes ≡ Ok x → (format : ℕ) × Spelling format bytes x
  -- what is spelled so in a format is read
  pub again : (format : ℕ) (bytes : List ℕ) (x : A) → Spelling format bytes x → whole read bytes ≡ Ok x
  -- what has a spelling keeps the rules
  pub keeps : (format : ℕ) (bytes : List ℕ) (x : A) → Spelling format bytes x → Rules x
  -- a value has one spelling in a format
  pub once : (format : ℕ) (a b : List ℕ) (x : A) → Spelling format a x → Spelling format b x → a ≡ b
  -- no more is left than there was
  pub within : (bytes : List ℕ) → IsBytes bytes → IsWithin (length bytes) (read bytes)
  -- whatever stands behind the place where reading stops, it stops at no place before it
  pub first : (bytes : List ℕ) (n : ℕ) → IsBytes bytes → whole read bytes ≡ Err n
      → (tail : List ℕ) → IsBytes tail → IsWithin (length tail) (read (take (length bytes - n) bytes ++ tail))
