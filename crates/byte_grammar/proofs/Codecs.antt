-- What a codec is made of, and what follows from one.
use Rattle.std.proofs.Common.{◌≡◌, ℕ, List, length, Result, Ok, IfOk, ap, sym, subst, ◌∙◌}
use Rattle.byte_grammar.specs.declared.fault.CodecFault.{CodecFault}
use Rattle.byte_grammar.specs.Reader.{Reader, whole, IsBytes}
use Rattle.byte_grammar.specs.Codec.{IsCodec}
use Rattle.byte_grammar.specs.Calls.{Decodes, GivesIt, StopsFirst}
use Rattle.byte_grammar.proofs.Decoding.{decoded_found, decoded_only, decoded_first, whole_first}
use Rattle.byte_grammar.proofs.Places.{Places}
use Rattle.byte_grammar.proofs.Variants.{Makes, whole_made, whole_remade}

-- A reader that takes a format and a value, and tells the value.
pub codec_of : {A : Type 0} {read : Reader A} {part : ℕ × A → List ℕ} {P : ℕ × A → Type 0} {Rules : A → Type 0}
    {Spelling : ℕ → List ℕ → A → Type 0} → Makes (λ (t : ℕ × A). t.1) read part P → Places read
    → ((t : ℕ × A) → P t → Spelling t.0 (part t) t.1)
    → ((format : ℕ) (bytes : List ℕ) (x : A) → Spelling format bytes x → (bytes ≡ part (format, x)) × P (format, x))
    → ((format : ℕ) (bytes : List ℕ) (x : A) → Spelling format bytes x → Rules x)
    → IsCodec read Rules Spelling
codec_of {A = A} {read = read} {part = part} {Spelling = Spelling} made places from to keeps = record {
  takes = λ bytes x fits e.
      let w = whole_made made bytes x fits e in
      let t = w.parts in
      let says : (format : ℕ) × Spelling format bytes t.1 =
      (t.0, subst (λ (b : List ℕ). Spelling t.0 b t.1) (sym w.taken) (from t w.rule)) in
      subst (λ (y : A). (format : ℕ) × Spelling format bytes y) w.made says;
  again = λ format bytes x s.
      let h = to format bytes x s in
      ap (whole read) h.0 ∙ whole_remade made (format, x) h.1;
  keeps = keeps;
  once = λ format a b x p q. (to format a x p).0 ∙ sym (to format b x q).0;
  within = places.within;
  first = λ bytes n fits e tail fit. whole_first made places bytes fits n e tail fit;
}

-- no bytes spell two values
pub one_value : {A : Type 0} {read : Reader A} {Rules : A → Type 0} {Spelling : ℕ → List ℕ → A → Type 0}
    → IsCodec read Rules Spelling → (f g : ℕ) (bytes : List ℕ) (x y : A) → Spelling f bytes x → Spelling g bytes y → x ≡ y
one_value codec f g bytes x y p q = cc (codec.again f bytes x p, codec.again g bytes y q)

-- ---- what a call that decodes says

pub codec_found : {A : Type 0} {read : Reader A} {Rules : A → Type 0} {Spelling : ℕ → List ℕ → A → Type 0}
    → IsCodec read Rules Spelling → (bytes : List ℕ) → IsBytes bytes → (r : Result A CodecFault) → Decodes read bytes r
    → IfOk r (λ x. (format : ℕ) × Spelling format bytes x)
codec_found {read = read} {Spelling = Spelling} codec bytes fits r h =
    decoded_found read bytes (λ x. (format : ℕ) × Spelling format bytes x) r (λ x e. codec.takes bytes x fits e) h

pub codec_kept : {A : Type 0} {read : Reader A} {Rules : A → Type 0} {Spelling : ℕ → List ℕ → A → Type 0}
    → IsCodec read Rules Spelling → (bytes : List ℕ) → IsBytes bytes → (r : Result A CodecFault) → Decodes read bytes r
    → IfOk r Rules
codec_kept {read = read} {Rules = Rules} codec bytes fits r h =
    decoded_found read bytes Rules r (λ x e. let s = codec.takes bytes x fits e in codec.keeps s.0 bytes x s.1) h

pub codec_only : {A : Type 0} {read : Reader A} {Rules : A → Type 0} {Spelling : ℕ → List ℕ → A → Type 0}
    → IsCodec read Rules Spelling → (bytes : List ℕ) (format : ℕ) (x : A) → Spelling format bytes x
    → (r : Result A CodecFault) → Decodes read bytes r → GivesIt x r
codec_only {read = read} codec bytes format x s r h = decoded_only read bytes x r (codec.again format bytes x s) h

pub codec_first : {A : Type 0} {read : Reader A} {Rules : A → Type 0} {Spelling : ℕ → List ℕ → A → Type 0}
    → IsCodec read Rules Spelling → (bytes : List ℕ) → IsBytes bytes → (r : Result A CodecFault) → Decodes read bytes r
    → StopsFirst read bytes r
codec_first {read = read} codec bytes fits r h =
    decoded_first read bytes r (λ n e tail fit. codec.first bytes n fits e tail fit) h
