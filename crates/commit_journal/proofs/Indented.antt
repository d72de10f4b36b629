-- Lines behind two spaces.
use Rattle.std.proofs.Common.{◌≡◌, ℕ, List, [], ◌∷◌, ◌++◌, Result, OnOk, ap, sym, ◌∙◌, append-nil, append_assoc}
use Rattle.std.proofs.lemmas.Grind.{flat_map-append}
use Rattle.std.proofs.lemmas.Result.{on_ok_weaker}
use Rattle.commit_journal.specs.Text.{indented}

-- one more line
indented_push :
    (lines : List (List ℕ)) (last : List ℕ) → indented (lines ++ last ∷ []) ≡ indented lines ++ 32 ∷ 32 ∷ last
indented_push lines last =
    flat_map-append (λ (l : List ℕ). 32 ∷ 32 ∷ l) lines (last ∷ [])
    ∙ ap (λ (more : List ℕ). indented lines ++ 32 ∷ 32 ∷ more) (append-nil last)

-- a last line is written behind the others
pub written_last :
    {T E : Type 0} (r : Result T E) (old mid new : List ℕ) (lines : List (List ℕ)) (last : List ℕ) →
    mid ≡ old ++ indented lines → OnOk r (new ≡ mid ++ 32 ∷ 32 ∷ last) → OnOk r (new ≡ old ++ indented (lines ++ last ∷ []))
written_last r old mid new lines last h written =
    on_ok_weaker r (λ (e : new ≡ mid ++ 32 ∷ 32 ∷ last).
    e
    ∙ ap (λ (text : List ℕ). text ++ 32 ∷ 32 ∷ last) h
    ∙ append_assoc old (indented lines) (32 ∷ 32 ∷ last)
    ∙ ap (λ (more : List ℕ). old ++ more) (sym (indented_push lines last))) written
