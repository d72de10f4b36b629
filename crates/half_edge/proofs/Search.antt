-- A search among all keys.
use Rattle.std.proofs.Common.{◌≡◌, ℕ, ◌+◌, ◌<◌, ◌≤◌, length, Some, None, sym, ◌∙◌, subst, arith, inl, inr}
use Rattle.std.proofs.lemmas.Bool.{cases_lt, cases_eq}
use Rattle.std.proofs.lemmas.List.{get_or_past}
use Rattle.half_edge.specs.Halves.{Slots, at, Goes}

pub none_next : (s : Slots) (k u v : ℕ) → ((j : ℕ) → j < k → Goes s j u v → ⊥) → (Goes s k u v → ⊥) → (j : ℕ) →
    j < k + 1 → Goes s j u v → ⊥
none_next s k u v below here j lt go =
    elim (cases_eq j k) [
      | inl same ↦ here (subst (λ (i : ℕ). Goes s i u v) same go)
      | inr apart ↦ below j (omega arith) go
    ]

pub none_past : (s : Slots) (k u v : ℕ) → ((j : ℕ) → j < k → Goes s j u v → ⊥) → length s ≤ k → (j : ℕ) → Goes s j u v →
    ⊥
none_past s k u v below past j go =
    elim (cases_lt j k) [
      | inl lt ↦ below j lt go
      | inr far ↦ let none : at s j ≡ None = get_or_past s j None (omega arith) in let clash : None ≡ Some go.0 =
          sym none ∙ go.1 in cc
    ]
