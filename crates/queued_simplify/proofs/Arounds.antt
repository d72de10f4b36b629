-- Names near a collapse.
use Rattle.std.proofs.Common.{◌≡◌, ◌⊎◌, inl, inr, ℕ, ◌+◌, ◌<◌, ◌||◌, eqb, Bool, true, false, cond, List, [], ◌∷◌, ◌++◌, length, take, get_or, refl, sym, ap, ◌∙◌, subst}
use Rattle.std.proofs.lemmas.Bool.{false≢true, or_left, or_right, or_cases, eqb-true, eq-eqb}
use Rattle.std.proofs.lemmas.List.Folds.{list_any-append}
use Rattle.std.specs.FinMap as finite
use Rattle.std.specs.Ordering.{nat_cmp}
use Rattle.oemm_lists.specs.Numbers.{among}
use Rattle.oemm_octree.specs.declared.points.Point.{Point}
use Rattle.mesh_data.specs.Edits.{is_held}
use Rattle.mesh_data.specs.Mesh.{Mesh}
use Rattle.queued_simplify.specs.Filled.{AreHeldAround}
use Rattle.queued_simplify.specs.Served.{IsPair}
use Rattle.queued_simplify.specs.Turns.{IsAround, chosen, is_refused}
use Rattle.queued_simplify.proofs.Fills.{among_more}
use Rattle.queued_simplify.proofs.Turns.{pair_back}

abbrev Marks : Type 0
Marks = finite.FinMap nat_cmp ℕ

pub around_same : (inside : Point → Bool) (m : Mesh) (v : ℕ) (ring : List ℕ) (marks : Marks) (names set : List ℕ)
    → IsAround inside m v ring marks names → ((x : ℕ) → among x set ≡ among x names)
    → IsAround inside m v ring marks set
around_same inside m v ring marks names set a same = record {
  itself = λ y on. same y ∙ a.itself y on;
  onto = λ x on p. same x ∙ a.onto x on p;
  near = λ x y on p. elim (a.near x y on p) [ inl is ↦ inl (same x ∙ is) | inr kept ↦ inr kept ];
  held = λ x on. a.held x (sym (same x) ∙ on);
}

pub around_start : (inside : Point → Bool) (m : Mesh) (v : ℕ) (marks : Marks) → IsAround inside m v [] marks []
around_start inside m v marks = record {
  itself = λ y on. absurd (false≢true on);
  onto = λ x on p. absurd (false≢true on);
  near = λ x y on p. absurd (false≢true on);
  held = λ x on. absurd (false≢true on);
}

-- ---- the names that are chosen
in_chosen : (all : Bool) (marks : Marks) (x : ℕ) (near : List ℕ) → among x (chosen all marks near) ≡ true
    → among x near ≡ true
in_chosen all marks x [] = λ on. on
in_chosen all marks x (n ∷ ns) =
    elim (all || is_refused marks n) as (λ b. among x (cond b (n ∷ chosen all marks ns) (chosen all marks ns)) ≡ true
    → among x (n ∷ ns) ≡ true) [
      | true ↦ λ on. elim (or_cases (eqb n x) _ on) [
        | inl is ↦ or_left (eqb n x) _ is
        | inr more ↦ or_right (eqb n x) _ (in_chosen all marks x ns more)
      ]
      | false ↦ λ on. or_right (eqb n x) _ (in_chosen all marks x ns on)
    ]

chosen_in : (all : Bool) (marks : Marks) (x : ℕ) (near : List ℕ) → (all || is_refused marks x) ≡ true
    → among x near ≡ true → among x (chosen all marks near) ≡ true
chosen_in all marks x [] passes on = on
chosen_in all marks x (n ∷ ns) passes on =
    elim (all || is_refused marks n) as (λ b. (all || is_refused marks n) ≡ b
    → among x (cond b (n ∷ chosen all marks ns) (chosen all marks ns)) ≡ true) [
      | true ↦ λ _. elim (or_cases (eqb n x) _ on) [
        | inl is ↦ or_left (eqb n x) _ is
        | inr more ↦ or_right (eqb n x) _ (chosen_in all marks x ns passes more)
      ]
      | false ↦ λ out. elim (or_cases (eqb n x) _ on) [
        | inl is ↦ absurd (false≢true (sym out ∙ ap (λ z. all || is_refused marks z) (eqb-true n x is) ∙ passes))
        | inr more ↦ chosen_in all marks x ns passes more
      ]
    ] refl

-- ---- one name of the ring more
-- what is added to the names for y
abbrev added_for : Bool → Marks → ℕ → List ℕ → List ℕ → List ℕ
added_for all marks y near names = (names ++ y ∷ []) ++ chosen all marks near

old_in : (all : Bool) (marks : Marks) (x y : ℕ) (near names : List ℕ) → among x names ≡ true
    → among x (added_for all marks y near names) ≡ true
old_in all marks x y near names on =
    list_any-append (λ n. eqb n x) (names ++ y ∷ []) (chosen all marks near)
    ∙ or_left (among x (names ++ y ∷ [])) _ (list_any-append (λ n. eqb n x) names (y ∷ [])
    ∙ or_left (among x names) _ on)

here_in : (all : Bool) (marks : Marks) (y : ℕ) (near names : List ℕ) → among y (added_for all marks y near names) ≡ true
here_in all marks y near names =
    list_any-append (λ n. eqb n y) (names ++ y ∷ []) (chosen all marks near)
    ∙ or_left (among y (names ++ y ∷ [])) _ (list_any-append (λ n. eqb n y) names (y ∷ [])
    ∙ or_right (among y names) _ (or_left (eqb y y) false (eq-eqb y y refl)))

new_in : (all : Bool) (marks : Marks) (x y : ℕ) (near names : List ℕ) → (all || is_refused marks x) ≡ true
    → among x near ≡ true → among x (added_for all marks y near names) ≡ true
new_in all marks x y near names passes on =
    list_any-append (λ n. eqb n x) (names ++ y ∷ []) (chosen all marks near)
    ∙ or_right (among x (names ++ y ∷ [])) _ (chosen_in all marks x near passes on)

pub around_more : (inside : Point → Bool) (m : Mesh) (v : ℕ) (ring : List ℕ) (marks : Marks) (near names : List ℕ)
    (i y : ℕ) → i < length ring
    → y ≡ get_or ring i y → is_held inside m y ≡ true → AreHeldAround inside m y near
    → IsAround inside m v (take i ring) marks names
    → IsAround inside m v (take (i + 1) ring) marks (added_for (eqb y v) marks y near names)
around_more inside m v ring marks near names i y within is held around a =
    let all = eqb y v in
    let place : (x : ℕ) → among x (take (i + 1) ring) ≡ true → (among x (take i ring) ≡ true) ⊎ (y ≡ x) =
    λ x on. elim (or_cases (among x (take i ring)) (eqb y x) (sym (among_more ring i x y within is)
    ∙ on)) [ inl was ↦ inl was | inr it ↦ inr (eqb-true y x it) ] in
    record {
      itself = λ x on. elim (place x on) [
        | inl was ↦ old_in all marks x y near names (a.itself x was)
        | inr it ↦ subst (λ z. among z (added_for all marks y near names) ≡ true) it (here_in all marks y near names)
      ];
      onto = λ x on p. elim (place v on) [
        | inl was ↦ old_in all marks x y near names (a.onto x was p)
        | inr it ↦
            let back : IsPair inside m y x = subst (λ z. IsPair inside m z x) (sym it) (pair_back inside m x v p) in
            new_in all marks x y near names (or_left (eqb y v) _ (eq-eqb y v it)) ((around x).1 back)
      ];
      near = λ x z on p. elim (place z on) [
        | inl was ↦ elim (a.near x z was p) [
          | inl in_names ↦ inl (old_in all marks x y near names in_names)
          | inr kept ↦ inr kept
        ]
        | inr it ↦
            let back : IsPair inside m y x = subst (λ n. IsPair inside m n x) (sym it) (pair_back inside m x z p) in
            elim (is_refused marks x) as (λ b. is_refused marks x ≡ b
            → (among x (added_for all marks y near names) ≡ true) ⊎ (b ≡ false)) [
              | true ↦ λ e. inl (new_in all marks x y near names (or_right (eqb y v) _ e) ((around x).1 back))
              | false ↦ λ _. inr refl
            ] refl
      ];
      held = λ x on. elim (or_cases (among x (names ++ y ∷ [])) (among x (chosen all marks near))
          (sym (list_any-append (λ n. eqb n x) (names ++ y ∷ []) (chosen all marks near)) ∙ on)) [
            | inl front ↦ elim (or_cases (among x names) (among x (y ∷ []))
                (sym (list_any-append (λ n. eqb n x) names (y ∷ [])) ∙ front)) [
                  | inl was ↦ a.held x was
                  | inr it ↦ elim (or_cases (eqb y x) false it) [
                    | inl same ↦
                        subst (λ z. is_held inside m z ≡ true) (eqb-true y x same) held
                    | inr never ↦ absurd (false≢true never)
                  ]
                ]
            | inr next ↦ ((around x).0 (in_chosen all marks x near next)).onto_held
          ];
    }
