-- The variants of a value, each with a tag.
use Rattle.std.proofs.Common.{◌≡◌, ℕ, Bool, true, false, cond, eqb, List, [], ◌∷◌, ◌++◌, Result, Ok, Err, refl, sym, ap, subst, ◌∙◌, append_assoc}
use Rattle.std.proofs.lemmas.Bool.{eqb-true}
use Rattle.std.proofs.lemmas.List.{append-nil}
use Rattle.byte_grammar.specs.Reader.{Reader, ◌>>=◌, done, ended, last_of, whole, choose, IsBytes}
use Rattle.byte_grammar.proofs.Spells.{IsBytes-rest, Spells, ok_is, next_ok}

-- what a reader of one variant took: its parts
pub record Taken {T W : Type 0} (make : T → W) (bytes : T → List ℕ) (Rule : T → Type 0) (left : List ℕ) (w : W)
    (rest : List ℕ) : Type 0 where
  pub parts : T
  pub made : make parts ≡ w
  pub taken : left ≡ bytes parts ++ rest
  pub rule : Rule parts

-- the same of all bytes
pub record Whole {T W : Type 0} (make : T → W) (bytes : T → List ℕ) (Rule : T → Type 0) (all : List ℕ)
    (w : W) : Type 0 where
  pub parts : T
  pub made : make parts ≡ w
  pub taken : all ≡ bytes parts
  pub rule : Rule parts

-- A reader reads these bytes of what is made of parts that keep a rule, and no others.
pub record Makes {T W : Type 0} (make : T → W) (read : Reader W) (bytes : T → List ℕ) (Rule : T → Type 0) : Type 0 where
  pub takes : (left : List ℕ) (w : W) (rest : List ℕ) → IsBytes left → read left ≡ Ok (w, rest)
      → Taken make bytes Rule left w rest
  pub again : (t : T) (rest : List ℕ) → Rule t → read (bytes t ++ rest) ≡ Ok (make t, rest)

pub Makes-then : {A T W : Type 0} {make : T → W} {p : Reader A} {k : A → Reader W} {part : A → List ℕ}
    {tail : A → T → List ℕ} {P : A → Type 0} {E : T → Type 0} {R : A → T → Type 0}
    → Spells p part P → (f : T → A) → ((a : A) → P a → Makes make (k a) (tail a) (λ t. (E t × (f t ≡ a)) × R a t))
    → Makes make (p >>= k) (λ t. part (f t) ++ tail (f t) t) (λ t. E t × (P (f t) × R (f t) t))
Makes-then {A = A} {p = p} {k = k} {part = part} {tail = tail} {P = P} {E = E} {R = R} s f inner = record {
  takes = λ left w rest fits e.
      let a = next_ok (p left) k (w, rest) e in
      let first = s.takes left a.0.0 a.0.1 fits a.1 in
      let second = (inner a.0.0 first.1).takes a.0.1 w rest (IsBytes-rest left (part a.0.0) a.0.1 fits first.0) a.2 in
      let t = second.parts in
      let same : f t ≡ a.0.0 = second.rule.0.1 in
      record {
        parts = t;
        made = second.made;
        taken = first.0 ∙ ap (λ (xs : List ℕ). part a.0.0 ++ xs) second.taken
            ∙ sym (append_assoc (part a.0.0) (tail a.0.0 t) rest)
            ∙ ap (λ (b : A). (part b ++ tail b t) ++ rest) (sym same);
        rule = (second.rule.0.0, subst (λ (b : A). P b × R b t) (sym same) (first.1, second.rule.1));
      };
  again = λ t rest h.
      let first = s.again (f t) (tail (f t) t ++ rest) h.1.0 in
      let second = (inner (f t) h.1.0).again t rest ((h.0, refl), h.1.1) in
      rw (append_assoc (part (f t)) (tail (f t) t) rest, first) second;
}

pub Makes-last : {A T W : Type 0} {make : T → W} {p : Reader A} {part : A → List ℕ} {P : A → Type 0} {E : T → Type 0}
    → Spells p part P → (f : T → A) (g : A → T) → ((a : A) → P a → E (g a) × (f (g a) ≡ a))
    → ((t : T) → E t → P (f t) → g (f t) ≡ t)
    → Makes make (p >>= (λ a. done (make (g a)))) (λ t. part (f t)) (λ t. E t × P (f t))
Makes-last {A = A} {T = T} {W = W} {make = make} {p = p} {part = part} {P = P} {E = E} s f g to back = record {
  takes = λ left w rest fits e.
      let a = next_ok (p left) (λ (b : A). done (make (g b))) (w, rest) e in
      let first = s.takes left a.0.0 a.0.1 fits a.1 in
      let both = ok_is (make (g a.0.0), a.0.1) (w, rest) a.2 in
      let h = to a.0.0 first.1 in
      record {
        parts = g a.0.0;
        made = both.0;
        taken = first.0 ∙ ap (λ (b : A). part b ++ a.0.1) (sym h.1)
            ∙ ap (λ (xs : List ℕ). part (f (g a.0.0)) ++ xs) both.1;
        rule = (h.0, subst P (sym h.1) first.1);
      };
  again = λ t rest h. rw (s.again (f t) rest h.1, back t h.0 h.1) refl;
}

-- ---- all variants

-- what a reader of fields says of a value
pub record Fields {W : Type 0} (tag : W → ℕ) (fields : W → List ℕ) (F : W → Type 0) (k : ℕ) (left : List ℕ) (w : W)
    (rest : List ℕ) : Type 0 where
  pub is_tag : tag w ≡ k
  pub bytes : left ≡ fields w ++ rest
  pub fits : F w

pub made_fields : {T W : Type 0} {make : T → W} {read : Reader W} {bytes : T → List ℕ} {Rule : T → Type 0}
    → Makes make read bytes Rule
    → (tag : W → ℕ) (fields : W → List ℕ) (F : W → Type 0) (k : ℕ)
    → ((t : T) → Rule t → (tag (make t) ≡ k) × ((bytes t ≡ fields (make t)) × F (make t)))
    → (left : List ℕ) (w : W) (rest : List ℕ) → IsBytes left → read left ≡ Ok (w, rest)
    → Fields tag fields F k left w rest
made_fields {W = W} m tag fields F k says left w rest fits e =
    let t = m.takes left w rest fits e in
    let s = says t.parts t.rule in
    subst (λ (v : W). Fields tag fields F k left v rest) t.made
    (record { is_tag = s.0; bytes = t.taken ∙ ap (λ (xs : List ℕ). xs ++ rest) s.1.0; fits = s.1.1 })

-- one field
pub Makes-one : {A W : Type 0} {p : Reader A} {part : A → List ℕ} {P : A → Type 0}
    → Spells p part P → (make : A → W) → Makes make (p >>= (λ x. done (make x))) part P
Makes-one {A = A} {p = p} {part = part} s make = record {
  takes = λ left w rest fits e.
      let a = next_ok (p left) (λ (x : A). done (make x)) (w, rest) e in
      let first = s.takes left a.0.0 a.0.1 fits a.1 in
      let both = ok_is (make a.0.0, a.0.1) (w, rest) a.2 in
      record {
        parts = a.0.0;
        made = both.0;
        taken = first.0 ∙ ap (λ (xs : List ℕ). part a.0.0 ++ xs) both.1;
        rule = first.1;
      };
  again = λ t rest h. rw (s.again t rest h) refl;
}

-- no field
pub none_fields : {W : Type 0} (y : W) (tag : W → ℕ) (fields : W → List ℕ) (F : W → Type 0) (k : ℕ) → tag y ≡ k
    → fields y ≡ [] → F y
    → (left : List ℕ) (w : W) (rest : List ℕ) → IsBytes left → done y left ≡ Ok (w, rest)
    → Fields tag fields F k left w rest
none_fields {W = W} y tag fields F k is none f left w rest fits e =
    let both = ok_is (y, left) (w, rest) e in
    subst (λ (v : W). Fields tag fields F k left v rest) both.0
    (record { is_tag = is; bytes = both.1 ∙ ap (λ (xs : List ℕ). xs ++ rest) (sym none); fits = f })

-- each row reads fields of its tag
abbrev pub AreRows : {W : Type 0} → (W → ℕ) → (W → List ℕ) → (W → Type 0) → List (ℕ × Reader W)
    → Type 0
AreRows tag fields F [] = Unit {0}
AreRows tag fields F (row ∷ rows) =
    ((left : List ℕ) (w : _) (rest : List ℕ) → IsBytes left → row.1 left ≡ Ok (w, rest)
    → Fields tag fields F row.0 left w rest)
    × AreRows tag fields F rows

pub choose_takes : {W : Type 0} (tag : W → ℕ) (fields : W → List ℕ) (F : W → Type 0) (n : ℕ)
    (rows : List (ℕ × Reader W))
    → AreRows tag fields F rows
    → (left : List ℕ) (w : W) (rest : List ℕ) → IsBytes left → choose n rows left ≡ Ok (w, rest)
    → Fields tag fields F n left w rest
choose_takes tag fields F n [] h left w rest fits e = absurd cc
choose_takes {W = W} tag fields F n (row ∷ rows) h left w rest fits e = tested (eqb n row.0) refl e
    (choose_takes tag fields F n rows h.1 left w rest fits) where
      tested : (b : Bool) → eqb n row.0 ≡ b → cond b (row.1 left) (choose n rows left) ≡ Ok (w, rest)
          → (choose n rows left ≡ Ok (w, rest) → Fields tag fields F n left w rest) → Fields tag fields F n left w rest
      tested true is e1 later =
          subst (λ (k : ℕ). Fields tag fields F k left w rest) (sym (eqb-true _ _ is)) (h.0 left w rest fits e1)
      tested false is e1 later = later e1

pub Spells-tagged : {W : Type 0} {p : Reader ℕ} {part : ℕ → List ℕ} {P : ℕ → Type 0}
    → Spells p part P
    → (tag : W → ℕ) (fields : W → List ℕ) (F : W → Type 0) (rows : List (ℕ × Reader W))
    → AreRows tag fields F rows
    → ((w : W) → P (tag w)) → ((w : W) (rest : List ℕ) → F w → choose (tag w) rows (fields w ++ rest) ≡ Ok (w, rest))
    → Spells (p >>= (λ n. choose n rows)) (λ w. part (tag w) ++ fields w) F
Spells-tagged {W = W} {p = p} {part = part} s tag fields F rows are fit again = record {
  takes = λ left w rest fits e.
      let a = next_ok (p left) (λ (n : ℕ). choose n rows) (w, rest) e in
      let first = s.takes left a.0.0 a.0.1 fits a.1 in
      let second =
      choose_takes tag fields F a.0.0 rows are a.0.1 w rest
      (IsBytes-rest left (part a.0.0) a.0.1 fits first.0) a.2 in (
        first.0 ∙ ap (λ (xs : List ℕ). part a.0.0 ++ xs) second.bytes ∙ sym (append_assoc (part a.0.0) (fields w) rest)
            ∙ ap (λ (n : ℕ). (part n ++ fields w) ++ rest) (sym second.is_tag),
        second.fits,
      );
  again = λ w rest h. rw
      (append_assoc (part (tag w)) (fields w) rest, s.again (tag w) (fields w ++ rest) (fit w), again w rest h) refl;
}

-- ---- all of the bytes

pub whole_made : {T W : Type 0} {make : T → W} {p : Reader W} {part : T → List ℕ} {P : T → Type 0}
    → Makes make p part P → (bytes : List ℕ) (w : W) → IsBytes bytes → whole p bytes ≡ Ok w → Whole make part P bytes w
whole_made {W = W} {make = make} {p = p} {part = part} {P = P} m bytes w fits e = from (p bytes) refl e where
  at : (y : W) (rest : List ℕ) → p bytes ≡ Ok (y, rest) → ended y rest ≡ Ok w → Whole make part P bytes w
  at y [] h e =
      let is : y ≡ w = cc in
      let t = m.takes bytes y [] fits h in
      record { parts = t.parts; made = t.made ∙ is; taken = t.taken ∙ append-nil (part t.parts); rule = t.rule }
  at y (b ∷ bs) h e = absurd cc

  from : (r : Result (W × List ℕ) ℕ) → p bytes ≡ r → last_of r ≡ Ok w → Whole make part P bytes w
  from (Ok y) h e = at y.0 y.1 h e
  from (Err n) h e = absurd cc

pub whole_remade : {T W : Type 0} {make : T → W} {p : Reader W} {part : T → List ℕ} {P : T → Type 0}
    → Makes make p part P → (t : T) → P t → whole p (part t) ≡ Ok (make t)
whole_remade {part = part} m t h = rw (← append-nil (part t)) (rw (m.again t [] h) refl)
