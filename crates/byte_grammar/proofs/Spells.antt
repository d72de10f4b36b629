-- What is read is spelled so, and what is spelled so is read.
use Rattle.std.proofs.Common.{◌≡◌, ℕ, zero, suc, ◌+◌, ◌≤◌, Bool, true, false, cond, List, [], ◌∷◌, ◌++◌, length, get_or, Result, Ok, Err, refl, sym, ap, subst, ◌∙◌, append_assoc, arith, take, inl, inr}
use Rattle.std.specs.List.{flat_map, AllByRecursion}
use Rattle.std.proofs.lemmas.List.{drop_at, get_or-drop, append-nil, get_or-take, get_or_past, length-take}
use Rattle.std.proofs.lemmas.Bool.{cases_lt, and_parts, and_from, leb-true, le-leb}
use Rattle.byte_grammar.specs.Keeps.{Keeps}
use Rattle.byte_grammar.specs.Reader.{Reader, ◌>>=◌, done, next, kept, unit, many, ended, last_of, whole, IsBytes, is_in}

pub IsBytes-rest : (left a rest : List ℕ) → IsBytes left → left ≡ a ++ rest → IsBytes rest
IsBytes-rest left a rest h e i =
    let at : get_or rest i 0 ≡ get_or left (length a + i) 0 =
    rw e (rw (← get_or-drop (length a) (a ++ rest) i 0)
    (ap (λ (xs : List ℕ). get_or xs i 0) (sym (drop_at a rest (length a) refl)))) in
    rw at (h (length a + i))

pub IsBytes-take : (n : ℕ) (bytes : List ℕ) → IsBytes bytes → IsBytes (take n bytes)
IsBytes-take n bytes h i =
    elim (cases_lt i n) [
      | inl lt ↦ rw (get_or-take n bytes i 0 lt) (h i)
      | inr le ↦ rw (get_or_past (take n bytes) i 0 (omega (arith, length-take n bytes))) (omega arith)
    ]

pub IsBytes-append : (xs ys : List ℕ) → IsBytes xs → IsBytes ys → IsBytes (xs ++ ys)
IsBytes-append [] ys f g i = g i
IsBytes-append (x ∷ xs) ys f g zero = f zero
IsBytes-append (x ∷ xs) ys f g (suc i) = IsBytes-append xs ys (λ k. f (suc k)) g i

-- A reader reads these bytes of values that keep a rule, and no others.
pub record Spells {A : Type 0} (read : Reader A) (bytes : A → List ℕ) (Rule : A → Type 0) : Type 0 where
  pub takes : (left : List ℕ) (x : A) (rest : List ℕ) → IsBytes left → read left ≡ Ok (x, rest)
      → (left ≡ bytes x ++ rest) × Rule x
  pub again : (x : A) (rest : List ℕ) → Rule x → read (bytes x ++ rest) ≡ Ok (x, rest)

-- what equal answers say
abbrev pub found : {A : Type 0} → A × List ℕ → Result (A × List ℕ) ℕ
found x = Ok x

pub ok_is : {A : Type 0} (x y : A × List ℕ) → found x ≡ found y → (x.0 ≡ y.0) × (x.1 ≡ y.1)
ok_is {A = A} x y e =
    let p : x ≡ y = cc in
    (ap (λ (z : A × List ℕ). z.0) p, ap (λ (z : A × List ℕ). z.1) p)

pub next_ok : {A B : Type 0} (r : Result (A × List ℕ) ℕ) (k : A → Reader B) (y : B × List ℕ)
    → next r k ≡ Ok y → (x : A × List ℕ) × (r ≡ Ok x) × (k x.0 x.1 ≡ Ok y)
next_ok (Ok x) k y e = (x, refl, e)
next_ok (Err n) k y e = absurd cc

-- a field, which f gives of the value, and what follows it; E holds of the fields before it
pub Spells-then : {A T : Type 0} {p : Reader A} {k : A → Reader T} {part : A → List ℕ} {tail : A → T → List ℕ}
    {P : A → Type 0} {E : T → Type 0} {R : A → T → Type 0}
    → Spells p part P → (f : T → A) → ((a : A) → P a → Spells (k a) (tail a) (λ t. (E t × (f t ≡ a)) × R a t))
    → Spells (p >>= k) (λ t. part (f t) ++ tail (f t) t) (λ t. E t × (P (f t) × R (f t) t))
Spells-then {A = A} {T = T} {p = p} {k = k} {part = part} {tail = tail} {P = P} {E = E} {R = R} s f inner = record {
  takes = λ left t rest fits e.
      let a = next_ok (p left) k (t, rest) e in
      let first = s.takes left a.0.0 a.0.1 fits a.1 in
      let second = (inner a.0.0 first.1).takes a.0.1 t rest (IsBytes-rest left (part a.0.0) a.0.1 fits first.0) a.2 in
      let same : f t ≡ a.0.0 = second.1.0.1 in
      let bytes : left ≡ (part (f t) ++ tail (f t) t) ++ rest =
      first.0 ∙ ap (λ (xs : List ℕ). part a.0.0 ++ xs) second.0 ∙ sym
      (append_assoc (part a.0.0) (tail a.0.0 t) rest) ∙ ap (λ (b : A). (part b ++ tail b t) ++ rest) (sym same) in
      (bytes, (second.1.0.0, subst (λ (b : A). P b × R b t) (sym same) (first.1, second.1.1)));
  again = λ t rest h.
      let first = s.again (f t) (tail (f t) t ++ rest) h.1.0 in
      let second = (inner (f t) h.1.0).again t rest ((h.0, refl), h.1.1) in
      rw (append_assoc (part (f t)) (tail (f t) t) rest, first) second;
}

-- the last field
pub Spells-last : {A T : Type 0} {p : Reader A} {part : A → List ℕ} {P : A → Type 0} {E : T → Type 0}
    → Spells p part P → (f : T → A) (g : A → T) → ((a : A) → P a → E (g a) × (f (g a) ≡ a))
    → ((t : T) → E t → P (f t) → g (f t) ≡ t)
    → Spells (p >>= (λ a. done (g a))) (λ t. part (f t)) (λ t. E t × P (f t))
Spells-last {A = A} {T = T} {p = p} {part = part} {P = P} {E = E} s f g to back = record {
  takes = λ left t rest fits e.
      let a = next_ok (p left) (λ (b : A). done (g b)) (t, rest) e in
      let first = s.takes left a.0.0 a.0.1 fits a.1 in
      let both = ok_is (g a.0.0, a.0.1) (t, rest) a.2 in
      let is : g a.0.0 ≡ t = both.0 in
      let behind : a.0.1 ≡ rest = both.1 in
      let h = to a.0.0 first.1 in
      let same : f t ≡ a.0.0 = ap f (sym is) ∙ h.1 in (
        first.0 ∙ ap (λ (b : A). part b ++ a.0.1) (sym same) ∙ ap (λ (xs : List ℕ). part (f t) ++ xs) behind,
        (subst E is h.0, subst P (sym same) first.1),
      );
  again = λ t rest h. rw (s.again (f t) rest h.1, back t h.0 h.1) refl;
}

-- one unit that passes a test
unit_kept : {A : Type 0} (test : A → Bool) (n : ℕ) (r : Result (A × List ℕ) ℕ) (y : A × List ℕ) → kept test n r ≡ Ok y
    → (r ≡ Ok y) × (test y.0 ≡ true)
unit_kept {A = A} test n (Ok x) y e = tested (test x.0) refl e where
  tested : (b : Bool) → test x.0 ≡ b → cond b (found x) (Err n) ≡ found y → (found x ≡ found y) × (test y.0 ≡ true)
  tested true h e = (e, subst (λ (z : A). test z ≡ true) (ok_is x y e).0 h)
  tested false h e = absurd cc
unit_kept test n (Err m) y e = absurd cc

pub Spells-unit : {A : Type 0} {p : Reader A} {part : A → List ℕ} {P : A → Type 0}
    → Spells p part P → (test : A → Bool) → Spells (unit test p) part (λ x. P x × (test x ≡ true))
Spells-unit {p = p} {part = part} s test = record {
  takes = λ left x rest fits e.
      let k = unit_kept test (length left) (p left) (x, rest) e in
      let first = s.takes left x rest fits k.0 in
      (first.0, (first.1, k.1));
  again = λ x rest h. rw (s.again x rest h.0, h.1) refl;
}

-- ---- lists

pub record Reads {A : Type 0} (part : A → List ℕ) (Rule : List A → A → Type 0) (n : ℕ) (before : List A) (left : List ℕ)
    (all : List A) (rest : List ℕ) : Type 0 where
  pub more : List A
  pub all_is : all ≡ before ++ more
  pub bytes : left ≡ flat_map part more ++ rest
  pub count : length more ≡ n
  pub keeps : Keeps Rule before more

many_takes : {A : Type 0} (item : List A → Reader A) (part : A → List ℕ) (Rule : List A → A → Type 0)
    → ((before : List A) → Spells (item before) part (Rule before))
    → (n : ℕ) (before : List A) (left : List ℕ) (all : List A) (rest : List ℕ) → IsBytes left
    → many item n before left ≡ Ok (all, rest) → Reads part Rule n before left all rest
unfolding many
many_takes item part Rule s zero before left all rest fits e =
    let both = ok_is (before, left) (all, rest) e in
    record { more = []; all_is = sym both.0 ∙ sym (append-nil before); bytes = both.1; count = refl; keeps = tt }
many_takes {A = A} item part Rule s (suc n) before left all rest fits e =
    let a = next_ok (item before left) (λ (x : A). many item n (before ++ x ∷ [])) (all, rest) e in
    let first = (s before).takes left a.0.0 a.0.1 fits a.1 in
    let ih = many_takes item part Rule s n (before ++ a.0.0 ∷ []) a.0.1 all rest
    (IsBytes-rest left (part a.0.0) a.0.1 fits first.0) a.2 in
    record {
      more = a.0.0 ∷ ih.more;
      all_is = ih.all_is ∙ append_assoc before (a.0.0 ∷ []) ih.more;
      bytes = first.0 ∙ ap (λ (xs : List ℕ). part a.0.0 ++ xs) ih.bytes
          ∙ sym (append_assoc (part a.0.0) (flat_map part ih.more) rest);
      count = ap suc ih.count;
      keeps = (first.1, ih.keeps);
    }

many_again : {A : Type 0} (item : List A → Reader A) (part : A → List ℕ) (Rule : List A → A → Type 0)
    → ((before : List A) → Spells (item before) part (Rule before))
    → (xs before : List A) (rest : List ℕ) → Keeps Rule before xs
    → many item (length xs) before (flat_map part xs ++ rest) ≡ Ok (before ++ xs, rest)
unfolding many
many_again item part Rule s [] before rest h = rw (append-nil before) refl
many_again item part Rule s (x ∷ xs) before rest h =
    let first = (s before).again x (flat_map part xs ++ rest) h.0 in
    let ih = many_again item part Rule s xs (before ++ x ∷ []) rest h.1 in
    rw (append_assoc (part x) (flat_map part xs) rest, first, ih, append_assoc before (x ∷ []) xs) refl

pub Spells-many : {A : Type 0} {item : List A → Reader A} {part : A → List ℕ} {Rule : List A → A → Type 0}
    → ((before : List A) → Spells (item before) part (Rule before))
    → (n : ℕ) → Spells (many item n []) (flat_map part) (λ xs. (length xs ≡ n) × Keeps Rule [] xs)
Spells-many {A = A} {item = item} {part = part} {Rule = Rule} s n = record {
  takes = λ left all rest fits e.
      let r = many_takes item part Rule s n [] left all rest fits e in
      let is : r.more ≡ all = sym r.all_is in
      subst (λ (xs : List A). (left ≡ flat_map part xs ++ rest) × ((length xs ≡ n) × Keeps Rule [] xs)) is
      (r.bytes, (r.count, r.keeps));
  again = λ xs rest h. subst (λ (m : ℕ). many item m [] (flat_map part xs ++ rest) ≡ Ok (xs, rest)) h.0
      (many_again item part Rule s xs [] rest h.1);
}

-- what holds of each unit alone, and with those before it
pub Keeps-parts : {A : Type 0} (F : A → Type 0) (Rule : List A → A → Type 0) (xs before : List A)
    → Keeps (λ b x. F x × Rule b x) before xs → AllByRecursion F xs × Keeps Rule before xs
Keeps-parts F Rule [] before h = (tt, tt)
Keeps-parts F Rule (x ∷ xs) before h =
    let ih = Keeps-parts F Rule xs (before ++ x ∷ []) h.1 in ((h.0.0, ih.0), (h.0.1, ih.1))

pub Keeps-both : {A : Type 0} (F : A → Type 0) (Rule : List A → A → Type 0) (xs before : List A) → AllByRecursion F xs
    → Keeps Rule before xs → Keeps (λ b x. F x × Rule b x) before xs
Keeps-both F Rule [] before f h = tt
Keeps-both F Rule (x ∷ xs) before f h = ((f.0, h.0), Keeps-both F Rule xs (before ++ x ∷ []) f.1 h.1)

-- ---- all of the bytes

pub whole_takes : {A : Type 0} {p : Reader A} {part : A → List ℕ} {P : A → Type 0}
    → Spells p part P → (bytes : List ℕ) (x : A) → IsBytes bytes → whole p bytes ≡ Ok x → (bytes ≡ part x) × P x
whole_takes {A = A} {p = p} {part = part} {P = P} s bytes x fits e = from (p bytes) refl e where
  at : (y : A) (rest : List ℕ) → p bytes ≡ Ok (y, rest) → ended y rest ≡ Ok x → (bytes ≡ part x) × P x
  at y [] h e =
      let is : y ≡ x = cc in
      let t = s.takes bytes y [] fits h in
      subst (λ (z : A). (bytes ≡ part z) × P z) is (t.0 ∙ append-nil (part y), t.1)
  at y (b ∷ bs) h e = absurd cc

  from : (r : Result (A × List ℕ) ℕ) → p bytes ≡ r → last_of r ≡ Ok x → (bytes ≡ part x) × P x
  from (Ok y) h e = at y.0 y.1 h e
  from (Err n) h e = absurd cc

pub whole_again : {A : Type 0} {p : Reader A} {part : A → List ℕ} {P : A → Type 0}
    → Spells p part P → (x : A) → P x → whole p (part x) ≡ Ok x
whole_again {part = part} s x h = rw (← append-nil (part x)) (rw (s.again x [] h) refl)

-- ---- ranges

pub is_in-low : (low high n : ℕ) → is_in low high n ≡ true → low ≤ n
unfolding is_in
is_in-low low high n h = leb-true _ _ (and_parts _ _ h).0

pub is_in-high : (low high n : ℕ) → is_in low high n ≡ true → n ≤ high
unfolding is_in
is_in-high low high n h = leb-true _ _ (and_parts _ _ h).1

pub is_in-from : (low high n : ℕ) → low ≤ n → n ≤ high → is_in low high n ≡ true
unfolding is_in
is_in-from low high n f g = and_from _ _ (le-leb _ _ f) (le-leb _ _ g)
