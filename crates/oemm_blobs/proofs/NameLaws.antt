-- The names of the files of keys.
use Rattle.std.proofs.Common.{◌≡◌, ℕ, ◌==◌, ◌<◌, ◌^◌, false, List, [], ◌∷◌, ◌++◌, refl, sym, ap, ◌∙◌, subst, arith}
use Rattle.std.specs.Prelude.{codes}
use Rattle.std.specs.Fmt.{decimal}
use Rattle.std.specs.List.{AllByRecursion}
use Rattle.std.specs.Str.Parse.{AllDigits}
use Rattle.std.proofs.lemmas.Bool.{ne_eqb, false≢true}
use Rattle.std.proofs.lemmas.Fmt.{decimal_injective, decimal_is_IsNumeral}
use Rattle.std.proofs.lemmas.List.{append_cancel_left}
use Rattle.std.proofs.lemmas.Str.Parse.{digit_from_value}
use Rattle.oemm_blobs.specs.declared.keys.Key.{Key}
use Rattle.oemm_blobs.specs.declared.keys.Key.TheVariants.{Index, Leaf, Entry, Page, Run}
use Rattle.oemm_blobs.specs.Names.{file_name, HasShortNumbers}

-- neither a dash nor a point
abbrev IsPlain : ℕ → Type 0
IsPlain c = ((c == 45) ≡ false) × ((c == 46) ≡ false)

digits_plain : (ds : List ℕ) → AllDigits 10 ds → AllByRecursion IsPlain ds
digits_plain [] digits = tt
digits_plain (c ∷ cs) digits =
    let range = digit_from_value c digits.0 in
    ((ne_eqb c 45 (omega (arith, range)), ne_eqb c 46 (omega (arith, range))), digits_plain cs digits.1)

decimal_plain : (n : ℕ) → n < 2 ^ 32 → AllByRecursion IsPlain (decimal n)
decimal_plain n short = digits_plain (decimal n) (decimal_is_IsNumeral n (omega arith)).0.1

same_first : {x y : ℕ} {xs ys : List ℕ} → x ∷ xs ≡ y ∷ ys → x ≡ y
same_first e = cc

same_rest : {x y : ℕ} {xs ys : List ℕ} → x ∷ xs ≡ y ∷ ys → xs ≡ ys
same_rest e = cc

no_dash : (c : ℕ) → (c == 45) ≡ false → 45 ≡ c → ⊥
no_dash c plain e = false≢true (sym plain ∙ ap (λ (n : ℕ). n == 45) (sym e))

-- texts with a dash behind plain ones are equal by their parts
same_parts :
    (xs ys xs' ys' : List ℕ) → AllByRecursion IsPlain xs → AllByRecursion IsPlain xs' →
    xs ++ 45 ∷ ys ≡ xs' ++ 45 ∷ ys' → (xs ≡ xs') × (ys ≡ ys')
same_parts [] ys [] ys' plain plain' e = (refl, same_rest e)
same_parts [] ys (c ∷ cs) ys' plain plain' e = absurd (no_dash c plain'.0.0 (same_first e))
same_parts (c ∷ cs) ys [] ys' plain plain' e = absurd (no_dash c plain.0.0 (sym (same_first e)))
same_parts (c ∷ cs) ys (d ∷ ds) ys' plain plain' e =
    let rest = same_parts cs ys ds ys' plain.1 plain'.1 (same_rest e) in
    ((λ i. same_first e i ∷ rest.0 i), rest.1)

same_number : (m n : ℕ) → m < 2 ^ 32 → n < 2 ^ 32 → decimal m ≡ decimal n → m ≡ n
same_number m n short short' e = decimal_injective m n (omega arith) (omega arith) e

same_pair :
    (a b c d : ℕ) → a < 2 ^ 32 → b < 2 ^ 32 → c < 2 ^ 32 → d < 2 ^ 32 →
    decimal a ++ 45 ∷ decimal b ≡ decimal c ++ 45 ∷ decimal d → (a ≡ c) × (b ≡ d)
same_pair a b c d p q r s e =
    let parts = same_parts (decimal a) (decimal b) (decimal c) (decimal d) (decimal_plain a p) (decimal_plain c r) e in
    (same_number a c p r parts.0, same_number b d q s parts.1)

abbrev first_of : List ℕ → ℕ
first_of [] = 0
first_of (c ∷ cs) = c

pub names_differ :
    (key other : Key) → HasShortNumbers key → HasShortNumbers other → file_name key ≡ file_name other → key ≡ other
names_differ Index Index short short' e = refl
names_differ (Leaf leaf version) (Leaf leaf' version') short short' e =
    let same = same_pair leaf version leaf' version' short.1.0 short.1.1.0 short'.1.0 short'.1.1.0
    (append_cancel_left (codes "leaf-") _ _ e) in
    λ i. Leaf (same.0 i) (same.1 i)
names_differ (Entry number) (Entry number') short short' e =
    ap Entry (same_number number number' short.1.0 short'.1.0 (append_cancel_left (codes "entry-") _ _ e))
names_differ (Page number) (Page number') short short' e =
    ap Page (same_number number number' short.1.0 short'.1.0 (append_cancel_left (codes "page-") _ _ e))
names_differ (Run leaf part) (Run leaf' part') short short' e =
    let same = same_pair leaf part leaf' part' short.1.0 short.1.1.0 short'.1.0 short'.1.1.0
    (append_cancel_left (codes "run-") _ _ e) in
    λ i. Run (same.0 i) (same.1 i)
names_differ key other short short' e = absurd (omega (arith, ap first_of e))

abbrev IsNoPoint : ℕ → Type 0
IsNoPoint c = (c == 46) ≡ false

no_points : (xs : List ℕ) → AllByRecursion IsPlain xs → AllByRecursion IsNoPoint xs
no_points [] plain = tt
no_points (c ∷ cs) plain = (plain.0.1, no_points cs plain.1)

all_append : (xs ys : List ℕ) → AllByRecursion IsNoPoint xs → AllByRecursion IsNoPoint ys →
    AllByRecursion IsNoPoint (xs ++ ys)
all_append [] ys left right = right
all_append (c ∷ cs) ys left right = (left.0, all_append cs ys left.1 right)

number_points : (n : ℕ) → n < 2 ^ 32 → AllByRecursion IsNoPoint (decimal n)
number_points n short = no_points (decimal n) (decimal_plain n short)

pair_points : (a b : ℕ) → a < 2 ^ 32 → b < 2 ^ 32 → AllByRecursion IsNoPoint (decimal a ++ 45 ∷ decimal b)
pair_points a b p q = all_append (decimal a) (45 ∷ decimal b) (number_points a p) (refl, number_points b q)

name_points : (key : Key) → HasShortNumbers key → AllByRecursion IsNoPoint (file_name key)
name_points Index short = (refl, (refl, (refl, (refl, (refl, tt)))))
name_points (Leaf leaf version) short =
    (refl, (refl, (refl, (refl, (refl, pair_points leaf version short.1.0 short.1.1.0)))))
name_points (Entry number) short = (refl, (refl, (refl, (refl, (refl, (refl, number_points number short.1.0))))))
name_points (Page number) short = (refl, (refl, (refl, (refl, (refl, number_points number short.1.0)))))
name_points (Run leaf part) short = (refl, (refl, (refl, (refl, pair_points leaf part short.1.0 short.1.1.0))))

has_point : (xs ys : List ℕ) → AllByRecursion IsNoPoint (xs ++ 46 ∷ ys) → ⊥
has_point [] ys none = false≢true (sym none.0)
has_point (c ∷ cs) ys none = has_point cs ys none.1

pub never_second :
    (key other : Key) → HasShortNumbers other → file_name key ++ codes ".new" ≡ file_name other → ⊥
never_second key other short e =
    has_point (file_name key) (codes "new") (subst (AllByRecursion IsNoPoint) (sym e) (name_points other short))
