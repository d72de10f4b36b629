-- Lists whose units keep their rules, by how the lists can be parted.
use Rattle.std.proofs.Common.{◌≡◌, ℕ, ◌+◌, ◌-◌, ◌<◌, true, false, List, [], ◌∷◌, ◌++◌, length, get_or, slice_index, slice_get, Option, Some, append_assoc, length-append, eqb, ltb, ap, sym, ◌∙◌, refl, arith}
use Rattle.std.proofs.lemmas.Bool.{lt-ltb, or_right}
use Rattle.std.proofs.lemmas.List.{get_or_append_left, get_or-append-add}
use Rattle.std.proofs.lemmas.List.Elements.{All-contains, Contains-append_right}
use Rattle.std.proofs.lemmas.Option.{slice_get-get_or}
use Rattle.std.specs.List.{All}
use Rattle.std.specs.List.Sorted.{IsSorted, IsStrictlyIncreasing}
use Rattle.std.specs.Option.{option_map_or}
use Rattle.std.specs.Ordering.{is_le, is_lt, ordering_reverse}
use Rattle.std.specs.declared.cmp.Ordering.{Ordering}
use Rattle.std.specs.declared.cmp.Ordering.TheVariants.{Less, Equal, Greater}
use Rattle.mesh_data.specs.declared.geometry.Tri.{Tri}
use Rattle.mesh_data.specs.Triangles.{tri_cmp}
use Rattle.triangle_lists.proofs.Orders.{tri_cmp_total}
use Rattle.byte_grammar.specs.Keeps.{Keeps}
use Rattle.leaf_codec.specs.Sheets.{is_above, is_in_order}

-- each unit keeps the rule, where it does wherever the list is parted before it
pub keeps_parted : {A : Type 0} (Rule : List A → A → Type 0) (xs before : List A)
    → ((front : List A) (x : A) (rest : List A) → before ++ xs ≡ front ++ x ∷ rest → Rule front x) → Keeps Rule before xs
keeps_parted Rule [] before h = tt
keeps_parted Rule (x ∷ xs) before h = (
  h before x xs refl,
  keeps_parted Rule xs (before ++ x ∷ []) (λ front y rest e. h front y rest (sym (append_assoc before (x ∷ []) xs) ∙ e)),
)

-- what holds of each item holds of that before which the list is parted
pub all_parted : {A : Type 0} (P : A → Type 0) (front : List A) (x : A) (rest : List A) → All P (front ++ x ∷ rest) → P x
all_parted P front x rest all =
    All-contains P (front ++ x ∷ rest) x all (Contains-append_right front (x ∷ rest) x (0, omega arith, refl))

last_of : {A : Type 0} (x : A) (xs : List A) (y : A) (ys : List A) (d : A)
    → get_or ((x ∷ xs) ++ y ∷ ys) (length xs) d ≡ get_or (x ∷ xs) (length (x ∷ xs) - 1) d
last_of x xs y ys d =
    let at : length xs ≡ length (x ∷ xs) - 1 = omega arith in
    get_or_append_left (x ∷ xs) (y ∷ ys) d (length xs) (omega arith) ∙ ap (λ k. get_or (x ∷ xs) k d) at

next_of : {A : Type 0} (x : A) (xs : List A) (y : A) (ys : List A) (d : A)
    → get_or ((x ∷ xs) ++ y ∷ ys) (length xs + 1) d ≡ y
next_of x xs y ys d =
    let at : length xs + 1 ≡ length (x ∷ xs) + 0 = omega arith in
    ap (λ k. get_or ((x ∷ xs) ++ y ∷ ys) k d) at ∙ get_or-append-add (x ∷ xs) (y ∷ ys) 0 d

-- in a list that ascends a number lies above those before it
pub above_parted : (front rest : List ℕ) (n : ℕ) → IsStrictlyIncreasing (front ++ n ∷ rest) → is_above n front ≡ true
unfolding is_above
above_parted [] rest n up = refl
above_parted (k ∷ ns) rest n up =
    let long = length-append (k ∷ ns) (n ∷ rest) in
    let lt : slice_index ((k ∷ ns) ++ n ∷ rest) (length ns) < slice_index ((k ∷ ns) ++ n ∷ rest) (length ns + 1) =
    up (length ns) (omega arith) in
    or_right (eqb (length (k ∷ ns)) 0) (ltb (slice_index (k ∷ ns) (length (k ∷ ns) - 1)) n)
    (lt-ltb _ n (omega (arith, lt, last_of k ns n rest 0, next_of k ns n rest 0)))

upto_reverse : (r : Ordering) → is_lt (ordering_reverse r) ≡ false → is_le r ≡ true
upto_reverse Less h = refl
upto_reverse Equal h = refl
upto_reverse Greater h = sym h

-- in a list in order a triangle isn't below the one before it
pub ordered_parted : (front rest : List Tri) (t : Tri) → IsSorted tri_cmp (front ++ t ∷ rest) → is_in_order t front ≡ true
unfolding is_in_order
ordered_parted [] rest t sorted = refl
ordered_parted (s ∷ ts) rest t sorted =
    let long = length-append (s ∷ ts) (t ∷ rest) in
    let all = (s ∷ ts) ++ t ∷ rest in
    let last = get_or (s ∷ ts) (length (s ∷ ts) - 1) t in
    let here : slice_get (s ∷ ts) (length (s ∷ ts) - 1) ≡ Some last = slice_get-get_or (s ∷ ts) _ t (omega arith) in
    let not_less : is_lt (tri_cmp (get_or all (length ts + 1) t) (get_or all (length ts) t)) ≡ false =
    sorted (length ts) t (omega arith) (omega arith) in
    let turned : is_lt (tri_cmp t last) ≡ false =
    (λ i. is_lt (tri_cmp (sym (next_of s ts t rest t) i) (sym (last_of s ts t rest t) i))) ∙ not_less in
    ap (λ (o : Option Tri). option_map_or (λ r. is_le (tri_cmp r t)) o true) here
    ∙ upto_reverse (tri_cmp last t) (ap is_lt (sym (tri_cmp_total.antisymm t last)) ∙ turned)
