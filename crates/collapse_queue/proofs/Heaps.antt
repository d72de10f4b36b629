-- Candidates in a heap, seen as an ascending list.
use Rattle.std.proofs.Common.{◌≡◌, ℕ, ◌<◌, ◌≤◌, inl, inr, nat_lt, ℤ, Bool, true, false, cond, not, ◌||◌, ◌↔◌, List, [], ◌∷◌, map, filter, find, length, Some, refl, sym, ap, ◌∙◌, subst, arith}
use Rattle.std.proofs.lemmas.Bool.{false≢true, or_cases, or_left, or_right, ltb-true, lt-ltb}
use Rattle.std.proofs.lemmas.Cmp.{then_total, on_total, int_cmp_total, nat_cmp_total}
use Rattle.std.proofs.lemmas.List.{length-map}
use Rattle.std.proofs.lemmas.List.Sorted.{IsPermutation-map, length_permutation, list_any-IsPermutation}
use Rattle.std.proofs.lemmas.Map.Lookups.{exact_pairs, exact_unsigned}
use Rattle.std.specs.BinaryHeap.{IsUpperBound}
use Rattle.std.specs.Cmp.{IsTotalOrder}
use Rattle.std.specs.FinMap.{IsAntisymmetric, int_cmp-IsAntisymmetric}
use Rattle.std.specs.List.{list_any}
use Rattle.std.specs.List.Sorted.{IsPermutation}
use Rattle.std.specs.Ordering.{nat_cmp, int_cmp, is_le, is_gt, is_lt, ordering_reverse}
use Rattle.std.specs.declared.cmp.Ordering.{Ordering}
use Rattle.std.specs.declared.cmp.Ordering.TheVariants.{Less, Equal, Greater}
use Rattle.std.specs.declared.cmp.Reverse.{Reverse}
use Rattle.oemm_lists.specs.Ascending.{inserted, in_order}
use Rattle.triangle_lists.proofs.Sorting.{not_gt, le_of, IsLeast, IsLeast-below, Rises, Rises-in_order, IsPermutation-in_order, in_order-IsPermutation}
use Rattle.collapse_queue.specs.declared.candidate.Candidate.{Candidate}
use Rattle.collapse_queue.specs.Candidates.{candidate_cmp, down_cmp, unreversed, is_live, behind}
use Rattle.collapse_queue.specs.Queues.{Queued, HasRoom, kept, kept_in}

pub candidate_cmp_total : IsTotalOrder candidate_cmp
candidate_cmp_total = then_total (on_total (λ c. c.cost) int_cmp_total)
    (then_total (on_total (λ c. c.u) nat_cmp_total)
    (then_total (on_total (λ c. c.v) nat_cmp_total) (on_total (λ c. c.stamp) nat_cmp_total)))

pub candidate_cmp-IsAntisymmetric : IsAntisymmetric candidate_cmp
candidate_cmp-IsAntisymmetric c d h =
    ap (λ (p : ℤ × (ℕ × (ℕ × ℕ))). let it : Candidate =
    record { cost = p.0; u = p.1.0; v = p.1.1.0; stamp = p.1.1.1 } in it)
    (exact_pairs int_cmp _ int_cmp-IsAntisymmetric
    (exact_pairs nat_cmp _ exact_unsigned (exact_pairs nat_cmp nat_cmp exact_unsigned exact_unsigned)) (
      c.cost,
      (c.u, (c.v, c.stamp)),
    ) (d.cost, (d.u, (d.v, d.stamp))) h)

-- ---- filters of lists in order
le_of_reverse : (r : Ordering) → is_lt (ordering_reverse r) ≡ false → is_gt r ≡ false
le_of_reverse Less h = refl
le_of_reverse Equal h = refl
le_of_reverse Greater h = h

module _ {X : Type 0} {cmp : X → X → Ordering} (o : IsTotalOrder cmp) where
  least-filter : (p : X → Bool) (x : X) (ys : List X) → IsLeast o x ys → IsLeast o x (filter p ys)
  least-filter p x [] h = tt
  least-filter p x (y ∷ ys) h = elim (p y) as (λ b. IsLeast o x (cond b (y ∷ filter p ys) (filter p ys))) [
    | true ↦
        (h.0, least-filter p x ys h.1)
    | false ↦ least-filter p x ys h.1
  ]

  placed-least : (x : X) (ys : List X) → IsLeast o x ys → inserted cmp x ys ≡ x ∷ ys
  placed-least x [] h = refl
  placed-least x (y ∷ ys) h = ap (λ (b : Bool). cond b (x ∷ y ∷ ys) (y ∷ inserted cmp x ys)) (le_of (cmp x y) h.0)

  least-placed : (y x : X) (zs : List X) → is_gt (cmp y x) ≡ false → IsLeast o y zs → IsLeast o y (inserted cmp x zs)
  least-placed y x [] le h = (le, tt)
  least-placed y x (z ∷ zs) le h =
      elim (is_le (cmp x z)) as (λ b. IsLeast o y (cond b (x ∷ z ∷ zs) (z ∷ inserted cmp x zs))) [
        | true ↦ (le, h)
        | false ↦ (h.0, least-placed y x zs le h.1)
      ]

  least-in_order : (y : X) (zs : List X) → IsLeast o y zs → IsLeast o y (in_order cmp zs)
  least-in_order y [] h = tt
  least-in_order y (z ∷ zs) h = least-placed y z (in_order cmp zs) h.0 (least-in_order y zs h.1)

  filter-placed : (p : X → Bool) (x : X) (ys : List X) → Rises o ys
      → filter p (inserted cmp x ys) ≡ cond (p x) (inserted cmp x (filter p ys)) (filter p ys)
  filter-placed p x [] r = refl
  filter-placed p x (y ∷ ys) r =
      let f = filter p ys in
      elim (is_le (cmp x y)) as (λ b. is_le (cmp x y) ≡ b
      → filter p (cond b (x ∷ y ∷ ys) (y ∷ inserted cmp x ys))
      ≡ cond (p x) (inserted cmp x (filter p (y ∷ ys))) (filter p (y ∷ ys))) [
        | true ↦ λ e.
            let le = not_gt (cmp x y) e in
            let all : IsLeast o x (y ∷ ys) = (le, IsLeast-below o x y ys le r.0) in
            ap (λ (l : List X). cond (p x) l (filter p (y ∷ ys)))
            (sym (placed-least x (filter p (y ∷ ys)) (least-filter p x (y ∷ ys) all)))
        | false ↦ λ e.
            let rest : filter p (inserted cmp x ys) ≡ cond (p x) (inserted cmp x f) f = filter-placed p x ys r.1 in
            let after : inserted cmp x (y ∷ f) ≡ y ∷ inserted cmp x f =
            ap (λ (b : Bool). cond b (x ∷ y ∷ f) (y ∷ inserted cmp x f)) e in
            ap (λ (l : List X). cond (p y) (y ∷ l) l) rest
            ∙ elim (p y) as (λ c. (let g = cond (p x) (inserted cmp x f) f in cond c (y ∷ g) g)
            ≡ cond (p x) (inserted cmp x (cond c (y ∷ f) f)) (cond c (y ∷ f) f)) [
              | true ↦ elim (p x) as (λ c. y ∷ cond c (inserted cmp x f) f
                  ≡ cond c (inserted cmp x (y ∷ f)) (y ∷ f)) [ true ↦ sym after | false ↦ refl ]
              | false ↦ refl
            ]
      ] refl

  pub filter-in_order : (p : X → Bool) (xs : List X) → filter p (in_order cmp xs) ≡ in_order cmp (filter p xs)
  filter-in_order p [] = refl
  filter-in_order p (x ∷ xs) =
      filter-placed p x (in_order cmp xs) (Rises-in_order o xs)
      ∙ ap (λ (l : List X). cond (p x) (inserted cmp x l) l) (filter-in_order p xs)
      ∙ elim (p x) as (λ b. cond b (inserted cmp x (in_order cmp (filter p xs))) (in_order cmp (filter p xs))
      ≡ in_order cmp (cond b (x ∷ filter p xs) (filter p xs))) [ true ↦ refl | false ↦ refl ]

pub filter-map : {X Y : Type 0} (p : Y → Bool) (f : X → Y) (xs : List X)
    → filter p (map f xs) ≡ map f (filter (λ x. p (f x)) xs)
filter-map p f [] = refl
filter-map p f (x ∷ xs) =
    ap (λ l. cond (p (f x)) (f x ∷ l) l) (filter-map p f xs)
    ∙ elim (p (f x)) as (λ b. cond b (f x ∷ map f (filter (λ z. p (f z)) xs)) (map f (filter (λ z. p (f z)) xs))
    ≡ map f (cond b (x ∷ filter (λ z. p (f z)) xs) (filter (λ z. p (f z)) xs))) [ true ↦ refl | false ↦ refl ]

-- ---- what a heap holds
-- the items of a heap, ascending
abbrev pub held : List (Reverse Candidate) → List Candidate
held rs = in_order candidate_cmp (unreversed rs)

pub held-IsPermutation : (rs ss : List (Reverse Candidate)) → IsPermutation rs ss → held rs ≡ held ss
held-IsPermutation rs ss moved =
    in_order-IsPermutation candidate_cmp_total candidate_cmp-IsAntisymmetric (unreversed rs) (unreversed ss)
    (IsPermutation-map (λ r. r.0) rs ss moved)

pub length-held : (rs : List (Reverse Candidate)) → length (held rs) ≡ length rs
length-held rs = length_permutation (unreversed rs) (held rs) (IsPermutation-in_order candidate_cmp (unreversed rs))
    ∙ length-map rs (λ r. r.0)

pub filter-held : (p : Candidate → Bool) (rs : List (Reverse Candidate))
    → held (filter (λ r. p r.0) rs) ≡ filter p (held rs)
filter-held p rs = ap (in_order candidate_cmp) (sym (filter-map p (λ (r : Reverse Candidate). r.0) rs))
    ∙ sym (filter-in_order candidate_cmp_total p (unreversed rs))

-- a test that an item of the heap passes is one that an item of the list passes
any-map : {X Y : Type 0} (p : Y → Bool) (f : X → Y) (xs : List X)
    → list_any p (map f xs) ≡ list_any (λ x. p (f x)) xs
any-map p f [] = refl
any-map p f (x ∷ xs) = ap (λ (b : Bool). p (f x) || b) (any-map p f xs)

pub any-held : (p : Candidate → Bool) (rs : List (Reverse Candidate)) → list_any (λ r. p r.0) rs ≡ list_any p (held rs)
any-held p rs =
    sym (any-map p (λ (r : Reverse Candidate). r.0) rs)
    ∙ list_any-IsPermutation p (unreversed rs) (held rs) (IsPermutation-in_order candidate_cmp (unreversed rs))

-- what comes out of a heap in order is its first item
least_of_bound : (x : Reverse Candidate) (rs : List (Reverse Candidate)) → IsUpperBound down_cmp x rs
    → IsLeast candidate_cmp_total x.0 (unreversed rs)
least_of_bound x [] h = tt
least_of_bound x (r ∷ rs) h = (
  le_of_reverse (candidate_cmp x.0 r.0) (sym (ap is_lt (candidate_cmp_total.antisymm r.0 x.0)) ∙ h.0),
  least_of_bound x rs h.1,
)

pub taken : (old rest : List (Reverse Candidate)) (x : Reverse Candidate) → IsPermutation old (x ∷ rest)
    → IsUpperBound down_cmp x rest → held old ≡ x.0 ∷ held rest
taken old rest x moved bound =
    held-IsPermutation old (x ∷ rest) moved
    ∙ placed-least candidate_cmp_total x.0 (held rest)
    (least-in_order candidate_cmp_total x.0 (unreversed rest) (least_of_bound x rest bound))

-- one that isn't live is left behind
pub find_on : (p : Candidate → Bool) (old rest : List Candidate) (x : Candidate) → old ≡ x ∷ rest → p x ≡ false
    → find p old ≡ find p rest
find_on p old rest x is stale = ap (find p) is ∙ ap (λ (b : Bool). cond b (Some x) (find p rest)) stale

pub behind_on : (p : Candidate → Bool) (old rest : List Candidate) (x : Candidate) → old ≡ x ∷ rest → p x ≡ false
    → behind p old ≡ behind p rest
behind_on p old rest x is stale = ap (behind p) is ∙ ap (λ (b : Bool). cond b rest (behind p rest)) stale

pub find_here : (p : Candidate → Bool) (old rest : List Candidate) (x : Candidate) → old ≡ x ∷ rest → p x ≡ true
    → find p old ≡ Some x
find_here p old rest x is ok = ap (find p) is ∙ ap (λ (b : Bool). cond b (Some x) (find p rest)) ok

pub behind_here : (p : Candidate → Bool) (old rest : List Candidate) (x : Candidate) → old ≡ x ∷ rest → p x ≡ true
    → behind p old ≡ rest
behind_here p old rest x is ok = ap (behind p) is ∙ ap (λ (b : Bool). cond b rest (behind p rest)) ok

-- ---- room
pub kept_of : (q : Queued) (rs : List (Reverse Candidate)) → q.items ≡ held rs
    → held (kept_in q.room q.stamps rs) ≡ kept q
kept_of q rs is =
    let live = is_live q.stamps in
    elim (nat_lt (length rs) q.room) as (λ b. nat_lt (length rs) q.room ≡ b
    → held (cond b rs (filter (λ r. live r.0) rs)) ≡ kept q) [
      | true ↦ λ e. sym is ∙ sym (ap (λ (b : Bool). cond b q.items (filter live q.items))
          (ap (λ n. nat_lt n q.room) (ap length is ∙ length-held rs) ∙ e))
      | false ↦ λ e. filter-held live rs ∙ ap (filter live) (sym is)
          ∙ sym (ap (λ (b : Bool). cond b q.items (filter live q.items)) (ap (λ n. nat_lt n q.room) (ap length is
          ∙ length-held rs) ∙ e))
    ] refl

fewer : {X : Type 0} (p : X → Bool) (xs : List X) → length (filter p xs) ≤ length xs
fewer p [] = omega arith
fewer p (x ∷ xs) = elim (p x) as (λ b. length (cond b (x ∷ filter p xs) (filter p xs)) ≤ length (x ∷ xs)) [
  | true ↦
      omega (arith, fewer p xs)
  | false ↦ omega (arith, fewer p xs)
]

some_fewer : {X : Type 0} (p : X → Bool) (xs : List X) → list_any (λ x. not (p x)) xs ≡ true
    → length (filter p xs) < length xs
some_fewer p [] h = absurd (false≢true h)
some_fewer p (x ∷ xs) h =
    elim (p x) as (λ b. p x ≡ b → length (cond b (x ∷ filter p xs) (filter p xs)) < length (x ∷ xs)) [
      | true ↦ λ e. elim (or_cases (not (p x)) (list_any (λ y. not (p y)) xs) h) [
        | inl is ↦ absurd (false≢true (sym (ap not e) ∙ is))
        | inr more ↦ omega (arith, some_fewer p xs more)
      ]
      | false ↦ λ e. omega (arith, fewer p xs)
    ] refl

-- where there is room, what is kept is fewer than the heap can hold
pub room_kept : (q : Queued) (cap : ℕ) → HasRoom q → q.room ≤ cap → length q.items ≤ cap → length (kept q) < cap
room_kept q cap has room most =
    elim (nat_lt (length q.items) q.room) as (λ b. nat_lt (length q.items) q.room ≡ b
    → length (cond b q.items (filter (is_live q.stamps) q.items)) < cap) [
      | true ↦ λ e. let lt : length q.items < q.room = ltb-true (length q.items) q.room e in omega (arith, lt, room)
      | false ↦ λ e. elim has [
        | inl lt ↦ absurd (let no = lt-ltb (length q.items) q.room lt in false≢true (sym e ∙ no))
        | inr some ↦ omega (arith, some_fewer (is_live q.stamps) q.items some, most)
      ]
    ] refl

-- what tells whether there is room
pub room_told : (q : Queued) (rs : List (Reverse Candidate)) → q.items ≡ held rs
    → ((nat_lt (length rs) q.room || list_any (λ r. not (is_live q.stamps r.0)) rs) ≡ true) ↔ HasRoom q
room_told q rs is =
    let long : length q.items ≡ length rs = ap length is ∙ length-held rs in
    let stale : (c : Candidate) → Bool = λ c. not (is_live q.stamps c) in
    let some : list_any (λ r. not (is_live q.stamps r.0)) rs ≡ list_any stale q.items =
    any-held stale rs ∙ ap (list_any stale) (sym is) in (
      λ told. elim (or_cases (nat_lt (length rs) q.room) _ told) [
        | inl few ↦ inl (subst (λ n. n < q.room) (sym long) (ltb-true (length rs) q.room few))
        | inr more ↦ inr (sym some ∙ more)
      ],
      λ has. elim has [
        | inl lt ↦ or_left (nat_lt (length rs) q.room) _ (lt-ltb (length rs) q.room (subst (λ n. n < q.room) long lt))
        | inr more ↦ or_right (nat_lt (length rs) q.room) _ (some ∙ more)
      ],
    )
