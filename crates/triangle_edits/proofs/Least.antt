-- The first of the names in order that passes a test is the least that does.
use Rattle.std.proofs.Common.{◌≡◌, ℕ, zero, suc, ◌<◌, ◌≤◌, Bool, true, false, cond, not, ◌&&◌, ◌||◌, eqb, List, [], ◌∷◌, length, Some, None, sym, ap, ◌∙◌, refl, subst, arith, inl, inr, get_or}
use Rattle.std.proofs.lemmas.Bool.{false≢true, or_cases, or_left, or_right, and_parts, and_from, eqb-true, eq-eqb, both_ways, not-true, not_from_false}
use Rattle.std.proofs.lemmas.Bool.Decides.{nat_tests}
use Rattle.std.proofs.lemmas.Map.Keys.{le_from_is_le}
use Rattle.std.specs.List.{Contains, AllByRecursion, find}
use Rattle.std.specs.Ordering.{nat_cmp, is_le}
use Rattle.oemm_lists.specs.Ascending.{inserted, in_order}
use Rattle.mesh_data.specs.declared.geometry.Tri.{Tri}
use Rattle.mesh_data.specs.Links.{is_opposite, link_violation}
use Rattle.mesh_data.specs.Triangles.{neighbours}
use Rattle.oemm_lists.specs.Numbers.{among}
use Rattle.triangle_edits.specs.Links.{IsSharedBeside}

-- members, by a test and by a place
contains-among : (ns : List ℕ) (w : ℕ) → among w ns ≡ true → Contains ns w
contains-among [] w h = absurd (false≢true h)
contains-among (n ∷ ns) w h =
    elim (or_cases (eqb n w) (among w ns) h) [
      | inl it ↦ (0, omega arith, eqb-true n w it)
      | inr later ↦ let at = contains-among ns w later in (suc at.0, omega (arith, at.1), at.2)
    ]

among_at : (ns : List ℕ) (w k : ℕ) → k < length ns → get_or ns k w ≡ w → among w ns ≡ true
among_at [] w k lt at = absurd (omega arith)
among_at (n ∷ ns) w zero lt at = or_left (eqb n w) (among w ns) (eq-eqb n w at)
among_at (n ∷ ns) w (suc k) lt at = or_right (eqb n w) (among w ns) (among_at ns w k (omega arith) at)

all_at : (P : ℕ → Type 0) (ns : List ℕ) (w : ℕ) → AllByRecursion P ns → among w ns ≡ true → P w
all_at P [] w all h = absurd (false≢true h)
all_at P (n ∷ ns) w all h =
    elim (or_cases (eqb n w) (among w ns) h) [ inl it ↦ subst P (eqb-true n w it) all.0 | inr later ↦ all_at P ns w all.1 later ]

above : (n m : ℕ) → is_le (nat_cmp n m) ≡ false → m ≤ n
above n m h = grind (arith, nat_tests)

-- names in order
abbrev Ascends : List ℕ → Type 0
Ascends [] = Unit {0}
Ascends (n ∷ ns) = AllByRecursion (λ m. n ≤ m) ns × Ascends ns

all_above : (n k : ℕ) (ns : List ℕ) → n ≤ k → AllByRecursion (λ m. k ≤ m) ns → AllByRecursion (λ m. n ≤ m) ns
all_above n k [] le all = tt
all_above n k (m ∷ ns) le all = (omega (arith, all.0), all_above n k ns le all.1)

all_placed : (k n : ℕ) (ns : List ℕ) → k ≤ n → AllByRecursion (λ m. k ≤ m) ns → AllByRecursion (λ m. k ≤ m) (inserted nat_cmp n ns)
all_placed k n [] le all = (le, tt)
all_placed k n (m ∷ ns) le all =
    elim (is_le (nat_cmp n m)) as (λ b. AllByRecursion (λ m. k ≤ m) (cond b (n ∷ m ∷ ns) (m ∷ inserted nat_cmp n ns))) [ true ↦ (le, all) | false ↦ (all.0, all_placed k n ns le all.1) ]

ascends-placed : (n : ℕ) (ns : List ℕ) → Ascends ns → Ascends (inserted nat_cmp n ns)
ascends-placed n [] up = (tt, tt)
ascends-placed n (m ∷ ns) up =
    elim (is_le (nat_cmp n m)) as (λ b. is_le (nat_cmp n m) ≡ b → Ascends (cond b (n ∷ m ∷ ns) (m ∷ inserted nat_cmp n ns))) [
      | true ↦ λ is. let le = le_from_is_le n m is in ((le, all_above n m ns le up.0), up)
      | false ↦ λ is. (all_placed m n ns (above n m is) up.0, ascends-placed n ns up.1)
    ] refl

ascends-in_order : (ns : List ℕ) → Ascends (in_order nat_cmp ns)
ascends-in_order [] = tt
ascends-in_order (n ∷ ns) = ascends-placed n (in_order nat_cmp ns) (ascends-in_order ns)

or_swap : (a b c : Bool) → (b || (a || c)) ≡ (a || (b || c))
or_swap true true c = refl
or_swap true false c = refl
or_swap false b c = refl

among-placed : (w n : ℕ) (ns : List ℕ) → among w (inserted nat_cmp n ns) ≡ (eqb n w || among w ns)
among-placed w n [] = refl
among-placed w n (m ∷ ns) =
    elim (is_le (nat_cmp n m)) as (λ b. among w (cond b (n ∷ m ∷ ns) (m ∷ inserted nat_cmp n ns)) ≡ (eqb n w || (eqb m w || among w ns))) [
      | true ↦ refl
      | false ↦ ap (λ (b : Bool). eqb m w || b) (among-placed w n ns) ∙ or_swap (eqb n w) (eqb m w) (among w ns)
    ]

among-in_order : (w : ℕ) (ns : List ℕ) → among w (in_order nat_cmp ns) ≡ among w ns
among-in_order w [] = refl
among-in_order w (n ∷ ns) = among-placed w n (in_order nat_cmp ns) ∙ ap (λ (b : Bool). eqb n w || b) (among-in_order w ns)

-- the first that passes
first_passes : (p : ℕ → Bool) (ns : List ℕ) (w : ℕ) → find p ns ≡ Some w → (among w ns ≡ true) × (p w ≡ true)
first_passes p [] w h = absurd (cc)
first_passes p (n ∷ ns) w h =
    elim (p n) as (λ b. p n ≡ b → cond b (Some n) (find p ns) ≡ Some w → (among w (n ∷ ns) ≡ true) × (p w ≡ true)) [
      | true ↦ λ holds is. let same : n ≡ w = cc in (or_left (eqb n w) (among w ns) (eq-eqb n w same), subst (λ (m : ℕ). p m ≡ true) same holds)
      | false ↦ λ _ is. let rest = first_passes p ns w is in (or_right (eqb n w) (among w ns) rest.0, rest.1)
    ] refl h

passes_here : (p : ℕ → Bool) (n x : ℕ) → p n ≡ false → p x ≡ true → eqb n x ≡ true → ⊥
passes_here p n x fails holds it = both_ways (p n) fails (subst (λ (m : ℕ). p m ≡ true) (sym (eqb-true n x it)) holds)

first_is_least : (p : ℕ → Bool) (ns : List ℕ) (w x : ℕ) → Ascends ns → find p ns ≡ Some w → among x ns ≡ true → p x ≡ true → w ≤ x
first_is_least p [] w x up h on holds = absurd (false≢true on)
first_is_least p (n ∷ ns) w x up h on holds =
    elim (p n) as (λ b. p n ≡ b → cond b (Some n) (find p ns) ≡ Some w → w ≤ x) [
      | true ↦ λ _ is. let same : n ≡ w = cc in elim (or_cases (eqb n x) (among x ns) on) [ inl it ↦ omega (arith, eqb-true n x it) | inr later ↦ omega (arith, all_at (λ m. n ≤ m) ns x up.0 later) ]
      | false ↦ λ fails is. elim (or_cases (eqb n x) (among x ns) on) [ inl it ↦ absurd (passes_here p n x fails holds it) | inr later ↦ first_is_least p ns w x up.1 is later holds ]
    ] refl h

none_passes : (p : ℕ → Bool) (ns : List ℕ) (x : ℕ) → find p ns ≡ None → among x ns ≡ true → p x ≡ true → ⊥
none_passes p [] x h on holds = false≢true on
none_passes p (n ∷ ns) x h on holds =
    elim (p n) as (λ b. p n ≡ b → cond b (Some n) (find p ns) ≡ None → ⊥) [
      | true ↦ λ _ is. absurd (cc)
      | false ↦ λ fails is. elim (or_cases (eqb n x) (among x ns) on) [ inl it ↦ passes_here p n x fails holds it | inr later ↦ none_passes p ns x is later holds ]
    ] refl h

-- the test of `link_violation`
abbrev beside : List Tri → ℕ → ℕ → ℕ → Bool
beside ts u v w = among w (neighbours v ts) && not (is_opposite ts u v w)

beside_from : (ts : List Tri) (u v x : ℕ) → IsSharedBeside ts u v x → (among x (in_order nat_cmp (neighbours u ts)) ≡ true) × (beside ts u v x ≡ true)
beside_from ts u v x shared =
    let of_u = shared.0 in
    let of_v = shared.1 in (
      among-in_order x (neighbours u ts) ∙ among_at (neighbours u ts) x of_u.0 of_u.1 of_u.2,
      and_from (among x (neighbours v ts)) (not (is_opposite ts u v x)) (among_at (neighbours v ts) x of_v.0 of_v.1 of_v.2) (not_from_false (is_opposite ts u v x) shared.2),
    )

pub link_violation_is : (ts : List Tri) (u v w : ℕ) → link_violation ts u v ≡ Some w → IsSharedBeside ts u v w
unfolding link_violation
link_violation_is ts u v w h =
    let first = first_passes (beside ts u v) (in_order nat_cmp (neighbours u ts)) w h in
    let parts = and_parts (among w (neighbours v ts)) (not (is_opposite ts u v w)) first.1 in
    (contains-among (neighbours u ts) w (sym (among-in_order w (neighbours u ts)) ∙ first.0), contains-among (neighbours v ts) w parts.0, not-true (is_opposite ts u v w) parts.1)

pub link_violation_below : (ts : List Tri) (u v w x : ℕ) → link_violation ts u v ≡ Some w → IsSharedBeside ts u v x → w ≤ x
unfolding link_violation
link_violation_below ts u v w x h shared =
    let passes = beside_from ts u v x shared in
    first_is_least (beside ts u v) (in_order nat_cmp (neighbours u ts)) w x (ascends-in_order (neighbours u ts)) h passes.0 passes.1

pub none_shared : (ts : List Tri) (u v x : ℕ) → link_violation ts u v ≡ None → IsSharedBeside ts u v x → ⊥
unfolding link_violation
none_shared ts u v x h shared =
    let passes = beside_from ts u v x shared in
    none_passes (beside ts u v) (in_order nat_cmp (neighbours u ts)) x h passes.0 passes.1
