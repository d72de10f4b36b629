-- The triangles of a collapsed and of a flipped list: three different names each, turned, and no more than before.
use Rattle.std.proofs.Common.{◌≡◌, ◌≢◌, ℕ, suc, ◌+◌, ◌≤◌, Bool, true, false, cond, not, ◌&&◌, eqb, nat_lt, List, [], ◌∷◌, length, map, Some, All, sym, ap, ◌∙◌, refl, arith, inl, inr}
use Rattle.std.proofs.lemmas.Bool.{eqb-true, eqb-false, not-true, or_cases, and_parts, and_from, both_ways}
use Rattle.std.proofs.lemmas.Bool.Decides.{nat_tests}
use Rattle.std.proofs.lemmas.List.Elements.{All-from_recursion, recursion_from_All}
use Rattle.std.proofs.lemmas.List.Filters.{length-filter_both}
use Rattle.std.specs.List.{list_any, filter, AllByRecursion}
use Rattle.std.specs.Ordering.{is_le}
use Rattle.std.specs.declared.cmp.Ordering.{Ordering}
use Rattle.oemm_lists.specs.Ascending.{inserted, in_order}
use Rattle.mesh_data.specs.declared.geometry.Tri.{Tri}
use Rattle.mesh_data.specs.Edits.{renamed, substituted, collapsed_tris, flipped_tris}
use Rattle.mesh_data.specs.Links.{has_both, opposites}
use Rattle.mesh_data.specs.Manifold.{IsTriangleOn}
use Rattle.mesh_data.specs.Triangles.{IsProper, has_corner, turned, tri_cmp}
use Rattle.triangle_edits.proofs.Turns.{IsFace, face_next, face_of, face_at, ends_of, any_turns, turns_to, to_has_both, to_apart, corner_a, corner_b, corner_c}

-- ---- lists in order

all_placed : {X : Type 0} (P : X → Type 0) (R : X → X → Ordering) (x : X) (xs : List X) → P x → AllByRecursion P xs → AllByRecursion P (inserted R x xs)
all_placed P R x [] h all = (h, tt)
all_placed P R x (y ∷ ys) h all =
    elim (is_le (R x y)) as (λ b. AllByRecursion P (cond b (x ∷ y ∷ ys) (y ∷ inserted R x ys))) [ true ↦ (h, all) | false ↦ (all.0, all_placed P R x ys h all.1) ]

all_in_order : {X : Type 0} (P : X → Type 0) (R : X → X → Ordering) (xs : List X) → AllByRecursion P xs → AllByRecursion P (in_order R xs)
all_in_order P R [] all = tt
all_in_order P R (x ∷ xs) all = all_placed P R x (in_order R xs) all.0 (all_in_order P R xs all.1)

length-placed : {X : Type 0} (R : X → X → Ordering) (x : X) (xs : List X) → length (inserted R x xs) ≡ suc (length xs)
length-placed R x [] = refl
length-placed R x (y ∷ ys) =
    elim (is_le (R x y)) as (λ b. length (cond b (x ∷ y ∷ ys) (y ∷ inserted R x ys)) ≡ suc (suc (length ys))) [ true ↦ refl | false ↦ ap (λ (n : ℕ). suc n) (length-placed R x ys) ]

pub length-in_order : {X : Type 0} (R : X → X → Ordering) (xs : List X) → length (in_order R xs) ≡ length xs
length-in_order R [] = refl
length-in_order R (x ∷ xs) = length-placed R x (in_order R xs) ∙ ap (λ (n : ℕ). suc n) (length-in_order R xs)

-- ---- turned triangles

pub turned_keeps : (P : Tri → Type 0) → ((t : Tri) → P t → P (record { a = t.b; b = t.c; c = t.a })) → (t : Tri) → P t → P (turned t)
turned_keeps P turn t h =
    let next = turn t h in
    let third = turn _ next in
    elim (nat_lt t.a t.b && nat_lt t.a t.c) as (λ b. P (cond b t (cond (nat_lt t.b t.c) (record { a = t.b; b = t.c; c = t.a }) (record { a = t.c; b = t.a; c = t.b })))) [
      | true ↦ h
      | false ↦ elim (nat_lt t.b t.c) as (λ b. P (cond b (record { a = t.b; b = t.c; c = t.a }) (record { a = t.c; b = t.a; c = t.b }))) [ true ↦ next | false ↦ third ]
    ]

-- a triangle that is turned has its least name first
turned_twice : (t : Tri) → IsProper t → turned (turned t) ≡ turned t
turned_twice t proper =
    let ab : t.a ≢ t.b = proper.0 in
    let bc : t.b ≢ t.c = proper.1 in
    let ca : t.c ≢ t.a = proper.2 in
    grind (arith, nat_tests)

-- a triangle of three different names, turned
face_turned : (P : ℕ → Type 0) (t : Tri) → IsFace P t.a t.b t.c → IsTriangleOn P (turned t)
face_turned P t f =
    let g : IsFace P (turned t).a (turned t).b (turned t).c = turned_keeps (λ s. IsFace P s.a s.b s.c) (λ s h. face_next P s.a s.b s.c h) t f in
    record { proper = (g.ab, g.bc, g.ca); is_turned = turned_twice t (f.ab, f.bc, f.ca); a = g.at_a; b = g.at_b; c = g.at_c }

-- ---- collapses

renamed_on : (P Q : ℕ → Type 0) (u v w : ℕ) → ((w : ℕ) → P w → (w ≢ u) → Q w) → Q v → P w → Q (renamed u v w)
renamed_on P Q u v w keeps on_v on_w =
    elim (eqb w u) as (λ b. eqb w u ≡ b → Q (cond b v w)) [ true ↦ λ _. on_v | false ↦ λ away. keeps w on_w (eqb-false w u away) ] refl

-- two names stay different where they aren't u and v
pub renamed_apart : (u v x y : ℕ) → x ≢ y → (x ≡ u → y ≡ v → ⊥) → (y ≡ u → x ≡ v → ⊥) → renamed u v x ≢ renamed u v y
renamed_apart u v x y apart not_uv not_vu =
    elim (eqb x u) as (λ b. eqb x u ≡ b → cond b v x ≢ renamed u v y) [
      | true ↦ λ x_is. elim (eqb y u) as (λ b. eqb y u ≡ b → v ≢ cond b v y) [
        | true ↦ λ y_is. λ _. apart (eqb-true x u x_is ∙ sym (eqb-true y u y_is))
        | false ↦ λ _. λ same. not_uv (eqb-true x u x_is) (sym same)
      ] refl
      | false ↦ λ _. elim (eqb y u) as (λ b. eqb y u ≡ b → x ≢ cond b v y) [
        | true ↦ λ y_is. λ same. not_vu (eqb-true y u y_is) same
        | false ↦ λ _. apart
      ] refl
    ] refl

kept_face : (P Q : ℕ → Type 0) (u v : ℕ) (t : Tri) → ((w : ℕ) → P w → (w ≢ u) → Q w) → Q v → has_both u v t ≡ false → IsFace P t.a t.b t.c → IsFace Q (renamed u v t.a) (renamed u v t.b) (renamed u v t.c)
kept_face P Q u v t keeps on_v out f =
    let never : has_corner u t ≡ true → has_corner v t ≡ true → ⊥ = λ h k. both_ways (has_both u v t) out (and_from (has_corner u t) (has_corner v t) h k) in
    record {
      ab = renamed_apart u v t.a t.b f.ab (λ h k. never (corner_a u t h) (corner_b v t k)) (λ h k. never (corner_b u t h) (corner_a v t k));
      bc = renamed_apart u v t.b t.c f.bc (λ h k. never (corner_b u t h) (corner_c v t k)) (λ h k. never (corner_c u t h) (corner_b v t k));
      ca = renamed_apart u v t.c t.a f.ca (λ h k. never (corner_c u t h) (corner_a v t k)) (λ h k. never (corner_a u t h) (corner_c v t k));
      at_a = renamed_on P Q u v t.a keeps on_v f.at_a;
      at_b = renamed_on P Q u v t.b keeps on_v f.at_b;
      at_c = renamed_on P Q u v t.c keeps on_v f.at_c;
    }

kept_triangles : (P Q : ℕ → Type 0) (u v : ℕ) (ts : List Tri) → ((w : ℕ) → P w → (w ≢ u) → Q w) → Q v → AllByRecursion (IsTriangleOn P) ts → AllByRecursion (IsTriangleOn Q) (map (λ t. turned (substituted u v t)) (filter (λ t. not (has_both u v t)) ts))
kept_triangles P Q u v [] keeps on_v all = tt
kept_triangles P Q u v (t ∷ ts) keeps on_v all =
    let rest = kept_triangles P Q u v ts keeps on_v all.1 in
    elim (not (has_both u v t)) as (λ b. not (has_both u v t) ≡ b → AllByRecursion (IsTriangleOn Q) (map (λ s. turned (substituted u v s)) (cond b (t ∷ filter (λ s. not (has_both u v s)) ts) (filter (λ s. not (has_both u v s)) ts)))) [
      | true ↦ λ out. (face_turned Q (substituted u v t) (kept_face P Q u v t keeps on_v (not-true (has_both u v t) out) (face_of P t all.0)), rest)
      | false ↦ λ _. rest
    ] refl

-- the triangles that a collapse leaves are turned and have three different names, of those that are left
pub triangles_collapsed : (P Q : ℕ → Type 0) (u v : ℕ) (ts : List Tri) → ((w : ℕ) → P w → (w ≢ u) → Q w) → Q v → All (IsTriangleOn P) ts → All (IsTriangleOn Q) (collapsed_tris u v ts)
unfolding collapsed_tris
triangles_collapsed P Q u v ts keeps on_v all =
    All-from_recursion (IsTriangleOn Q) _ (all_in_order (IsTriangleOn Q) tri_cmp _ (kept_triangles P Q u v ts keeps on_v (recursion_from_All (IsTriangleOn P) ts all)))

-- ---- flips

all_filter : (P : Tri → Type 0) (p : Tri → Bool) (ts : List Tri) → AllByRecursion P ts → AllByRecursion P (filter p ts)
all_filter P p [] all = tt
all_filter P p (t ∷ ts) all =
    elim (p t) as (λ b. AllByRecursion P (cond b (t ∷ filter p ts) (filter p ts))) [ true ↦ (all.0, all_filter P p ts all.1) | false ↦ all_filter P p ts all.1 ]

-- the triangles that a flip leaves are turned and have three different names
pub triangles_flipped : (P : ℕ → Type 0) (a b c d : ℕ) (ts : List Tri) → a ≢ b → c ≢ d → opposites ts a b ≡ Some (c, d) → All (IsTriangleOn P) ts → All (IsTriangleOn P) (flipped_tris a b c d ts)
unfolding flipped_tris
triangles_flipped P a b c d ts ab cd ends all =
    let each = recursion_from_All (IsTriangleOn P) ts all in
    let two = ends_of ts a b c d ends in
    let ahead = face_at P ts a b c each two.0 in
    let behind = face_at P ts b a d each two.1 in
    let at_a : IsFace P a d c = record { ab = behind.bc; bc = λ e. cd (sym e); ca = ahead.ca; at_a = ahead.at_a; at_b = behind.at_c; at_c = ahead.at_c } in
    let at_b : IsFace P d b c = record { ab = behind.ca; bc = ahead.bc; ca = cd; at_a = behind.at_c; at_b = ahead.at_b; at_c = ahead.at_c } in
    let s : Tri = record { a = a; b = d; c = c } in
    let t : Tri = record { a = d; b = b; c = c } in
    let left = filter (λ t. not (has_both a b t)) ts in
    let all_of : AllByRecursion (IsTriangleOn P) (turned s ∷ turned t ∷ left) = (face_turned P s at_a, (face_turned P t at_b, all_filter (IsTriangleOn P) (λ t. not (has_both a b t)) ts each)) in
    All-from_recursion (IsTriangleOn P) _ (all_in_order (IsTriangleOn P) tri_cmp (turned s ∷ turned t ∷ left) all_of)

few_kept : (p : Tri → Bool) (ts : List Tri) → length (filter (λ t. not (p t)) ts) ≤ length ts
few_kept p ts = omega (arith, length-filter_both p (λ t. not (p t)) (λ _. refl) ts)

one_dropped : (p q : Tri → Bool) → ((t : Tri) → q t ≡ true → p t ≡ true) → (ts : List Tri) → list_any q ts ≡ true → length (filter (λ t. not (p t)) ts) + 1 ≤ length ts
one_dropped p q drops [] any = absurd (cc)
one_dropped p q drops (t ∷ ts) any =
    let kept = filter (λ s. not (p s)) ts in
    elim (p t) as (λ b. p t ≡ b → length (cond (not b) (t ∷ kept) kept) + 1 ≤ suc (length ts)) [
      | true ↦ λ _. omega (arith, few_kept p ts)
      | false ↦ λ stays. elim (or_cases (q t) (list_any q ts) any) [ inl it ↦ absurd (both_ways (p t) stays (drops t it)) | inr later ↦ omega (arith, one_dropped p q drops ts later) ]
    ] refl

two_dropped : (p q r : Tri → Bool) → ((t : Tri) → q t ≡ true → p t ≡ true) → ((t : Tri) → r t ≡ true → p t ≡ true) → ((t : Tri) → q t ≡ true → r t ≡ true → ⊥) → (ts : List Tri) → list_any q ts ≡ true → list_any r ts ≡ true → length (filter (λ t. not (p t)) ts) + 2 ≤ length ts
two_dropped p q r drops too apart [] any also = absurd (cc)
two_dropped p q r drops too apart (t ∷ ts) any also =
    let kept = filter (λ s. not (p s)) ts in
    elim (or_cases (q t) (list_any q ts) any) [
      | inl it ↦ elim (or_cases (r t) (list_any r ts) also) [
        | inl that ↦ absurd (apart t it that)
        | inr later ↦ let gone = one_dropped p r too ts later in let here : length (cond (not (p t)) (t ∷ kept) kept) ≡ length kept = ap (λ (b : Bool). length (cond (not b) (t ∷ kept) kept)) (drops t it) in omega arith
      ]
      | inr later ↦ elim (or_cases (r t) (list_any r ts) also) [
        | inl that ↦ let gone = one_dropped p q drops ts later in let here : length (cond (not (p t)) (t ∷ kept) kept) ≡ length kept = ap (λ (b : Bool). length (cond (not b) (t ∷ kept) kept)) (too t that) in omega arith
        | inr then ↦ let gone = two_dropped p q r drops too apart ts later then in
            elim (p t) as (λ b. length (cond (not b) (t ∷ kept) kept) + 2 ≤ suc (length ts)) [ true ↦ omega arith | false ↦ omega arith ]
      ]
    ]

-- a flip leaves no more triangles: the two at the edge have different third names, so that at least two go
pub few_flipped : (a b c d : ℕ) (ts : List Tri) → a ≢ b → c ≢ d → opposites ts a b ≡ Some (c, d) → length (flipped_tris a b c d ts) ≤ length ts
unfolding flipped_tris
few_flipped a b c d ts ab cd ends =
    let two = ends_of ts a b c d ends in
    let kept = filter (λ t. not (has_both a b t)) ts in
    let swap : (t : Tri) → has_both b a t ≡ true → has_both a b t ≡ true = λ t h. let parts = and_parts (has_corner b t) (has_corner a t) h in and_from (has_corner a t) (has_corner b t) parts.1 parts.0 in
    let gone = two_dropped (has_both a b) (turns_to a b c) (turns_to b a d) (λ t h. to_has_both t a b c h) (λ t h. swap t (to_has_both t b a d h)) (λ t h k. to_apart t a b c d ab cd h k) ts (any_turns ts a b c two.0) (any_turns ts b a d two.1) in
    omega (arith, length-in_order tri_cmp (turned (record { a = a; b = d; c = c }) ∷ turned (record { a = d; b = b; c = c }) ∷ kept))
