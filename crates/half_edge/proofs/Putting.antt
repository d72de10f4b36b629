-- A walk round a name that puts another in its place.
use Rattle.std.proofs.Common.{◌≡◌, ◌≢◌, ◌⊎◌, ℕ, suc, ◌+◌, ◌<◌, ◌≤◌, Bool, true, false, cond, ◌||◌, eqb, List, [], ◌∷◌}
use Rattle.std.proofs.Common.{◌++◌, length, Option, Some, None, is_some, IsSome, count_by, sym, ap, ◌∙◌, refl, subst}
use Rattle.std.proofs.Common.{arith, inl, inr}
use Rattle.std.proofs.lemmas.Bool.{eqb-true, eq-eqb, ne_eqb, or_from, or_parts, both_ways, false_from_ne_true, cases_eq}
use Rattle.std.specs.List.{flat_map, list_any}
use Rattle.std.specs.Option.{option_map_or}
use Rattle.mesh_data.specs.declared.geometry.Tri.{Tri}
use Rattle.mesh_data.specs.Edits.{renamed, substituted}
use Rattle.mesh_data.specs.Triangles.{has_corner}
use Rattle.half_edge.specs.declared.surgery.Half.{Half}
use Rattle.half_edge.specs.Halves.{Slots, at, IsSound, with_put, next_key, three, around, all_put, put_in, ContainsAt}
use Rattle.half_edge.specs.Halves.{IsLoop, IsRound}

-- ---- names

not_renamed : (u v x : ℕ) → u ≢ v → renamed u v x ≢ u
not_renamed u v x n e =
    elim (cases_eq x u) [
      | inl xu ↦ n (sym e ∙ ap (λ (b : Bool). cond b v x) (eq-eqb x u xu))
      | inr xn ↦ xn (sym (ap (λ (b : Bool). cond b v x) (ne_eqb x u xn)) ∙ e)
    ]

no_corner_put : (u v : ℕ) (t : Tri) → u ≢ v → has_corner u (substituted u v t) ≡ false
no_corner_put u v t n =
    or_from (eqb (renamed u v t.a) u || eqb (renamed u v t.b) u) (eqb (renamed u v t.c) u)
    (or_from (eqb (renamed u v t.a) u) (eqb (renamed u v t.b) u) (ne_eqb (renamed u v t.a) u (not_renamed u v t.a n))
    (ne_eqb (renamed u v t.b) u (not_renamed u v t.b n)))
    (ne_eqb (renamed u v t.c) u (not_renamed u v t.c n))

pub put_none : (u v : ℕ) (t : Tri) → has_corner u t ≡ false → substituted u v t ≡ t
put_none u v t lacks =
    let parts = or_parts (eqb t.a u || eqb t.b u) (eqb t.c u) lacks in
    let first = or_parts (eqb t.a u) (eqb t.b u) parts.0 in
    λ i. record { a = cond (first.0 i) v t.a; b = cond (first.1 i) v t.b; c = cond (parts.1 i) v t.c }

put_unchanged : (u v : ℕ) (h : Half) → has_corner u h.face ≡ false → all_put u v (Some h) ≡ Some h
put_unchanged u v h lacks = let same = put_none u v h.face lacks in λ i.
    Some (record { face = same i; lead = h.lead; next = h.next; twin = h.twin })

put_twice : (u v : ℕ) (o : Option Half) → u ≢ v → all_put u v (all_put u v o) ≡ all_put u v o
put_twice u v None n = refl
put_twice u v (Some h) n = put_unchanged u v (with_put u v h) (no_corner_put u v h.face n)

-- ---- links stay

abbrev pub IsEither : ℕ → ℕ → Option Half → Option Half → Type 0
IsEither u v was now = (now ≡ was) ⊎ (now ≡ all_put u v was)

abbrev next_of : Option Half → ℕ
next_of o = option_map_or (λ (h : Half). h.next) o 0

abbrev twin_of : Option Half → Option ℕ
twin_of o = option_map_or (λ (h : Half). h.twin) o None

next_put : (u v : ℕ) (o : Option Half) → next_of (all_put u v o) ≡ next_of o
next_put u v None = refl
next_put u v (Some h) = refl

twin_put : (u v : ℕ) (o : Option Half) → twin_of (all_put u v o) ≡ twin_of o
twin_put u v None = refl
twin_put u v (Some h) = refl

some_put : (u v : ℕ) (o : Option Half) → is_some (all_put u v o) ≡ is_some o
some_put u v None = refl
some_put u v (Some h) = refl

by_either : {X : Type 0} (f : Option Half → X) (u v : ℕ) (was now : Option Half) → f (all_put u v was) ≡ f was →
    IsEither u v was now → f now ≡ f was
by_either f u v was now same (inl e) = ap f e
by_either f u v was now same (inr e) = ap f e ∙ same

-- how far a walk round u has come: of s, some triangles have v for u by now, and those with u are still to come
pub record Rounded (s r : Slots) (home u v k i n : ℕ) : Type 0 where
  pub keys : List ℕ
  pub loop : IsLoop s home (k ∷ keys)
  pub fits : i + suc (length keys) ≤ n
  pub either : (j : ℕ) → IsEither u v (at s j) (at r j)
  pub left : (j : ℕ) (h : Half) → at r j ≡ Some h → has_corner u h.face ≡ true →
      list_any (λ l. eqb j l) (flat_map (three s) (k ∷ keys)) ≡ true

pub round_start : (s : Slots) (home u v n : ℕ) → n ≡ count_by is_some s → IsRound s home u →
    Rounded s s home u v home 0 n
round_start s home u v n is round =
    record {
      keys = round.keys;
      loop = round.loop;
      fits = omega (arith, round.fits);
      either = λ j. inl refl;
      left =
          round.whole;
    }

module _ (s r : Slots) (home u v k i n : ℕ) (so_far : Rounded s r home u v k i n) where
  next_same : (j : ℕ) → next_key r j ≡ next_key s j
  next_same j = by_either next_of u v (at s j) (at r j) (next_put u v (at s j)) (so_far.either j)

  third_same : next_key r (next_key r k) ≡ next_key s (next_key s k)
  third_same = ap (next_key r) (next_same k) ∙ next_same (next_key s k)

  pub three_same : three r k ≡ three s k
  three_same = λ i. k ∷ next_same k i ∷ third_same i ∷ []

  pub around_same : around r k ≡ around s k
  around_same = ap (λ j. twin_of (at r j)) third_same ∙ by_either twin_of u v (at s (next_key s (next_key s k)))
      (at r (next_key s (next_key s k))) (twin_put u v (at s (next_key s (next_key s k))))
      (so_far.either (next_key s (next_key s k)))

  there : (j : ℕ) → ContainsAt s j → IsSome (at r j)
  there j h = by_either is_some u v (at s j) (at r j) (some_put u v (at s j)) (so_far.either j) ∙ ap is_some h.1

  loop_there : (keys : List ℕ) → IsLoop s home (k ∷ keys) → ContainsAt s k
  loop_there [] loop = loop.0
  loop_there (g ∷ keys) loop = loop.0

  next_there : (j : ℕ) → IsSound s → ContainsAt s j → ContainsAt s (next_key s j)
  next_there j sound h =
      let turn = sound.turns j h.0 h.1 in
      let at_next : next_key s j ≡ h.0.next = ap next_of h.1 in
      (turn.0, ap (at s) at_next ∙ turn.1)

  pub there_first : IsSome (at r k)
  there_first = there k (loop_there so_far.keys so_far.loop)

  pub there_second : IsSound s → IsSome (at r (next_key r k))
  there_second sound = subst (λ j. IsSome (at r j)) (sym (next_same k))
      (there (next_key s k) (next_there k sound (loop_there so_far.keys so_far.loop)))

  pub there_third : IsSound s → IsSome (at r (next_key r (next_key r k)))
  there_third sound = subst (λ j. IsSome (at r j)) (sym third_same)
      (there (next_key s (next_key s k))
      (next_there (next_key s k) sound (next_there k sound (loop_there so_far.keys so_far.loop))))

  loop_goes : (keys : List ℕ) → IsLoop s home (k ∷ keys) → around s k ≡ None → ⊥
  loop_goes [] loop none = let clash = sym loop.1 ∙ none in let two : Some home ≡ None = clash in cc
  loop_goes (g ∷ keys) loop none = let two : Some g ≡ None = sym loop.1 ∙ none in cc

  pub goes_on : around r k ≡ None → ⊥
  goes_on none = loop_goes so_far.keys so_far.loop (sym around_same ∙ none)

  -- ---- one triangle more
  module _ (q : Slots) (n_uv : u ≢ v) (step : (j : ℕ) → at q j ≡ put_in (three r k) u v j (at r j)) where
    step_at : (j : ℕ) → at q j ≡ cond (list_any (λ l. eqb j l) (three s k)) (all_put u v (at r j)) (at r j)
    step_at j = step j ∙ ap (λ (ks : List ℕ). cond (list_any (λ l. eqb j l) ks) (all_put u v (at r j)) (at r j))
        three_same

    all_either : (j : ℕ) → IsEither u v (at s j) (at r j) → IsEither u v (at s j) (all_put u v (at r j))
    all_either j (inl e) = inr (ap (all_put u v) e)
    all_either j (inr e) = inr (ap (all_put u v) e ∙ put_twice u v (at s j) n_uv)

    pub either_next : (j : ℕ) → IsEither u v (at s j) (at q j)
    either_next j =
        elim (list_any (λ l. eqb j l) (three s k)) as (λ b. at q j ≡ cond b (all_put u v (at r j)) (at r j) →
        IsEither u v (at s j) (at q j)) [
          | true ↦ λ e. subst (IsEither u v (at s j)) (sym e) (all_either j (so_far.either j))
          | false ↦ λ e. subst (IsEither u v (at s j)) (sym e) (so_far.either j)
        ] (step_at j)

    put_lacks : (o : Option Half) (h : Half) → all_put u v o ≡ Some h → has_corner u h.face ≡ false
    put_lacks None h e = absurd (cc)
    put_lacks (Some i) h e = let same : with_put u v i ≡ h = cc in ap (λ (x : Half). has_corner u x.face) (sym same)
        ∙ no_corner_put u v i.face n_uv

    any_append : (p : ℕ → Bool) (xs ys : List ℕ) → list_any p (xs ++ ys) ≡ true → list_any p xs ≡ false →
        list_any p ys ≡ true
    any_append p [] ys h none = h
    any_append p (x ∷ xs) ys h none =
        let parts = or_parts (p x) (list_any p xs) none in
        any_append p xs ys (sym (ap (λ (b : Bool). b || list_any p (xs ++ ys)) parts.0) ∙ h) parts.1

    pub left_next : (j : ℕ) (h : Half) → at q j ≡ Some h → has_corner u h.face ≡ true →
        list_any (λ l. eqb j l) (flat_map (three s) so_far.keys) ≡ true
    left_next j h here has =
        elim (list_any (λ l. eqb j l) (three s k)) as (λ b. list_any (λ l. eqb j l) (three s k) ≡ b →
        at q j ≡ cond b (all_put u v (at r j)) (at r j) →
        list_any (λ l. eqb j l) (flat_map (three s) so_far.keys) ≡ true) [
          | true ↦ λ _ e. absurd (both_ways (has_corner u h.face) (put_lacks (at r j) h (sym e ∙ here)) has)
          | false ↦ λ away e. any_append (λ l. eqb j l) (three s k) (flat_map (three s) so_far.keys)
              (so_far.left j h (sym e ∙ here) has) away
        ] refl (step_at j)

    -- the walk is home
    ended : (keys : List ℕ) → keys ≡ so_far.keys → IsLoop s home (k ∷ keys) → around s k ≡ Some home → keys ≡ []
    ended [] is loop next = refl
    ended (g ∷ keys) is loop next = let two : Some g ≡ Some home = sym loop.1 ∙ next in let same : g ≡ home = cc in
        absurd (loop.2 same)

    pub put_all : (g : ℕ) → around r k ≡ Some g → eqb g home ≡ true → (j : ℕ) → at q j ≡ all_put u v (at s j)
    put_all g next is j =
        let none = ended so_far.keys refl so_far.loop
        (sym around_same ∙ next ∙ ap (λ (m : ℕ). Some m) (eqb-true g home is)) in
        elim (either_next j) [
          | inr e ↦ e
          | inl e ↦ by_slot (at s j) e refl
        ]
      where
        lacks : (h : Half) → at q j ≡ Some h → has_corner u h.face ≡ false
        lacks h here = false_from_ne_true (has_corner u h.face) (λ has.
            both_ways (list_any (λ l. eqb j l) (flat_map (three s) [])) refl
            (subst (λ (ks : List ℕ). list_any (λ l. eqb j l) (flat_map (three s) ks) ≡ true)
            (ended so_far.keys refl so_far.loop
            (sym around_same ∙ next ∙ ap (λ (m : ℕ). Some m) (eqb-true g home is))) (left_next j h here has)))

        by_slot : (o : Option Half) → at q j ≡ o → at s j ≡ o → at q j ≡ all_put u v (at s j)
        by_slot None x y = x ∙ ap (all_put u v) (sym y)
        by_slot (Some h) x y = x ∙ sym (put_unchanged u v h (lacks h x)) ∙ ap (all_put u v) (sym y)

    -- or goes on
    goes_next : (keys : List ℕ) → keys ≡ so_far.keys → IsLoop s home (k ∷ keys) → (g : ℕ) → around s k ≡ Some g →
        g ≢ home → (later : List ℕ) × (keys ≡ g ∷ later) × IsLoop s home (g ∷ later)
    goes_next [] is loop g next away = let two : Some home ≡ Some g = sym loop.1 ∙ next in let same : home ≡ g = cc in
        absurd (away (sym same))
    goes_next (f ∷ keys) is loop g next away =
        let two : Some f ≡ Some g = sym loop.1 ∙ next in
        let same : f ≡ g = cc in
        (keys, ap (λ (m : ℕ). m ∷ keys) same, subst (λ (m : ℕ). IsLoop s home (m ∷ keys)) same loop.3)

    pub round_more : (g : ℕ) → around r k ≡ Some g → eqb g home ≡ false → Rounded s q home u v g (i + 1) n
    round_more g next away =
        let on = goes_next so_far.keys refl so_far.loop g (sym around_same ∙ next)
        (λ e. both_ways (eqb g home) away (eq-eqb g home e)) in
        record {
          keys = on.0;
          loop = on.2;
          fits = omega (arith, so_far.fits, ap length on.1);
          either = either_next;
          left = λ j h here has. subst (λ (ks : List ℕ). list_any (λ l. eqb j l) (flat_map (three s) ks) ≡ true) on.1
              (left_next j h here has);
        }

  pub round_fits : i < n
  round_fits = omega (arith, so_far.fits)
