-- The half-edges round a name with a closed ring.
use Rattle.std.proofs.Common.{◌≡◌, ◌≢◌, ℕ, suc, ◌+◌, ◌<◌, ◌≤◌, Bool, true, false, cond, not, ◌||◌, eqb, List, [], ◌∷◌}
use Rattle.std.proofs.Common.{◌++◌, length, set, Option, Some, None, is_some, count_by, sym, ap, ◌∙◌, refl, subst}
use Rattle.std.proofs.Common.{arith, inl, inr}
use Rattle.std.proofs.lemmas.Bool.{false≢true, eqb-true, eq-eqb, and_parts, or_cases, or_left, or_right, both_ways}
use Rattle.std.proofs.lemmas.Bool.{not-true}
use Rattle.std.proofs.lemmas.List.{get_or-set_other, get_or_past}
use Rattle.std.proofs.lemmas.List.Sums.{sum_by-set}
use Rattle.std.specs.List.{flat_map, list_any}
use Rattle.mesh_data.specs.declared.geometry.Tri.{Tri}
use Rattle.mesh_data.specs.Rings.{link, has_path_edge, are_distinct, IsRingOf}
use Rattle.mesh_data.specs.Triangles.{same_edge, has_corner}
use Rattle.triangle_lists.proofs.Walks.{step, steps_to, reached, back_home, same_itself}
use Rattle.oemm_lists.specs.Numbers.{among}
use Rattle.triangle_lists.proofs.RingLaws.{ring, on_path, first_new}
use Rattle.half_edge.specs.declared.surgery.Half.{Half}
use Rattle.half_edge.specs.Halves.{Slots, at, from_next, HasFace, Goes, IsTwin, IsSound, next_key, twin_key, three}
use Rattle.half_edge.specs.Halves.{around, IsLoop, IsRound, faces_of}
use Rattle.half_edge.specs.Collapses.{tri}
use Rattle.half_edge.proofs.Cuts.{corner_cases}
use Rattle.half_edge.proofs.Faces.{is_face, half_of_face, face_of_half, link_step}
use Rattle.half_edge.proofs.Sound.{one_half, goes, same_key, last_face}

-- ---- links

pub next_key_face : (s : Slots) (k : ℕ) (t : Tri) → IsSound s → HasFace s k t → HasFace s (next_key s k) (from_next t)
next_key_face s k t sound h =
    let is : next_key s k ≡ h.0.next = ap (λ (o : Option Half). next_of o) h.1 in
    subst (λ g. HasFace s g (from_next t)) (sym is)
    (subst (λ (x : Tri). HasFace s h.0.next (from_next x)) h.2 (sound.turns k h.0 h.1))
  where
    next_of : Option Half → ℕ
    next_of o = next_key (o ∷ []) 0

pub twin_key_twin : (s : Slots) (k : ℕ) (t : Tri) → IsSound s → HasFace s k t → IsTwin s t.a t.b (twin_key s k)
twin_key_twin s k t sound h =
    let is : twin_key s k ≡ h.0.twin = ap (λ (o : Option Half). twin_key (o ∷ []) 0) h.1 in
    subst (IsTwin s t.a t.b) (sym is) (subst (λ (x : Tri). IsTwin s x.a x.b h.0.twin) h.2 (sound.twins k h.0 h.1))

twin_of : (s : Slots) (a b g : ℕ) (o : Option ℕ) → IsSound s → IsTwin s a b o → Goes s g b a → o ≡ Some g
twin_of s a b g None sound lone go = absurd (lone g go)
twin_of s a b g (Some k) sound there go = ap (λ (m : ℕ). Some m) (sound.alone k g b a there go)

pub twin_key_is : (s : Slots) (k g : ℕ) (t : Tri) → IsSound s → HasFace s k t → Goes s g t.b t.a → twin_key s k ≡ Some g
twin_key_is s k g t sound h go = twin_of s t.a t.b g (twin_key s k) sound (twin_key_twin s k t sound h) go

-- the next half-edge round the first name
around_is : (s : Slots) (k g u x y : ℕ) → IsSound s → HasFace s k (tri u x y) → Goes s g u y → around s k ≡ Some g
around_is s k g u x y sound h go =
    twin_key_is s (next_key s (next_key s k)) g (tri y u x) sound
    (next_key_face s (next_key s k) (tri x y u) sound (next_key_face s k (tri u x y) sound h)) go

-- ---- the keys along the names of a ring

pub record IsFan (s : Slots) (u home v x : ℕ) (ns : List ℕ) : Type 0 where
  pub first : ℕ
  pub goes_there : Goes s first u x
  pub keys : List ℕ
  pub loop : IsLoop s home (first ∷ keys)
  pub whole : (j y z : ℕ) → HasFace s j (tri u y z) → has_path_edge (steps_to true v x ns) (step y z) ≡ true →
      list_any (λ k. eqb j k) (first ∷ keys) ≡ true
  pub as_long : length keys ≡ length ns

same_step : (x y d f : ℕ) → same_edge (step d f) (step x y) ≡ true → (d ≡ x) × (f ≡ y)
same_step x y d f h = let parts = and_parts (eqb d x) (eqb f y) h in (eqb-true d x parts.0, eqb-true f y parts.1)

pub fan : (s : Slots) (u v home x : ℕ) (ns : List ℕ) → IsSound s → Goes s home u v →
    ((y z : ℕ) → has_path_edge (steps_to true v x ns) (step y z) ≡ true → is_face (faces_of s) u y z ≡ true) →
    among v ns ≡ false → IsFan s u home v x ns
fan s u v home x [] sound at_home faces away =
    let here = half_of_face s u x v sound
    (faces x v (or_left (same_edge (step x v) (step x v)) false (same_itself (step x v)))) in
    record {
      first = here.0;
      goes_there = goes s here.0 (tri u x v) here.1;
      keys = [];
      loop = ((here.1.0, here.1.1), around_is s here.0 home u x v sound here.1 at_home);
      whole = λ j y z face on.
          elim (or_cases (same_edge (step y z) (step x v)) false on) [
            | inl same ↦
                let at_x = same_step x v y z same in
                let go = goes s j (tri u y z) face in
                or_left (eqb j here.0) false
                (eq-eqb j here.0 (sound.alone j here.0 u x (go.0, go.1, go.2, go.3 ∙ at_x.0)
                (goes s here.0 (tri u x v) here.1)))
            | inr never ↦ absurd (false≢true never)
          ];
      as_long = refl;
    }
fan s u v home x (w ∷ ns) sound at_home faces away =
    let here = half_of_face s u x w sound
    (faces x w (or_left (same_edge (step x w) (step x w)) (has_path_edge (steps_to true v w ns) (step x w))
    (same_itself (step x w)))) in
    let aways = or_split (eqb w v) (among v ns) away in
    let later = fan s u v home w ns sound at_home
    (λ y z on. faces y z
    (or_right (same_edge (step y z) (step x w)) (has_path_edge (steps_to true v w ns) (step y z)) on)) aways.1 in
    let apart : later.first ≢ home = λ same.
    let go = later.goes_there in
    let there : at s home ≡ Some go.0 = ap (at s) (sym same) ∙ go.1 in
    let one = one_half s home go.0 at_home.0 there at_home.1 in
    both_ways (eqb w v) aways.0 (eq-eqb w v (sym go.3 ∙ ap (λ (z : Half). z.face.b) one ∙ at_home.3)) in
    record {
      first = here.0;
      goes_there = goes s here.0 (tri u x w) here.1;
      keys = later.first ∷ later.keys;
      loop = (
        (here.1.0, here.1.1),
        around_is s here.0 later.first u x w sound here.1 later.goes_there,
        apart,
        later.loop,
      );
      whole = λ j y z face on.
          elim (or_cases (same_edge (step y z) (step x w)) (has_path_edge (steps_to true v w ns) (step y z)) on) [
            | inl same ↦
                let at_x = same_step x w y z same in
                let go = goes s j (tri u y z) face in
                or_left (eqb j here.0) _
                (eq-eqb j here.0 (sound.alone j here.0 u x (go.0, go.1, go.2, go.3 ∙ at_x.0)
                (goes s here.0 (tri u x w) here.1)))
            | inr more ↦ or_right (eqb j here.0) _ (later.whole j y z face more)
          ];
      as_long = ap suc later.as_long;
    }
  where
    or_split : (a b : Bool) → (a || b) ≡ false → (a ≡ false) × (b ≡ false)
    or_split true b h = absurd (false≢true (sym h))
    or_split false b h = (refl, h)

-- ---- no more names than half-edges

one_if : Option Half → ℕ
one_if o = cond (is_some o) 1 0

without : (s : Slots) (k : ℕ) (h : Half) → at s k ≡ Some h → k < length s →
    count_by is_some (set s k None) + 1 ≡ count_by is_some s
unfolding one_if
without s k h here within =
    ap (λ (n : ℕ). count_by is_some (set s k None) + n) (sym (ap one_if here)) ∙ sum_by-set one_if s k None None within
    ∙ plus_zero (count_by is_some s)
  where
    plus_zero : (n : ℕ) → n + 0 ≡ n
    plus_zero n = omega arith

pub pigeons : (s : Slots) (ns : List ℕ) → are_distinct ns ≡ true →
    ((x : ℕ) → among x ns ≡ true → (k : ℕ) × (h : Half) × (at s k ≡ Some h) × (h.face.b ≡ x)) →
    length ns ≤ count_by is_some s
pigeons s [] apart each = omega arith
pigeons s (x ∷ ns) apart each =
    let parts = and_parts (not (among x ns)) (are_distinct ns) apart in
    let mine = each x (or_left (eqb x x) (among x ns) (eq-eqb x x refl)) in
    let within : mine.0 < length s = inside mine.0 mine.1 mine.2 in
    let rest = pigeons (set s mine.0 None) ns parts.1 (λ y on.
    let other = each y (or_right (eqb x y) (among y ns) on) in
    let differ : other.0 ≢ mine.0 = λ same.
    let there : at s mine.0 ≡ Some other.1 = ap (at s) (sym same) ∙ other.2 in
    let one = one_half s mine.0 other.1 mine.1 there mine.2 in
    let equal : x ≡ y = sym mine.3 ∙ sym (ap (λ (z : Half). z.face.b) one) ∙ other.3 in
    both_ways (among x ns) (not-true (among x ns) parts.0) (subst (λ (z : ℕ). among z ns ≡ true) (sym equal) on) in
    (other.0, other.1, get_or-set_other s mine.0 other.0 None None differ ∙ other.2, other.3)) in
    omega (arith, rest, without s mine.0 mine.1 mine.2 within)
  where
    inside : (k : ℕ) (h : Half) → at s k ≡ Some h → k < length s
    inside k h here = grind (arith, get_or_past)

-- ---- a closed ring

in_three : (s : Slots) (j g : ℕ) (ks : List ℕ) → list_any (λ k. eqb g k) ks ≡ true →
    list_any (λ k. eqb j k) (three s g) ≡ true → list_any (λ k. eqb j k) (flat_map (three s) ks) ≡ true
in_three s j g [] on it = absurd (false≢true on)
in_three s j g (k ∷ ks) on it =
    elim (or_cases (eqb g k) (list_any (λ l. eqb g l) ks) on) [
      | inl here ↦ any_here (three s k) (flat_map (three s) ks)
          (subst (λ m. list_any (λ l. eqb j l) (three s m) ≡ true) (eqb-true g k here) it)
      | inr later ↦ any_there (three s k) (flat_map (three s) ks) (in_three s j g ks later it)
    ]
  where
    any_here : (xs ys : List ℕ) → list_any (λ l. eqb j l) xs ≡ true → list_any (λ l. eqb j l) (xs ++ ys) ≡ true
    any_here [] ys h = absurd (false≢true h)
    any_here (x ∷ xs) ys h =
        elim (or_cases (eqb j x) (list_any (λ l. eqb j l) xs) h) [
          | inl a ↦ or_left (eqb j x) _ a
          | inr b ↦
              or_right (eqb j x) _ (any_here xs ys b)
        ]

    any_there : (xs ys : List ℕ) → list_any (λ l. eqb j l) ys ≡ true → list_any (λ l. eqb j l) (xs ++ ys) ≡ true
    any_there [] ys h = h
    any_there (x ∷ xs) ys h = or_right (eqb j x) _ (any_there xs ys h)

module _ (s : Slots) (u v home : ℕ) (ns : List ℕ) (sound : IsSound s) (at_home : Goes s home u v)
    (r : IsRingOf (link u (faces_of s)) (ring true (v ∷ ns))) where
  -- the faces at u are the steps of its ring
  pub face_step : (x y : ℕ) → is_face (faces_of s) u x y ≡ has_path_edge (steps_to true v v ns) (step x y)
  face_step x y = sym (link_step (faces_of s) u x y) ∙ on_path (link u (faces_of s)) true v ns r (step x y)

  whole_fan : IsFan s u home v v ns
  whole_fan = fan s u v home v ns sound at_home (λ x y on. face_step x y ∙ on) (first_new v ns r.distinct)

  first_home : whole_fan.first ≡ home
  first_home = sound.alone whole_fan.first home u v whole_fan.goes_there at_home

  fan_has : (j y z : ℕ) → HasFace s j (tri u y z) → list_any (λ k. eqb j k) (home ∷ whole_fan.keys) ≡ true
  fan_has j y z face =
      subst (λ f. list_any (λ k. eqb j k) (f ∷ whole_fan.keys) ≡ true) first_home
      (whole_fan.whole j y z face (sym (face_step y z) ∙ face_of_half s j u y z sound face))

  three_has : (j : ℕ) (h : Half) → at s j ≡ Some h → has_corner u h.face ≡ true →
      list_any (λ k. eqb j k) (flat_map (three s) (home ∷ whole_fan.keys)) ≡ true
  three_has j h here has =
      let t = h.face in
      let mine : HasFace s j t = (h, here, refl) in
      elim (corner_cases u t has) [
        | inl a ↦ in_three s j j (home ∷ whole_fan.keys)
            (fan_has j t.b t.c (subst (λ (x : ℕ). HasFace s j (tri x t.b t.c)) a mine))
            (or_left (eqb j j) _ (eq-eqb j j refl))
        | inr more ↦ elim more [
          | inl b ↦
              let g = next_key s j in
              let face : HasFace s g (tri u t.c t.a) =
              subst (λ (x : ℕ). HasFace s g (tri x t.c t.a)) b (next_key_face s j t sound mine) in
              let third = next_key_face s (next_key s g) (tri t.c t.a u) sound
              (next_key_face s g (tri u t.c t.a) sound face) in
              let same : next_key s (next_key s g) ≡ j =
              same_key s (next_key s (next_key s g)) j (tri t.a u t.c) sound third (h, here, refl, b) in
              in_three s j g (home ∷ whole_fan.keys) (fan_has g t.c t.a face)
              (or_right (eqb j g) _
              (or_right (eqb j (next_key s g)) _
              (or_left (eqb j (next_key s (next_key s g))) false
              (eq-eqb j (next_key s (next_key s g)) (sym same)))))
          | inr c ↦
              let g = next_key s (next_key s j) in
              let face : HasFace s g (tri u t.a t.b) =
              subst (λ (x : ℕ). HasFace s g (tri x t.a t.b)) c
              (next_key_face s (next_key s j) (from_next t) sound (next_key_face s j t sound mine)) in
              let second = next_key_face s g (tri u t.a t.b) sound face in
              let same : next_key s g ≡ j = same_key s (next_key s g) j (tri t.a t.b u) sound second
              (h, here, refl, refl) in
              in_three s j g (home ∷ whole_fan.keys) (fan_has g t.a t.b face)
              (or_right (eqb j g) _ (or_left (eqb j (next_key s g)) _ (eq-eqb j (next_key s g) (sym same))))
        ]
      ]

  -- each name of the ring ends a half-edge from u
  named_half : (x : ℕ) → among x (v ∷ ns) ≡ true → (k : ℕ) × (h : Half) × (at s k ≡ Some h) × (h.face.b ≡ x)
  named_half x on =
      let from : (y : ℕ) × (has_path_edge (steps_to true v v ns) (step y x) ≡ true) =
      elim (or_cases (eqb v x) (among x ns) on) [
        | inl here ↦ let back = back_home v v ns in (
          back.0,
          subst (λ (z : ℕ). has_path_edge (steps_to true v v ns) (step back.0 z) ≡ true)
              (eqb-true v x here) back.1,
        )
        | inr later ↦ reached true v v ns x later
      ] in
      let face = half_of_face s u from.0 x sound (face_step from.0 x ∙ from.1) in
      let last = last_face s face.0 (tri u from.0 x) sound face.1 in
      let twin = last_twin x from.0 last.0 last.1 in
      twin
    where
      last_twin : (x y g : ℕ) → HasFace s g (tri x u y) → (k : ℕ) × (h : Half) × (at s k ≡ Some h) × (h.face.b ≡ x)
      last_twin x y g face =
          let prior = last_face s g (tri x u y) sound face in
          let it = prior.1 in
          (prior.0, it.0, it.1, ap (λ (z : Tri). z.b) it.2)

  pub round_of : IsRound s home u
  round_of =
      record {
        keys = whole_fan.keys;
        loop = subst (λ f. IsLoop s home (f ∷ whole_fan.keys)) first_home whole_fan.loop;
        fits = omega (arith, whole_fan.as_long, pigeons s (v ∷ ns) r.distinct named_half);
        whole = three_has;
      }
