-- A walk back round a name to where its ring begins.
use Rattle.std.proofs.Common.{◌≡◌, ℕ, suc, ◌+◌, ◌<◌, ◌≤◌, Bool, true, false, cond, not, eqb, List, [], ◌∷◌, length}
use Rattle.std.proofs.Common.{Option, Some, None, is_some, count_by, sym, ap, ◌∙◌, refl, subst, arith, inl, inr}
use Rattle.std.proofs.lemmas.Bool.{false≢true, eqb-true, eq-eqb, ne_eqb, and_parts, or_cases, or_left, or_right}
use Rattle.std.proofs.lemmas.Bool.{both_ways, not-true}
use Rattle.std.specs.Option.{option_map}
use Rattle.mesh_data.specs.declared.geometry.Tri.{Tri}
use Rattle.mesh_data.specs.declared.rings.Ring.{Ring}
use Rattle.mesh_data.specs.declared.geometry.Edge.{Edge}
use Rattle.mesh_data.specs.Rings.{link, has_path_edge, are_distinct, IsRingOf}
use Rattle.mesh_data.specs.Triangles.{same_edge}
use Rattle.triangle_lists.proofs.Walks.{step, steps_to, starts_on_path, ends_on_path, reached, back_home, same_itself}
use Rattle.oemm_lists.specs.Numbers.{among}
use Rattle.triangle_lists.proofs.RingLaws.{ring, on_path, ring_at, starts_on_ring}
use Rattle.half_edge.specs.declared.surgery.Half.{Half}
use Rattle.half_edge.specs.Halves.{Slots, at, HasFace, Goes, IsTwin, IsSound, next_key, twin_key, faces_of}
use Rattle.half_edge.specs.Collapses.{tri}
use Rattle.half_edge.specs.Rings.{back_key, BeginsRing, IsRinged}
use Rattle.half_edge.proofs.Faces.{is_face, half_of_face, face_of_half, link_step}
use Rattle.half_edge.proofs.Fans.{next_key_face, twin_key_twin, twin_key_is, pigeons}
use Rattle.half_edge.proofs.Sound.{one_half, goes, next_face, last_face}

-- the names before y
abbrev pub before : ℕ → List ℕ → List ℕ
before y [] = []
before y (x ∷ ns) = cond (eqb x y) [] (x ∷ before y ns)

few_before : (y : ℕ) (ns : List ℕ) → among y ns ≡ true → length (before y ns) < length ns
few_before y [] on = absurd (false≢true on)
few_before y (x ∷ ns) on =
    elim (eqb x y) as (λ b. eqb x y ≡ b → length (cond b [] (x ∷ before y ns)) < suc (length ns)) [
      | true ↦ λ _. omega arith
      | false ↦ λ away. let later : among y ns ≡ true =
          elim (or_cases (eqb x y) (among y ns) on) [
            | inl here ↦ absurd (both_ways (eqb x y) away here)
            | inr more ↦
                more
          ] in let less = few_before y ns later in omega arith
    ] refl

pub one_before : (home x : ℕ) (ns : List ℕ) (h y : ℕ) → are_distinct (x ∷ ns) ≡ true →
    has_path_edge (steps_to false home x ns) (step h y) ≡ true →
    length (before y (x ∷ ns)) ≡ suc (length (before h (x ∷ ns)))
one_before home x [] h y apart on = absurd (false≢true on)
one_before home x (w ∷ ms) h y apart on =
    let parts = and_parts (not (among x (w ∷ ms))) (are_distinct (w ∷ ms)) apart in
    let x_new = not-true (among x (w ∷ ms)) parts.0 in
    let not_x = λ (z : ℕ) (there : among z (w ∷ ms) ≡ true).
    ne_eqb x z (λ e. both_ways (among x (w ∷ ms)) x_new
    (subst (λ (n : ℕ). among n (w ∷ ms) ≡ true) (sym e) there)) in
    elim (or_cases (same_edge (step h y) (step x w)) (has_path_edge (steps_to false home w ms) (step h y)) on) [
      | inl here ↦
          let two = and_parts (eqb h x) (eqb y w) here in
          let hx = eqb-true h x two.0 in
          let yw = eqb-true y w two.1 in
          let xy : eqb x y ≡ false =
          not_x y (subst (λ (n : ℕ). among n (w ∷ ms) ≡ true) (sym yw)
          (or_left (eqb w w) (among w ms) (eq-eqb w w refl))) in
          ap (λ (b : Bool). length (cond b [] (x ∷ before y (w ∷ ms)))) xy
          ∙ ap (λ (b : Bool). suc (length (cond b [] (w ∷ before y ms)))) (eq-eqb w y (sym yw))
          ∙ sym (ap (λ (b : Bool). suc (length (cond b [] (x ∷ before h (w ∷ ms))))) (eq-eqb x h (sym hx)))
      | inr later ↦
          let ih = one_before home w ms h y parts.1 later in
          let xy : eqb x y ≡ false =
          not_x y (or_right (eqb w y) (among y ms) (ends_on_path home w ms (step h y) later)) in
          let xh : eqb x h ≡ false = not_x h (starts_on_path false home w ms (step h y) later) in
          ap (λ (b : Bool). length (cond b [] (x ∷ before y (w ∷ ms)))) xy
          ∙ ap suc ih
          ∙ sym (ap (λ (b : Bool). suc (length (cond b [] (x ∷ before h (w ∷ ms))))) xh)
    ]

module _ (s : Slots) (u : ℕ) (sound : IsSound s) where
  -- what precedes a half-edge
  pub back_face : (k y w g : ℕ) → HasFace s k (tri u y w) → back_key s k ≡ Some g → (z : ℕ) × HasFace s g (tri u z y)
  back_face k y w g face is =
      by_twin (twin_key s k) refl (twin_key_twin s k (tri u y w) sound face)
    where
      by_twin : (o : Option ℕ) → twin_key s k ≡ o → IsTwin s u y o → (z : ℕ) × HasFace s g (tri u z y)
      by_twin None none lone = let clash : None ≡ Some g = sym (ap (option_map (next_key s)) none) ∙ is in absurd (cc)
      by_twin (Some t) some go =
          let told : Some (next_key s t) ≡ Some g = sym (ap (option_map (next_key s)) some) ∙ is in
          let same : next_key s t ≡ g = cc in
          let there : HasFace s t (tri y u go.0.face.c) =
          (go.0, go.1, λ i. record { a = go.2 i; b = go.3 i; c = go.0.face.c }) in (
            go.0.face.c,
            subst (λ m. HasFace s m (tri u go.0.face.c y)) same
                (next_key_face s t (tri y u go.0.face.c) sound there),
          )

  pub back_none : (k y w : ℕ) → HasFace s k (tri u y w) → back_key s k ≡ None → (z : ℕ) →
      is_face (faces_of s) u z y ≡ true → ⊥
  back_none k y w face is z there =
      let half = half_of_face s u z y sound there in
      let last = last_face s half.0 (tri u z y) sound half.1 in
      let some = twin_key_is s k last.0 (tri u y w) sound face (goes s last.0 (tri y u z) last.1) in
      let clash : Some (next_key s last.0) ≡ None = sym (ap (option_map (next_key s)) some) ∙ is in
      cc

  pub face_at : (k y : ℕ) → (go : Goes s k u y) → HasFace s k (tri u y go.0.face.c)
  face_at k y go = (go.0, go.1, λ i. record { a = go.2 i; b = go.3 i; c = go.0.face.c })

  abbrev es : List Edge
  es = link u (faces_of s)

  step_face : (x y : ℕ) → has_path_edge es (step x y) ≡ is_face (faces_of s) u x y
  step_face x y = link_step (faces_of s) u x y

  step_of : (k x y : ℕ) → HasFace s k (tri u x y) → has_path_edge es (step x y) ≡ true
  step_of k x y face = step_face x y ∙ face_of_half s k u x y sound face

  -- ---- no ring has more names than there are half-edges
  named : (closed : Bool) (x : ℕ) (ns : List ℕ) → IsRingOf es (ring closed (x ∷ ns)) → (y : ℕ) →
      among y (x ∷ ns) ≡ true → (k : ℕ) × (h : Half) × (at s k ≡ Some h) × (h.face.b ≡ y)
  named closed x ns r y on =
      elim (or_cases (eqb x y) (among y ns) on) [
        | inl here ↦
            subst (λ (z : ℕ). (k : ℕ) × (h : Half) × (at s k ≡ Some h) × (h.face.b ≡ z)) (eqb-true x y here)
            (first closed ns r)
        | inr later ↦ let from = reached closed x x ns y later in
            led from.0 y (on_path es closed x ns r (step from.0 y) ∙ from.1)
      ]
    where
      led : (z w : ℕ) → has_path_edge es (step z w) ≡ true → (k : ℕ) × (h : Half) × (at s k ≡ Some h) × (h.face.b ≡ w)
      led z w there =
          let half = half_of_face s u z w sound (sym (step_face z w) ∙ there) in
          let last = next_face s half.0 (tri u z w) sound half.1 in
          (last.0, last.1.0, last.1.1, ap (λ (t : Tri). t.b) last.1.2)

      first : (c : Bool) (ms : List ℕ) → IsRingOf es (ring c (x ∷ ms)) →
          (k : ℕ) × (h : Half) × (at s k ≡ Some h) × (h.face.b ≡ x)
      first c [] q = lone c q
        where
          lone : (d : Bool) → IsRingOf es (ring d (x ∷ [])) → (k : ℕ) × (h : Half) × (at s k ≡ Some h) × (h.face.b ≡ x)
          lone true p = absurd (omega (arith, p.long))
          lone false p = absurd (omega (arith, p.long))
      first c (w ∷ ms) q =
          let there : has_path_edge es (step x w) ≡ true = on_path es c x (w ∷ ms) q (step x w)
          ∙ or_left (same_edge (step x w) (step x w)) _ (same_itself (step x w)) in
          let half = half_of_face s u x w sound (sym (step_face x w) ∙ there) in
          (half.0, half.1.0, half.1.1, ap (λ (t : Tri). t.b) half.1.2)

  pub ring_short : (closed : Bool) (x : ℕ) (ns : List ℕ) → IsRingOf es (ring closed (x ∷ ns)) →
      length ns < count_by is_some s
  ring_short closed x ns r = omega (arith, pigeons s (x ∷ ns) r.distinct (named closed x ns r))

  -- ---- the walk back
  pub record WalksBack (home k i n : ℕ) : Type 0 where
    pub name : ℕ
    pub goes_there : Goes s k u name
    pub home_name : ℕ
    pub at_home : Goes s home u home_name
    pub further : (x : ℕ) (ns : List ℕ) → IsRingOf es (ring false (x ∷ ns)) →
        length (before name (x ∷ ns)) + i ≡ length (before home_name (x ∷ ns))

  -- a name to which no step leads is the first of an open ring
  open_from : (r : Ring) (h w : ℕ) → IsRingOf es r → has_path_edge es (step h w) ≡ true →
      ((z : ℕ) → has_path_edge es (step z h) ≡ true → ⊥) → (ns : List ℕ) × IsRingOf es (ring false (h ∷ ns))
  open_from r h w is there none = by_ring r.closed r.names is
    where
      by_ring : (c : Bool) (ns : List ℕ) → IsRingOf es (ring c ns) → (ms : List ℕ) × IsRingOf es (ring false (h ∷ ms))
      by_ring true [] q = absurd (omega (arith, q.long))
      by_ring false [] q = absurd (omega (arith, q.long))
      by_ring true (x ∷ ns) q =
          let here = ring_at es (x ∷ ns) h q (starts_on_ring es true x ns q (step h w) there) in
          let home = back_home h h here.0 in
          absurd (none home.0 (on_path es true h here.0 here.1 (step home.0 h) ∙ home.1))
      by_ring false (x ∷ ns) q =
          elim (or_cases (eqb x h) (among h ns) (starts_on_ring es false x ns q (step h w) there)) [
            | inl it ↦ (ns, subst (λ (z : ℕ). IsRingOf es (ring false (z ∷ ns))) (eqb-true x h it) q)
            | inr later ↦ let from = reached false x x ns h later in
                absurd (none from.0 (on_path es false x ns q (step from.0 h) ∙ from.1))
          ]

  -- where no ring is open, one is closed, and begins at any name
  closed_from : (r : Ring) (h w : ℕ) → IsRingOf es r → has_path_edge es (step h w) ≡ true →
      ((x : ℕ) (ns : List ℕ) → IsRingOf es (ring false (x ∷ ns)) → ⊥) → (ns : List ℕ) × IsRingOf es (ring true (h ∷ ns))
  closed_from r h w is there none = by_ring r.closed r.names is
    where
      by_ring : (c : Bool) (ns : List ℕ) → IsRingOf es (ring c ns) → (ms : List ℕ) × IsRingOf es (ring true (h ∷ ms))
      by_ring true [] q = absurd (omega (arith, q.long))
      by_ring false [] q = absurd (omega (arith, q.long))
      by_ring true (x ∷ ns) q = ring_at es (x ∷ ns) h q (starts_on_ring es true x ns q (step h w) there)
      by_ring false (x ∷ ns) q = absurd (none x ns q)

  module _ (home : ℕ) (ringed : IsRinged s u home) where
    pub walk_start : (n : ℕ) → WalksBack home home 0 n
    walk_start n = record {
      name = ringed.name;
      goes_there = ringed.goes;
      home_name = ringed.name;
      at_home =
          ringed.goes;
      further = λ x ns r. omega arith;
    }

    module _ (k i n : ℕ) (walk : WalksBack home k i n) where
      back_step : (g : ℕ) → back_key s k ≡ Some g → (z : ℕ) × HasFace s g (tri u z walk.name)
      back_step g is = back_face k walk.name walk.goes_there.0.face.c g (face_at k walk.name walk.goes_there) is

      one_further : (g : ℕ) (is : back_key s k ≡ Some g) → (x : ℕ) (ns : List ℕ) → IsRingOf es (ring false (x ∷ ns)) →
          length (before (back_step g is).0 (x ∷ ns)) + (i + 1) ≡ length (before walk.home_name (x ∷ ns))
      one_further g is x ns r =
          let back = back_step g is in
          let on : has_path_edge (steps_to false x x ns) (step back.0 walk.name) ≡ true =
          sym (on_path es false x ns r (step back.0 walk.name)) ∙ step_of g back.0 walk.name back.1 in
          omega (arith, walk.further x ns r, one_before x x ns back.0 walk.name r.distinct on)

      pub walk_more : (g : ℕ) → back_key s k ≡ Some g → WalksBack home g (i + 1) n
      walk_more g is =
          let back = back_step g is in
          record {
            name = back.0;
            goes_there = goes s g (tri u back.0 walk.name) back.1;
            home_name = walk.home_name;
            at_home = walk.at_home;
            further = one_further g is;
          }

      home_face : HasFace s home (tri u walk.home_name walk.at_home.0.face.c)
      home_face = face_at home walk.home_name walk.at_home

      begins : (closed : Bool) (f y w : ℕ) (face : HasFace s f (tri u y w)) (ns : List ℕ) →
          IsRingOf es (ring closed (y ∷ ns)) → BeginsRing s u f closed
      begins closed f y w face ns is = record { name = y; goes = goes s f (tri u y w) face; names = ns; is = is }

      closed_home : ((x : ℕ) (ns : List ℕ) → IsRingOf es (ring false (x ∷ ns)) → ⊥) → BeginsRing s u home true
      closed_home none =
          let found = closed_from ringed.ring walk.home_name walk.at_home.0.face.c ringed.is
          (step_of home walk.home_name walk.at_home.0.face.c home_face) none in
          begins true home walk.home_name walk.at_home.0.face.c home_face found.0 found.1

      -- the walk is home again
      pub walk_home : back_key s k ≡ Some home → BeginsRing s u home true
      walk_home is =
          let back = back_step home is in
          let go = goes s home (tri u back.0 walk.name) back.1 in
          let one = one_half s home go.0 walk.at_home.0 go.1 walk.at_home.1 in
          let same : back.0 ≡ walk.home_name = sym go.3 ∙ ap (λ (x : Half). x.face.b) one ∙ walk.at_home.3 in
          closed_home (λ x ns r. let more = one_further home is x ns r in let equal =
          ap (λ (z : ℕ). length (before z (x ∷ ns))) same in omega arith)

      -- or there is none before
      pub walk_first : back_key s k ≡ None → BeginsRing s u k false
      walk_first is =
          let face = face_at k walk.name walk.goes_there in
          let w = walk.goes_there.0.face.c in
          let found = open_from ringed.ring walk.name w ringed.is (step_of k walk.name w face)
          (λ z there. back_none k walk.name w face is z (sym (step_face z walk.name) ∙ there)) in
          begins false k walk.name w face found.0 found.1

      -- or there were more steps than half-edges
      pub walk_round : n ≡ count_by is_some s → n ≤ i → BeginsRing s u home true
      walk_round many over =
          closed_home (λ x ns r.
          let on : among walk.home_name (x ∷ ns) ≡ true =
          starts_on_path false x x ns (step walk.home_name walk.at_home.0.face.c)
          (sym (on_path es false x ns r (step walk.home_name walk.at_home.0.face.c))
          ∙ step_of home walk.home_name walk.at_home.0.face.c home_face) in
          let few = few_before walk.home_name (x ∷ ns) on in
          let short = ring_short false x ns r in
          let far = walk.further x ns r in
          omega arith)
