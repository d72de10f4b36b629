-- The keys of held names.
use Rattle.std.proofs.Common.{◌≡◌, ◌≢◌, ◌⊎◌, ℕ, ◌+◌, ◌<◌, ◌≤◌, length, arith, Bool, true, false, cond, eqb, List, []}
use Rattle.std.proofs.Common.{Option, Some, None, is_some, unwrap_or, sym, ap, ◌∙◌}
use Rattle.std.proofs.Common.{refl, subst, inl, inr}
use Rattle.std.proofs.lemmas.Bool.{false≢true, eq-eqb, ne_eqb, cases_eq, cases_lt, both_ways}
use Rattle.std.proofs.lemmas.List.{get_or_past}
use Rattle.half_edge.specs.declared.surgery.Half.{Half}
use Rattle.std.proofs.lemmas.Map.Made.{is_some-lookup}
use Rattle.std.specs.BTreeMap.{BTreeMap, is_at, keys}
use Rattle.std.specs.Cmp.{unsigned_tied}
use Rattle.std.specs.List.{list_any}
use Rattle.std.specs.Map.{lookup, keys_of}
use Rattle.std.specs.Option.{option_map}
use Rattle.std.specs.Ordering.{nat_cmp}
use Rattle.triangle_lists.proofs.Paths.{eqb_comm}
use Rattle.half_edge.specs.Halves.{Slots, at, Goes, faces_of}
use Rattle.half_edge.specs.Meshes.{Faced, is_held, out_at, set_at, IsFit, IsMesh}
use Rattle.half_edge.specs.Rings.{IsRinged}

at_equal : (v w : ℕ) → is_at (nat_cmp v) w ≡ eqb w v
at_equal v w = unsigned_tied v w ∙ eqb_comm v w

pub some_of : (o : Option ℕ) → is_some o ≡ true → (k : ℕ) × (o ≡ Some k)
some_of None h = absurd (false≢true h)
some_of (Some k) h = (k, refl)

pub held_key : (m : BTreeMap ℕ ℕ) (v : ℕ) → list_any (λ w. eqb w v) (keys m) ≡ true → (k : ℕ) × (out_at m v ≡ Some k)
held_key m v h =
    some_of (out_at m v) (is_some-lookup (is_at (nat_cmp v)) m.entries
    ∙ (λ i. list_any (λ w. at_equal v w i) (keys_of m.entries)) ∙ h)

pub key_held : (m : BTreeMap ℕ ℕ) (v k : ℕ) → out_at m v ≡ Some k → list_any (λ w. eqb w v) (keys m) ≡ true
key_held m v k h =
    sym (λ i. list_any (λ w. at_equal v w i) (keys_of m.entries)) ∙ sym (is_some-lookup (is_at (nat_cmp v)) m.entries)
    ∙ ap is_some h

pub set_is : (m n : BTreeMap ℕ ℕ) (v k x : ℕ) → out_at m v ≡ Some x →
    ((q : ℕ) → out_at n q ≡ cond (is_at (nat_cmp v) q) (Some k) (out_at m q)) → (w : ℕ) →
    out_at n w ≡ set_at v k w (out_at m w)
set_is m n v k x here after w =
    after w ∙ ap (λ (b : Bool). cond b (Some k) (out_at m w)) (at_equal v w)
    ∙ elim (cases_eq w v) [
      | inl same ↦ ap (λ (b : Bool). cond b (Some k) (out_at m w)) (eq-eqb w v same)
          ∙ sym (ap (λ (b : Bool). cond b (option_map (λ (n : ℕ). k) (out_at m w)) (out_at m w)) (eq-eqb w v same)
          ∙ ap (λ (z : ℕ). option_map (λ (n : ℕ). k) (out_at m z)) same ∙ ap (option_map (λ (n : ℕ). k)) here)
      | inr apart ↦ ap (λ (b : Bool). cond b (Some k) (out_at m w)) (ne_eqb w v apart)
          ∙ sym (ap (λ (b : Bool). cond b (option_map (λ (n : ℕ). k) (out_at m w)) (out_at m w)) (ne_eqb w v apart))
    ]

pub taken_is : (m n : BTreeMap ℕ ℕ) (v : ℕ) → ((q : ℕ) → out_at n q ≡ cond (is_at (nat_cmp v) q) None (out_at m q)) →
    (w : ℕ) → out_at n w ≡ cond (eqb w v) None (out_at m w)
taken_is m n v after w = after w ∙ ap (λ (b : Bool). cond b None (out_at m w)) (at_equal v w)

-- a held name has a half-edge and a ring
pub ringed_at : (s : Slots) (m : BTreeMap ℕ ℕ) (v home : ℕ) (f : Faced) → IsMesh s m →
    f ≡ record { tris = faces_of s; held = keys m } → is_held f v ≡ true → home ≡ unwrap_or (out_at m v) 0 →
    IsRinged s v home
ringed_at s m v home f mesh is held at_home =
    let key = held_key m v (sym (ap (λ (g : Faced). is_held g v) is) ∙ held) in
    let same : home ≡ key.0 = at_home ∙ ap (λ (o : Option ℕ). unwrap_or o 0) key.1 in
    let fit = mesh.fit v key.0 key.1 in
    let ring = mesh.ringed v key.0 key.1 in
    record {
      sound = mesh.sound;
      name = fit.0;
      goes = subst (λ (k : ℕ). Goes s k v fit.0) (sym same) fit.1;
      ring =
          ring.0;
      is = ring.1;
    }

pub key_is : (m : BTreeMap ℕ ℕ) (w : ℕ) → list_any (λ x. eqb x w) (keys m) ≡ is_some (out_at m w)
key_is m w = sym (is_some-lookup (is_at (nat_cmp w)) m.entries
    ∙ (λ i. list_any (λ x. at_equal w x i) (keys_of m.entries)))

pub is_some-set_at : (v k w : ℕ) (o : Option ℕ) → is_some (set_at v k w o) ≡ is_some o
is_some-set_at v k w o =
    elim (eqb w v) as (λ b. is_some (cond b (option_map (λ (n : ℕ). k) o) o) ≡ is_some o) [
      | true ↦ by_slot o
      | false ↦
          refl
    ]
  where
    by_slot : (p : Option ℕ) → is_some (option_map (λ (n : ℕ). k) p) ≡ is_some p
    by_slot None = refl
    by_slot (Some x) = refl

pub put_is : (m n : BTreeMap ℕ ℕ) (v k : ℕ) →
    ((q : ℕ) → out_at n q ≡ cond (is_at (nat_cmp v) q) (Some k) (out_at m q)) → (w : ℕ) →
    out_at n w ≡ cond (eqb w v) (Some k) (out_at m w)
put_is m n v k after w = after w ∙ ap (λ (b : Bool). cond b (Some k) (out_at m w)) (at_equal v w)

-- the keys of the half-edges below k whose first name is one of these
pub record OutsBelow (s : Slots) (m : BTreeMap ℕ ℕ) (held : List ℕ) (k : ℕ) : Type 0 where
  pub fit : IsFit s m
  pub among : (v g : ℕ) → out_at m v ≡ Some g → list_any (λ w. eqb w v) held ≡ true
  pub all : (v j y : ℕ) → j < k → Goes s j v y → list_any (λ w. eqb w v) held ≡ true → is_some (out_at m v) ≡ true

pub outs_none : (s : Slots) (m : BTreeMap ℕ ℕ) (held : List ℕ) → m.entries ≡ [] → OutsBelow s m held 0
outs_none s m held none =
    record {
      fit = λ v k e. absurd (never v k e);
      among = λ v k e. absurd (never v k e);
      all = λ v j y lt go on. absurd (omega arith);
    }
  where
    never : (v k : ℕ) → out_at m v ≡ Some k → ⊥
    never v k e = let two : None ≡ Some k = sym (ap (lookup (is_at (nat_cmp v))) none) ∙ e in cc

below_cases : (s : Slots) (m : BTreeMap ℕ ℕ) (held : List ℕ) (k : ℕ) → OutsBelow s m held k →
    ((v y : ℕ) → Goes s k v y → list_any (λ w. eqb w v) held ≡ true → is_some (out_at m v) ≡ true) →
    OutsBelow s m held (k + 1)
below_cases s m held k below here =
    record {
      fit = below.fit;
      among = below.among;
      all = λ v j y lt go on. elim (cases_eq j k) [
        | inl same ↦ here v y (subst (λ (g : ℕ). Goes s g v y) same go) on
        | inr apart ↦ below.all v j y (omega arith) go on
      ];
    }

pub outs_skip : (s : Slots) (m : BTreeMap ℕ ℕ) (held : List ℕ) (k : ℕ) → OutsBelow s m held k →
    ((v y : ℕ) → Goes s k v y → list_any (λ w. eqb w v) held ≡ true → ⊥) → OutsBelow s m held (k + 1)
outs_skip s m held k below none = below_cases s m held k below (λ v y go on. absurd (none v y go on))

pub outs_put : (s : Slots) (m n : BTreeMap ℕ ℕ) (held : List ℕ) (k : ℕ) (h : Half) → OutsBelow s m held k →
    at s k ≡ Some h → list_any (λ w. eqb w h.face.a) held ≡ true →
    ((w : ℕ) → out_at n w ≡ cond (eqb w h.face.a) (Some k) (out_at m w)) → OutsBelow s n held (k + 1)
outs_put s m n held k h below here on put =
    let told : (v g : ℕ) → out_at n v ≡ Some g → ((v ≡ h.face.a) × (g ≡ k)) ⊎ (out_at m v ≡ Some g) = λ v g e.
    by_name v g (cases_eq v h.face.a) (sym (put v) ∙ e) in
    below_cases s n held k
    (record {
      fit = λ v g e. elim (told v g e) [
        | inl two ↦ (h.face.b, (h, ap (at s) two.1 ∙ here, sym two.0, refl))
        | inr old ↦
            below.fit v g old
      ];
      among = λ v g e. elim (told v g e) [
        | inl two ↦ subst (λ (x : ℕ). list_any (λ w. eqb w x) held ≡ true)
            (sym two.0) on
        | inr old ↦ below.among v g old
      ];
      all = λ v j y lt go also. ap is_some (put v) ∙ stays (eqb v h.face.a) (out_at m v) (below.all v j y lt go also);
    })
    (λ v y go also. ap is_some (put v) ∙ ap (λ (b : Bool). is_some (cond b (Some k) (out_at m v)))
    (eq-eqb v h.face.a (sym go.2 ∙ ap (λ (x : Half). x.face.a) (same_half go))))
  where
    by_name : (v g : ℕ) → (v ≡ h.face.a) ⊎ (v ≢ h.face.a) → cond (eqb v h.face.a) (Some k) (out_at m v) ≡ Some g →
        ((v ≡ h.face.a) × (g ≡ k)) ⊎ (out_at m v ≡ Some g)
    by_name v g (inl same) e = let two : Some k ≡ Some g =
        sym (ap (λ (b : Bool). cond b (Some k) (out_at m v)) (eq-eqb v h.face.a same)) ∙ e in let equal : k ≡ g = cc in
        inl (same, sym equal)
    by_name v g (inr apart) e = inr (sym (ap (λ (b : Bool). cond b (Some k) (out_at m v)) (ne_eqb v h.face.a apart))
        ∙ e)

    stays : (b : Bool) (o : Option ℕ) → is_some o ≡ true → is_some (cond b (Some k) o) ≡ true
    stays true o h = refl
    stays false o h = h

    same_half : {v y : ℕ} (go : Goes s k v y) → go.0 ≡ h
    same_half go = let two : Some go.0 ≡ Some h = sym go.1 ∙ here in cc

pub outs_all : (s : Slots) (m : BTreeMap ℕ ℕ) (held : List ℕ) (k : ℕ) → OutsBelow s m held k → length s ≤ k →
    (v j y : ℕ) → Goes s j v y → list_any (λ w. eqb w v) held ≡ true → is_some (out_at m v) ≡ true
outs_all s m held k below past v j y go on =
    elim (cases_lt j k) [
      | inl lt ↦ below.all v j y lt go on
      | inr far ↦ let none : at s j ≡ None = get_or_past s j None (omega arith) in let clash : None ≡ Some go.0 =
          sym none ∙ go.1 in let two : ⊥ = cc in absurd two
    ]

pub lacks_half : (s : Slots) (held : List ℕ) (k : ℕ) (h : Half) → at s k ≡ Some h →
    list_any (λ w. eqb w h.face.a) held ≡ false → (v y : ℕ) → Goes s k v y → list_any (λ w. eqb w v) held ≡ true → ⊥
lacks_half s held k h here lacks v y go on =
    let two : Some go.0 ≡ Some h = sym go.1 ∙ here in
    let same : go.0 ≡ h = cc in
    both_ways (list_any (λ w. eqb w h.face.a) held) lacks
    (subst (λ (x : ℕ). list_any (λ w. eqb w x) held ≡ true) (sym go.2 ∙ ap (λ (x : Half). x.face.a) same) on)

pub lacks_none : (s : Slots) (held : List ℕ) (k : ℕ) → at s k ≡ None → (v y : ℕ) → Goes s k v y →
    list_any (λ w. eqb w v) held ≡ true → ⊥
lacks_none s held k free v y go on = let two : Some go.0 ≡ None = sym go.1 ∙ free in cc
