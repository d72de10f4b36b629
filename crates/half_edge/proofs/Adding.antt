-- Half-edges with one more triangle are sound.
use Rattle.std.proofs.Common.{◌≡◌, ◌≢◌, ◌⊎◌, ℕ, Bool, true, false, cond, Option, Some, None, sym, ap, ◌∙◌, refl, subst}
use Rattle.std.proofs.Common.{inl, inr}
use Rattle.std.proofs.lemmas.Bool.{false≢true, eqb-true, eq-eqb, ne_eqb, both_ways, cases_eq}
use Rattle.std.specs.Option.{option_map}
use Rattle.mesh_data.specs.declared.geometry.Tri.{Tri}
use Rattle.mesh_data.specs.Links.{is_name}
use Rattle.mesh_data.specs.Triangles.{IsProper}
use Rattle.half_edge.specs.declared.surgery.Half.{Half}
use Rattle.half_edge.specs.Halves.{Slots, at, from_next, HasFace, Goes, IsTwin, IsSound, HasLead, with_twin}
use Rattle.half_edge.specs.Building.{put_at, told_twin, Added, IsAdded}
use Rattle.half_edge.proofs.Sound.{one_half}

module _ (s r : Slots) (t : Tri) (x : Added) (is : IsAdded s r t x) where
  named : (o : Option ℕ) (j : ℕ) → is_name o j ≡ true → o ≡ Some j
  named None j h = absurd (false≢true h)
  named (Some y) j h = ap (λ (n : ℕ). Some n) (eqb-true y j h)

  -- a free key isn't told
  not_told : (a b j : ℕ) (o : Option ℕ) → IsTwin s a b o → at s j ≡ None → is_name o j ≡ false
  not_told a b j None lone free = refl
  not_told a b j (Some g) go free =
      ne_eqb g j (λ same. let clash : Some go.0 ≡ None = sym go.1 ∙ ap (at s) same ∙ free in let two : ⊥ = cc in two)

  kept_put : (k : ℕ) (half : Half) (j : ℕ) (o y : Option Half) → j ≢ k → o ≡ y → put_at k half j o ≡ y
  kept_put k half j o y n e = ap (λ (b : Bool). cond b (Some half) o) (ne_eqb j k n) ∙ e

  this_put : (k : ℕ) (half : Half) (o : Option Half) → put_at k half k o ≡ Some half
  this_put k half o = ap (λ (b : Bool). cond b (Some half) o) (eq-eqb k k refl)

  untold : (p : Option ℕ) (k j : ℕ) (o y : Option Half) → is_name p j ≡ false → o ≡ y → told_twin p k j o ≡ y
  untold p k j o y no_one e = ap (λ (b : Bool). cond b (option_map (with_twin (Some k)) o) o) no_one ∙ e

  abbrev pub K : Half
  K = record { face = t; lead = true; next = x.l; twin = x.p }

  abbrev pub L : Half
  L = record { face = from_next t; lead = false; next = x.m; twin = x.q }

  abbrev pub M : Half
  M = record { face = from_next (from_next t); lead = false; next = x.k; twin = x.w }

  abbrev put1 : ℕ → Option Half
  put1 j = put_at x.m M j (at s j)

  abbrev put2 : ℕ → Option Half
  put2 j = put_at x.l L j (put1 j)

  abbrev put3 : ℕ → Option Half
  put3 j = put_at x.k K j (put2 j)

  abbrev told1 : ℕ → Option Half
  told1 j = told_twin x.p x.k j (put3 j)

  abbrev told2 : ℕ → Option Half
  told2 j = told_twin x.q x.l j (told1 j)

  free_after : (j : ℕ) (h : Half) → at s j ≡ None → put3 j ≡ Some h → at r j ≡ Some h
  free_after j h free put =
      is.after j
      ∙ untold x.w x.m j (told2 j) (Some h) (not_told t.c t.a j x.w is.w free)
      (untold x.q x.l j (told1 j) (Some h) (not_told t.b t.c j x.q is.q free)
      (untold x.p x.k j (put3 j) (Some h) (not_told t.a t.b j x.p is.p free) put))

  pub at_k : at r x.k ≡ Some K
  at_k = free_after x.k K is.k_free (this_put x.k K (put2 x.k))

  pub at_l : at r x.l ≡ Some L
  at_l = free_after x.l L is.l_free
      (kept_put x.k K x.l (put2 x.l) (Some L) (λ e. is.kl (sym e)) (this_put x.l L (put1 x.l)))

  pub at_m : at r x.m ≡ Some M
  at_m = free_after x.m M is.m_free
      (kept_put x.k K x.m (put2 x.m) (Some M) is.mk
      (kept_put x.l L x.m (put1 x.m) (Some M) (λ e. is.lm (sym e)) (this_put x.m M (at s x.m))))

  -- what becomes of a half-edge that was there
  abbrev pub new_twin : ℕ → Option ℕ → Option ℕ
  new_twin j twin = cond (is_name x.w j) (Some x.m)
      (cond (is_name x.q j) (Some x.l) (cond (is_name x.p j) (Some x.k) twin))

  abbrev pub told_half : ℕ → Half → Half
  told_half j h = record { face = h.face; lead = h.lead; next = h.next; twin = new_twin j h.twin }

  there : (j k : ℕ) (h : Half) → at s j ≡ Some h → at s k ≡ None → j ≢ k
  there j k h here free same = let clash : Some h ≡ None = sym here ∙ ap (at s) same ∙ free in let two : ⊥ = cc in two

  told_some : (p : Option ℕ) (k j : ℕ) (o : Option Half) (h : Half) → o ≡ Some h →
      told_twin p k j o ≡ Some
      (record { face = h.face; lead = h.lead; next = h.next; twin = cond (is_name p j) (Some k) h.twin })
  told_some p k j o h e =
      ap (λ (y : Option Half). told_twin p k j y) e
      ∙ elim (is_name p j) as (λ b. cond b (option_map (with_twin (Some k)) (Some h)) (Some h) ≡ Some
      (record { face = h.face; lead = h.lead; next = h.next; twin = cond b (Some k) h.twin })) [
        | true ↦
            refl
        | false ↦ refl
      ]

  pub at_old : (j : ℕ) (h : Half) → at s j ≡ Some h → at r j ≡ Some (told_half j h)
  at_old j h here =
      let put : put3 j ≡ Some h = kept_put x.k K j (put2 j) (Some h) (there j x.k h here is.k_free)
      (kept_put x.l L j (put1 j) (Some h) (there j x.l h here is.l_free)
      (kept_put x.m M j (at s j) (Some h) (there j x.m h here is.m_free) here)) in
      let one = told_some x.p x.k j (put3 j) h put in
      let two = told_some x.q x.l j (told1 j) _ one in
      is.after j ∙ told_some x.w x.m j (told2 j) _ two

  pub none_after : (j : ℕ) → at s j ≡ None → j ≢ x.k → j ≢ x.l → j ≢ x.m → at r j ≡ None
  none_after j free nk nl nm =
      is.after j
      ∙ untold x.w x.m j (told2 j) None (not_told t.c t.a j x.w is.w free)
      (untold x.q x.l j (told1 j) None (not_told t.b t.c j x.q is.q free)
      (untold x.p x.k j (put3 j) None (not_told t.a t.b j x.p is.p free)
      (kept_put x.k K j (put2 j) None nk (kept_put x.l L j (put1 j) None nl (kept_put x.m M j (at s j) None nm free)))))

  pub by_half : (Q : ℕ → Half → Type 0) → Q x.k K → Q x.l L → Q x.m M →
      ((j : ℕ) (h : Half) → at s j ≡ Some h → Q j (told_half j h)) → (j : ℕ) (h : Half) → at r j ≡ Some h → Q j h
  by_half Q qk ql qm old j h here =
      elim (cases_eq j x.k) [
        | inl same ↦ subst (λ (n : ℕ). Q n h) (sym same)
            (subst (Q x.k) (one_half r x.k K h at_k (ap (at r) (sym same) ∙ here)) qk)
        | inr nk ↦ elim (cases_eq j x.l) [
          | inl same ↦ subst (λ (n : ℕ). Q n h) (sym same)
              (subst (Q x.l) (one_half r x.l L h at_l (ap (at r) (sym same) ∙ here)) ql)
          | inr nl ↦ elim (cases_eq j x.m) [
            | inl same ↦ subst (λ (n : ℕ). Q n h) (sym same)
                (subst (Q x.m) (one_half r x.m M h at_m (ap (at r) (sym same) ∙ here)) qm)
            | inr nm ↦ elim (at s j) as (λ o. at s j ≡ o → Q j h) [
              | None ↦ λ free. let clash : Some h ≡ None = sym here ∙ none_after j free nk nl nm in let two : ⊥ = cc in
                  absurd two
              | Some i ↦ λ was. subst (Q j) (one_half r j (told_half j i) h (at_old j i was) here) (old j i was)
            ] refl
          ]
        ]
      ]

  pub goes_old : (j a b : ℕ) → Goes s j a b → Goes r j a b
  goes_old j a b go = (told_half j go.0, at_old j go.0 go.1, go.2, go.3)

  abbrev EdgeOf : ℕ → Half → Type 0
  EdgeOf j h = ((j ≡ x.k) × (h.face.a ≡ t.a) × (h.face.b ≡ t.b)) ⊎
      (((j ≡ x.l) × (h.face.a ≡ t.b) × (h.face.b ≡ t.c)) ⊎
      (((j ≡ x.m) × (h.face.a ≡ t.c) × (h.face.b ≡ t.a)) ⊎ Goes s j h.face.a h.face.b))

  edge_of : (j : ℕ) (h : Half) → at r j ≡ Some h → EdgeOf j h
  edge_of = by_half EdgeOf (inl (refl, refl, refl)) (inr (inl (refl, refl, refl))) (inr (inr (inl (refl, refl, refl))))
      (λ j h here. inr (inr (inr (h, here, refl, refl))))

  abbrev P : IsProper t
  P = is.fresh.proper

  -- a half-edge that goes from a to b is of the new triangle, or was there
  abbrev pub Which : ℕ → ℕ → ℕ → Type 0
  Which j a b = ((j ≡ x.k) × (a ≡ t.a) × (b ≡ t.b)) ⊎
      (((j ≡ x.l) × (a ≡ t.b) × (b ≡ t.c)) ⊎ (((j ≡ x.m) × (a ≡ t.c) × (b ≡ t.a)) ⊎ Goes s j a b))

  pub which : (j a b : ℕ) → Goes r j a b → Which j a b
  which j a b go =
      elim (edge_of j go.0 go.1) [
        | inl e ↦ inl (e.0, sym go.2 ∙ e.1, sym go.3 ∙ e.2)
        | inr r1 ↦ elim r1 [
          | inl e ↦ inr (inl (e.0, sym go.2 ∙ e.1, sym go.3 ∙ e.2))
          | inr r2 ↦ elim r2 [
            | inl e ↦ inr (inr (inl (e.0, sym go.2 ∙ e.1, sym go.3 ∙ e.2)))
            | inr e ↦ inr (inr (inr (e.0, e.1, e.2 ∙ go.2, e.3 ∙ go.3)))
          ]
        ]
      ]

  move : (j a b c d : ℕ) → Goes s j a b → a ≡ c → b ≡ d → Goes s j c d
  move j a b c d go e f = (go.0, go.1, go.2 ∙ e, go.3 ∙ f)

  alone_added : (j l a b : ℕ) → Goes r j a b → Goes r l a b → j ≡ l
  alone_added j l a b one two = by_which (which j a b one) (which l a b two)
    where
      by_which : Which j a b → Which l a b → j ≡ l
      by_which (inl e) (inl f) = e.0 ∙ sym f.0
      by_which (inl e) (inr (inl f)) = absurd (P.0 (sym e.1 ∙ f.1))
      by_which (inl e) (inr (inr (inl f))) = absurd (P.2 (sym f.1 ∙ e.1))
      by_which (inl e) (inr (inr (inr f))) = absurd (is.fresh.ab l (move l a b t.a t.b f e.1 e.2))
      by_which (inr (inl e)) (inl f) = absurd (P.0 (sym f.1 ∙ e.1))
      by_which (inr (inl e)) (inr (inl f)) = e.0 ∙ sym f.0
      by_which (inr (inl e)) (inr (inr (inl f))) = absurd (P.1 (sym e.1 ∙ f.1))
      by_which (inr (inl e)) (inr (inr (inr f))) = absurd (is.fresh.bc l (move l a b t.b t.c f e.1 e.2))
      by_which (inr (inr (inl e))) (inl f) = absurd (P.2 (sym e.1 ∙ f.1))
      by_which (inr (inr (inl e))) (inr (inl f)) = absurd (P.1 (sym f.1 ∙ e.1))
      by_which (inr (inr (inl e))) (inr (inr (inl f))) = e.0 ∙ sym f.0
      by_which (inr (inr (inl e))) (inr (inr (inr f))) = absurd (is.fresh.ca l (move l a b t.c t.a f e.1 e.2))
      by_which (inr (inr (inr e))) (inl f) = absurd (is.fresh.ab j (move j a b t.a t.b e f.1 f.2))
      by_which (inr (inr (inr e))) (inr (inl f)) = absurd (is.fresh.bc j (move j a b t.b t.c e f.1 f.2))
      by_which (inr (inr (inr e))) (inr (inr (inl f))) = absurd (is.fresh.ca j (move j a b t.c t.a e f.1 f.2))
      by_which (inr (inr (inr e))) (inr (inr (inr f))) = is.sound.alone j l a b e f

  -- ---- twins

  new_one : (a b : ℕ) (o : Option ℕ) → ((a ≡ t.a) × (b ≡ t.b)) ⊎ (((a ≡ t.b) × (b ≡ t.c)) ⊎ ((a ≡ t.c) × (b ≡ t.a))) →
      IsTwin s a b o → IsTwin r a b o
  new_one a b (Some g) edge go = goes_old g b a go
  new_one a b None edge lone = λ g go. by_which g edge (which g b a go)
    where
      by_which : (g : ℕ) → ((a ≡ t.a) × (b ≡ t.b)) ⊎ (((a ≡ t.b) × (b ≡ t.c)) ⊎ ((a ≡ t.c) × (b ≡ t.a))) → Which g b a →
          ⊥
      by_which g (inl e) (inl f) = P.0 (sym e.0 ∙ f.2)
      by_which g (inl e) (inr (inl f)) = P.2 (sym f.2 ∙ e.0)
      by_which g (inl e) (inr (inr (inl f))) = P.1 (sym e.1 ∙ f.1)
      by_which g (inl e) (inr (inr (inr f))) = lone g f
      by_which g (inr (inl e)) (inl f) = P.2 (sym e.1 ∙ f.1)
      by_which g (inr (inl e)) (inr (inl f)) = P.1 (sym e.0 ∙ f.2)
      by_which g (inr (inl e)) (inr (inr (inl f))) = P.0 (sym f.2 ∙ e.0)
      by_which g (inr (inl e)) (inr (inr (inr f))) = lone g f
      by_which g (inr (inr e)) (inl f) = P.1 (sym f.2 ∙ e.0)
      by_which g (inr (inr e)) (inr (inl f)) = P.0 (sym e.1 ∙ f.1)
      by_which g (inr (inr e)) (inr (inr (inl f))) = P.2 (sym e.0 ∙ f.2)
      by_which g (inr (inr e)) (inr (inr (inr f))) = lone g f

  told_goes : (a b j : ℕ) (o : Option ℕ) → IsTwin s a b o → is_name o j ≡ true → Goes s j b a
  told_goes a b j o twin h = subst (IsTwin s a b) (named o j h) twin

  tells : (a b j : ℕ) (o : Option ℕ) → IsTwin s a b o → Goes s j b a → is_name o j ≡ true
  tells a b j None lone go = absurd (lone j go)
  tells a b j (Some g) there go = eq-eqb g j (is.sound.alone g j b a there go)

  old_one : (j : ℕ) (h : Half) → at s j ≡ Some h → is_name x.w j ≡ false → is_name x.q j ≡ false →
      is_name x.p j ≡ false → (o : Option ℕ) → IsTwin s h.face.a h.face.b o → IsTwin r h.face.a h.face.b o
  old_one j h here nw nq np (Some g) go = goes_old g h.face.b h.face.a go
  old_one j h here nw nq np None lone =
      λ g go.
      elim (which g h.face.b h.face.a go) [
        | inl e ↦ both_ways (is_name x.p j) np (tells t.a t.b j x.p is.p (h, here, e.2, e.1))
        | inr r1 ↦ elim r1 [
          | inl e ↦ both_ways (is_name x.q j) nq (tells t.b t.c j x.q is.q (h, here, e.2, e.1))
          | inr r2 ↦ elim r2 [
            | inl e ↦ both_ways (is_name x.w j) nw (tells t.c t.a j x.w is.w (h, here, e.2, e.1))
            | inr e ↦ lone g e
          ]
        ]
      ]

  gets : (j k a b : ℕ) (h : Half) → at s j ≡ Some h → Goes s j b a → Goes r k a b → IsTwin r h.face.a h.face.b (Some k)
  gets j k a b h here go new =
      let same = one_half s j h go.0 here go.1 in (
        new.0,
        new.1,
        new.2 ∙ sym go.3 ∙ ap (λ (z : Half). z.face.b) (sym same),
        new.3 ∙ sym go.2
            ∙ ap (λ (z : Half). z.face.a) (sym same),
      )

  twin_old : (j : ℕ) (h : Half) → at s j ≡ Some h → IsTwin r h.face.a h.face.b (new_twin j h.twin)
  twin_old j h here =
      elim (is_name x.w j) as (λ b. is_name x.w j ≡ b →
      IsTwin r h.face.a h.face.b
      (cond b (Some x.m) (cond (is_name x.q j) (Some x.l) (cond (is_name x.p j) (Some x.k) h.twin)))) [
        | true ↦ λ e. gets j x.m t.c t.a h here (told_goes t.c t.a j x.w is.w e) (M, at_m, refl, refl)
        | false ↦ λ nw. elim (is_name x.q j) as (λ b. is_name x.q j ≡ b →
            IsTwin r h.face.a h.face.b (cond b (Some x.l) (cond (is_name x.p j) (Some x.k) h.twin))) [
              | true ↦ λ e. gets j x.l t.b t.c h here (told_goes t.b t.c j x.q is.q e) (L, at_l, refl, refl)
              | false ↦ λ nq. elim (is_name x.p j) as (λ b. is_name x.p j ≡ b →
                  IsTwin r h.face.a h.face.b (cond b (Some x.k) h.twin)) [
                    | true ↦ λ e. gets j x.k t.a t.b h here (told_goes t.a t.b j x.p is.p e) (K, at_k, refl, refl)
                    | false ↦ λ np. old_one j h here nw nq np h.twin (is.sound.twins j h here)
                  ] refl
            ] refl
      ] refl

  lead_old : (j : ℕ) (h : Half) → at s j ≡ Some h → HasLead r (told_half j h)
  lead_old j h here =
      elim (is.sound.leads j h here) [
        | inl lead ↦ inl lead
        | inr more ↦ elim more.2 [
          | inl lead ↦ inr (told_half h.next more.0, at_old h.next more.0 more.1, inl lead)
          | inr last ↦ inr (
            told_half h.next more.0,
            at_old h.next more.0 more.1,
            inr (told_half more.0.next last.0, at_old more.0.next last.0 last.1, last.2),
          )
        ]
      ]

  pub sound_added : IsSound r
  sound_added =
      record {
        proper = by_half (λ j h. IsProper h.face) P (P.1, P.2, P.0) (P.2, P.0, P.1)
            (λ j h here. is.sound.proper j h here);
        turns = by_half (λ j h. HasFace r h.next (from_next h.face)) (L, at_l, refl) (M, at_m, refl) (K, at_k, refl)
            (λ j h here. let turn = is.sound.turns j h here in
            (told_half h.next turn.0, at_old h.next turn.0 turn.1, turn.2));
        alone = alone_added;
        twins = by_half (λ j h. IsTwin r h.face.a h.face.b h.twin) (new_one t.a t.b x.p (inl (refl, refl)) is.p)
            (new_one t.b t.c x.q (inr (inl (refl, refl))) is.q) (new_one t.c t.a x.w (inr (inr (refl, refl))) is.w)
            twin_old;
        leads = by_half (λ j h. HasLead r h) (inl refl) (inr (M, at_m, inr (K, at_k, refl)))
            (inr (K, at_k, inl refl)) lead_old;
      }
