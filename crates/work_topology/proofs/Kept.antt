-- Which triangles pass a test after a collapse or a flip, where none with a moved name passes it.
use Rattle.std.proofs.Common.{◌≡◌, ℕ, Bool, true, false, cond, eqb, not, ◌&&◌, List, [], ◌∷◌, filter, flat_map, map, ap, inl, inr, refl, subst, sym, ◌∙◌}
use Rattle.std.proofs.lemmas.Bool.{or_right}
use Rattle.std.proofs.lemmas.List.Folds.{list_any-append}
use Rattle.std.proofs.lemmas.List.Sorted.{IsPermutation-refl}
use Rattle.std.specs.List.Sorted.{IsSorted}
use Rattle.oemm_lists.specs.Ascending.{in_order}
use Rattle.mesh_data.specs.declared.geometry.Tri.{Tri}
use Rattle.mesh_data.specs.Edits.{collapsed_tris, flipped_tris, substituted}
use Rattle.mesh_data.specs.Links.{has_both}
use Rattle.mesh_data.specs.Triangles.{corners, has_corner, star, tri_cmp, turned}
use Rattle.triangle_lists.proofs.Filters.{filter-in_order, filter-map}
use Rattle.triangle_lists.proofs.Orders.{tri_cmp-IsAntisymmetric, tri_cmp_total}
use Rattle.triangle_lists.proofs.Sorting.{IsSorted-in_order, in_order_from_sort}
use Rattle.oemm_lists.specs.Numbers.{among}
use Rattle.edit_laws.proofs.FarPairs.{beside, put-away}
use Rattle.edit_laws.proofs.Locality.{corner_on}
use Rattle.edit_laws.specs.Away.{AreTurned}
use Rattle.face_rings.specs.Faces.{◌∈◌}

-- a sorted list is in order
sorted_is : (ts : List Tri) → IsSorted tri_cmp ts → in_order tri_cmp ts ≡ ts
sorted_is ts sorted = sym (in_order_from_sort tri_cmp_total tri_cmp-IsAntisymmetric ts ts (IsPermutation-refl ts) sorted)

-- a corner of a triangle of the list that has u
pub corner_in : (ts : List Tri) (u w : ℕ) (t : Tri) → t ∈ ts → has_corner u t ≡ true → among w (corners t) ≡ true → among w (beside u ts) ≡ true
corner_in [] u w t i at on = absurd i
corner_in (s ∷ ts) u w t (inl e) at on = corner_on w s ts u (subst (λ (r : Tri). among w (corners r) ≡ true) e on) (sym (ap (has_corner u) e) ∙ at)
corner_in (s ∷ ts) u w t (inr j) at on =
    let rest = corner_in ts u w t j at on in
    elim (has_corner u s) as (λ b. among w (flat_map corners (cond b (s ∷ star u ts) (star u ts))) ≡ true) [
      | true ↦ list_any-append (λ n. eqb n w) (corners s) (beside u ts) ∙ or_right (among w (corners s)) _ rest
      | false ↦ rest
    ]

-- ---- collapses

-- p passes no triangle with u, q none that was one, and both pass the same others
pub record PassAlike (u v : ℕ) (p q : Tri → Bool) (ts : List Tri) : Type 0 where
  pub gone : (t : Tri) → t ∈ ts → has_corner u t ≡ true → p t ≡ false
  pub put : (t : Tri) → t ∈ ts → has_corner u t ≡ true → q (turned (substituted u v t)) ≡ false
  pub others : (t : Tri) → has_corner u t ≡ false → q t ≡ p t

-- the same of the other triangles
rest_alike : (u v : ℕ) (p q : Tri → Bool) (t : Tri) (ts : List Tri) → PassAlike u v p q (t ∷ ts) → PassAlike u v p q ts
rest_alike u v p q t ts alike = record { gone = λ s i. alike.gone s (inr i); put = λ s i. alike.put s (inr i); others = alike.others }

-- the kept triangles with v for u, by the tests
put_same : (u v : ℕ) (p q : Tri → Bool) (ts : List Tri) → PassAlike u v p q ts → AreTurned ts
    → map (λ t. turned (substituted u v t)) (filter (λ t. q (turned (substituted u v t))) (filter (λ t. not (has_both u v t)) ts)) ≡ filter p ts
put_same u v p q [] alike turn = refl
put_same u v p q (t ∷ ts) alike turn =
    let put : Tri → Tri = λ t. turned (substituted u v t) in
    let kept : Tri → Bool = λ t. not (has_both u v t) in
    let r : Tri → Bool = λ t. q (put t) in
    let rest = put_same u v p q ts (rest_alike u v p q t ts alike) turn.1 in
    elim (has_corner u t) as (λ b. has_corner u t ≡ b → map put (filter r (filter kept (t ∷ ts))) ≡ filter p (t ∷ ts)) [
      | true ↦ λ at.
          let drop = sym (ap (λ (b : Bool). cond b (t ∷ filter p ts) (filter p ts)) (alike.gone t (inl refl) at)) in
          elim (kept t) as (λ b. map put (filter r (cond b (t ∷ filter kept ts) (filter kept ts))) ≡ filter p (t ∷ ts)) [
            | true ↦ ap (λ (b : Bool). map put (cond b (t ∷ filter r (filter kept ts)) (filter r (filter kept ts)))) (alike.put t (inl refl) at) ∙ rest ∙ drop
            | false ↦ rest ∙ drop
          ]
      | false ↦ λ away.
          let keep : kept t ≡ true = ap (λ (b : Bool). not (b && has_corner v t)) away in
          let same : put t ≡ t = ap turned (put-away u v t away) ∙ turn.0 in
          ap (λ (b : Bool). map put (filter r (cond b (t ∷ filter kept ts) (filter kept ts)))) keep
          ∙ ap (λ (b : Bool). map put (cond b (t ∷ filter r (filter kept ts)) (filter r (filter kept ts)))) (ap q same ∙ alike.others t away)
          ∙ elim (p t) as (λ b. map put (cond b (t ∷ filter r (filter kept ts)) (filter r (filter kept ts))) ≡ cond b (t ∷ filter p ts) (filter p ts)) [ true ↦ (λ i. same i ∷ rest i) | false ↦ rest ]
    ] refl

-- the tests pass the same triangles before a collapse and after it
pub pass_collapsed : (u v : ℕ) (p q : Tri → Bool) (ts : List Tri) → IsSorted tri_cmp ts → AreTurned ts → PassAlike u v p q ts → filter q (collapsed_tris u v ts) ≡ filter p ts
unfolding collapsed_tris
pass_collapsed u v p q ts sorted turn alike =
    let put : Tri → Tri = λ t. turned (substituted u v t) in
    let kept = filter (λ t. not (has_both u v t)) ts in
    filter-in_order tri_cmp_total q (map put kept)
    ∙ ap (in_order tri_cmp) (filter-map q put kept ∙ put_same u v p q ts alike turn)
    ∙ sym (filter-in_order tri_cmp_total p ts)
    ∙ ap (filter p) (sorted_is ts sorted)

-- ---- flips

-- the triangles without those at an edge
gone_same : (p : Tri → Bool) (a b : ℕ) (ts : List Tri) → ((t : Tri) → t ∈ ts → has_both a b t ≡ true → p t ≡ false) → filter p (filter (λ t. not (has_both a b t)) ts) ≡ filter p ts
gone_same p a b [] gone = refl
gone_same p a b (t ∷ ts) gone =
    let kept : Tri → Bool = λ t. not (has_both a b t) in
    let rest = gone_same p a b ts (λ s i. gone s (inr i)) in
    elim (has_both a b t) as (λ x. has_both a b t ≡ x → filter p (cond (not x) (t ∷ filter kept ts) (filter kept ts)) ≡ filter p (t ∷ ts)) [
      | true ↦ λ both. rest ∙ sym (ap (λ (x : Bool). cond x (t ∷ filter p ts) (filter p ts)) (gone t (inl refl) both))
      | false ↦ λ _. ap (λ (l : List Tri). cond (p t) (t ∷ l) l) rest
    ] refl

-- p passes neither the two triangles of a flip nor those that they were
pub pass_flipped : (a b c d : ℕ) (p : Tri → Bool) (ts : List Tri) → IsSorted tri_cmp ts → p (turned (record { a = a; b = d; c = c })) ≡ false → p (turned (record { a = d; b = b; c = c })) ≡ false
    → ((t : Tri) → t ∈ ts → has_both a b t ≡ true → p t ≡ false) → filter p (flipped_tris a b c d ts) ≡ filter p ts
unfolding flipped_tris
pass_flipped a b c d p ts sorted first second gone =
    let s : Tri = turned (record { a = a; b = d; c = c }) in
    let t : Tri = turned (record { a = d; b = b; c = c }) in
    let rest = filter (λ t. not (has_both a b t)) ts in
    filter-in_order tri_cmp_total p (s ∷ t ∷ rest)
    ∙ ap (in_order tri_cmp) (ap (λ (x : Bool). cond x (s ∷ filter p (t ∷ rest)) (filter p (t ∷ rest))) first ∙ ap (λ (x : Bool). cond x (t ∷ filter p rest) (filter p rest)) second ∙ gone_same p a b ts gone)
    ∙ sym (filter-in_order tri_cmp_total p ts)
    ∙ ap (filter p) (sorted_is ts sorted)

-- ---- edited lists are sorted

-- a collapse and a flip put the triangles in order
pub collapsed_sorted : (u v : ℕ) (ts : List Tri) → IsSorted tri_cmp (collapsed_tris u v ts)
unfolding collapsed_tris
collapsed_sorted u v ts = IsSorted-in_order tri_cmp_total (map (λ t. turned (substituted u v t)) (filter (λ t. not (has_both u v t)) ts))

pub flipped_sorted : (a b c d : ℕ) (ts : List Tri) → IsSorted tri_cmp (flipped_tris a b c d ts)
unfolding flipped_tris
flipped_sorted a b c d ts = IsSorted-in_order tri_cmp_total (turned (record { a = a; b = d; c = c }) ∷ turned (record { a = d; b = b; c = c }) ∷ filter (λ t. not (has_both a b t)) ts)
