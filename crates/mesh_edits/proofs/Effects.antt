-- What an edit that is done makes of the triangles of a patch's mesh.
use Rattle.std.proofs.Common.{◌≡◌, ℕ, Bool, true, false, cond, not, ◌&&◌, ◌||◌, eqb, List, [], ◌∷◌, ◌++◌, map, Option, All, sym, ap, ◌∙◌, refl, subst, inl, inr}
use Rattle.std.proofs.lemmas.Bool.{eqb-true, false≢true, or_cases}
use Rattle.std.proofs.lemmas.List.{map-append}
use Rattle.std.proofs.lemmas.List.Elements.{filter-append, recursion_from_All}
use Rattle.std.proofs.lemmas.List.Sorted.{IsPermutation-append_left, IsPermutation-append_right, IsPermutation-map}
use Rattle.std.specs.List.{AllByRecursion, filter}
use Rattle.std.specs.Option.{option_map_or}
use Rattle.oemm_lists.specs.Ascending.{in_order}
use Rattle.oemm_octree.specs.declared.cells.Cell.{Cell}
use Rattle.oemm_octree.specs.declared.points.Point.{Point}
use Rattle.oemm_octree.specs.Leaves.{in_core}
use Rattle.mesh_data.specs.declared.geometry.Tri.{Tri}
use Rattle.mesh_data.specs.Edits.{collapsed_tris, flipped_tris, substituted}
use Rattle.mesh_data.specs.Links.{has_both}
use Rattle.mesh_data.specs.Manifold.{IsTriangleOn, is_corner}
use Rattle.mesh_data.specs.Triangles.{IsProper, has_corner, tri_cmp, turned}
use Rattle.triangle_lists.proofs.Filters.{filter-in_order}
use Rattle.triangle_lists.proofs.Orders.{tri_cmp_total, tri_cmp-IsAntisymmetric}
use Rattle.triangle_lists.proofs.Sorting.{IsPermutation-in_order, in_order-IsPermutation}
use Rattle.edit_laws.proofs.FarPairs.{put-away}
use Rattle.edit_steps.specs.Passed.{CollapsePassed, FlipPassed}
use Rattle.sheet_data.specs.declared.patches.Mixed.{Mixed}
use Rattle.sheet_data.specs.declared.patches.Patch.{Patch}
use Rattle.mesh_sheets.specs.Written.{patch_tris}
use Rattle.sheet_forms.specs.Formed.{IsPatchFor}
use Rattle.patch_edits.specs.Edits.{collapsed_on, flipped_on}
use Rattle.patch_edits.specs.PatchMesh.{mesh_of}
use Rattle.patch_edits.proofs.Formed.{mixed_away, rec_right}

abbrev rim_of : Patch → List Tri
rim_of p = map (λ (x : Mixed). x.tri) p.mixed

-- the order of the parts doesn't matter
parts_in_order : (xs ys : List Tri) → in_order tri_cmp (in_order tri_cmp xs ++ ys) ≡ in_order tri_cmp (xs ++ ys)
parts_in_order xs ys =
    sym (in_order-IsPermutation tri_cmp_total tri_cmp-IsAntisymmetric (xs ++ ys) (in_order tri_cmp xs ++ ys) (IsPermutation-append_left ys xs (in_order tri_cmp xs) (IsPermutation-in_order tri_cmp xs)))

parts_in_order_too : (ys xs : List Tri) → in_order tri_cmp (ys ++ in_order tri_cmp xs) ≡ in_order tri_cmp (ys ++ xs)
parts_in_order_too ys xs =
    sym (in_order-IsPermutation tri_cmp_total tri_cmp-IsAntisymmetric (ys ++ xs) (ys ++ in_order tri_cmp xs) (IsPermutation-append_right ys xs (in_order tri_cmp xs) (IsPermutation-in_order tri_cmp xs)))

map_in_order : (f : Tri → Tri) (xs : List Tri) → in_order tri_cmp (map f (in_order tri_cmp xs)) ≡ in_order tri_cmp (map f xs)
map_in_order f xs =
    sym (in_order-IsPermutation tri_cmp_total tri_cmp-IsAntisymmetric (map f xs) (map f (in_order tri_cmp xs)) (IsPermutation-map f xs (in_order tri_cmp xs) (IsPermutation-in_order tri_cmp xs)))

-- triangles without u stay in a collapse of u and in a flip of an edge of u
abbrev Shape : Tri → Type 0
Shape t = IsProper t × (turned t ≡ t)

both_away : (u v : ℕ) (t : Tri) → has_corner u t ≡ false → not (has_both u v t) ≡ true
both_away u v t out = ap (λ b. not (b && has_corner v t)) out

kept_away : (u v : ℕ) (xs : List Mixed) → AllByRecursion (λ x. has_corner u x.tri ≡ false) xs → filter (λ t. not (has_both u v t)) (map (λ x. x.tri) xs) ≡ map (λ x. x.tri) xs
kept_away u v [] away = refl
kept_away u v (x ∷ xs) away =
    let rest = filter (λ t. not (has_both u v t)) (map (λ (x : Mixed). x.tri) xs) in
    ap (λ b. cond b (x.tri ∷ rest) rest) (both_away u v x.tri away.0) ∙ ap (λ (ts : List Tri). x.tri ∷ ts) (kept_away u v xs away.1)

put_away : (u v : ℕ) (xs : List Mixed) → AllByRecursion (λ x. has_corner u x.tri ≡ false) xs → AllByRecursion Shape (map (λ x. x.tri) xs)
    → map (λ t. turned (substituted u v t)) (map (λ (x : Mixed). x.tri) xs) ≡ map (λ x. x.tri) xs
put_away u v [] away shaped = refl
put_away u v (x ∷ xs) away shaped =
    let here : turned (substituted u v x.tri) ≡ x.tri = ap turned (put-away u v x.tri away.0) ∙ shaped.0.1 in
    let rest = put_away u v xs away.1 shaped.1 in
    λ i. here i ∷ rest i

module _ (cells : List Cell) (core : List ℕ) (p : Patch) (formed : IsPatchFor cells core p) where
  abbrev inside : Point → Bool
  inside = in_core cells core

  rim_shaped : AllByRecursion Shape (rim_of p)
  rim_shaped = rec_right Shape p.whole (rim_of p) (recursion_from_All Shape (patch_tris p) formed.proper)

  pub tris_collapsed : (u v : ℕ) → CollapsePassed inside (mesh_of p) u v → (mesh_of (collapsed_on p u v)).tris ≡ collapsed_tris u v (mesh_of p).tris
  unfolding collapsed_tris
  tris_collapsed u v passed =
      let f : Tri → Tri = λ t. turned (substituted u v t) in
      let g : Tri → Bool = λ t. not (has_both u v t) in
      let away = mixed_away cells core p formed u passed.pair.free in
      let kept : filter g (patch_tris p) ≡ filter g p.whole ++ rim_of p = filter-append g p.whole (rim_of p) ∙ ap (λ (ts : List Tri). filter g p.whole ++ ts) (kept_away u v p.mixed away) in
      let put : map f (filter g p.whole ++ rim_of p) ≡ map f (filter g p.whole) ++ rim_of p = map-append f (filter g p.whole) (rim_of p) ∙ ap (λ (ts : List Tri). map f (filter g p.whole) ++ ts) (put_away u v p.mixed away rim_shaped) in
      parts_in_order (map f (filter g p.whole)) (rim_of p)
      ∙ sym (ap (λ (ts : List Tri). in_order tri_cmp (map f ts)) (filter-in_order tri_cmp_total g (patch_tris p))
      ∙ map_in_order f (filter g (patch_tris p))
      ∙ ap (λ (ts : List Tri). in_order tri_cmp (map f ts)) kept
      ∙ ap (in_order tri_cmp) put)

  tris_turned : (a b c d : ℕ) → AllByRecursion (λ (x : Mixed). has_corner a x.tri ≡ false) p.mixed → (mesh_of (record p { whole = flipped_tris a b c d p.whole })).tris ≡ flipped_tris a b c d (mesh_of p).tris
  unfolding flipped_tris
  tris_turned a b c d away =
      let g : Tri → Bool = λ t. not (has_both a b t) in
      let new : List Tri = turned (record { a = a; b = d; c = c }) ∷ turned (record { a = d; b = b; c = c }) ∷ [] in
      let kept : filter g (patch_tris p) ≡ filter g p.whole ++ rim_of p = filter-append g p.whole (rim_of p) ∙ ap (λ (ts : List Tri). filter g p.whole ++ ts) (kept_away a b p.mixed away) in
      parts_in_order (new ++ filter g p.whole) (rim_of p)
      ∙ sym (ap (λ (ts : List Tri). in_order tri_cmp (new ++ ts)) (filter-in_order tri_cmp_total g (patch_tris p))
      ∙ parts_in_order_too new (filter g (patch_tris p))
      ∙ ap (λ (ts : List Tri). in_order tri_cmp (new ++ ts)) kept)

  pub flipped_is : (a b : ℕ) (passed : FlipPassed inside (mesh_of p) a b) → flipped_on p a b ≡ record p { whole = flipped_tris a b passed.c passed.d p.whole }
  flipped_is a b passed = ap (λ (o : Option (ℕ × ℕ)). option_map_or (λ ends. record p { whole = flipped_tris a b ends.0 ends.1 p.whole }) o p) passed.ends

  pub tris_flipped : (a b : ℕ) (passed : FlipPassed inside (mesh_of p) a b) → (mesh_of (flipped_on p a b)).tris ≡ flipped_tris a b passed.c passed.d (mesh_of p).tris
  tris_flipped a b passed =
      ap (λ (q : Patch). (mesh_of q).tris) (flipped_is a b passed)
      ∙ tris_turned a b passed.c passed.d (mixed_away cells core p formed a passed.pair.free)

-- ---- names in triangles

-- a corner of triangles on names is one of these
corner_named : (Q : ℕ → Type 0) (w : ℕ) (ts : List Tri) → AllByRecursion (IsTriangleOn Q) ts → is_corner ts w ≡ true → Q w
corner_named Q w [] all h = absurd (false≢true h)
corner_named Q w (t ∷ ts) all h =
    elim (or_cases (has_corner w t) (is_corner ts w) h) [
      | inl here ↦ elim (or_cases (eqb t.a w || eqb t.b w) (eqb t.c w) here) [
        | inl ab ↦ elim (or_cases (eqb t.a w) (eqb t.b w) ab) [
          | inl e ↦ subst Q (eqb-true t.a w e) all.0.a
          | inr e ↦ subst Q (eqb-true t.b w e) all.0.b
        ]
        | inr e ↦ subst Q (eqb-true t.c w e) all.0.c
      ]
      | inr later ↦ corner_named Q w ts all.1 later
    ]

pub corner_among : (Q : ℕ → Type 0) (w : ℕ) (ts : List Tri) → All (IsTriangleOn Q) ts → is_corner ts w ≡ true → Q w
corner_among Q w ts all h = corner_named Q w ts (recursion_from_All (IsTriangleOn Q) ts all) h
