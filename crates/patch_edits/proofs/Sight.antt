-- Meshes of which an area sees the same give the same verdicts.
use Rattle.std.proofs.Common.{◌≡◌, ℕ, ℤ, min, max, int_le, Bool, true, false, cond, not, ◌&&◌, ◌||◌, eqb, List, [], ◌∷◌, ◌++◌, find, Option, Some, None, sym, ap, ◌∙◌, refl, inl, inr}
use Rattle.std.proofs.lemmas.Bool.{and_parts, or_cases, or_left, or_right, eqb-true, not-false}
use Rattle.std.specs.List.{filter, list_any, list_all, AllByRecursion}
use Rattle.std.specs.Option.{option_zip, is_none}
use Rattle.oemm_octree.specs.declared.points.Point.{Point}
use Rattle.mesh_data.specs.declared.geometry.Tri.{Tri}
use Rattle.mesh_data.specs.declared.edits.Reply.{Reply}
use Rattle.mesh_data.specs.Edits.{if_any, is_held, is_free, pair_lines, edge_line, point_or_origin, plane_in, substituted, renamed, folds_with, move_verdict, collapse_verdict_by, flip_verdict}
use Rattle.mesh_data.specs.Links.{are_neighbours, apex, opposites, link_violation, is_closed_by_three}
use Rattle.mesh_data.specs.Mesh.{Mesh}
use Rattle.mesh_data.specs.Planes.{plane_of, folds}
use Rattle.mesh_data.specs.Rings.{has_closed_ring}
use Rattle.mesh_data.specs.Seen.{touches}
use Rattle.mesh_data.specs.Triangles.{corners, has_corner, star, neighbours}
use Rattle.triangle_edits.proofs.Turns.{any_turns, ends_of}
use Rattle.edit_laws.proofs.Locality.{all_agree}
use Rattle.edit_laws.proofs.Stars.{apex_alike, closed_alike, near_alike, neighbours_alike, shared_alike, three_alike}
use Rattle.edit_laws.proofs.Tables.{SameTables, same_table}
use Rattle.mesh_sheets.proofs.Filters.{all_weaker}
use Rattle.edit_steps.proofs.Corners.{EachCorner, free_corners, third_passes}
use Rattle.triangle_lists.proofs.Filters.{filter-weaker, find-filter}

-- ---- what the triangles at a name tell

find_agree : (p q : Tri → Bool) (ts : List Tri) → AllByRecursion (λ t. p t ≡ q t) ts → find p ts ≡ find q ts
find_agree p q [] all = refl
find_agree p q (t ∷ ts) all = let rest = find_agree p q ts all.1 in λ i. cond (all.0 i) (Some t) (rest i)

star_each : (P : Tri → Type 0) (u : ℕ) (ts : List Tri) → AllByRecursion (λ t. has_corner u t ≡ true → P t) ts → AllByRecursion P (star u ts)
star_each P u [] all = tt
star_each P u (t ∷ ts) all =
    elim (has_corner u t) as (λ b. has_corner u t ≡ b → AllByRecursion P (cond b (t ∷ star u ts) (star u ts))) [ true ↦ λ on. (all.0 on, star_each P u ts all.1) | false ↦ λ _. star_each P u ts all.1 ] refl

-- ---- what an area sees

-- an area sees the same of two meshes: which names are held, where they are, and the triangles that have one
pub record SameSight (inside : Point → Bool) (m n : Mesh) : Type 0 where
  pub held : (v : ℕ) → is_held inside m v ≡ is_held inside n v
  pub tris : filter (touches inside m) m.tris ≡ filter (touches inside n) n.tris
  pub points : (v : ℕ) → is_held inside m v ≡ true → point_or_origin m v ≡ point_or_origin n v

-- the lines of a collapse, and of a flip, behind those of its pair
abbrev collapse_rest : ℤ → Mesh → ℕ → ℕ → ℤ → List (Bool × Reply)
collapse_rest price m u v most =
    (not (has_closed_ring m.tris u), Reply.Border)
    ∷ if_any Reply.Link (link_violation m.tris u v)
    ∷ (is_closed_by_three m.tris u && is_closed_by_three m.tris v, Reply.Closed)
    ∷ if_any Reply.Folds (find (folds_with m u v) m.tris)
    ∷ (not (int_le price most), Reply.Dear price)
    ∷ []

abbrev flip_rest : Mesh → ℕ → ℕ → List (Bool × Reply)
flip_rest m a b = (is_none (opposites m.tris a b), Reply.Border) ∷ edge_line m.tris (opposites m.tris a b) ∷ []

touch_corner : (p : ℕ → Bool) (v : ℕ) (t : Tri) → p v ≡ true → has_corner v t ≡ true → list_any p (corners t) ≡ true
touch_corner p v t on h =
    elim (or_cases (eqb t.a v || eqb t.b v) (eqb t.c v) h) [
      | inl first ↦ elim (or_cases (eqb t.a v) (eqb t.b v) first) [
        | inl a ↦ or_left (p t.a) (p t.b || (p t.c || false)) (ap p (eqb-true t.a v a) ∙ on)
        | inr b ↦ or_right (p t.a) (p t.b || (p t.c || false)) (or_left (p t.b) (p t.c || false) (ap p (eqb-true t.b v b) ∙ on))
      ]
      | inr c ↦ or_right (p t.a) (p t.b || (p t.c || false)) (or_right (p t.b) (p t.c || false) (or_left (p t.c) false (ap p (eqb-true t.c v c) ∙ on)))
    ]

module _ (inside : Point → Bool) (m n : Mesh) (same : SameSight inside m n) where
  abbrev held : ℕ → Bool
  held v = is_held inside m v

  star_same : (v : ℕ) → held v ≡ true → star v m.tris ≡ star v n.tris
  star_same v on =
      let own : (k : Mesh) → is_held inside k v ≡ true → star v k.tris ≡ star v (filter (touches inside k) k.tris) = λ k h.
      sym (filter-weaker (has_corner v) (touches inside k) (λ t at. touch_corner (is_held inside k) v t h at) k.tris) in
      own m on ∙ ap (star v) same.tris ∙ sym (own n (sym (same.held v) ∙ on))

  neighbours_same : (v : ℕ) → held v ≡ true → neighbours v m.tris ≡ neighbours v n.tris
  neighbours_same v on = neighbours_alike v m.tris n.tris (star_same v on)

  free_same : (v : ℕ) → held v ≡ true → is_free inside m v ≡ is_free inside n v
  free_same v on =
      (λ i. same.held v i && list_all (is_held inside m) (neighbours_same v on i)) ∙ ap (λ b. is_held inside n v && b) (all_agree (is_held inside m) (is_held inside n) (neighbours v n.tris) (λ w _. same.held w))

  near_same : (u v : ℕ) → held u ≡ true → are_neighbours m.tris u v ≡ are_neighbours n.tris u v
  near_same u v on = near_alike m.tris n.tris u v (star_same u on)

  apex_same : (a b : ℕ) → held a ≡ true → apex m.tris a b ≡ apex n.tris a b
  apex_same a b on = apex_alike m.tris n.tris a b (star_same a on)

  pub ends_same : (a b : ℕ) → held a ≡ true → held b ≡ true → opposites m.tris a b ≡ opposites n.tris a b
  ends_same a b ha hb = λ i. option_zip (apex_same a b ha i) (apex_same b a hb i)

  point_renamed : (u v w : ℕ) → held v ≡ true → held w ≡ true → point_or_origin m (renamed u v w) ≡ point_or_origin n (renamed u v w)
  point_renamed u v w hv hw = elim (eqb w u) as (λ b. point_or_origin m (cond b v w) ≡ point_or_origin n (cond b v w)) [ true ↦ same.points v hv | false ↦ same.points w hw ]

  folds_same : (u v : ℕ) → is_free inside m u ≡ true → held v ≡ true → find (folds_with m u v) m.tris ≡ find (folds_with n u v) n.tris
  folds_same u v free hv =
      let hu = (and_parts (is_held inside m u) _ free).0 in
      let round = free_corners inside m u free in
      let one : (k : Mesh) (t : Tri) → folds_with k u v t ≡ true → has_corner u t ≡ true = λ k t h.
      (and_parts (has_corner u t) (not (has_corner v t)) (and_parts (has_corner u t && not (has_corner v t)) (folds (plane_in k t) (plane_in k (substituted u v t))) h).0).0 in
      let each : AllByRecursion (λ t. folds_with m u v t ≡ folds_with n u v t) (star u m.tris) =
      star_each (λ t. folds_with m u v t ≡ folds_with n u v t) u m.tris (all_weaker (λ t. has_corner u t ≡ true → EachCorner (is_held inside m) t) (λ t. has_corner u t ≡ true → folds_with m u v t ≡ folds_with n u v t)
      (λ t corner on.
      let h = corner on in
      let old : plane_in m t ≡ plane_in n t = λ i. plane_of (same.points t.a h.0 i) (same.points t.b h.1 i) (same.points t.c h.2 i) in
      let new : plane_in m (substituted u v t) ≡ plane_in n (substituted u v t) = λ i. plane_of (point_renamed u v t.a hv h.0 i) (point_renamed u v t.b hv h.1 i) (point_renamed u v t.c hv h.2 i) in
      λ i. (has_corner u t && not (has_corner v t)) && folds (old i) (new i)) m.tris round) in
      sym (find-filter (folds_with m u v) (has_corner u) (one m) m.tris)
      ∙ find_agree (folds_with m u v) (folds_with n u v) (star u m.tris) each
      ∙ ap (find (folds_with n u v)) (star_same u hu)
      ∙ find-filter (folds_with n u v) (has_corner u) (one n) n.tris

  -- ---- verdicts

  pair_same : (u v : ℕ) (xs ys : List (Bool × Reply)) (r s : Reply) → (held u ≡ true → held v ≡ true → is_free inside m u ≡ true → is_free inside m v ≡ true → SameTables xs ys r s)
      → SameTables (pair_lines inside m u v ++ xs) (pair_lines inside n u v ++ ys) r s
  unfolding SameTables
  pair_same u v xs ys r s rest = (
    ap not (same.held u),
    refl,
    λ a. let hu = not-false (held u) a in (
      ap not (same.held v),
      refl,
      λ b. let hv = not-false (held v) b in (
        refl,
        refl,
        λ _. (
          ap not (free_same u hu),
          refl,
          λ c. (
            ap not (free_same v hv),
            refl,
            λ d.
                (ap not (near_same u v hu), refl, λ _. rest hu hv (not-false (is_free inside m u) c) (not-false (is_free inside m v) d)),
          ),
        ),
      ),
    ),
  )

  pub move_same : (v : ℕ) (to : Point) → move_verdict inside m v to ≡ move_verdict inside n v to
  unfolding SameTables
  move_same v to =
      let table : Mesh → List (Bool × Reply) = λ k. (not (is_held inside k v), Reply.Unheld v) ∷ (not (is_free inside k v), Reply.Frozen v) ∷ (not (inside to), Reply.Outside) ∷ [] in
      same_table (table m) (table n) Reply.Done Reply.Done
      (ap not (same.held v), refl, λ a. (ap not (free_same v (not-false (held v) a)), refl, λ _. (refl, refl, λ _. refl)))

  -- where the prices of held names are the same
  pub collapse_same : (c d : ℤ) (u v : ℕ) (most : ℤ) → (held u ≡ true → held v ≡ true → c ≡ d) → collapse_verdict_by c inside m u v most ≡ collapse_verdict_by d inside n u v most
  unfolding SameTables
  collapse_same c d u v most prices =
      same_table (pair_lines inside m u v ++ collapse_rest c m u v most) (pair_lines inside n u v ++ collapse_rest d n u v most) (Reply.DoneAt c) (Reply.DoneAt d)
      (pair_same u v (collapse_rest c m u v most) (collapse_rest d n u v most) (Reply.DoneAt c) (Reply.DoneAt d) (λ hu hv fu fv.
      let link = shared_alike m.tris n.tris u v (star_same u hu) (star_same v hv) in
      let fold = folds_same u v fu hv in
      let price = prices hu hv in (
        ap not (closed_alike u m.tris n.tris (star_same u hu)),
        refl,
        λ _. (
          ap (λ (o : Option ℕ). (if_any Reply.Link o).0) link,
          ap (λ (o : Option ℕ). (if_any Reply.Link o).1) link,
          λ _. (
            (λ i. three_alike u m.tris n.tris (star_same u hu) i && three_alike v m.tris n.tris (star_same v hv) i),
            refl,
            λ _. (
              ap (λ (o : Option Tri). (if_any Reply.Folds o).0) fold,
              ap (λ (o : Option Tri). (if_any Reply.Folds o).1) fold,
              λ _.
                  (ap (λ (c : ℤ). not (int_le c most)) price, ap (λ (c : ℤ). Reply.Dear c) price, λ _. ap (λ (c : ℤ). Reply.DoneAt c) price),
            ),
          ),
        ),
      )))

  pub flip_same : (a b : ℕ) → flip_verdict inside m a b ≡ flip_verdict inside n a b
  unfolding SameTables
  flip_same a b =
      same_table (pair_lines inside m a b ++ flip_rest m a b) (pair_lines inside n a b ++ flip_rest n a b) Reply.Done Reply.Done
      (pair_same a b (flip_rest m a b) (flip_rest n a b) Reply.Done Reply.Done (λ ha hb fa fb.
      let ends : opposites m.tris a b ≡ opposites n.tris a b = λ i. option_zip (apex_same a b ha i) (apex_same b a hb i) in
      let edges : edge_line m.tris (opposites m.tris a b) ≡ edge_line n.tris (opposites m.tris a b) =
      elim (opposites m.tris a b) as (λ o. opposites m.tris a b ≡ o → edge_line m.tris o ≡ edge_line n.tris o) [
        | None ↦ λ _. refl
        | Some o ↦ λ is.
            let hc = third_passes (is_held inside m) a b o.0 m.tris (free_corners inside m a fa) (any_turns m.tris a b o.0 (ends_of m.tris a b o.0 o.1 is).0) in
            λ i. (near_same o.0 o.1 hc i, Reply.Edge (min o.0 o.1) (max o.0 o.1))
      ] refl in
      let both = edges ∙ ap (edge_line n.tris) ends in
      (ap (λ (o : Option (ℕ × ℕ)). is_none o) ends, refl, λ _. (ap (λ (l : Bool × Reply). l.0) both, ap (λ (l : Bool × Reply). l.1) both, λ _. refl))))
