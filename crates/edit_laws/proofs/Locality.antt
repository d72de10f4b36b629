-- A verdict depends on the triangles at its names, and on what is held of them and their neighbours.
use Rattle.std.proofs.Common.{◌≡◌, ℕ, ℤ, int_le, Bool, true, false, cond, not, ◌&&◌, eqb, List, [], ◌∷◌, ◌++◌, Option, Some, find, refl, sym, ap, ◌∙◌, subst, inl, inr, flat_map}
use Rattle.std.proofs.lemmas.Bool.{false≢true, and_parts, or_cases, or_left, or_right, eqb-true, eq-eqb, not-false}
use Rattle.std.proofs.lemmas.List.Folds.{list_any-append}
use Rattle.std.specs.List.{list_all, filter}
use Rattle.oemm_octree.specs.declared.points.Point.{Point}
use Rattle.mesh_data.specs.declared.geometry.Tri.{Tri}
use Rattle.mesh_data.specs.declared.edits.Reply.{Reply}
use Rattle.mesh_data.specs.declared.edits.Reply.TheVariants.{Link, Folds, Dear, DoneAt, Done, Unheld, Frozen, Outside}
use Rattle.mesh_data.specs.Edits.{first_line, if_any, is_held, is_free, pair_lines, point_or_origin, renamed, folds_with, cost, collapse_verdict, move_verdict}
use Rattle.mesh_data.specs.Mesh.{Mesh}
use Rattle.mesh_data.specs.Planes.{plane_of, folds, squares}
use Rattle.mesh_data.specs.Triangles.{corners, has_corner, star, neighbours}
use Rattle.oemm_lists.specs.Numbers.{among}
use Rattle.triangle_lists.proofs.Filters.{find-filter}
use Rattle.edit_steps.proofs.Lines.{link_lines, price_lines}
use Rattle.edit_laws.specs.Alike.{Alike, AlikeAround}
use Rattle.edit_laws.proofs.Stars.{neighbours_alike, near_alike, closed_alike, shared_alike, three_alike}
use Rattle.edit_laws.proofs.Tables.{SameTables, same_table}

-- ---- tests that agree on what is among names
pub all_agree : (p q : ℕ → Bool) (ns : List ℕ) → ((n : ℕ) → among n ns ≡ true → p n ≡ q n) → list_all p ns ≡ list_all q ns
all_agree p q [] h = refl
all_agree p q (n ∷ ns) h =
    let first : p n ≡ q n = h n (or_left (eqb n n) (among n ns) (eq-eqb n n refl)) in
    let rest = all_agree p q ns (λ w on. h w (or_right (eqb n w) (among w ns) on)) in
    λ i. first i && rest i

pub all_at : (p : ℕ → Bool) (ns : List ℕ) (n : ℕ) → list_all p ns ≡ true → among n ns ≡ true → p n ≡ true
all_at p [] n all on = absurd (false≢true on)
all_at p (k ∷ ns) n all on =
    let parts = and_parts (p k) (list_all p ns) all in
    elim (or_cases (eqb k n) (among n ns) on) [ inl it ↦ subst (λ (w : ℕ). p w ≡ true) (eqb-true k n it) parts.0 | inr later ↦ all_at p ns n parts.1 later ]

-- a corner of a triangle at v is a name of those that the triangles at v have
pub corner_on : (w : ℕ) (t : Tri) (ts : List Tri) (v : ℕ) → among w (corners t) ≡ true → has_corner v t ≡ true → among w (flat_map corners (star v (t ∷ ts))) ≡ true
corner_on w t ts v on at =
    ap (λ (b : Bool). among w (flat_map corners (cond b (t ∷ star v ts) (star v ts)))) at ∙ list_any-append (λ n. eqb n w) (corners t) (flat_map corners (star v ts)) ∙ or_left (among w (corners t)) (among w (flat_map corners (star v ts))) on

pub among-other : (w v : ℕ) (ns : List ℕ) → eqb w v ≡ false → among w ns ≡ true → among w (filter (λ x. not (eqb x v)) ns) ≡ true
among-other w v [] apart on = absurd (false≢true on)
among-other w v (n ∷ ns) apart on =
    elim (or_cases (eqb n w) (among w ns) on) [
      | inl it ↦
          let same : n ≡ w = eqb-true n w it in
          ap (λ (b : Bool). among w (cond (not b) (n ∷ filter (λ x. not (eqb x v)) ns) (filter (λ x. not (eqb x v)) ns))) (ap (λ (x : ℕ). eqb x v) same ∙ apart) ∙ or_left (eqb n w) (among w (filter (λ x. not (eqb x v)) ns)) it
      | inr later ↦
          elim (eqb n v) as (λ b. among w (cond (not b) (n ∷ filter (λ x. not (eqb x v)) ns) (filter (λ x. not (eqb x v)) ns)) ≡ true) [
            | true ↦ among-other w v ns apart later
            | false ↦ or_right (eqb n w) (among w (filter (λ x. not (eqb x v)) ns)) (among-other w v ns apart later)
          ]
    ]

-- what holds of v and its neighbours holds of each corner of a triangle at v
unfoldable pub AtCorners : (ℕ → Type 0) → Tri → Type 0
AtCorners P t = P t.a × P t.b × P t.c

pub corners_at : (P : ℕ → Type 0) (v : ℕ) (ts : List Tri) → P v → ((w : ℕ) → among w (neighbours v ts) ≡ true → P w) → (t : Tri) → has_corner v t ≡ true → ((w : ℕ) → among w (corners t) ≡ true → among w (flat_map corners (star v ts)) ≡ true) → AtCorners P t
unfolding AtCorners
corners_at P v ts here near t at on =
    let each : (w : ℕ) → among w (corners t) ≡ true → P w = λ w is. elim (eqb w v) as (λ b. eqb w v ≡ b → P w) [
      | true ↦ λ e. subst P (sym (eqb-true w v e)) here
      | false ↦ λ e. near w (among-other w v (flat_map corners (star v ts)) e (on w is))
    ] refl in (
      each t.a (or_left (eqb t.a t.a) _ (eq-eqb t.a t.a refl)),
      each t.b (or_right (eqb t.a t.b) _ (or_left (eqb t.b t.b) _ (eq-eqb t.b t.b refl))),
      each t.c (or_right (eqb t.a t.c) _ (or_right (eqb t.b t.c) _ (or_left (eqb t.c t.c) _ (eq-eqb t.c t.c refl)))),
    )

-- tests that agree on each triangle at v whose corners are such find the same triangle at v
pub find_at : (P : ℕ → Type 0) (v : ℕ) (p q : Tri → Bool) (ts : List Tri) → P v → ((w : ℕ) → among w (neighbours v ts) ≡ true → P w) → ((t : Tri) → AtCorners P t → p t ≡ q t) → find p (star v ts) ≡ find q (star v ts)
find_at P v p q ts here near same = from ts (λ w on. on)
  where
    from : (us : List Tri) → ((w : ℕ) → among w (flat_map corners (star v us)) ≡ true → among w (flat_map corners (star v ts)) ≡ true) → find p (star v us) ≡ find q (star v us)
    from [] more = refl
    from (t ∷ us) more =
        elim (has_corner v t) as (λ b. has_corner v t ≡ b → find p (cond b (t ∷ star v us) (star v us)) ≡ find q (cond b (t ∷ star v us) (star v us))) [
          | true ↦ λ at.
              let rest = from us (λ w on. more w (ap (λ (b : Bool). among w (flat_map corners (cond b (t ∷ star v us) (star v us)))) at ∙ list_any-append (λ n. eqb n w) (corners t) (flat_map corners (star v us)) ∙ or_right (among w (corners t)) _ on)) in
              let here' : p t ≡ q t = same t (corners_at P v ts here near t at (λ w on. more w (corner_on w t us v on at))) in
              λ i. cond (here' i) (Some t) (rest i)
          | false ↦ λ away. from us (λ w on. more w (ap (λ (b : Bool). among w (flat_map corners (cond b (t ∷ star v us) (star v us)))) away ∙ on))
        ] refl

-- ---- the pieces of a verdict
pub free_alike : (inside : Point → Bool) (m n : Mesh) (v : ℕ) → AlikeAround inside m n v → is_free inside m v ≡ is_free inside n v
free_alike inside m n v a =
    let rest = all_agree (is_held inside m) (is_held inside n) (neighbours v m.tris) (λ w on. (a.others w on).held_too) ∙ ap (list_all (is_held inside n)) (neighbours_alike v m.tris n.tris a.star) in
    λ i. a.itself.held_too i && rest i

pub free_around : (inside : Point → Bool) (m : Mesh) (v : ℕ) → is_free inside m v ≡ true → (w : ℕ) → among w (neighbours v m.tris) ≡ true → is_held inside m w ≡ true
free_around inside m v free w on = all_at (is_held inside m) (neighbours v m.tris) w (and_parts (is_held inside m v) _ free).1 on

cost_alike : (inside : Point → Bool) (m n : Mesh) (u v : ℕ) → AlikeAround inside m n u → AlikeAround inside m n v → is_held inside m u ≡ true → is_held inside m v ≡ true → cost m u v ≡ cost n u v
cost_alike inside m n u v a b hu hv = λ i. squares (a.planes hu i ++ b.planes hv i) (b.itself.same hv i)

-- a name, and what v's place makes of it, lie at the same points in both meshes
SamePlaces : Mesh → Mesh → ℕ → ℕ → ℕ → Type 0
SamePlaces m n u v w = (point_or_origin m w ≡ point_or_origin n w) × (point_or_origin m (renamed u v w) ≡ point_or_origin n (renamed u v w))

same_places : (m n : Mesh) (u v w : ℕ) → point_or_origin m v ≡ point_or_origin n v → point_or_origin m w ≡ point_or_origin n w → SamePlaces m n u v w
unfolding SamePlaces
same_places m n u v w e f = (f, elim (eqb w u) as (λ b. point_or_origin m (cond b v w) ≡ point_or_origin n (cond b v w)) [ true ↦ e | false ↦ f ])

folds_alike : (m n : Mesh) (u v : ℕ) (t : Tri) → AtCorners (SamePlaces m n u v) t → folds_with m u v t ≡ folds_with n u v t
unfolding AtCorners SamePlaces
folds_alike m n u v t s =
    λ i. has_corner u t && not (has_corner v t) && folds (plane_of (s.0.0 i) (s.1.0 i) (s.2.0 i)) (plane_of (s.0.1 i) (s.1.1 i) (s.2.1 i))

folds-star : (m : Mesh) (u v : ℕ) (ts : List Tri) → find (folds_with m u v) (star u ts) ≡ find (folds_with m u v) ts
folds-star m u v ts = find-filter (folds_with m u v) (has_corner u) (λ t h. (and_parts (has_corner u t) _ (and_parts (has_corner u t && not (has_corner v t)) _ h).0).0) ts

fold_alike : (inside : Point → Bool) (m n : Mesh) (u v : ℕ) → AlikeAround inside m n u → Alike inside m n v → is_free inside m u ≡ true → is_held inside m v ≡ true
    → find (folds_with m u v) m.tris ≡ find (folds_with n u v) n.tris
fold_alike inside m n u v a b free hv =
    let hu = (and_parts (is_held inside m u) _ free).0 in
    let at_v = b.same hv in
    sym (folds-star m u v m.tris)
    ∙ find_at (SamePlaces m n u v) u (folds_with m u v) (folds_with n u v) m.tris (same_places m n u v u at_v (a.itself.same hu)) (λ w on. same_places m n u v w at_v ((a.others w on).same (free_around inside m u free w on))) (folds_alike m n u v)
    ∙ ap (find (folds_with n u v)) a.star
    ∙ folds-star n u v n.tris

-- verdicts of a collapse are the same on meshes that are alike around both names
pub collapse_alike : (inside : Point → Bool) (m n : Mesh) (u v : ℕ) (most : ℤ) → AlikeAround inside m n u → AlikeAround inside m n v → collapse_verdict inside m u v most ≡ collapse_verdict inside n u v most
unfolding SameTables
collapse_alike inside m n u v most a b =
    let lines : Mesh → List (Bool × Reply) = λ k. pair_lines inside k u v ++ (link_lines k u v ++ price_lines k u v most) in
    same_table (lines m) (lines n) (DoneAt (cost m u v)) (DoneAt (cost n u v)) (
      ap not a.itself.held_too,
      refl,
      λ hu. (
        ap not b.itself.held_too,
        refl,
        λ hv. (
          refl,
          refl,
          λ _. (
            ap not (free_alike inside m n u a),
            refl,
            λ fu. (
              ap not (free_alike inside m n v b),
              refl,
              λ fv. (
                ap not (near_alike m.tris n.tris u v a.star),
                refl,
                λ _. (
                  ap not (closed_alike u m.tris n.tris a.star),
                  refl,
                  λ _.
                      let s = shared_alike m.tris n.tris u v a.star b.star in
                      let f = fold_alike inside m n u v a b.itself (not-false _ fu) (not-false _ hv) in
                      let c = cost_alike inside m n u v a b (not-false _ hu) (not-false _ hv) in (
                        ap (λ (o : Option ℕ). (if_any Link o).0) s,
                        ap (λ (o : Option ℕ). (if_any Link o).1) s,
                        λ _. (
                          (λ i. three_alike u m.tris n.tris a.star i && three_alike v m.tris n.tris b.star i),
                          refl,
                          λ _. (
                            ap (λ (o : Option Tri). (if_any Folds o).0) f,
                            ap (λ (o : Option Tri). (if_any Folds o).1) f,
                            λ _. (
                              (λ i. not (int_le (c i) most)),
                              ap (λ z. Dear z) c,
                              λ _. ap (λ z. DoneAt z) c,
                            ),
                          ),
                        ),
                      ),
                ),
              ),
            ),
          ),
        ),
      ),
    )

-- and those of a move, around its name
pub move_alike : (inside : Point → Bool) (m n : Mesh) (v : ℕ) (to : Point) → AlikeAround inside m n v → move_verdict inside m v to ≡ move_verdict inside n v to
move_alike inside m n v to a =
    λ i. first_line (
    (not (a.itself.held_too i), Unheld v)
    ∷ (not (free_alike inside m n v a i), Frozen v)
    ∷ (not (inside to), Outside)
    ∷ []) Done
