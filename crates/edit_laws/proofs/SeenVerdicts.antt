-- A verdict on a mesh is the verdict on what the area sees of it.
use Rattle.std.proofs.Common.{◌≡◌, ℕ, ℤ, min, max, Bool, true, false, cond, not, ◌||◌, eqb, List, [], ◌∷◌, ◌++◌, Option, Some, None, refl, sym, ap, ◌∙◌, inl, inr, flat_map}
use Rattle.std.proofs.lemmas.Bool.{false≢true, and_parts, or_cases, or_left, or_right, eqb-true, not-false}
use Rattle.std.proofs.lemmas.List.Folds.{list_any-append}
use Rattle.std.specs.FinMap as finite
use Rattle.std.specs.FinMap.{nat_cmp-IsAntisymmetric}
use Rattle.std.specs.List.{list_any}
use Rattle.std.specs.Option.{option_map, option_map_or, option_zip, is_none}
use Rattle.oemm_octree.specs.declared.points.Point.{Point}
use Rattle.mesh_data.specs.declared.geometry.Vertex.{Vertex}
use Rattle.mesh_data.specs.declared.geometry.Tri.{Tri}
use Rattle.mesh_data.specs.declared.edits.Reply.{Reply}
use Rattle.mesh_data.specs.declared.edits.Reply.TheVariants.{Edge, Done, DoneAt, Unheld}
use Rattle.mesh_data.specs.Edits.{first_line, edge_line, is_held, is_free, pair_lines, cost, collapse_verdict, move_verdict, flip_verdict}
use Rattle.mesh_data.specs.Links.{apex, opposites}
use Rattle.mesh_data.specs.Mesh.{Mesh, origin}
use Rattle.mesh_data.specs.Triangles.{corners, has_corner, star}
use Rattle.triangle_edits.proofs.Turns.{any_turns, ends_of, turns_to, to_has_both, to_has_third}
use Rattle.edit_steps.specs.Lines.{refusal}
use Rattle.edit_steps.proofs.Lines.{told_by_first, link_lines, price_lines, turn_lines}
use Rattle.oemm_lists.specs.Numbers.{among}
use Rattle.triangle_lists.proofs.Filters.{filter-weaker}
use Rattle.edit_laws.specs.Alike.{Alike, AlikeAround}
use Rattle.mesh_data.specs.Seen.{touches, seen}
use Rattle.edit_laws.proofs.Stars.{near_alike, apex_alike}
use Rattle.edit_laws.proofs.Tables.{SameTables, same_table}
use Rattle.edit_laws.proofs.Locality.{among-other, corner_on, free_alike, free_around, collapse_alike, move_alike}

-- ---- a triangle with a held name is seen
pub touches_at : (inside : Point → Bool) (m : Mesh) (u : ℕ) → is_held inside m u ≡ true → (t : Tri) → has_corner u t ≡ true → touches inside m t ≡ true
touches_at inside m u held t at =
    let h : ℕ → Bool = is_held inside m in
    elim (or_cases (eqb t.a u || eqb t.b u) (eqb t.c u) at) [
      | inl two ↦ elim (or_cases (eqb t.a u) (eqb t.b u) two) [
        | inl e ↦ or_left (h t.a) _ (ap h (eqb-true t.a u e) ∙ held)
        | inr e ↦ or_right (h t.a) _ (or_left (h t.b) _ (ap h (eqb-true t.b u e) ∙ held))
      ]
      | inr e ↦ or_right (h t.a) _ (or_right (h t.b) _ (or_left (h t.c) _ (ap h (eqb-true t.c u e) ∙ held)))
    ]

pub get-seen : (inside : Point → Bool) (m : Mesh) (w : ℕ) → finite.get (seen inside m).vertices w ≡ cond (is_held inside m w) (finite.get m.vertices w) None
get-seen inside m w = finite.get-retain_keys m.vertices (is_held inside m) w (λ x e. ap (is_held inside m) (sym (nat_cmp-IsAntisymmetric w x e)))

-- whether a vertex is there, in the area
abbrev pub held_in : (Point → Bool) → Option Vertex → Bool
held_in inside o = option_map_or inside (option_map (λ (x : Vertex). x.point) o) false

held_by : (inside : Point → Bool) (o : Option Vertex) (b : Bool) → held_in inside o ≡ b → b ≡ held_in inside (cond b o None)
held_by inside o true e = sym e
held_by inside o false e = refl

pub get-held : (inside : Point → Bool) (m : Mesh) (w : ℕ) → is_held inside m w ≡ true → finite.get m.vertices w ≡ finite.get (seen inside m).vertices w
get-held inside m w h = sym (get-seen inside m w ∙ ap (λ (b : Bool). cond b (finite.get m.vertices w) None) h)

pub held-seen : (inside : Point → Bool) (m : Mesh) (w : ℕ) → is_held inside m w ≡ is_held inside (seen inside m) w
held-seen inside m w = held_by inside (finite.get m.vertices w) (is_held inside m w) refl ∙ ap (held_in inside) (sym (get-seen inside m w))

pub alike_seen : (inside : Point → Bool) (m : Mesh) (w : ℕ) → Alike inside m (seen inside m) w
alike_seen inside m w =
    record {
      held_too = held-seen inside m w;
      same = λ h. ap (λ (o : Option Vertex). option_map_or (λ p. p) (option_map (λ (x : Vertex). x.point) o) origin) (get-held inside m w h);
    }

pub star-seen : (inside : Point → Bool) (m : Mesh) (u : ℕ) → is_held inside m u ≡ true → star u m.tris ≡ star u (seen inside m).tris
star-seen inside m u held = sym (filter-weaker (has_corner u) (touches inside m) (touches_at inside m u held) m.tris)

pub around_seen : (inside : Point → Bool) (m : Mesh) (u : ℕ) → is_held inside m u ≡ true → AlikeAround inside m (seen inside m) u
around_seen inside m u held =
    record {
      star = star-seen inside m u held;
      itself = alike_seen inside m u;
      others = λ w on. alike_seen inside m w;
      planes = λ h. ap (λ (o : Option Vertex). option_map_or (λ planes. planes) (option_map (λ (x : Vertex). x.planes) o) []) (get-held inside m u h);
    }

-- ---- verdicts
-- where one of the two names isn't held, that is the answer
unheld_pair : (inside : Point → Bool) (m : Mesh) (u v : ℕ) → is_held inside m u ≡ false → refusal (pair_lines inside m u v) ≡ Some (Unheld u)
unheld_pair inside m u v h = rw h refl

unheld_other : (inside : Point → Bool) (m : Mesh) (u v : ℕ) → is_held inside m u ≡ true → is_held inside m v ≡ false → refusal (pair_lines inside m u v) ≡ Some (Unheld v)
unheld_other inside m u v h k = rw (h, k) refl

-- meshes that are alike where both names are held give the same answer
pair_seen : (inside : Point → Bool) (m : Mesh) (u v : ℕ) (ls ks : List (Bool × Reply)) (x y : Reply)
    → (is_held inside m u ≡ true → is_held inside m v ≡ true → first_line (pair_lines inside m u v ++ ls) x ≡ first_line (pair_lines inside (seen inside m) u v ++ ks) y)
    → first_line (pair_lines inside m u v ++ ls) x ≡ first_line (pair_lines inside (seen inside m) u v ++ ks) y
pair_seen inside m u v ls ks x y both =
    let n = seen inside m in
    let of_u = held-seen inside m u in
    let of_v = held-seen inside m v in
    let goal : Type 0 = first_line (pair_lines inside m u v ++ ls) x ≡ first_line (pair_lines inside n u v ++ ks) y in
    elim (is_held inside m u) as (λ b. is_held inside m u ≡ b → goal) [
      | false ↦ λ h. told_by_first (pair_lines inside m u v) ls x (Unheld u) (unheld_pair inside m u v h) ∙ sym (told_by_first (pair_lines inside n u v) ks y (Unheld u) (unheld_pair inside n u v (sym of_u ∙ h)))
      | true ↦ λ h. elim (is_held inside m v) as (λ b. is_held inside m v ≡ b → goal) [
        | false ↦ λ k. told_by_first (pair_lines inside m u v) ls x (Unheld v) (unheld_other inside m u v h k) ∙ sym (told_by_first (pair_lines inside n u v) ks y (Unheld v) (unheld_other inside n u v (sym of_u ∙ h) (sym of_v ∙ k)))
        | true ↦ λ k. both h k
      ] refl
    ] refl

pub collapse_seen : (inside : Point → Bool) (m : Mesh) (u v : ℕ) (most : ℤ) → collapse_verdict inside m u v most ≡ collapse_verdict inside (seen inside m) u v most
collapse_seen inside m u v most =
    let n = seen inside m in
    pair_seen inside m u v (link_lines m u v ++ price_lines m u v most) (link_lines n u v ++ price_lines n u v most) (DoneAt (cost m u v)) (DoneAt (cost n u v))
    (λ h k. collapse_alike inside m n u v most (around_seen inside m u h) (around_seen inside m v k))

unheld_moved : (inside : Point → Bool) (m : Mesh) (v : ℕ) (to : Point) → is_held inside m v ≡ false → move_verdict inside m v to ≡ Unheld v
unheld_moved inside m v to h = rw h refl

pub move_seen : (inside : Point → Bool) (m : Mesh) (v : ℕ) (to : Point) → move_verdict inside m v to ≡ move_verdict inside (seen inside m) v to
move_seen inside m v to =
    let n = seen inside m in
    elim (is_held inside m v) as (λ b. is_held inside m v ≡ b → move_verdict inside m v to ≡ move_verdict inside n v to) [
      | false ↦ λ h. unheld_moved inside m v to h ∙ sym (unheld_moved inside n v to (sym (held-seen inside m v) ∙ h))
      | true ↦ λ h. move_alike inside m n v to (around_seen inside m v h)
    ] refl

-- ---- flips: the ends of the new edge are neighbours of a, and so are held where a is free
pub on_corners : (w : ℕ) (t : Tri) → has_corner w t ≡ true → among w (corners t) ≡ true
on_corners w t at =
    elim (or_cases (eqb t.a w || eqb t.b w) (eqb t.c w) at) [
      | inl two ↦ elim (or_cases (eqb t.a w) (eqb t.b w) two) [ inl e ↦ or_left (eqb t.a w) _ e | inr e ↦ or_right (eqb t.a w) _ (or_left (eqb t.b w) _ e) ]
      | inr e ↦ or_right (eqb t.a w) _ (or_right (eqb t.b w) _ (or_left (eqb t.c w) _ e))
    ]

-- a test that holds of v and of its neighbours holds of a corner of a triangle at v
pub at_some : (p : Tri → Bool) (v w : ℕ) (ts : List Tri) → ((t : Tri) → p t ≡ true → has_corner v t ≡ true) → ((t : Tri) → p t ≡ true → has_corner w t ≡ true) → list_any p ts ≡ true → among w (flat_map corners (star v ts)) ≡ true
at_some p v w [] at on any = absurd (false≢true any)
at_some p v w (t ∷ ts) at on any =
    elim (or_cases (p t) (list_any p ts) any) [
      | inl it ↦ corner_on w t ts v (on_corners w t (on t it)) (at t it)
      | inr later ↦
          let rest = at_some p v w ts at on later in
          elim (has_corner v t) as (λ b. among w (flat_map corners (cond b (t ∷ star v ts) (star v ts))) ≡ true) [
            | true ↦ list_any-append (λ n. eqb n w) (corners t) (flat_map corners (star v ts)) ∙ or_right (among w (corners t)) _ rest
            | false ↦ rest
          ]
    ]

pub apex_held : (inside : Point → Bool) (m : Mesh) (a b c : ℕ) → is_free inside m a ≡ true → apex m.tris a b ≡ Some c → is_held inside m c ≡ true
apex_held inside m a b c free is =
    elim (eqb c a) as (λ x. eqb c a ≡ x → is_held inside m c ≡ true) [
      | true ↦ λ e. ap (is_held inside m) (eqb-true c a e) ∙ (and_parts (is_held inside m a) _ free).0
      | false ↦ λ e. free_around inside m a free c (among-other c a (flat_map corners (star a m.tris)) e
          (at_some (turns_to a b c) a c m.tris (λ t h. (and_parts (has_corner a t) (has_corner b t) (to_has_both t a b c h)).0) (λ t h. to_has_third t a b c h) (any_turns m.tris a b c is)))
    ] refl

edge_seen : (inside : Point → Bool) (m : Mesh) (o : Option (ℕ × ℕ)) → ((c d : ℕ) → o ≡ Some (c, d) → is_held inside m c ≡ true) → edge_line m.tris o ≡ edge_line (seen inside m).tris o
edge_seen inside m None held = refl
edge_seen inside m (Some ends) held =
    ap (λ (b : Bool). (b, Edge (min ends.0 ends.1) (max ends.0 ends.1))) (near_alike m.tris (seen inside m).tris ends.0 ends.1 (star-seen inside m ends.0 (held ends.0 ends.1 refl)))

pub opposites_alike : (ts us : List Tri) (a b : ℕ) → star a ts ≡ star a us → star b ts ≡ star b us → opposites ts a b ≡ opposites us a b
opposites_alike ts us a b of_a of_b = λ i. option_zip (apex_alike ts us a b of_a i) (apex_alike ts us b a of_b i)

flip_alike : (inside : Point → Bool) (m : Mesh) (a b : ℕ) → is_held inside m a ≡ true → is_held inside m b ≡ true → flip_verdict inside m a b ≡ flip_verdict inside (seen inside m) a b
unfolding SameTables
flip_alike inside m a b ha hb =
    let n = seen inside m in
    let of_a = around_seen inside m a ha in
    let of_b = around_seen inside m b hb in
    let ends = opposites_alike m.tris n.tris a b of_a.star of_b.star in
    same_table (pair_lines inside m a b ++ turn_lines m a b) (pair_lines inside n a b ++ turn_lines n a b) Done Done (
      ap not of_a.itself.held_too,
      refl,
      λ _. (
        ap not of_b.itself.held_too,
        refl,
        λ _. (
          refl,
          refl,
          λ _. (
            ap not (free_alike inside m n a of_a),
            refl,
            λ fa. (
              ap not (free_alike inside m n b of_b),
              refl,
              λ _. (
                ap not (near_alike m.tris n.tris a b of_a.star),
                refl,
                λ _. (
                  ap is_none ends,
                  refl,
                  λ _.
                      let line = edge_seen inside m (opposites m.tris a b) (λ c d is. apex_held inside m a b c (not-false _ fa) (ends_of m.tris a b c d is).0) ∙ ap (edge_line n.tris) ends in (
                        ap (λ (l : Bool × Reply). l.0) line,
                        ap (λ (l : Bool × Reply). l.1) line,
                        λ _. refl,
                      ),
                ),
              ),
            ),
          ),
        ),
      ),
    )

pub flip_seen : (inside : Point → Bool) (m : Mesh) (a b : ℕ) → flip_verdict inside m a b ≡ flip_verdict inside (seen inside m) a b
flip_seen inside m a b = pair_seen inside m a b (turn_lines m a b) (turn_lines (seen inside m) a b) Done Done (λ h k. flip_alike inside m a b h k)
