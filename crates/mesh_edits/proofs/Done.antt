-- What an edit that is done makes of the parts of a fragment.
use Rattle.std.proofs.Common.{◌≡◌, ℕ, ◌+◌, ◌≤◌, Bool, true, false, cond, not, ◌&&◌, ◌||◌, eqb, List, [], ◌∷◌, length, map, All, Some, sym, ap, ◌∙◌, refl, subst, inl, inr, arith}
use Rattle.std.proofs.lemmas.Bool.{and_parts, eq-eqb, eqb-true, false≢true, or_cases, or_left, or_right}
use Rattle.std.proofs.lemmas.List.Elements.{All-from_recursion, recursion_from_All}
use Rattle.std.specs.List.{AllByRecursion, filter}
use Rattle.oemm_octree.specs.declared.points.Point.{Point}
use Rattle.oemm_octree.specs.Leaves.{in_core}
use Rattle.oemm_octree.specs.Octree.{is_inside}
use Rattle.oemm_octree.proofs.Tilings.{area_is_core}
use Rattle.mesh_data.specs.declared.geometry.Tri.{Tri}
use Rattle.mesh_data.specs.Edits.{collapsed_tris, flipped_tris, is_free, is_held}
use Rattle.mesh_data.specs.Links.{are_neighbours, is_closed_by_three, link_violation, opposites}
use Rattle.mesh_data.specs.Manifold.{IsTriangleOn, is_corner}
use Rattle.mesh_data.specs.Planes.{added, most_planes}
use Rattle.mesh_data.specs.RingChanges.{IsOriented, MayCollapse, MayFlip}
use Rattle.mesh_data.specs.Rings.{has_closed_ring}
use Rattle.mesh_data.specs.Triangles.{IsProper, has_corner, turned}
use Rattle.triangle_edits.proofs.Results.{triangles_collapsed, triangles_flipped}
use Rattle.triangle_edits.proofs.Turns.{apexes_differ}
use Rattle.collapse_topology.proofs.Lists.{oriented_collapsed, two_fewer}
use Rattle.flip_topology.proofs.Lists.{as_many, oriented_flipped}
use Rattle.edit_steps.specs.Passed.{CollapsePassed, FlipPassed, PairPassed}
use Rattle.half_edge.specs.Flips.{MayTurn}
use Rattle.half_edge.specs.Meshes.{Faced, is_held as in_face}
use Rattle.sheet_data.specs.declared.patches.Patch.{Patch}
use Rattle.sheet_data.specs.Summed.{SummedVertex}
use Rattle.mesh_sheets.specs.Assembled.{has_name}
use Rattle.sheet_frame.proofs.Free.{CanMove}
use Rattle.sheet_forms.specs.Formed.{IsPatchFor}
use Rattle.patch_edits.specs.Edits.{collapsed_on, flipped_on, moved_on, with_changed}
use Rattle.patch_edits.specs.PatchMesh.{mesh_of, sums_at}
use Rattle.patch_edits.proofs.FlipFormed.{formed_flipped}
use Rattle.patch_edits.proofs.Formed.{formed_collapsed, formed_moved}
use Rattle.mesh_edits.specs.declared.fragment.Fragment.TheInside.{Inside}
use Rattle.mesh_edits.specs.Fragments.{IsFragment, IsPatchOn, fragmented, patch_by}
use Rattle.mesh_edits.proofs.Altered.{changed_at, others}
use Rattle.mesh_edits.proofs.Counts.{tris_count}
use Rattle.mesh_edits.proofs.Effects.{corner_among, flipped_is, tris_collapsed, tris_flipped}
use Rattle.mesh_edits.proofs.Near.{near_first, near_second}
use Rattle.mesh_edits.proofs.On.{shaped_on}
use Rattle.mesh_edits.proofs.Parts.{few_now, held_has}
use Rattle.mesh_edits.proofs.Settled.{fragment_settled, patch_on}

-- ---- names

has_changed : (v : ℕ) (f : SummedVertex → SummedVertex) → ((x : SummedVertex) → (f x).name ≡ x.name) → (xs : List SummedVertex) (w : ℕ) → has_name (map (changed_at v f) xs) w ≡ has_name xs w
has_changed v f same [] w = refl
has_changed v f same (x ∷ xs) w =
    let name_is : (changed_at v f x).name ≡ x.name = elim (eqb x.name v) as (λ (b : Bool). (let y : SummedVertex = cond b (f x) x in y.name) ≡ x.name) [ true ↦ same x | false ↦ refl ] in
    λ i. eqb w (name_is i) || has_changed v f same xs w i

has_left : (u : ℕ) (xs : List SummedVertex) (w : ℕ) → has_name (filter (others u) xs) w ≡ true → (eqb w u ≡ false) × (has_name xs w ≡ true)
has_left u [] w h = absurd (false≢true h)
has_left u (x ∷ xs) w h =
    elim (eqb x.name u) as (λ b. eqb x.name u ≡ b → has_name (cond (not b) (x ∷ filter (others u) xs) (filter (others u) xs)) w ≡ true → (eqb w u ≡ false) × (has_name (x ∷ xs) w ≡ true)) [
      | true ↦ λ _ k. let rest = has_left u xs w k in (rest.0, or_right (eqb w x.name) (has_name xs w) rest.1)
      | false ↦ λ out k. elim (or_cases (eqb w x.name) (has_name (filter (others u) xs) w) k) [
        | inl here ↦ (ap (λ n. eqb n u) (eqb-true w x.name here) ∙ out, or_left (eqb w x.name) (has_name xs w) here)
        | inr later ↦ let rest = has_left u xs w later in (rest.0, or_right (eqb w x.name) (has_name xs w) rest.1)
      ]
    ] refl h

-- ---- corners

abbrev Shape : Tri → Type 0
Shape t = IsProper t × (turned t ≡ t)

abbrev Met : List Tri → ℕ → Type 0
Met ts w = is_corner ts w ≡ true

its_own : (P : ℕ → Type 0) (ts : List Tri) → ((w : ℕ) → Met ts w → P w) → AllByRecursion Shape ts → AllByRecursion (IsTriangleOn P) ts
its_own P [] k all = tt
its_own P (t ∷ ts) k all = (
  record {
    proper = all.0.0;
    is_turned = all.0.1;
    a = k t.a (or_left (has_corner t.a t) (is_corner ts t.a) (or_left (eqb t.a t.a || eqb t.b t.a) (eqb t.c t.a) (or_left (eqb t.a t.a) (eqb t.b t.a) (eq-eqb t.a t.a refl))));
    b = k t.b (or_left (has_corner t.b t) (is_corner ts t.b) (or_left (eqb t.a t.b || eqb t.b t.b) (eqb t.c t.b) (or_right (eqb t.a t.b) (eqb t.b t.b) (eq-eqb t.b t.b refl))));
    c = k t.c (or_left (has_corner t.c t) (is_corner ts t.c) (or_right (eqb t.a t.c || eqb t.b t.c) (eqb t.c t.c) (eq-eqb t.c t.c refl)));
  },
  its_own P ts (λ w h. k w (or_right (has_corner w t) (is_corner ts w) h)) all.1,
)

-- triangles have their own corners
on_their_own : (ts : List Tri) → All Shape ts → All (IsTriangleOn (Met ts)) ts
on_their_own ts all = All-from_recursion (IsTriangleOn (Met ts)) ts (its_own (Met ts) ts (λ w h. h) (recursion_from_All Shape ts all))

module _ (i : Inside) (is : IsFragment i.vertices i.halves i.mixed i.rim i.near i.area) where
  abbrev p : Patch
  p = patch_by i.vertices i.halves.tris i.mixed i.near

  abbrev holds : Point → Bool
  holds = is_inside i.area

  abbrev core_holds : Point → Bool
  core_holds = in_core is.formed.cells is.formed.core

  same_area : holds ≡ core_holds
  same_area = ap is_inside is.formed.is_area ∙ area_is_core is.formed.cells is.formed.core is.formed.tiles is.formed.below

  formed_on : (q : Patch) → IsPatchFor is.formed.cells is.formed.core q → IsPatchOn i.area q
  formed_on q formed = record { cells = is.formed.cells; core = is.formed.core; tiles = is.formed.tiles; below = is.formed.below; is_area = is.formed.is_area; formed = formed }

  shaped : All Shape i.halves.tris
  shaped = subst (All Shape) (sym is.tris) (shaped_on i.area p is.formed)

  -- ---- a move

  module _ (v : ℕ) (to : Point) (free : is_free holds (mesh_of p) v ≡ true) (lands : holds to ≡ true) where
    abbrev put : SummedVertex → SummedVertex
    put x = record x { point = to }

    on_moved : IsPatchOn i.area (moved_on p v to)
    on_moved =
        let held = (and_parts (is_held holds (mesh_of p) v) _ free).0 in
        let can : CanMove holds (mesh_of p) v to = record { held = held; free = free; lands = lands } in
        formed_on (moved_on p v to) (formed_moved is.formed.cells is.formed.core p is.formed.formed v to (subst (λ (h : Point → Bool). CanMove h (mesh_of p) v to) same_area can))

    pub moved_parts : IsFragment (with_changed v put i.vertices) i.halves i.mixed i.rim i.near i.area
    moved_parts = fragment_settled i.area (moved_on p v to) on_moved i.halves i.rim is.tris is.oriented (λ w on corner. is.held w (sym (has_changed v put (λ x. refl) i.vertices w) ∙ on) corner) is.rim_has

    pub moved_patch : patch_by (with_changed v put i.vertices) i.halves.tris i.mixed i.near ≡ moved_on p v to
    moved_patch = patch_on i.area (moved_on p v to) on_moved i.halves.tris is.tris

  -- ---- a collapse

  module _ (u v : ℕ) (passed : CollapsePassed holds (mesh_of p) u v) where
    abbrev ts : List Tri
    ts = i.halves.tris

    abbrev add : SummedVertex → SummedVertex
    add x = record x { quad = added x.quad (sums_at i.vertices u) }

    abbrev left : List SummedVertex
    left = with_changed v add (filter (others u) i.vertices)

    by_core : CollapsePassed core_holds (mesh_of p) u v
    by_core = subst (λ (h : Point → Bool). CollapsePassed h (mesh_of p) u v) same_area passed

    corner_u : Met ts u
    corner_u = ap (λ (us : List Tri). is_corner us u) is.tris ∙ near_first (mesh_of p).tris u v passed.pair.near

    corner_v : Met ts v
    corner_v = ap (λ (us : List Tri). is_corner us v) is.tris ∙ near_second (mesh_of p).tris u v passed.pair.near

    pub collapse_u : in_face i.halves u ≡ true
    collapse_u = is.held u (held_has holds p u passed.pair.held) corner_u

    pub collapse_v : in_face i.halves v ≡ true
    collapse_v = is.held v (held_has holds p v passed.pair.onto_held) corner_v

    pub may_collapse : MayCollapse ts u v
    may_collapse = record {
      differ = passed.pair.apart;
      near = ap (λ (us : List Tri). are_neighbours us u v) is.tris ∙ passed.pair.near;
      closed = ap (λ (us : List Tri). has_closed_ring us u) is.tris ∙ passed.closed;
      unshared = ap (λ (us : List Tri). link_violation us u v) is.tris ∙ passed.unshared;
      not_three = ap (λ (us : List Tri). is_closed_by_three us u && is_closed_by_three us v) is.tris ∙ passed.not_three;
    }

    pub collapse_few : (sums_at i.vertices v).planes + (sums_at i.vertices u).planes ≤ most_planes
    collapse_few = omega (arith, few_now i is (fragmented i.vertices i.halves i.mixed i.near i.area) refl u v passed.pair.apart)

    on_collapsed : IsPatchOn i.area (collapsed_on p u v)
    on_collapsed = formed_on (collapsed_on p u v) (formed_collapsed is.formed.cells is.formed.core p is.formed.formed u v by_core)

    -- two triangles go, which are whole
    pub fewer : length (collapsed_on p u v).whole + 2 ≡ length p.whole
    fewer = omega (
      arith,
      two_fewer ts u v is.oriented may_collapse,
      tris_count p,
      tris_count (collapsed_on p u v),
      ap (λ (us : List Tri). length us) is.tris,
      ap (λ (us : List Tri). length (collapsed_tris u v us)) is.tris,
      ap (λ (us : List Tri). length us) (tris_collapsed is.formed.cells is.formed.core p is.formed.formed u v by_core),
    )

    module _ (n : Faced) (faces : n.tris ≡ collapsed_tris u v ts) (held : (w : ℕ) → in_face n w ≡ (in_face i.halves w && not (eqb w u))) where
      corner_before : (w : ℕ) → Met n.tris w → Met ts w
      corner_before w = corner_among (Met ts) w n.tris (subst (All (IsTriangleOn (Met ts))) (sym faces) (triangles_collapsed (Met ts) (Met ts) u v ts (λ x on out. on) corner_v (on_their_own ts shaped)))

      tris_are : n.tris ≡ (mesh_of (collapsed_on p u v)).tris
      tris_are = faces ∙ ap (collapsed_tris u v) is.tris ∙ sym (tris_collapsed is.formed.cells is.formed.core p is.formed.formed u v by_core)

      held_left : (w : ℕ) → has_name left w ≡ true → Met n.tris w → in_face n w ≡ true
      held_left w on corner =
          let stays = has_left u i.vertices w (sym (has_changed v add (λ x. refl) (filter (others u) i.vertices) w) ∙ on) in
          held w ∙ (λ k. is.held w stays.1 (corner_before w corner) k && not (stays.0 k))

      pub collapsed_parts : IsFragment left n i.mixed i.rim i.near i.area
      collapsed_parts = fragment_settled i.area (collapsed_on p u v) on_collapsed n i.rim tris_are (subst IsOriented (sym faces) (oriented_collapsed ts u v is.oriented may_collapse)) held_left is.rim_has

      pub collapsed_patch : patch_by left n.tris i.mixed i.near ≡ collapsed_on p u v
      collapsed_patch = patch_on i.area (collapsed_on p u v) on_collapsed n.tris tris_are

  -- ---- a flip

  module _ (a b : ℕ) (passed : FlipPassed holds (mesh_of p) a b) where
    abbrev us : List Tri
    us = i.halves.tris

    abbrev c : ℕ
    c = passed.c

    abbrev d : ℕ
    d = passed.d

    abbrev turned_patch : Patch
    turned_patch = record p { whole = flipped_tris a b c d p.whole }

    abbrev flip_by_core : FlipPassed core_holds (mesh_of p) a b
    flip_by_core = record {
      pair = subst (λ (h : Point → Bool). PairPassed h (mesh_of p) a b) same_area passed.pair;
      c = c;
      d = d;
      ends = passed.ends;
      new = passed.new;
    }

    pub flip_a : in_face i.halves a ≡ true
    flip_a = is.held a (held_has holds p a passed.pair.held) (ap (λ (ts : List Tri). is_corner ts a) is.tris ∙ near_first (mesh_of p).tris a b passed.pair.near)

    pub flip_b : in_face i.halves b ≡ true
    flip_b = is.held b (held_has holds p b passed.pair.onto_held) (ap (λ (ts : List Tri). is_corner ts b) is.tris ∙ near_second (mesh_of p).tris a b passed.pair.near)

    pub flip_ends : opposites us a b ≡ Some (c, d)
    flip_ends = ap (λ (ts : List Tri). opposites ts a b) is.tris ∙ passed.ends

    may_flip : MayFlip us a b c d
    may_flip = record { differ = passed.pair.apart; opposite = flip_ends; unjoined = ap (λ (ts : List Tri). are_neighbours ts c d) is.tris ∙ passed.new }

    pub may_turn : MayTurn us a b
    may_turn = record { c = c; d = d; may = may_flip }

    on_flipped : IsPatchOn i.area turned_patch
    on_flipped = subst (IsPatchOn i.area) (flipped_is is.formed.cells is.formed.core p is.formed.formed a b flip_by_core) (formed_on (flipped_on p a b) (formed_flipped is.formed.cells is.formed.core p is.formed.formed a b flip_by_core))

    -- there are as many whole triangles as before
    pub no_fewer : length (flipped_on p a b).whole ≡ length p.whole
    no_fewer = omega (
      arith,
      as_many us a b c d is.oriented may_flip,
      tris_count p,
      tris_count turned_patch,
      ap (λ (ts : List Tri). length ts) is.tris,
      ap (λ (ts : List Tri). length (flipped_tris a b c d ts)) is.tris,
      ap (λ (ts : List Tri). length ts) (ap (λ (q : Patch). (mesh_of q).tris) (sym (flipped_is is.formed.cells is.formed.core p is.formed.formed a b flip_by_core))
          ∙ tris_flipped is.formed.cells is.formed.core p is.formed.formed a b flip_by_core),
      ap (λ (q : Patch). length q.whole) (flipped_is is.formed.cells is.formed.core p is.formed.formed a b flip_by_core),
    )

    module _ (n : Faced) (faces : n.tris ≡ flipped_tris a b c d us) (held : n.held ≡ i.halves.held) where
      corner_old : (w : ℕ) → Met n.tris w → Met us w
      corner_old w = corner_among (Met us) w n.tris (subst (All (IsTriangleOn (Met us))) (sym faces) (triangles_flipped (Met us) a b c d us passed.pair.apart (apexes_differ (mesh_of p).tris a b c d passed.ends passed.new) flip_ends (on_their_own us shaped)))

      tris_turn : n.tris ≡ (mesh_of turned_patch).tris
      tris_turn = faces ∙ ap (flipped_tris a b c d) is.tris ∙ sym (tris_flipped is.formed.cells is.formed.core p is.formed.formed a b flip_by_core) ∙ ap (λ (q : Patch). (mesh_of q).tris) (flipped_is is.formed.cells is.formed.core p is.formed.formed a b flip_by_core)

      pub flipped_parts : IsFragment i.vertices n i.mixed i.rim i.near i.area
      flipped_parts = fragment_settled i.area turned_patch on_flipped n i.rim tris_turn (subst IsOriented (sym faces) (oriented_flipped us a b c d is.oriented may_flip)) (λ w on corner. (λ k. in_face (record { tris = n.tris; held = held k }) w) ∙ is.held w on (corner_old w corner)) is.rim_has

      pub flipped_patch : patch_by i.vertices n.tris i.mixed i.near ≡ flipped_on p a b
      flipped_patch = patch_on i.area turned_patch on_flipped n.tris tris_turn ∙ sym (flipped_is is.formed.cells is.formed.core p is.formed.formed a b flip_by_core)
