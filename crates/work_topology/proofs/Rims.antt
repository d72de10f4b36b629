-- Work leaves the triangles at the rim of its area, and their vertices.
use Rattle.std.specs.FinMap as finite
use Rattle.collapse_topology.proofs.Meshes.{collapse_keeps}
use Rattle.edit_laws.proofs.FarPairs.{get-away}
use Rattle.edit_laws.proofs.Locality.{AtCorners, corners_at, free_around}
use Rattle.edit_laws.proofs.SeenEffects.{get-with, held-collapsed, held-with, held_renamed, taking}
use Rattle.edit_laws.proofs.SeenVerdicts.{apex_held, held_in}
use Rattle.edit_steps.proofs.Passed.{PairPassed, collapse_passed, flip_passed, move_passed}
use Rattle.edit_steps.proofs.Simplification.{least_of_all}
use Rattle.face_rings.proofs.Borders.{contains_in}
use Rattle.face_rings.proofs.Members.{filter_from}
use Rattle.face_rings.specs.Faces.{◌∈◌}
use Rattle.flip_topology.proofs.Meshes.{is_flipped, with_flipped}
use Rattle.mesh_data.specs.Edits.{AreLeastSteps, after, collapse_verdict, collapsed, collapsed_by, flip_verdict, flipped, is_done, is_free, is_held, move_verdict, moved, substituted, renamed, simplified, verdict}
use Rattle.mesh_data.specs.Links.{opposites}
use Rattle.mesh_data.specs.Mesh.{Mesh}
use Rattle.mesh_data.specs.Seen.{touches}
use Rattle.mesh_data.specs.Triangles.{corners, has_corner, turned}
use Rattle.mesh_data.specs.Work.{work}
use Rattle.mesh_data.specs.declared.edits.Edit.{Edit}
use Rattle.mesh_data.specs.declared.edits.Edit.TheVariants.{Collapse, Flip, Move, Simplify}
use Rattle.mesh_data.specs.declared.edits.Reply.{Reply}
use Rattle.mesh_data.specs.declared.edits.Step.{Step}
use Rattle.oemm_octree.specs.declared.points.Point.{Point}
use Rattle.mesh_data.specs.declared.geometry.Tri.{Tri}
use Rattle.mesh_data.specs.declared.geometry.Vertex.{Vertex}
use Rattle.std.proofs.Common.{Bool, List, None, Option, Some, [], ap, cond, false, ne_eqb, not, refl, subst, sym, true, ℕ, ℤ, ◌&&◌, ◌||◌, ◌∙◌, ◌∷◌, ◌≡◌, ◌≢◌}
use Rattle.std.proofs.lemmas.Bool.{and_parts, both_ways}
use Rattle.std.proofs.lemmas.List.Elements.{filter_agree}
use Rattle.std.specs.List.{Contains, list_all}
use Rattle.std.specs.Option.{option_map}
use Rattle.triangle_edits.proofs.Results.{turned_keeps}
use Rattle.triangle_edits.proofs.Turns.{corner_a, corner_b, corner_c, ends_of}
use Rattle.work_topology.proofs.Kept.{collapsed_sorted, corner_in, pass_collapsed, pass_flipped}
use Rattle.work_topology.proofs.Ordered.{edit_ordered, turned_of}
use Rattle.work_topology.specs.Ordered.{IsOrderedManifold}
use Rattle.work_topology.specs.Rim.{KeepsRim, is_rim, rim}

-- all corners are held
whole_at : (inside : Point → Bool) (m : Mesh) (t : Tri) → AtCorners (λ w. is_held inside m w ≡ true) t → list_all (is_held inside m) (corners t) ≡ true
unfolding AtCorners
whole_at inside m t h = λ i. h.0 i && (h.1 i && (h.2 i && true))

-- such a triangle is not at the rim
whole_no_rim : (inside : Point → Bool) (m : Mesh) (t : Tri) → list_all (is_held inside m) (corners t) ≡ true → is_rim inside m t ≡ false
whole_no_rim inside m t h = ap (λ (b : Bool). touches inside m t && not b) h ∙ none (touches inside m t)
  where
    none : (b : Bool) → (b && false) ≡ false
    none true = refl
    none false = refl

-- a triangle at a free name is held whole
free_whole : (inside : Point → Bool) (m : Mesh) (u : ℕ) (t : Tri) → is_free inside m u ≡ true → t ∈ m.tris → has_corner u t ≡ true → AtCorners (λ w. is_held inside m w ≡ true) t
free_whole inside m u t free i at =
    corners_at (λ w. is_held inside m w ≡ true) u m.tris (and_parts (is_held inside m u) _ free).0 (free_around inside m u free) t at (λ w on. corner_in m.tris u w t i at on)

-- a triangle at the rim has no free name
rim_away : (inside : Point → Bool) (m : Mesh) (u w : ℕ) (t : Tri) → is_free inside m u ≡ true → Contains (rim inside m) t → has_corner w t ≡ true → w ≢ u
rim_away inside m u w t free on at e =
    let f = filter_from (is_rim inside m) m.tris t (contains_in (rim inside m) t on) in
    both_ways (is_rim inside m t) (whole_no_rim inside m t (whole_at inside m t (free_whole inside m u t free f.0 (subst (λ z. has_corner z t ≡ true) e at)))) f.1

-- a turned triangle has the same names
all-turned : (p : ℕ → Bool) (t : Tri) → list_all p (corners t) ≡ true → list_all p (corners (turned t)) ≡ true
all-turned p t h = turned_keeps (λ s. list_all p (corners s) ≡ true) (λ s all. next s.a s.b s.c all) t h
  where
    next : (a b c : ℕ) → (p a && (p b && (p c && true))) ≡ true → (p b && (p c && (p a && true))) ≡ true
    next a b c all =
        let of_a = and_parts (p a) _ all in
        let of_b = and_parts (p b) _ of_a.1 in
        let of_c = and_parts (p c) true of_b.1 in
        λ i. of_b.0 i && (of_c.0 i && (of_a.0 i && true))

module _ (inside : Point → Bool) where
  -- ---- collapses
  -- the area holds the same names but u
  held_same : (m : Mesh) (u v w : ℕ) → w ≢ u → is_held inside (collapsed m u v) w ≡ is_held inside m w
  held_same m u v w wu = held-collapsed inside m u v w ∙ ap (λ (b : Bool). cond b false (is_held inside m w)) (ne_eqb w u wu)

  -- a corner isn't what the triangle lacks
  not_corner : (u w : ℕ) (t : Tri) → has_corner u t ≡ false → has_corner w t ≡ true → w ≢ u
  not_corner u w t away at e = both_ways (has_corner u t) away (subst (λ z. has_corner z t ≡ true) e at)

  -- a collapse keeps the rim
  collapse_rim : (m : Mesh) (u v : ℕ) → IsOrderedManifold m → PairPassed inside m u v → KeepsRim inside m (collapsed m u v)
  unfolding AtCorners
  collapse_rim m u v good pair =
      let n = collapsed m u v in
      let stays : (t : Tri) → has_corner u t ≡ false → is_rim inside n t ≡ is_rim inside m t = λ t away.
      let a = held_same m u v t.a (not_corner u t.a t away (corner_a t.a t refl)) in
      let b = held_same m u v t.b (not_corner u t.b t away (corner_b t.b t refl)) in
      let c = held_same m u v t.c (not_corner u t.c t away (corner_c t.c t refl)) in
      λ i. (a i || (b i || (c i || false))) && not (a i && (b i && (c i && true))) in
      let one : (w : ℕ) → is_held inside m w ≡ true → is_held inside n (renamed u v w) ≡ true = λ w h. held_renamed inside m u v w pair.apart pair.held pair.onto_held ∙ h in
      record {
        tris = pass_collapsed u v (is_rim inside m) (is_rim inside n) m.tris good.sorted (turned_of m good.manifold) (record {
          gone = λ t i at. whole_no_rim inside m t (whole_at inside m t (free_whole inside m u t pair.free i at));
          put = λ t i at. let all = free_whole inside m u t pair.free i at in
              whole_no_rim inside n (turned (substituted u v t)) (all-turned (is_held inside n) (substituted u v t) (whole_at inside n (substituted u v t) (one t.a all.0, one t.b all.1, one t.c all.2)));
          others = stays;
        });
        vertices = λ t w on at.
            let wu = rim_away inside m u w t pair.free on at in
            let wv = rim_away inside m v w t pair.onto_free on at in
            get-away m u v w wu ∙ ap (λ (b : Bool). cond b (option_map (taking m u) (finite.get m.vertices v)) (finite.get m.vertices w)) (ne_eqb w v wv);
      }

  -- ---- moves
  -- a vertex that moves within the area is held still
  to_inside : (o : Option Vertex) (to : Point) → inside to ≡ true → held_in inside o ≡ true → held_in inside (option_map {T = Vertex} (λ x. record x { point = to }) o) ≡ held_in inside o
  to_inside None to h k = refl
  to_inside (Some x) to h k = h ∙ sym k

  -- a move keeps it
  move_rim : (m : Mesh) (v : ℕ) (to : Point) → is_held inside m v ≡ true → is_free inside m v ≡ true → inside to ≡ true → KeepsRim inside m (moved m v to)
  move_rim m v to hv free here =
      let f : Vertex → Vertex = λ x. record x { point = to } in
      let same : (w : ℕ) → is_held inside (moved m v to) w ≡ is_held inside m w = λ w. held-with inside m v w f (to_inside (finite.get m.vertices v) to here hv) in
      record {
        tris = filter_agree (is_rim inside (moved m v to)) (is_rim inside m) (λ t i. (same t.a i || (same t.b i || (same t.c i || false))) && not (same t.a i && (same t.b i && (same t.c i && true)))) m.tris;
        vertices = λ t w on at. get-with m v w f ∙ ap (λ (b : Bool). cond b (option_map f (finite.get m.vertices v)) (finite.get m.vertices w)) (ne_eqb w v (rim_away inside m v w t free on at));
      }

  -- ---- flips
  -- a flip keeps it
  flip_rim : (m : Mesh) (a b c d : ℕ) → IsOrderedManifold m → PairPassed inside m a b → opposites m.tris a b ≡ Some (c, d) → KeepsRim inside m (with_flipped m a b c d)
  unfolding AtCorners
  flip_rim m a b c d good pair ends =
      let s : Tri = record { a = a; b = d; c = c } in
      let t : Tri = record { a = d; b = b; c = c } in
      let two = ends_of m.tris a b c d ends in
      let hc = apex_held inside m a b c pair.free two.0 in
      let hd = apex_held inside m b a d pair.onto_free two.1 in
      record {
        tris = pass_flipped a b c d (is_rim inside m) m.tris good.sorted
            (whole_no_rim inside m (turned s) (all-turned (is_held inside m) s (whole_at inside m s (pair.held, hd, hc))))
            (whole_no_rim inside m (turned t) (all-turned (is_held inside m) t (whole_at inside m t (hd, pair.onto_held, hc))))
            (λ r i both. whole_no_rim inside m r (whole_at inside m r (free_whole inside m a r pair.free i (and_parts (has_corner a r) (has_corner b r) both).0)));
        vertices = λ r w on at. refl;
      }

  -- ---- one after another
  -- no change, and one after another
  rim_same : (m : Mesh) → KeepsRim inside m m
  rim_same m = record { tris = refl; vertices = λ t w on at. refl }

  rim_both : (m n k : Mesh) → KeepsRim inside m n → KeepsRim inside n k → KeepsRim inside m k
  rim_both m n k f g = record { tris = g.tris ∙ f.tris; vertices = λ t w on at. g.vertices t w (subst (λ ts. Contains ts t) (sym f.tris) on) at ∙ f.vertices t w on at }

  -- the collapses of a simplification
  steps_rim : (most : ℤ) (target : ℕ) (ss : List Step) (m : Mesh) → IsOrderedManifold m → AreLeastSteps inside m most target ss → KeepsRim inside m (collapsed_by m ss)
  steps_rim most target [] m good least = rim_same m
  steps_rim most target (s ∷ ss) m good least =
      let made = ap is_done least.1 in
      let n = collapsed m s.u s.v in
      let good_n : IsOrderedManifold n = record { manifold = (collapse_keeps inside m s.u s.v most good.manifold made).manifold; sorted = collapsed_sorted s.u s.v m.tris } in
      rim_both m n (collapsed_by n ss) (collapse_rim m s.u s.v good (collapse_passed inside m s.u s.v most made).pair) (steps_rim most target ss n good_n least.3)

  -- an edit that is refused changes nothing
  rim_if : (m n : Mesh) (r : Reply) → (is_done r ≡ true → KeepsRim inside m n) → KeepsRim inside m (cond (is_done r) n m)
  rim_if m n r h = elim (is_done r) as (λ b. is_done r ≡ b → KeepsRim inside m (cond b n m)) [ true ↦ h | false ↦ λ _. rim_same m ] refl

  -- each edit
  edit_rim : (m : Mesh) (e : Edit) → IsOrderedManifold m → KeepsRim inside m (after m e (verdict inside m e))
  edit_rim m (Move v to) good = rim_if m (moved m v to) (move_verdict inside m v to) (λ made. let p = move_passed inside m v to made in move_rim m v to p.0 p.2 p.1)
  edit_rim m (Collapse u v most) good = rim_if m (collapsed m u v) (collapse_verdict inside m u v most) (λ made. collapse_rim m u v good (collapse_passed inside m u v most made).pair)
  edit_rim m (Flip a b) good =
      rim_if m (flipped m a b) (flip_verdict inside m a b) (λ made.
      let p = flip_passed inside m a b made in
      subst (KeepsRim inside m) (sym (is_flipped m a b p.c p.d p.ends)) (flip_rim m a b p.c p.d good p.pair p.ends))
  edit_rim m (Simplify most target) good = steps_rim most target (simplified inside m most target).steps m good (least_of_all inside m most target)

  -- edits in a row
  pub work_rim : (m : Mesh) (es : List Edit) → IsOrderedManifold m → KeepsRim inside m (work inside m es).mesh
  work_rim m [] good = rim_same m
  work_rim m (e ∷ es) good =
      let n = after m e (verdict inside m e) in rim_both m n (work inside n es).mesh (edit_rim m e good) (work_rim n es (edit_ordered inside m e good))
