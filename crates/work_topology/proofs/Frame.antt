-- Work in one area leaves what a disjoint area sees.
use Rattle.std.specs.FinMap as finite
use Rattle.collapse_topology.proofs.Meshes.{collapse_keeps}
use Rattle.edit_laws.proofs.FarPairs.{get-away}
use Rattle.edit_laws.proofs.Locality.{AtCorners, corners_at, free_around}
use Rattle.edit_laws.proofs.SeenEffects.{any-turned, get-with, held-collapsed, held-with, same_mesh, taking, touches_same}
use Rattle.edit_laws.proofs.SeenVerdicts.{apex_held, get-seen, held_in}
use Rattle.edit_steps.proofs.Passed.{PairPassed, collapse_passed, flip_passed, move_passed}
use Rattle.edit_steps.proofs.Simplification.{least_of_all}
use Rattle.face_rings.specs.Faces.{◌∈◌}
use Rattle.flip_topology.proofs.Meshes.{is_flipped, with_flipped}
use Rattle.mesh_data.specs.Edits.{AreLeastSteps, after, collapse_verdict, collapsed, collapsed_by, flip_verdict, flipped, is_done, is_free, is_held, move_verdict, moved, substituted, renamed, simplified, verdict}
use Rattle.mesh_data.specs.Links.{opposites}
use Rattle.mesh_data.specs.Mesh.{Mesh}
use Rattle.mesh_data.specs.Seen.{seen, touches}
use Rattle.mesh_data.specs.Triangles.{has_corner}
use Rattle.mesh_data.specs.Work.{work}
use Rattle.mesh_data.specs.declared.edits.Edit.{Edit}
use Rattle.mesh_data.specs.declared.edits.Edit.TheVariants.{Collapse, Flip, Move, Simplify}
use Rattle.mesh_data.specs.declared.edits.Reply.{Reply}
use Rattle.mesh_data.specs.declared.edits.Step.{Step}
use Rattle.oemm_octree.specs.declared.points.Point.{Point}
use Rattle.mesh_data.specs.declared.geometry.Tri.{Tri}
use Rattle.mesh_data.specs.declared.geometry.Vertex.{Vertex}
use Rattle.std.proofs.Common.{Bool, List, None, Option, Some, [], ap, cond, eqb, eqb-true, false, ne_eqb, refl, sym, true, ℕ, ℤ, ◌||◌, ◌∙◌, ◌∷◌, ◌≡◌, ◌≢◌}
use Rattle.std.proofs.lemmas.Bool.{and_parts, false≢true}
use Rattle.std.proofs.lemmas.List.Elements.{filter_agree}
use Rattle.std.specs.Cmp.{nat_cmp_total}
use Rattle.std.specs.FinMap.{nat_cmp-IsAntisymmetric}
use Rattle.std.specs.Option.{option_map}
use Rattle.triangle_edits.proofs.Turns.{ends_of}
use Rattle.work_topology.proofs.Kept.{collapsed_sorted, corner_in, pass_collapsed, pass_flipped}
use Rattle.work_topology.proofs.Ordered.{edit_ordered, turned_of}
use Rattle.work_topology.specs.Ordered.{IsOrderedManifold}

-- no name of the triangle is held
none_held : (other : Point → Bool) (m : Mesh) (t : Tri) → AtCorners (λ w. is_held other m w ≡ false) t → touches other m t ≡ false
unfolding AtCorners
none_held other m t h = λ i. h.0 i || (h.1 i || (h.2 i || false))

-- with v for u
at_renamed : (P : ℕ → Type 0) (u v : ℕ) (t : Tri) → P v → AtCorners P t → AtCorners P (substituted u v t)
unfolding AtCorners
at_renamed P u v t pv at = (one t.a at.0, one t.b at.1, one t.c at.2)
  where
    one : (w : ℕ) → P w → P (renamed u v w)
    one w pw = elim (eqb w u) as (λ b. P (cond b v w)) [ true ↦ pv | false ↦ pw ]

module _ (inside other : Point → Bool) (disjoint : (p : Point) → inside p ≡ true → other p ≡ false) where
  -- what is held here isn't held there
  not_other : (o : Option Vertex) → held_in inside o ≡ true → held_in other o ≡ false
  not_other None h = refl
  not_other (Some x) h = disjoint x.point h

  held_apart : (m : Mesh) (w : ℕ) → is_held inside m w ≡ true → is_held other m w ≡ false
  held_apart m w h = not_other (finite.get m.vertices w) h

  -- no name of a triangle at a free name is held by the other area
  apart_at : (m : Mesh) (u : ℕ) → is_free inside m u ≡ true → (t : Tri) → t ∈ m.tris → has_corner u t ≡ true → AtCorners (λ w. is_held other m w ≡ false) t
  apart_at m u free t i at =
      corners_at (λ w. is_held other m w ≡ false) u m.tris (held_apart m u (and_parts (is_held inside m u) _ free).0) (λ w near. held_apart m w (free_around inside m u free w near)) t at (λ w on. corner_in m.tris u w t i at on)

  -- ---- collapses
  -- the other area holds the same names
  held_stays : (m : Mesh) (u v w : ℕ) → is_held inside m u ≡ true → is_held other (collapsed m u v) w ≡ is_held other m w
  held_stays m u v w hu =
      held-collapsed other m u v w
      ∙ elim (eqb w u) as (λ b. eqb w u ≡ b → cond b false (is_held other m w) ≡ is_held other m w) [
        | true ↦ λ e. sym (ap (is_held other m) (eqb-true w u e) ∙ held_apart m u hu)
        | false ↦ λ _. refl
      ] refl

  -- it sees the same mesh
  frame_collapsed : (m : Mesh) (u v : ℕ) → IsOrderedManifold m → PairPassed inside m u v → seen other (collapsed m u v) ≡ seen other m
  frame_collapsed m u v good pair =
      let n = collapsed m u v in
      let same : (w : ℕ) → is_held other n w ≡ is_held other m w = λ w. held_stays m u v w pair.held in
      let at : (w : ℕ) → finite.get (seen other n).vertices w ≡ finite.get (seen other m).vertices w = λ w.
      get-seen other n w
      ∙ ap (λ (b : Bool). cond b (finite.get n.vertices w) None) (same w)
      ∙ elim (is_held other m w) as (λ b. is_held other m w ≡ b → cond b (finite.get n.vertices w) None ≡ cond b (finite.get m.vertices w) None) [
        | true ↦ λ h.
            let wu : w ≢ u = λ e. false≢true (sym (held_apart m u pair.held) ∙ ap (is_held other m) (sym e) ∙ h) in
            let wv : w ≢ v = λ e. false≢true (sym (held_apart m v pair.onto_held) ∙ ap (is_held other m) (sym e) ∙ h) in
            get-away m u v w wu ∙ ap (λ (b : Bool). cond b (option_map (taking m u) (finite.get m.vertices v)) (finite.get m.vertices w)) (ne_eqb w v wv)
        | false ↦ λ _. refl
      ] refl
      ∙ sym (get-seen other m w) in
      let tris = pass_collapsed u v (touches other m) (touches other m) m.tris good.sorted (turned_of m good.manifold) (record {
        gone = λ t i at. none_held other m t (apart_at m u pair.free t i at);
        put = λ t i at. any-turned (is_held other m) (substituted u v t) ∙ none_held other m (substituted u v t) (at_renamed (λ w. is_held other m w ≡ false) u v t (held_apart m v pair.onto_held) (apart_at m u pair.free t i at));
        others = λ t away. refl;
      }) in
      same_mesh (seen other n) (seen other m) (finite.same_map nat_cmp_total nat_cmp-IsAntisymmetric _ _ at)
      (filter_agree (touches other n) (touches other m) (λ t. touches_same other n m t same) n.tris ∙ tris)

  -- ---- moves
  -- a vertex that moves within the area isn't held by the other one
  to_other : (o : Option Vertex) (to : Point) → inside to ≡ true → held_in inside o ≡ true → held_in other (option_map {T = Vertex} (λ x. record x { point = to }) o) ≡ held_in other o
  to_other None to h k = refl
  to_other (Some x) to h k = disjoint to h ∙ sym (disjoint x.point k)

  -- it sees the same mesh
  frame_moved : (m : Mesh) (v : ℕ) (to : Point) → is_held inside m v ≡ true → inside to ≡ true → seen other (moved m v to) ≡ seen other m
  frame_moved m v to hv here =
      let n = moved m v to in
      let f : Vertex → Vertex = λ x. record x { point = to } in
      let same : (w : ℕ) → is_held other n w ≡ is_held other m w = λ w. held-with other m v w f (to_other (finite.get m.vertices v) to here hv) in
      let at : (w : ℕ) → finite.get (seen other n).vertices w ≡ finite.get (seen other m).vertices w = λ w.
      get-seen other n w
      ∙ ap (λ (b : Bool). cond b (finite.get n.vertices w) None) (same w)
      ∙ elim (is_held other m w) as (λ b. is_held other m w ≡ b → cond b (finite.get n.vertices w) None ≡ cond b (finite.get m.vertices w) None) [
        | true ↦ λ h.
            let wv : w ≢ v = λ e. false≢true (sym (held_apart m v hv) ∙ ap (is_held other m) (sym e) ∙ h) in
            get-with m v w f ∙ ap (λ (b : Bool). cond b (option_map f (finite.get m.vertices v)) (finite.get m.vertices w)) (ne_eqb w v wv)
        | false ↦ λ _. refl
      ] refl
      ∙ sym (get-seen other m w) in
      same_mesh (seen other n) (seen other m) (finite.same_map nat_cmp_total nat_cmp-IsAntisymmetric _ _ at)
      (filter_agree (touches other n) (touches other m) (λ t. touches_same other n m t same) m.tris)

  -- ---- flips
  -- it sees the same mesh
  frame_flipped : (m : Mesh) (a b c d : ℕ) → IsOrderedManifold m → PairPassed inside m a b → opposites m.tris a b ≡ Some (c, d) → seen other (flipped m a b) ≡ seen other m
  unfolding AtCorners
  frame_flipped m a b c d good pair ends =
      let two = ends_of m.tris a b c d ends in
      let na = held_apart m a pair.held in
      let nb = held_apart m b pair.onto_held in
      let nc = held_apart m c (apex_held inside m a b c pair.free two.0) in
      let nd = held_apart m d (apex_held inside m b a d pair.onto_free two.1) in
      let s : Tri = record { a = a; b = d; c = c } in
      let t : Tri = record { a = d; b = b; c = c } in
      ap (seen other) (is_flipped m a b c d ends)
      ∙ same_mesh (seen other (with_flipped m a b c d)) (seen other m) refl (pass_flipped a b c d (touches other m) m.tris good.sorted
      (any-turned (is_held other m) s ∙ none_held other m s (na, nd, nc)) (any-turned (is_held other m) t ∙ none_held other m t (nd, nb, nc))
      (λ r i both. none_held other m r (apart_at m a pair.free r i (and_parts (has_corner a r) (has_corner b r) both).0)))

  -- ---- edits in a row
  -- the collapses of a simplification
  steps_frame : (most : ℤ) (target : ℕ) (ss : List Step) (m : Mesh) → IsOrderedManifold m → AreLeastSteps inside m most target ss → seen other (collapsed_by m ss) ≡ seen other m
  steps_frame most target [] m good least = refl
  steps_frame most target (s ∷ ss) m good least =
      let made = ap is_done least.1 in
      let good_n : IsOrderedManifold (collapsed m s.u s.v) = record { manifold = (collapse_keeps inside m s.u s.v most good.manifold made).manifold; sorted = collapsed_sorted s.u s.v m.tris } in
      steps_frame most target ss (collapsed m s.u s.v) good_n least.3 ∙ frame_collapsed m s.u s.v good (collapse_passed inside m s.u s.v most made).pair

  -- an edit that is refused changes nothing
  frame_if : (m n : Mesh) (r : Reply) → (is_done r ≡ true → seen other n ≡ seen other m) → seen other (cond (is_done r) n m) ≡ seen other m
  frame_if m n r h = elim (is_done r) as (λ b. is_done r ≡ b → seen other (cond b n m) ≡ seen other m) [ true ↦ h | false ↦ λ _. refl ] refl

  -- each edit
  edit_frame : (m : Mesh) (e : Edit) → IsOrderedManifold m → seen other (after m e (verdict inside m e)) ≡ seen other m
  edit_frame m (Move v to) good = frame_if m (moved m v to) (move_verdict inside m v to) (λ made. let p = move_passed inside m v to made in frame_moved m v to p.0 p.1)
  edit_frame m (Collapse u v most) good = frame_if m (collapsed m u v) (collapse_verdict inside m u v most) (λ made. frame_collapsed m u v good (collapse_passed inside m u v most made).pair)
  edit_frame m (Flip a b) good = frame_if m (flipped m a b) (flip_verdict inside m a b) (λ made. let p = flip_passed inside m a b made in frame_flipped m a b p.c p.d good p.pair p.ends)
  edit_frame m (Simplify most target) good = steps_frame most target (simplified inside m most target).steps m good (least_of_all inside m most target)

  -- edits in a row
  pub work_frame : (m : Mesh) (es : List Edit) → IsOrderedManifold m → seen other (work inside m es).mesh ≡ seen other m
  work_frame m [] good = refl
  work_frame m (e ∷ es) good = let n = after m e (verdict inside m e) in work_frame n es (edit_ordered inside m e good) ∙ edit_frame m e good
