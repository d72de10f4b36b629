-- What the parts of a fragment tell of the mesh of its patch.
use Rattle.std.proofs.Common.{◌≡◌, ◌≢◌, ℕ, ◌+◌, ◌≤◌, Bool, true, false, not, ◌&&◌, eqb, is_some, length, List, Some, None, sym, ap, ◌∙◌, refl, subst}
use Rattle.std.proofs.lemmas.Bool.{and_parts, false≢true, not-true}
use Rattle.std.specs.List.{find, list_any}
use Rattle.std.specs.Option.{option_map, option_map_or}
use Rattle.oemm_lists.specs.Numbers.{among}
use Rattle.oemm_lists.specs.Ascending.{in_order}
use Rattle.oemm_octree.specs.declared.points.Point.{Point}
use Rattle.oemm_octree.specs.Octree.{is_inside}
use Rattle.mesh_data.specs.declared.geometry.Tri.{Tri}
use Rattle.mesh_data.specs.declared.geometry.Vertex.{Vertex}
use Rattle.mesh_data.specs.declared.rings.Ring.{Ring}
use Rattle.mesh_data.specs.Edits.{folds_with, is_free, is_held, plane_in, point_or_origin, substituted}
use Rattle.mesh_data.specs.Links.{is_closed_by_three, link_violation}
use Rattle.mesh_data.specs.Manifold.{is_corner}
use Rattle.mesh_data.specs.Mesh.{origin}
use Rattle.mesh_data.specs.Planes.{added, folds, most_planes, plane_of, sums_value}
use Rattle.mesh_data.specs.RingChanges.{IsOriented}
use Rattle.mesh_data.specs.Rings.{IsRing, has_closed_ring, link, path_edges, ring_path}
use Rattle.mesh_data.specs.Triangles.{has_corner, tri_cmp}
use Rattle.triangle_lists.proofs.Candidates.{going_by_found}
use Rattle.triangle_edits.proofs.ThreeRings.{three_found}
use Rattle.edit_steps.specs.Passed.{PairPassed}
use Rattle.half_edge.specs.Meshes.{is_held as in_face}
use Rattle.link_test.specs.declared.link.Link.{Link}
use Rattle.link_test.specs.declared.link.Link.TheVariants.{Good, Shared, Closed}
use Rattle.link_test.specs.Links.{AreRings, Tells}
use Rattle.sheet_data.specs.declared.patches.Mixed.{Mixed}
use Rattle.sheet_data.specs.declared.patches.Patch.{Patch}
use Rattle.sheet_data.specs.Summed.{SummedVertex}
use Rattle.mesh_sheets.specs.Assembled.{has_name}
use Rattle.patch_edits.specs.PatchMesh.{cost_on, mesh_of, placed, sums_at}
use Rattle.patch_edits.proofs.Told.{get_of}
use Rattle.mesh_edits.specs.declared.fragment.Fragment.TheInside.{Inside}
use Rattle.mesh_edits.specs.Fragments.{Fragmented, IsFragment, IsPatchOn, fragmented}
use Rattle.mesh_edits.specs.Rounds.{folds_by, place_of, plane_by, round, shared_in}
use Rattle.mesh_edits.proofs.Near.{near_first, near_second, no_ring, no_three}
use Rattle.mesh_edits.proofs.On.{free_on, held_on, shaped_on, sorted_on}
use Rattle.mesh_edits.proofs.Entries.{some_found}
use Rattle.mesh_edits.proofs.FirstRound.{find_round}
use Rattle.mesh_edits.proofs.Sums.{two_at}

-- the point of a name on the mesh of a patch
pub point_of_patch : (p : Patch) (v : ℕ) → point_or_origin (mesh_of p) v ≡ place_of p.vertices v
point_of_patch p v =
    ap (λ o. option_map_or (λ q. q) (option_map (λ (x : Vertex). x.point) o) origin) (get_of p v)
    ∙ elim (find (λ (x : SummedVertex). eqb v x.name) p.vertices) as (λ o. option_map_or (λ q. q) (option_map (λ (x : Vertex). x.point) (option_map (λ x. (placed x).1) o)) origin ≡ option_map_or (λ (x : SummedVertex). x.point) o origin) [ None ↦ refl | Some x ↦ refl ]

-- which triangles a collapse folds
pub folds_of_patch : (p : Patch) (u v : ℕ) → folds_by p.vertices u v ≡ folds_with (mesh_of p) u v
folds_of_patch p u v =
    let at : (w : ℕ) → place_of p.vertices w ≡ point_or_origin (mesh_of p) w = λ w. sym (point_of_patch p w) in
    let plane : (t : Tri) → plane_by p.vertices t ≡ plane_in (mesh_of p) t = λ t. λ i. plane_of (at t.a i) (at t.b i) (at t.c i) in
    λ i t. (has_corner u t && not (has_corner v t)) && folds (plane t i) (plane (substituted u v t) i)

pub folds_at : (vs : List SummedVertex) (u v : ℕ) (t : Tri) → folds_by vs u v t ≡ true → has_corner u t ≡ true
folds_at vs u v t h =
    elim (has_corner u t) as (λ b. ((b && not (has_corner v t)) && folds (plane_by vs t) (plane_by vs (substituted u v t))) ≡ true → b ≡ true) [
      | true ↦ λ _. refl
      | false ↦ λ no. no
    ] h

-- the name that the link condition tells
shared_told : (ts : List Tri) (u v : ℕ) (link : Link) → Tells ts u v link → shared_in link ≡ link_violation ts u v
shared_told ts u v (Shared w) told = sym told
shared_told ts u v Closed told = sym told.0
shared_told ts u v Good told = sym told.0

-- a vertex that is alone is in no triangle
pub alone_out : (p : Patch) (v : ℕ) → (has_name p.vertices v && not (is_corner (mesh_of p).tris v)) ≡ true → is_corner (mesh_of p).tris v ≡ false
alone_out p v h = not-true (is_corner (mesh_of p).tris v) (and_parts (has_name p.vertices v) (not (is_corner (mesh_of p).tris v)) h).1

pub held_has : (inside : Point → Bool) (p : Patch) (v : ℕ) → is_held inside (mesh_of p) v ≡ true → has_name p.vertices v ≡ true
held_has inside p v on =
    sym (some_found v p.vertices)
    ∙ elim (find (λ (x : SummedVertex). eqb v x.name) p.vertices) as (λ o. option_map_or inside (option_map (λ (x : Vertex). x.point) (option_map (λ x. (placed x).1) o)) false ≡ true → is_some o ≡ true) [
      | None ↦ λ h. h
      | Some x ↦ λ _. refl
    ] (ap (λ o. option_map_or inside (option_map (λ (x : Vertex). x.point) o) false) (sym (get_of p v)) ∙ on)

-- a held name that isn't alone is in a triangle
pub not_alone_in : (inside : Point → Bool) (p : Patch) (v : ℕ) → is_held inside (mesh_of p) v ≡ true → (has_name p.vertices v && not (is_corner (mesh_of p).tris v)) ≡ false → is_corner (mesh_of p).tris v ≡ true
not_alone_in inside p v on h =
    elim (is_corner (mesh_of p).tris v) as (λ b. (has_name p.vertices v && not b) ≡ false → b ≡ true) [
      | true ↦ λ _. refl
      | false ↦ λ no. absurd (false≢true (sym no ∙ (λ k. held_has inside p v on k && true)))
    ] h

module _ (i : Inside) (is : IsFragment i.vertices i.halves i.mixed i.rim i.near i.area) (now : Fragmented) (told : fragmented i.vertices i.halves i.mixed i.near i.area ≡ now) where
  abbrev holds : Point → Bool
  holds = is_inside now.area

  pub on_now : IsPatchOn now.area now.patch
  on_now = subst (λ (f : Fragmented). IsPatchOn f.area f.patch) told is.formed

  pub tris_now : i.halves.tris ≡ (mesh_of now.patch).tris
  tris_now = is.tris ∙ ap (λ (f : Fragmented). (mesh_of f.patch).tris) told

  pub vertices_now : i.vertices ≡ now.patch.vertices
  vertices_now = ap (λ (f : Fragmented). f.patch.vertices) told

  pub mixed_now : i.mixed ≡ now.patch.mixed
  mixed_now = ap (λ (f : Fragmented). f.patch.mixed) told

  pub held_now : (v : ℕ) → has_name i.vertices v ≡ is_held holds (mesh_of now.patch) v
  held_now v = ap (λ vs. has_name vs v) vertices_now ∙ sym (held_on now.area now.patch on_now v)

  pub free_now : (v : ℕ) → is_held holds (mesh_of now.patch) v ≡ true → not (among v i.rim) ≡ is_free holds (mesh_of now.patch) v
  free_now v on =
      ap not (is.rim_has v ∙ ap (λ (xs : List Mixed). list_any (λ (x : Mixed). has_corner v x.tri) xs) mixed_now) ∙ sym (free_on now.area now.patch on_now v on)

  -- ---- names in no triangle

  pub alone_now : (v : ℕ) → has_name i.vertices v ≡ true → in_face i.halves v ≡ false → is_corner (mesh_of now.patch).tris v ≡ false
  alone_now v on out =
      elim (is_corner i.halves.tris v) as (λ b. is_corner i.halves.tris v ≡ b → is_corner (mesh_of now.patch).tris v ≡ false) [
        | true ↦ λ at. absurd (false≢true (sym out ∙ is.held v on at))
        | false ↦ λ away. ap (λ (ts : List Tri). is_corner ts v) (sym tris_now) ∙ away
      ] refl

  pub alone_is : (v : ℕ) (r : Bool) → has_name i.vertices v ≡ true → r ≡ in_face i.halves v → (r ≡ true → is_corner i.halves.tris v ≡ true)
      → not r ≡ (has_name now.patch.vertices v && not (is_corner (mesh_of now.patch).tris v))
  alone_is v true on is corner =
      λ k. sym (ap (λ vs. has_name vs v) (sym vertices_now) ∙ on) k && not (sym (ap (λ (ts : List Tri). is_corner ts v) (sym tris_now) ∙ corner refl) k)
  alone_is v false on is corner =
      λ k. sym (ap (λ vs. has_name vs v) (sym vertices_now) ∙ on) k && not (sym (alone_now v on (sym is)) k)

  pub not_there : (v : ℕ) → has_name i.vertices v ≡ false → false ≡ (has_name now.patch.vertices v && not (is_corner (mesh_of now.patch).tris v))
  not_there v out = λ k. sym (ap (λ vs. has_name vs v) (sym vertices_now) ∙ out) k && not (is_corner (mesh_of now.patch).tris v)

  -- and one in some is held by the half-edges
  pub in_now : (v : ℕ) → is_held holds (mesh_of now.patch) v ≡ true → is_corner (mesh_of now.patch).tris v ≡ true → in_face i.halves v ≡ true
  in_now v on corner = is.held v (held_now v ∙ on) (ap (λ (ts : List Tri). is_corner ts v) tris_now ∙ corner)

  pub first_in : (u v : ℕ) → PairPassed holds (mesh_of now.patch) u v → in_face i.halves u ≡ true
  first_in u v passed = in_now u passed.held (near_first (mesh_of now.patch).tris u v passed.near)

  pub second_in : (u v : ℕ) → PairPassed holds (mesh_of now.patch) u v → in_face i.halves v ≡ true
  second_in u v passed = in_now v passed.onto_held (near_second (mesh_of now.patch).tris u v passed.near)

  pub no_ring_now : (v : ℕ) → is_held holds (mesh_of now.patch) v ≡ true → in_face i.halves v ≡ false → false ≡ has_closed_ring (mesh_of now.patch).tris v
  no_ring_now v on out = sym (no_ring v (mesh_of now.patch).tris (alone_now v (held_now v ∙ on) out))

  pub no_three_now : (v : ℕ) → is_held holds (mesh_of now.patch) v ≡ true → in_face i.halves v ≡ false → false ≡ is_closed_by_three (mesh_of now.patch).tris v
  no_three_now v on out = sym (no_three v (mesh_of now.patch).tris (alone_now v (held_now v ∙ on) out))

  -- ---- rings

  pub ring_now : (v : ℕ) (r : Ring) → IsRing i.halves.tris v r → IsRing (mesh_of now.patch).tris v r
  ring_now v r ring = subst (λ (ts : List Tri). IsRing ts v r) tris_now ring

  pub closed_now : (v : ℕ) (r : Ring) → IsRing i.halves.tris v r → has_closed_ring (mesh_of now.patch).tris v ≡ true → r.closed ≡ true
  closed_now v r ring closed = going_by_found (link v (mesh_of now.patch).tris) r (ring_now v r ring) ∙ closed

  pub violation_now : (u v : ℕ) (of_u of_v : List ℕ) (closed_u closed_v : Bool) (link : Link) → PairPassed holds (mesh_of now.patch) u v → has_closed_ring (mesh_of now.patch).tris u ≡ true
      → IsOriented i.halves.tris → IsRing i.halves.tris u (record { names = of_u; closed = closed_u }) → IsRing i.halves.tris v (record { names = of_v; closed = closed_v })
      → ((ts : List Tri) → AreRings ts of_u of_v closed_v u v → Tells ts u v link) → shared_in link ≡ link_violation (mesh_of now.patch).tris u v
  violation_now u v of_u of_v closed_u closed_v link passed closed oriented ring_u ring_v told =
      let ts = (mesh_of now.patch).tris in
      let shut : closed_u ≡ true = closed_now u (record { names = of_u; closed = closed_u }) ring_u closed in
      shared_told ts u v link (told ts (record {
        oriented = subst IsOriented tris_now oriented;
        differ = passed.apart;
        near = passed.near;
        of_u = subst (λ (b : Bool). IsRing ts u (record { names = of_u; closed = b })) shut (ring_now u (record { names = of_u; closed = closed_u }) ring_u);
        of_v = ring_now v (record { names = of_v; closed = closed_v }) ring_v;
      }))

  pub three_now : (v : ℕ) (r : Ring) → IsRing i.halves.tris v r → (r.closed && eqb (length r.names) 3) ≡ is_closed_by_three (mesh_of now.patch).tris v
  three_now v r ring = let ts = (mesh_of now.patch).tris in three_found ts v (link v ts) (Some r) r refl (ring_now v r ring) refl

  pub folding_now : (u v : ℕ) (r : Ring) → IsRing i.halves.tris u r
      → find (folds_by i.vertices u v) (in_order tri_cmp (round u (path_edges (ring_path r)))) ≡ find (folds_with (mesh_of now.patch) u v) (mesh_of now.patch).tris
  folding_now u v r ring =
      find_round (mesh_of now.patch).tris (shaped_on now.area now.patch on_now) u r (ring_now u r ring) (folds_by i.vertices u v) (folds_at i.vertices u v) (sorted_on now.area now.patch on_now)
      ∙ ap (λ (p : Tri → Bool). find p (mesh_of now.patch).tris) (ap (λ vs. folds_by vs u v) vertices_now ∙ folds_of_patch now.patch u v)

  -- ---- costs

  pub few_now : (u v : ℕ) → u ≢ v → (sums_at i.vertices u).planes + (sums_at i.vertices v).planes ≤ most_planes
  few_now u v apart = two_at u v i.vertices most_planes apart is.formed.formed.planes

  pub cost_now : (u v : ℕ) → sums_value (added (sums_at i.vertices u) (sums_at i.vertices v)) (place_of i.vertices v) ≡ cost_on now.patch u v
  cost_now u v =
      (λ k. sums_value (added (sums_at (vertices_now k) u) (sums_at (vertices_now k) v)) (place_of (vertices_now k) v))
      ∙ ap (λ q. sums_value (added (sums_at now.patch.vertices u) (sums_at now.patch.vertices v)) q) (sym (point_of_patch now.patch v))
