-- The held names round a name of a fragment.
use Rattle.std.proofs.Common.{◌≡◌, ◌≢◌, ℕ, Bool, true, false, cond, not, ◌||◌, eqb, List, [], ◌∷◌, Result, Ok, Err, OnOk, sym, ap, ◌∙◌, refl, subst, inl, inr}
use Rattle.std.proofs.lemmas.Bool.{and_from, and_parts, eqb-true, false≢true, not-true, or_cases, or_left, or_parts, or_right}
use Rattle.std.specs.List.{AllByRecursion, IsDistinct, filter}
use Rattle.oemm_lists.specs.Numbers.{among}
use Rattle.oemm_octree.specs.declared.points.Point.{Point}
use Rattle.oemm_octree.specs.Octree.{is_inside}
use Rattle.mesh_data.specs.declared.geometry.Tri.{Tri}
use Rattle.mesh_data.specs.declared.rings.Ring.{Ring}
use Rattle.mesh_data.specs.Edits.{is_held}
use Rattle.mesh_data.specs.Links.{are_neighbours, has_both}
use Rattle.mesh_data.specs.Mesh.{Mesh}
use Rattle.mesh_data.specs.RingChanges.{IsOriented}
use Rattle.mesh_data.specs.Rings.{IsRing, are_distinct}
use Rattle.mesh_data.specs.Triangles.{has_corner}
use Rattle.triangle_lists.proofs.Paths.{eqb_comm}
use Rattle.face_rings.proofs.Around.{near_on, on_near}
use Rattle.face_rings.proofs.Corners.{in_any, near_face}
use Rattle.face_rings.proofs.Faces.{Near, has_turns}
use Rattle.face_rings.proofs.Fans.{among_in, in_among}
use Rattle.face_rings.proofs.Named.{Different}
use Rattle.face_rings.proofs.Oriented.{different_on}
use Rattle.half_edge.specs.Meshes.{is_held as in_face}
use Rattle.mesh_sheets.specs.Assembled.{has_name}
use Rattle.queued_simplify.specs.Filled.{AreHeldAround}
use Rattle.patch_edits.specs.PatchMesh.{mesh_of}
use Rattle.mesh_edits.specs.declared.fragment.Fragment.TheInside.{Inside}
use Rattle.mesh_edits.specs.Fragments.{Fragmented, IsFragment, fragmented}
use Rattle.mesh_edits.proofs.Near.{near_first}
use Rattle.mesh_edits.proofs.Parts.{held_now, in_now, ring_now, tris_now}

-- what follows of what a call did that may have wanted memory
pub on_ok : {T E P Q : Type 0} (o : Result T E) → (P → Q) → OnOk o P → OnOk o Q
on_ok (Ok x) f p = f p
on_ok (Err refused) f p = tt

-- ---- names that are picked

kept_in : (p : ℕ → Bool) (ns : List ℕ) (y : ℕ) → among y (filter p ns) ≡ true → (among y ns ≡ true) × (p y ≡ true)
kept_in p [] y h = absurd (false≢true h)
kept_in p (n ∷ ns) y h =
    elim (p n) as (λ b. p n ≡ b → among y (cond b (n ∷ filter p ns) (filter p ns)) ≡ true → ((eqb n y || among y ns) ≡ true) × (p y ≡ true)) [
      | true ↦ λ on k. elim (or_cases (eqb n y) (among y (filter p ns)) k) [
        | inl here ↦ (or_left (eqb n y) (among y ns) here, subst (λ z. p z ≡ true) (eqb-true n y here) on)
        | inr later ↦ let rest = kept_in p ns y later in (or_right (eqb n y) (among y ns) rest.0, rest.1)
      ]
      | false ↦ λ _ k. let rest = kept_in p ns y k in (or_right (eqb n y) (among y ns) rest.0, rest.1)
    ] refl h

in_kept : (p : ℕ → Bool) (ns : List ℕ) (y : ℕ) → among y ns ≡ true → p y ≡ true → among y (filter p ns) ≡ true
in_kept p [] y h on = absurd (false≢true h)
in_kept p (n ∷ ns) y h on =
    elim (or_cases (eqb n y) (among y ns) h) [
      | inl here ↦ ap (λ b. among y (cond b (n ∷ filter p ns) (filter p ns))) (ap p (eqb-true n y here) ∙ on) ∙ or_left (eqb n y) (among y (filter p ns)) here
      | inr later ↦ elim (p n) as (λ b. among y (cond b (n ∷ filter p ns) (filter p ns)) ≡ true) [
        | true ↦ or_right (eqb n y) (among y (filter p ns)) (in_kept p ns y later on)
        | false ↦ in_kept p ns y later on
      ]
    ]

none_equal : (n : ℕ) (ns : List ℕ) → among n ns ≡ false → AllByRecursion (λ y. eqb n y ≡ false) ns
none_equal n [] h = tt
none_equal n (m ∷ ns) h = let parts = or_parts (eqb m n) (among n ns) h in (eqb_comm n m ∙ parts.0, none_equal n ns parts.1)

not_kept : (p : ℕ → Bool) (n : ℕ) (ns : List ℕ) → among n ns ≡ false → among n (filter p ns) ≡ false
not_kept p n ns out =
    elim (among n (filter p ns)) as (λ b. among n (filter p ns) ≡ b → b ≡ false) [
      | true ↦ λ on. absurd (false≢true (sym out ∙ (kept_in p ns n on).0))
      | false ↦ λ _. refl
    ] refl

pub kept_once : (p : ℕ → Bool) (ns : List ℕ) → are_distinct ns ≡ true → IsDistinct (λ x y. eqb x y) (filter p ns)
unfolding IsDistinct
kept_once p [] h = tt
kept_once p (n ∷ ns) h =
    let parts = and_parts (not (among n ns)) (are_distinct ns) h in
    elim (p n) as (λ b. IsDistinct (λ x y. eqb x y) (cond b (n ∷ filter p ns) (filter p ns))) [
      | true ↦ (none_equal n (filter p ns) (not_kept p n ns (not-true (among n ns) parts.0)), kept_once p ns parts.1)
      | false ↦ kept_once p ns parts.1
    ]

-- ---- neighbours

near_back : (ts : List Tri) (u y : ℕ) → Near ts u y → are_neighbours ts u y ≡ true
near_back ts u y (z, inl f) = in_any (has_both u y) ts f.0 f.1 (and_from (has_corner u f.0) (has_corner y f.0) (has_turns u f.0 u y z f.2 (inl refl)) (has_turns y f.0 u y z f.2 (inr (inl refl))))
near_back ts u y (z, inr f) = in_any (has_both u y) ts f.0 f.1 (and_from (has_corner u f.0) (has_corner y f.0) (has_turns u f.0 u z y f.2 (inl refl)) (has_turns y f.0 u z y f.2 (inr (inr refl))))

apart_near : (ts : List Tri) (u y : ℕ) → Different ts → Near ts u y → u ≢ y
apart_near ts u y different (z, inl f) = (different u y z f).0
apart_near ts u y different (z, inr f) = λ same. (different u z y f).2 (sym same)

on_ring : (ts : List Tri) (u : ℕ) (r : Ring) (y : ℕ) → IsRing ts u r → Near ts u y → among y r.names ≡ true
on_ring ts u r y ring (z, inl f) = in_among r.names y (on_near ts u r y z ring f).0
on_ring ts u r y ring (z, inr f) = in_among r.names y (on_near ts u r z y ring f).1

module _ (i : Inside) (is : IsFragment i.vertices i.halves i.mixed i.rim i.near i.area) (now : Fragmented) (told : fragmented i.vertices i.halves i.mixed i.near i.area ≡ now) where
  abbrev holds : Point → Bool
  holds = is_inside now.area

  abbrev m : Mesh
  m = mesh_of now.patch

  -- a name in no triangle has none round it
  pub none_around : (u : ℕ) → is_held holds m u ≡ true → in_face i.halves u ≡ false → AreHeldAround holds m u []
  none_around u on out y = (
    (λ no. absurd (false≢true no)),
    λ pair. absurd (false≢true (sym out ∙ in_now i is now told u on (near_first m.tris u y pair.near))),
  )

  -- and one with a ring the held names of it
  pub ring_around : (u : ℕ) (r : Ring) (names : List ℕ) → is_held holds m u ≡ true → IsOriented i.halves.tris → IsRing i.halves.tris u r
      → names ≡ filter (has_name i.vertices) r.names → AreHeldAround holds m u names
  ring_around u r names on oriented ring listed y =
      let ts = m.tris in
      let different = different_on ts (subst IsOriented (tris_now i is now told) oriented) in
      let here = ring_now i is now told u r ring in (
        (λ h.
            let both = kept_in (has_name i.vertices) r.names y (ap (among y) (sym listed) ∙ h) in
            let near = near_on ts u r y here (among_in r.names y both.0) in
            record {
              held = on;
              onto_held = sym (held_now i is now told y) ∙ both.1;
              apart = apart_near ts u y different near;
              near = near_back ts u y near;
            }),
        λ pair.
            ap (among y) listed
            ∙ in_kept (has_name i.vertices) r.names y (on_ring ts u r y here (near_face ts u y pair.apart pair.near)) (held_now i is now told y ∙ pair.onto_held),
      )
