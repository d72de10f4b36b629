-- The half-edge from u to v, sought round u.
use Rattle.std.proofs.Common.{◌≡◌, ◌≢◌, ℕ, ◌+◌, ◌<◌, ◌≤◌, Bool, true, false, ◌||◌, eqb, List, [], ◌∷◌, ◌++◌}
use Rattle.std.proofs.Common.{Option, Some, None, count_by, is_some, sym, ◌∙◌, refl, subst, arith, inl, inr}
use Rattle.std.proofs.lemmas.Bool.{ne_eqb, both_ways, cases_eq}
use Rattle.std.proofs.lemmas.List.Folds.{list_any-append}
use Rattle.std.specs.BTreeMap.{BTreeMap}
use Rattle.std.specs.Option.{IfSome}
use Rattle.mesh_data.specs.Rings.{link, way, IsRing}
use Rattle.oemm_lists.specs.Numbers.{among}
use Rattle.triangle_lists.proofs.Walks.{step}
use Rattle.triangle_lists.proofs.RingLaws.{ring, starts_on_ring}
use Rattle.half_edge.specs.Halves.{Slots, Goes, IsSound, around, faces_of}
use Rattle.half_edge.specs.Meshes.{IsMesh, out_at}
use Rattle.half_edge.specs.Rings.{BeginsRing, IsRinged, second_name, third_name}
use Rattle.half_edge.proofs.Along.{IsKeyOf, WalksAlong, loop_start, loop_more, loop_home, along_last, along_over}
use Rattle.half_edge.proofs.Along.{loop_ring}
use Rattle.half_edge.proofs.Faces.{is_face, face_of_half, link_step}
use Rattle.half_edge.proofs.Walks.{face_at}

-- a held name has a half-edge and a ring
pub ringed_out : (s : Slots) (m : BTreeMap ℕ ℕ) (v : ℕ) (o : Option ℕ) → IsMesh s m → o ≡ out_at m v →
    IfSome o (IsRinged s v)
ringed_out s m v None mesh is = tt
ringed_out s m v (Some k) mesh is =
    let fit = mesh.fit v k (sym is) in
    let ring = mesh.ringed v k (sym is) in
    record { sound = mesh.sound; name = fit.0; goes = fit.1; ring = ring.0; is = ring.1 }

-- a half-edge from u goes to a name of its ring
on_ring : (s : Slots) (u v : ℕ) (sound : IsSound s) (closed : Bool) (names : List ℕ) →
    IsRing (faces_of s) u (ring closed names) → (k : ℕ) → Goes s k u v → among v names ≡ true
on_ring s u v sound true [] is k go = absurd (omega (arith, is.long))
on_ring s u v sound false [] is k go = absurd (omega (arith, is.long))
on_ring s u v sound closed (x ∷ ns) is k go =
    let z = go.0.face.c in
    starts_on_ring (link u (faces_of s)) closed x ns is (step v z) (link_step (faces_of s) u v z
    ∙ face_of_half s k u v z sound (face_at s u sound k v go))

-- how far the search is: none of the names that were passed is v
pub record Seeks (s : Slots) (u v home : ℕ) (key : Option ℕ) (i n : ℕ) : Type 0 where
  pub name : ℕ
  pub names : List ℕ
  pub walk : WalksAlong s u home name key names i n
  pub lacks : among v names ≡ false

pushed : (v name : ℕ) (names : List ℕ) → among v names ≡ false → name ≢ v → among v (names ++ name ∷ []) ≡ false
pushed v name names lacks apart =
    list_any-append (λ n. eqb n v) names (name ∷ []) ∙ (λ i. lacks i || (ne_eqb name v apart i || false))

module _ (s : Slots) (u v : ℕ) (sound : IsSound s) (first home n : ℕ) (at_home : home ≡ second_name s first)
    (many : n ≡ count_by is_some s) (begins : (closed : Bool) × BeginsRing s u first closed) where
  pub seek_start : Seeks s u v home (Some first) 0 n
  seek_start = record {
    name = home;
    names = [];
    walk =
        loop_start s u sound first home begins.0 [] n at_home refl begins.1;
    lacks = refl;
  }

  nowhere : (names : List ℕ) → names ≡ way n (link u (faces_of s)) home home → among v names ≡ false → (k : ℕ) →
      Goes s k u v → ⊥
  nowhere names is lacks k go =
      both_ways (among v names) lacks
      (on_ring s u v sound begins.0 names (loop_ring s u sound first home begins.0 names n at_home many begins.1 is) k
      go)

  module _ (key : Option ℕ) (i : ℕ) (seeks : Seeks s u v home key i n) where
    abbrev name : ℕ
    name = seeks.name

    pub seek_over : n ≤ i → (k : ℕ) → Goes s k u v → ⊥
    seek_over over = nowhere seeks.names (along_over s u sound home name key seeks.names i n seeks.walk over)
        seeks.lacks

    pub seek_last : key ≡ None → i < n → (k : ℕ) → Goes s k u v → ⊥
    seek_last is lt k go =
        elim (cases_eq name v) [
          | inl same ↦
              let none : IsKeyOf s u name None = subst (IsKeyOf s u name) is seeks.walk.is_key in
              let z = go.0.face.c in
              none z (subst (λ (x : ℕ). is_face (faces_of s) u x z ≡ true) (sym same)
              (face_of_half s k u v z sound (face_at s u sound k v go)))
          | inr apart ↦ nowhere (seeks.names ++ name ∷ [])
              (along_last s u sound home name key seeks.names i n seeks.walk is lt)
              (pushed v name seeks.names seeks.lacks apart) k go
        ]

    module _ (k : ℕ) (is : key ≡ Some k) (lt : i < n) (away : Goes s k u v → ⊥) where
      differs : name ≢ v
      differs same = away (subst (Goes s k u) same (subst (IsKeyOf s u name) is seeks.walk.is_key))

      pub seek_home : (next : ℕ) → next ≡ third_name s k → eqb next home ≡ true → (g : ℕ) → Goes s g u v → ⊥
      seek_home next at_next back =
          nowhere (seeks.names ++ name ∷ [])
          (loop_home s u sound home name key seeks.names i n seeks.walk
          (seeks.names ++ name ∷ []) refl lt k next is at_next back) (pushed v name seeks.names seeks.lacks differs)

      pub seek_more : (next : ℕ) (on : Option ℕ) → next ≡ third_name s k → on ≡ around s k → eqb next home ≡ false →
          Seeks s u v home on (i + 1) n
      seek_more next on at_next at_on on_more =
          record {
            name = next;
            names = seeks.names ++ name ∷ [];
            walk = loop_more s u sound home name key seeks.names i n seeks.walk
                (seeks.names ++ name ∷ []) refl lt k next on is at_next at_on on_more;
            lacks = pushed v name seeks.names seeks.lacks differs;
          }
