-- The two names opposite of an edge differ.
use Rattle.std.proofs.Common.{◌≡◌, ◌≢◌, ℕ, Bool, true, false, List, [], ◌∷◌, ◌++◌, Option, Some, None, refl, sym, ap, ◌∙◌, subst, inl, inr}
use Rattle.std.specs.Option.{option_zip}
use Rattle.mesh_data.specs.declared.geometry.Tri.{Tri}
use Rattle.mesh_data.specs.declared.rings.Ring.{Ring}
use Rattle.mesh_data.specs.Links.{apex, opposites}
use Rattle.mesh_data.specs.Manifold.{IsManifold}
use Rattle.mesh_data.specs.Mesh.{Mesh}
use Rattle.mesh_data.specs.Rings.{IsRing}
use Rattle.face_rings.specs.Faces.{Face}
use Rattle.face_rings.proofs.Around.{AroundBy, around, goes_round, passes}
use Rattle.face_rings.proofs.Corners.{apex_face, face_corner}
use Rattle.face_rings.proofs.Faces.{Face_turn}
use Rattle.face_rings.proofs.Fans.{distinct_in}
use Rattle.face_rings.proofs.Named.{IsDistinct, Unique}
use Rattle.face_rings.proofs.Oriented.{oriented_manifold, unique_on}
use Rattle.triangle_lists.proofs.RingLaws.{ring}

both : (o p : Option ℕ) (c d : ℕ) → option_zip o p ≡ Some (c, d) → (o ≡ Some c) × (p ≡ Some d)
both None p c d e = let none : None ≡ Some (c, d) = e in absurd (cc)
both (Some x) None c d e = let none : None ≡ Some (c, d) = e in absurd (cc)
both (Some x) (Some y) c d e = let same : Some (x, y) ≡ Some (c, d) = e in (ap first same, ap second same)
  where
    first : Option (ℕ × ℕ) → Option ℕ
    first None = None
    first (Some p) = Some p.0

    second : Option (ℕ × ℕ) → Option ℕ
    second None = None
    second (Some p) = Some p.1

behind : (p ns : List ℕ) → IsDistinct (p ++ ns) → IsDistinct ns
behind [] ns d = d
behind (x ∷ p) ns d = behind p ns d.1

-- no name stands beside another on both sides in a ring
not_twice : (b c : ℕ) (q : List ℕ) → IsDistinct (b ∷ c ∷ b ∷ q) → ⊥
not_twice b c q d = d.0 (inr (inl refl))

not_around : (ts : List Tri) (a b c : ℕ) → AroundBy ts a b c b → ⊥
not_around ts a b c (goes_round q is) = not_twice b c q (distinct_in (b ∷ c ∷ b ∷ q) is.distinct)
not_around ts a b c (passes p q is) =
    not_twice b c q (behind p (b ∷ c ∷ b ∷ q) (distinct_in (p ++ b ∷ c ∷ b ∷ q) is.distinct))

pub ends_differ : (m : Mesh) (a b c d : ℕ) → IsManifold m → opposites m.tris a b ≡ Some (c, d) → c ≢ d
ends_differ m a b c d manifold is same =
    let ts = m.tris in
    let parts = both (apex ts a b) (apex ts b a) c d is in
    let ahead : Face ts a b c = apex_face ts a b c parts.0 in
    let back : Face ts a c b = Face_turn ts b a c (subst (Face ts b a) (sym same) (apex_face ts b a d parts.1)) in
    let r = manifold.rings a (face_corner ts a b c ahead) in
    not_around ts a b c (around ts a b c b r.0 (unique_on ts (oriented_manifold m manifold)) r.1 ahead back)
