-- The half-edges of a triangle.
use Rattle.std.proofs.Common.{◌≡◌, ℕ, Some, sym, ap, ◌∙◌, subst}
use Rattle.mesh_data.specs.declared.geometry.Tri.{Tri}
use Rattle.half_edge.specs.declared.surgery.Half.{Half}
use Rattle.half_edge.specs.Halves.{Slots, at, from_next, HasFace, Goes, IsSound}

pub one_half : (s : Slots) (k : ℕ) (h i : Half) → at s k ≡ Some h → at s k ≡ Some i → h ≡ i
one_half s k h i x y = cc

pub goes : (s : Slots) (k : ℕ) (t : Tri) → HasFace s k t → Goes s k t.a t.b
goes s k t h = (h.0, h.1, ap (λ (x : Tri). x.a) h.2, ap (λ (x : Tri). x.b) h.2)

pub same_key : (s : Slots) (k g : ℕ) (t : Tri) → IsSound s → HasFace s k t → Goes s g t.a t.b → k ≡ g
same_key s k g t sound h go = sound.alone k g t.a t.b (goes s k t h) go

-- one triangle has a directed edge
pub same_face : (s : Slots) (k g : ℕ) (t : Tri) (i : Half) → IsSound s → HasFace s k t → at s g ≡ Some i →
    i.face.a ≡ t.a → i.face.b ≡ t.b → i.face ≡ t
same_face s k g t i sound h here a b =
    let same = same_key s k g t sound h (i, here, a, b) in
    let there : at s g ≡ Some h.0 = ap (at s) (sym same) ∙ h.1 in
    ap (λ (x : Half). x.face) (one_half s g i h.0 here there) ∙ h.2

pub next_face : (s : Slots) (k : ℕ) (t : Tri) → IsSound s → HasFace s k t → (g : ℕ) × HasFace s g (from_next t)
next_face s k t sound h = (h.0.next, subst (λ (x : Tri). HasFace s h.0.next (from_next x)) h.2 (sound.turns k h.0 h.1))

pub last_face : (s : Slots) (k : ℕ) (t : Tri) → IsSound s → HasFace s k t →
    (g : ℕ) × HasFace s g (from_next (from_next t))
last_face s k t sound h = let one = next_face s k t sound h in next_face s one.0 (from_next t) sound one.1
