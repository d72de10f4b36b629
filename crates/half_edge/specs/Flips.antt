-- What a flip does to half-edges.
use Rattle.std.specs.Prelude.{◌≢◌, ℕ, true, false, Option, List}
use Rattle.mesh_data.specs.declared.geometry.Tri.{Tri}
use Rattle.mesh_data.specs.RingChanges.{MayFlip}
use Rattle.half_edge.specs.declared.surgery.Half.{Half}
use Rattle.half_edge.specs.Halves.{Slots, HasFace, Goes, IsSound, altered, reset}
use Rattle.half_edge.specs.Collapses.{tri, Cut}

-- the half-edges round the edge from a to b can be turned to that of c and d
pub record CanFlip (s : Slots) (a b c d e : ℕ) : Type 0 where
  pub sound : IsSound s
  pub ends : a ≢ b
  pub apart : c ≢ d
  pub face : HasFace s e (tri a b c)
  pub other : ℕ
  pub face_other : HasFace s other (tri b a d)
  pub none : (k : ℕ) → Goes s k c d → ⊥
  pub none_back : (k : ℕ) → Goes s k d c → ⊥

-- what a flip leaves at j
abbrev pub slot_flipped : ℕ → ℕ → ℕ → ℕ → Cut → ℕ → Option Half → Option Half
slot_flipped a b c d k j o =
    altered k.m (reset (tri c d b) false k.o) j
    (altered k.f (reset (tri b c d) false k.m) j (altered k.o (reset (tri d b c) true k.f) j
    (altered k.g (reset (tri c a d) false k.n) j
    (altered k.e (reset (tri d c a) false k.g) j (altered k.n (reset (tri a d c) true k.e) j o)))))

-- of the tests of a flip of the edge of a and b those from `apart` on don't apply, where c and d are opposite of it
pub record MayTurn (ts : List Tri) (a b : ℕ) : Type 0 where
  pub c : ℕ
  pub d : ℕ
  pub may : MayFlip ts a b c d
