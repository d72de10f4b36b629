-- What a collapse does to half-edges.
use Rattle.std.specs.Prelude.{◌≡◌, ◌≢◌, ℕ, true, [], ◌∷◌, Option, Some, ◌⊎◌, unwrap_or}
use Rattle.mesh_data.specs.declared.geometry.Tri.{Tri}
use Rattle.mesh_data.specs.Links.{has_both}
use Rattle.half_edge.specs.declared.surgery.Half.{Half}
pub use Rattle.half_edge.specs.declared.collapse.Cut.{Cut}
use Rattle.half_edge.specs.Halves.{Slots, at, HasFace, Goes, IsTwin, IsSound, IsRound, dropped, joined, all_put}
use Rattle.half_edge.specs.Halves.{next_key, twin_key}

-- a triangle by its names
abbrev pub tri : ℕ → ℕ → ℕ → Tri
tri a b c = record { a = a; b = b; c = c }

-- a name that stands in a triangle with u and in one with v is one of the two opposite ones
abbrev pub IsUnpinched : Slots → ℕ → ℕ → ℕ → ℕ → Type 0
IsUnpinched s u v a b =
    (x k g : ℕ) (h i : Half) → at s k ≡ Some h → at s g ≡ Some i → has_both u x h.face ≡ true →
    has_both v x i.face ≡ true → x ≢ u → x ≢ v → (x ≡ a) ⊎ (x ≡ b)

-- The keys are those round the edge from u to v, whose third names are a and b: e, f and g of the triangle (u, v, a), m, n
-- and o of (v, u, b), and those across their four other edges.
pub record IsCut (s : Slots) (u v a b : ℕ) (c : Cut) : Type 0 where
  pub sound : IsSound s
  pub ends : u ≢ v
  pub apart : a ≢ b
  pub e : HasFace s c.e (tri u v a)
  pub f : HasFace s c.f (tri v a u)
  pub g : HasFace s c.g (tri a u v)
  pub m : HasFace s c.m (tri v u b)
  pub n : HasFace s c.n (tri u b v)
  pub o : HasFace s c.o (tri b v u)
  pub p : IsTwin s v a c.p
  pub q : Goes s c.q u a
  pub t : Goes s c.t b u
  pub w : IsTwin s b v c.w
  pub unpinched : IsUnpinched s u v a b

-- what a collapse of u onto v leaves at j
abbrev pub slot_after : ℕ → ℕ → Cut → ℕ → Option Half → Option Half
slot_after u v c j o =
    dropped (c.e ∷ c.f ∷ c.g ∷ c.m ∷ c.n ∷ c.o ∷ []) j (joined c.w c.t j (joined c.p c.q j (all_put u v o)))

-- the slots after a collapse of u onto v
abbrev pub IsAfter : Slots → Slots → ℕ → ℕ → Cut → Type 0
IsAfter s r u v c = (j : ℕ) → at r j ≡ slot_after u v c j (at s j)

-- the keys round the half-edge at e
abbrev pub cut_keys : Slots → ℕ → Cut
cut_keys s e =
    let f = next_key s e in
    let g = next_key s f in
    let m = unwrap_or (twin_key s e) 0 in
    let n = next_key s m in
    let o = next_key s n in
    record {
      e = e;
      f = f;
      g = g;
      m = m;
      n = n;
      o = o;
      p = twin_key s f;
      q = unwrap_or (twin_key s g) 0;
      t =
          unwrap_or (twin_key s n) 0;
      w = twin_key s o;
    }

-- u can be collapsed onto v at the half-edge at e
pub record CanCut (s : Slots) (u v e : ℕ) : Type 0 where
  pub a : ℕ
  pub b : ℕ
  pub cut : IsCut s u v a b (cut_keys s e)
  pub round : IsRound s e u
