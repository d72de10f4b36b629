-- Half-edges made of a list of triangles.
use Rattle.std.specs.Prelude.{◌≡◌, ◌≢◌, ℕ, true, false, ◌==◌, Option, Some, None, if◌then◌else◌}
use Rattle.std.specs.BTreeMap.{BTreeMap, is_at}
use Rattle.std.specs.Map.{lookup}
use Rattle.std.specs.Option.{option_map}
use Rattle.mesh_data.specs.declared.geometry.Tri.{Tri}
use Rattle.mesh_data.specs.declared.geometry.Edge.{Edge}
use Rattle.mesh_data.specs.Links.{is_name}
use Rattle.mesh_data.specs.Triangles.{IsProper, edge_cmp}
use Rattle.half_edge.specs.declared.surgery.Half.{Half}
use Rattle.half_edge.specs.Halves.{Slots, at, from_next, Goes, IsTwin, IsSound, with_twin}

-- the key that the map has at the edge from a to b
abbrev pub edge_key : BTreeMap Edge ℕ → ℕ → ℕ → Option ℕ
edge_key m a b = lookup (is_at (edge_cmp (record { a = a; b = b }))) m.entries

-- the map tells for each edge whether a half-edge goes so, and which
abbrev pub Tells : BTreeMap Edge ℕ → Slots → Type 0
Tells m s = (a b : ℕ) → IsTwin s b a (edge_key m a b)

-- what is at j where this half-edge is put at k
abbrev pub put_at : ℕ → Half → ℕ → Option Half → Option Half
put_at k half j o = if j == k then Some half else o

-- what is at j where the half-edge at the first key, if it is told, gets the second as its twin
abbrev pub told_twin : Option ℕ → ℕ → ℕ → Option Half → Option Half
told_twin p k j o = if is_name p j then option_map (with_twin (Some k)) o else o

-- the triangle can be added
pub record IsNew (s : Slots) (t : Tri) : Type 0 where
  pub proper : IsProper t
  pub ab : (k : ℕ) → Goes s k t.a t.b → ⊥
  pub bc : (k : ℕ) → Goes s k t.b t.c → ⊥
  pub ca : (k : ℕ) → Goes s k t.c t.a → ⊥

-- the keys of an added triangle, and those across its edges
pub record Added : Type 0 where
  pub k : ℕ
  pub l : ℕ
  pub m : ℕ
  pub p : Option ℕ
  pub q : Option ℕ
  pub w : Option ℕ

-- what is at j after a triangle was added
abbrev pub slot_added : Tri → Added → ℕ → Option Half → Option Half
slot_added t x j o =
    told_twin x.w x.m j (told_twin x.q x.l j (told_twin x.p x.k j
    (put_at x.k (record { face = t; lead = true; next = x.l; twin = x.p }) j
    (put_at x.l (record { face = from_next t; lead = false; next = x.m; twin = x.q }) j
    (put_at x.m (record { face = from_next (from_next t); lead = false; next = x.k; twin = x.w }) j o)))))

-- the triangle was added under these keys
pub record IsAdded (s r : Slots) (t : Tri) (x : Added) : Type 0 where
  pub sound : IsSound s
  pub fresh : IsNew s t
  pub k_free : at s x.k ≡ None
  pub l_free : at s x.l ≡ None
  pub m_free : at s x.m ≡ None
  pub kl : x.k ≢ x.l
  pub lm : x.l ≢ x.m
  pub mk : x.m ≢ x.k
  pub p : IsTwin s t.a t.b x.p
  pub q : IsTwin s t.b t.c x.q
  pub w : IsTwin s t.c t.a x.w
  pub after : (j : ℕ) → at r j ≡ slot_added t x j (at s j)
