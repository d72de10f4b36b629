-- Planes of triangles, and the quadrics of lists of planes (Garland and Heckbert, "Surface Simplification Using
-- Quadric Error Metrics", 1997, with planes that aren't normalised).
use Rattle.std.specs.Prelude.{ℕ, ◌+◌, ◌*◌, ◌^◌, ◌≤◌, Bool, not, ◌&&◌, ◌==◌, ℤ, pos, ◌+ℤ◌, ◌-ℤ◌, ◌*ℤ◌, neg_ℤ, ◌≤ℤ◌, nat_abs, int_le, List, [], ◌∷◌}
use Rattle.oemm_octree.specs.declared.points.Point.{Point}
use Rattle.mesh_data.specs.declared.planes.Plane.{Plane}

-- the plane of a triangle: n = (b - a) x (c - a), and d = -(n · a)
abbrev pub normal_x : Point → Point → Point → ℤ
normal_x a b c = ((b.y -ℤ a.y) *ℤ (c.z -ℤ a.z)) -ℤ ((b.z -ℤ a.z) *ℤ (c.y -ℤ a.y))

abbrev pub normal_y : Point → Point → Point → ℤ
normal_y a b c = ((b.z -ℤ a.z) *ℤ (c.x -ℤ a.x)) -ℤ ((b.x -ℤ a.x) *ℤ (c.z -ℤ a.z))

abbrev pub normal_z : Point → Point → Point → ℤ
normal_z a b c = ((b.x -ℤ a.x) *ℤ (c.y -ℤ a.y)) -ℤ ((b.y -ℤ a.y) *ℤ (c.x -ℤ a.x))

-- n · p
abbrev pub dot : ℤ → ℤ → ℤ → Point → ℤ
dot nx ny nz p = ((nx *ℤ p.x) +ℤ (ny *ℤ p.y)) +ℤ (nz *ℤ p.z)

unfoldable pub plane_of : Point → Point → Point → Plane
plane_of a b c =
    let nx = normal_x a b c in
    let ny = normal_y a b c in
    let nz = normal_z a b c in
    record { nx = nx; ny = ny; nz = nz; d = neg_ℤ (dot nx ny nz a) }

-- the value of a plane at a point: n · p + d
unfoldable pub plane_value : Plane → Point → ℤ
plane_value l p = dot l.nx l.ny l.nz p +ℤ l.d

-- a triangle folds where its old normal isn't zero, and the dot product of the old and the new one is at most 0
unfoldable pub folds : Plane → Plane → Bool
folds old new =
    not ((nat_abs old.nx == 0) && (nat_abs old.ny == 0) && (nat_abs old.nz == 0))
    && int_le (((old.nx *ℤ new.nx) +ℤ (old.ny *ℤ new.ny)) +ℤ (old.nz *ℤ new.nz)) (pos 0)

-- the sum of the squared values of planes at a point
unfoldable pub squares : List Plane → Point → ℤ
squares [] p = pos 0
squares (l ∷ ls) p = (plane_value l p *ℤ plane_value l p) +ℤ squares ls p

-- the number of planes, and the ten sums of products of their coefficients a = nx, b = ny, c = nz, d
pub record Sums : Type 0 where
  pub planes : ℕ
  pub aa : ℤ
  pub ab : ℤ
  pub ac : ℤ
  pub ad : ℤ
  pub bb : ℤ
  pub bc : ℤ
  pub bd : ℤ
  pub cc : ℤ
  pub cd : ℤ
  pub dd : ℤ

abbrev pub no_sums : Sums
no_sums = record { planes = 0; aa = pos 0; ab = pos 0; ac = pos 0; ad = pos 0; bb = pos 0; bc = pos 0; bd = pos 0; cc = pos 0; cd = pos 0; dd = pos 0 }

-- the products of one plane
abbrev pub products : Plane → Sums
products l = record {
  planes = 1;
  aa = l.nx *ℤ l.nx;
  ab = l.nx *ℤ l.ny;
  ac = l.nx *ℤ l.nz;
  ad = l.nx *ℤ l.d;
  bb = l.ny *ℤ l.ny;
  bc = l.ny *ℤ l.nz;
  bd = l.ny *ℤ l.d;
  cc = l.nz *ℤ l.nz;
  cd = l.nz *ℤ l.d;
  dd = l.d *ℤ l.d;
}

abbrev pub added : Sums → Sums → Sums
added s t = record {
  planes = s.planes + t.planes;
  aa = s.aa +ℤ t.aa;
  ab = s.ab +ℤ t.ab;
  ac = s.ac +ℤ t.ac;
  ad = s.ad +ℤ t.ad;
  bb = s.bb +ℤ t.bb;
  bc = s.bc +ℤ t.bc;
  bd = s.bd +ℤ t.bd;
  cc = s.cc +ℤ t.cc;
  cd = s.cd +ℤ t.cd;
  dd = s.dd +ℤ t.dd;
}

-- the sums of a list of planes
abbrev pub sums_of : List Plane → Sums
sums_of [] = no_sums
sums_of (l ∷ ls) = added (products l) (sums_of ls)

-- the value of ten sums at a point
unfoldable pub sums_value : Sums → Point → ℤ
sums_value s p =
    let x = p.x in
    let y = p.y in
    let z = p.z in
    ((((s.aa *ℤ (x *ℤ x)) +ℤ (s.bb *ℤ (y *ℤ y))) +ℤ (s.cc *ℤ (z *ℤ z)))
    +ℤ (pos 2 *ℤ (((((s.ab *ℤ (x *ℤ y)) +ℤ (s.ac *ℤ (x *ℤ z))) +ℤ (s.bc *ℤ (y *ℤ z))) +ℤ ((s.ad *ℤ x) +ℤ (s.bd *ℤ y))) +ℤ (s.cd *ℤ z))))
    +ℤ s.dd

-- the greatest number of planes of all vertices
abbrev pub most_planes : ℕ
most_planes = 3 * 2 ^ 24

-- each sum is at most its bound in size, by the number of planes, and that of the squared offsets isn't negative
pub record AreBounded (s : Sums) : Type 0 where
  pub planes : s.planes ≤ most_planes
  pub aa : nat_abs s.aa ≤ s.planes * 2 ^ 64
  pub ab : nat_abs s.ab ≤ s.planes * 2 ^ 64
  pub ac : nat_abs s.ac ≤ s.planes * 2 ^ 64
  pub ad : nat_abs s.ad ≤ s.planes * 2 ^ 81
  pub bb : nat_abs s.bb ≤ s.planes * 2 ^ 64
  pub bc : nat_abs s.bc ≤ s.planes * 2 ^ 64
  pub bd : nat_abs s.bd ≤ s.planes * 2 ^ 81
  pub cc : nat_abs s.cc ≤ s.planes * 2 ^ 64
  pub cd : nat_abs s.cd ≤ s.planes * 2 ^ 81
  pub dd_low : pos 0 ≤ℤ s.dd
  pub dd : nat_abs s.dd ≤ s.planes * 2 ^ 98
