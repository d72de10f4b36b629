-- Points, triangles and sums of planes as bytes.
use Rattle.std.specs.Prelude.{◌≡◌, ℕ, ◌*◌, ◌^◌, ◌<◌, ◌++◌, Bool, not, nat_lt, nat_le, ◌==◌, ◌&&◌, nat_abs, pos, int_le, List, ℤ, Result, FitsSigned}
use Rattle.std.specs.Int.{w16, w128}
use Rattle.oemm_octree.specs.declared.points.Point.{Point}
use Rattle.mesh_data.specs.declared.geometry.Tri.{Tri}
use Rattle.mesh_data.specs.Planes.{Sums, most_planes}
use Rattle.byte_grammar.specs.Reader.{Reader, ◌>>=◌, done, number, signed}
use Rattle.byte_grammar.specs.Numbers.{u32_bytes, i16_bytes, i128_bytes}
use Rattle.byte_grammar.specs.Keeps.{Always}

-- ---- points

unfoldable pub point_bytes : Point → List ℕ
point_bytes p = i16_bytes p.x ++ (i16_bytes p.y ++ i16_bytes p.z)

-- each number fits its type
abbrev pub FitsPoint : Point → Type 0
FitsPoint p = Always × (FitsSigned w16 p.x × (FitsSigned w16 p.y × FitsSigned w16 p.z))

unfoldable pub point : Reader Point
point = do
  x ← signed w16 2
  y ← signed w16 2
  z ← signed w16 2
  done (record { x = x; y = y; z = z })

-- ---- triangles

unfoldable pub face_bytes : Tri → List ℕ
face_bytes t = u32_bytes t.a ++ (u32_bytes t.b ++ u32_bytes t.c)

-- each number fits its type
abbrev pub FitsTri : Tri → Type 0
FitsTri t = Always × ((t.a < 2 ^ 32) × ((t.b < 2 ^ 32) × (t.c < 2 ^ 32)))

unfoldable pub face : Reader Tri
face = do
  a ← number 4
  b ← number 4
  c ← number 4
  done (record { a = a; b = b; c = c })

-- three different names, the least one first
unfoldable pub is_turned : Tri → Bool
is_turned t = nat_lt t.a t.b && (nat_lt t.a t.c && not (t.b == t.c))

-- ---- the number of planes, and the ten sums

unfoldable pub sums_bytes : Sums → List ℕ
sums_bytes s =
    u32_bytes s.planes ++ (i128_bytes s.aa ++ (i128_bytes s.ab ++ (i128_bytes s.ac ++ (i128_bytes s.ad
    ++ (i128_bytes s.bb ++ (i128_bytes s.bc ++ (i128_bytes s.bd ++ (i128_bytes s.cc ++ (i128_bytes s.cd
    ++ i128_bytes s.dd)))))))))

-- each number fits its type
abbrev pub FitsSums : Sums → Type 0
FitsSums s =
    Always × ((s.planes < 2 ^ 32) × (FitsSigned w128 s.aa × (FitsSigned w128 s.ab × (FitsSigned w128 s.ac
    × (FitsSigned w128 s.ad × (FitsSigned w128 s.bb × (FitsSigned w128 s.bc × (FitsSigned w128 s.bd
    × (FitsSigned w128 s.cc × (FitsSigned w128 s.cd × FitsSigned w128 s.dd))))))))))

unfoldable pub sums : Reader Sums
sums = do
  planes ← number 4
  aa ← signed w128 16
  ab ← signed w128 16
  ac ← signed w128 16
  ad ← signed w128 16
  bb ← signed w128 16
  bc ← signed w128 16
  bd ← signed w128 16
  cc ← signed w128 16
  cd ← signed w128 16
  dd ← signed w128 16
  done (record {
    planes = planes;
    aa = aa;
    ab = ab;
    ac = ac;
    ad = ad;
    bb = bb;
    bc = bc;
    bd = bd;
    cc = cc;
    cd = cd;
    dd = dd;
  })

-- the size is at most the bound
unfoldable pub is_within : ℕ → ℤ → Bool
is_within bound z = nat_le (nat_abs z) bound

unfoldable pub are_within : ℕ → ℤ → ℤ → ℤ → Bool
are_within bound a b c = is_within bound a && (is_within bound b && is_within bound c)

-- the bounds of a quadric, by its number of planes
unfoldable pub is_bounded : Sums → Bool
is_bounded s =
    nat_le s.planes most_planes
    && ((are_within (s.planes * 2 ^ 64) s.aa s.ab s.ac && are_within (s.planes * 2 ^ 64) s.bb s.bc s.cc)
    && (are_within (s.planes * 2 ^ 81) s.ad s.bd s.cd && (int_le (pos 0) s.dd && is_within (s.planes * 2 ^ 98) s.dd)))
