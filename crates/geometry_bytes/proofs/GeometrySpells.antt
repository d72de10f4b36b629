-- Points, triangles and sums are read as they are spelled.
use Rattle.std.proofs.Common.{◌≡◌, refl}
use Rattle.geometry_bytes.specs.Geometry.{point_bytes, FitsPoint, point, face_bytes, FitsTri, face, sums_bytes, FitsSums, sums}
use Rattle.byte_grammar.proofs.Spells.{Spells, Spells-then, Spells-last}
use Rattle.byte_grammar.proofs.NumberSpells.{Spells-u32, Spells-i16, Spells-i128}

pub Spells-point : Spells point point_bytes FitsPoint
unfolding point point_bytes
Spells-point =
    Spells-then Spells-i16 (λ t. t.x) λ x _.
    Spells-then Spells-i16 (λ t. t.y) λ y _.
    Spells-last Spells-i16 (λ t. t.z) (λ z. record { x = x; y = y; z = z }) (λ z _. (((tt, refl), refl), refl))
    (λ t e _. rw (← e.0.1, ← e.1) refl)

pub Spells-face : Spells face face_bytes FitsTri
unfolding face face_bytes
Spells-face =
    Spells-then Spells-u32 (λ t. t.a) λ a _.
    Spells-then Spells-u32 (λ t. t.b) λ b _.
    Spells-last Spells-u32 (λ t. t.c) (λ c. record { a = a; b = b; c = c }) (λ c _. (((tt, refl), refl), refl))
    (λ t e _. rw (← e.0.1, ← e.1) refl)

pub Spells-sums : Spells sums sums_bytes FitsSums
unfolding sums sums_bytes
Spells-sums =
    Spells-then Spells-u32 (λ t. t.planes) λ planes _.
    Spells-then Spells-i128 (λ t. t.aa) λ aa _.
    Spells-then Spells-i128 (λ t. t.ab) λ ab _.
    Spells-then Spells-i128 (λ t. t.ac) λ ac _.
    Spells-then Spells-i128 (λ t. t.ad) λ ad _.
    Spells-then Spells-i128 (λ t. t.bb) λ bb _.
    Spells-then Spells-i128 (λ t. t.bc) λ bc _.
    Spells-then Spells-i128 (λ t. t.bd) λ bd _.
    Spells-then Spells-i128 (λ t. t.cc) λ cc _.
    Spells-then Spells-i128 (λ t. t.cd) λ cd _.
    Spells-last Spells-i128 (λ t. t.dd)
    (λ dd. record
    { planes = planes; aa = aa; ab = ab; ac = ac; ad = ad; bb = bb; bc = bc; bd = bd; cc = cc; cd = cd; dd = dd })
    (λ dd _. (((((((((((tt, refl), refl), refl), refl), refl), refl), refl), refl), refl), refl), refl))
    (λ t e _. rw (
      ← e.0.0.0.0.0.0.0.0.0.1,
      ← e.0.0.0.0.0.0.0.0.1,
      ← e.0.0.0.0.0.0.0.1,
      ← e.0.0.0.0.0.0.1,
      ← e.0.0.0.0.0.1,
      ← e.0.0.0.0.1,
      ← e.0.0.0.1,
      ← e.0.0.1,
      ← e.0.1,
      ← e.1,
    ) refl)
