-- A plane is the same from each corner of its triangle.
use Rattle.std.proofs.Common.{◌≡◌, ap, ◌∙◌, arith}
use Rattle.std.proofs.Math.IntN.{ℤ, pos, ◌+ℤ◌, ◌-ℤ◌, ◌*ℤ◌, neg_ℤ, *ℤ_comm}
use Rattle.oemm_octree.specs.declared.points.Point.{Point}
use Rattle.mesh_data.specs.declared.planes.Plane.{Plane}
use Rattle.mesh_data.specs.Planes.{plane_of, normal_x, normal_y, normal_z, dot}
use Rattle.oemm_plane.proofs.PlanesInts.{product_of_differences, difference_times, times_difference, outer_swapped, sums}

next_corner : (a b c a' b' c' : ℤ) → ((b -ℤ a) *ℤ (c' -ℤ a')) -ℤ ((b' -ℤ a') *ℤ (c -ℤ a)) ≡ ((c -ℤ b) *ℤ (a' -ℤ b')) -ℤ ((c' -ℤ b') *ℤ (a -ℤ b))
next_corner a b c a' b' c' =
    let first = product_of_differences b a c' a' in
    let second = product_of_differences b' a' c a in
    let third = product_of_differences c b a' b' in
    let fourth = product_of_differences c' b' a b in
    omega (arith, sums, *ℤ_comm a a', *ℤ_comm b b', *ℤ_comm b c', *ℤ_comm b' c, *ℤ_comm a c', *ℤ_comm a' c)

-- a cross product is at a right angle to its first factor
at_right_angle : (p q r p' q' r' : ℤ) → (((((q *ℤ r') -ℤ (r *ℤ q')) *ℤ p) +ℤ (((r *ℤ p') -ℤ (p *ℤ r')) *ℤ q)) +ℤ (((p *ℤ q') -ℤ (q *ℤ p')) *ℤ r)) ≡ pos 0
at_right_angle p q r p' q' r' =
    let first = difference_times (q *ℤ r') (r *ℤ q') p in
    let second = difference_times (r *ℤ p') (p *ℤ r') q in
    let third = difference_times (p *ℤ q') (q *ℤ p') r in
    omega (arith, sums, outer_swapped q r' p, outer_swapped r q' p, outer_swapped r p' q)

same_dot : (x y z ax ay az bx by bz : ℤ) → (((x *ℤ (bx -ℤ ax)) +ℤ (y *ℤ (by -ℤ ay))) +ℤ (z *ℤ (bz -ℤ az))) ≡ pos 0 → ((x *ℤ ax) +ℤ (y *ℤ ay)) +ℤ (z *ℤ az) ≡ ((x *ℤ bx) +ℤ (y *ℤ by)) +ℤ (z *ℤ bz)
same_dot x y z ax ay az bx by bz e =
    omega (arith, sums, times_difference x bx ax, times_difference y by ay, times_difference z bz az)

same_plane : (x y z d x' y' z' d' : ℤ) → x ≡ x' → y ≡ y' → z ≡ z' → d ≡ d' → (let l : Plane = record { nx = x; ny = y; nz = z; d = d } in let m : Plane = record { nx = x'; ny = y'; nz = z'; d = d' } in l ≡ m)
same_plane x y z d x' y' z' d' ex ey ez ed = λ i. record { nx = ex i; ny = ey i; nz = ez i; d = ed i }

pub plane_from_next : (a b c : Point) → plane_of a b c ≡ plane_of b c a
unfolding plane_of
plane_from_next a b c =
    let ex = next_corner a.y b.y c.y a.z b.z c.z in
    let ey = next_corner a.z b.z c.z a.x b.x c.x in
    let ez = next_corner a.x b.x c.x a.y b.y c.y in
    let same = same_dot (normal_x a b c) (normal_y a b c) (normal_z a b c) a.x a.y a.z b.x b.y b.z (at_right_angle (b.x -ℤ a.x) (b.y -ℤ a.y) (b.z -ℤ a.z) (c.x -ℤ a.x) (c.y -ℤ a.y) (c.z -ℤ a.z)) in
    let moved : dot (normal_x a b c) (normal_y a b c) (normal_z a b c) b ≡ dot (normal_x b c a) (normal_y b c a) (normal_z b c a) b = λ i. ((ex i *ℤ b.x) +ℤ (ey i *ℤ b.y)) +ℤ (ez i *ℤ b.z) in
    same_plane _ _ _ _ _ _ _ _ ex ey ez (ap neg_ℤ (same ∙ moved))
