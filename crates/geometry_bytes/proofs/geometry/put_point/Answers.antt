use Rattle.std.proofs.Common.{◌≡◌, ◌∙◌, append_assoc, FitsSigned, rules}
use Rattle.std.specs.Int.{w16}
use Rattle.std.proofs.lemmas.Int.{to_z-of_z}
use Rattle.geometry_bytes.specs.Geometry.{point_bytes}
use Rattle.geometry_bytes.proofs.geometry.put_point.Goals as goal

pub returns : goal.returns
unfolding point_bytes
returns c =
    let p = c.args.p.now in
    let fx : FitsSigned w16 p.x = search rules in
    let fy : FitsSigned w16 p.y = search rules in
    let fz : FitsSigned w16 p.z = search rules in
    rw (c.in_ok-put_i16-3.ensures, c.in_ok-put_i16-2.ensures, c.in_ok-put_i16.ensures) (simp (to_z-of_z, append_assoc))
