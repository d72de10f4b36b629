use Rattle.std.proofs.Common.{◌≡◌, ◌∙◌, append_assoc, FitsSigned, rules}
use Rattle.std.specs.Int.{w128}
use Rattle.std.proofs.lemmas.Int.{to_z-of_z}
use Rattle.geometry_bytes.specs.Geometry.{sums_bytes}
use Rattle.geometry_bytes.proofs.sums.put_quad.Goals as goal

pub returns : goal.returns
unfolding sums_bytes
returns c =
    let q = c.args.q.now in
    let f1 : FitsSigned w128 q.aa = search rules in
    let f2 : FitsSigned w128 q.ab = search rules in
    let f3 : FitsSigned w128 q.ac = search rules in
    let f4 : FitsSigned w128 q.ad = search rules in
    let f5 : FitsSigned w128 q.bb = search rules in
    let f6 : FitsSigned w128 q.bc = search rules in
    let f7 : FitsSigned w128 q.bd = search rules in
    let f8 : FitsSigned w128 q.cc = search rules in
    let f9 : FitsSigned w128 q.cd = search rules in
    let f10 : FitsSigned w128 q.dd = search rules in
    rw (
      c.in_ok-put_i128-10.ensures,
      c.in_ok-put_i128-9.ensures,
      c.in_ok-put_i128-8.ensures,
      c.in_ok-put_i128-7.ensures,
      c.in_ok-put_i128-6.ensures,
      c.in_ok-put_i128-5.ensures,
      c.in_ok-put_i128-4.ensures,
      c.in_ok-put_i128-3.ensures,
      c.in_ok-put_i128-2.ensures,
      c.in_ok-put_i128.ensures,
      c.in_ok-put_u32.ensures,
    ) (simp (to_z-of_z, append_assoc))
