use Rattle.std.proofs.Common.{append_assoc, FitsSigned, rules}
use Rattle.std.specs.Int.{w32}
use Rattle.std.proofs.lemmas.Int.{to_z-of_z}
use Rattle.leaf_codec.proofs.index.put_head.Goals as goal

pub returns : goal.returns
returns c =
    let fits : FitsSigned w32 c.args.s.now.euler = search rules in
    rw (
      ← c.len.ensures,
      c.in_ok-put_count.ensures,
      c.in_ok-put_u32-6.ensures,
      c.in_ok-put_i32.ensures,
      c.in_ok-put_u32-5.ensures,
      c.in_ok-put_u32-4.ensures,
      c.in_ok-put_u32-3.ensures,
      c.in_ok-put_u32-2.ensures,
      c.in_ok-put_u16.ensures,
      c.in_ok-put_u32.ensures,
    ) (simp (to_z-of_z, append_assoc))
