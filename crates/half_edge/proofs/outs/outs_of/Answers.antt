use Rattle.std.proofs.Common.{◌+◌, ◌∙◌, sym, subst, arith, ℕ}
use Rattle.std.specs.BTreeMap.{BTreeMap}
use Rattle.half_edge.proofs.HeldKeys.{OutsBelow, outs_skip, outs_put, outs_all, lacks_half, lacks_none}
use Rattle.half_edge.proofs.outs.outs_of.Goals as goal
use Rattle.half_edge.proofs.outs.outs_of.Goals.{in-Some+then-has+in_ok-put_out, in-Some+else-has, in_default}

pub loop-k-preserved : goal.loop-k-preserved
loop-k-preserved c =
    let s = c.args.halves.now.slots in
    let held = c.args.held.now in
    elim c.match-get.branch [
      | in-Some+then-has+in_ok-put_out w ↦
          subst (λ (m : BTreeMap ℕ ℕ). OutsBelow s m held (c.loop-k.k + 1)) (sym w.outs-is)
          (outs_put s c.loop-k.outs w.put_out.new.outs held c.loop-k.k w.in-Some.half.now c.loop-k.invariant
          (sym w.in-Some.ensures) (sym w.has.ensures ∙ w.if-has.true) w.in_ok-put_out.ensures)
      | in-Some+else-has w ↦
          subst (λ (m : BTreeMap ℕ ℕ). OutsBelow s m held (c.loop-k.k + 1)) (sym w.outs-is)
          (outs_skip s c.loop-k.outs held c.loop-k.k c.loop-k.invariant
          (lacks_half s held c.loop-k.k w.in-Some.half.now (sym w.in-Some.ensures)
          (sym w.has.ensures ∙ w.if-has.false)))
      | in_default w ↦
          subst (λ (m : BTreeMap ℕ ℕ). OutsBelow s m held (c.loop-k.k + 1)) (sym w.outs-is)
          (outs_skip s c.loop-k.outs held c.loop-k.k c.loop-k.invariant
          (lacks_none s held c.loop-k.k (sym w.in_default.ensures)))
    ]

pub returns-clause-all : goal.returns-clause-all
returns-clause-all c v k y go on =
    outs_all c.args.halves.now.slots c.loop-k.outs c.args.held.now c.loop-k.k c.loop-k.invariant
    (omega arith) v k y go on
