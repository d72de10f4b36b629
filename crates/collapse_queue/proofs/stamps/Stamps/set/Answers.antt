use Rattle.std.proofs.Common.{ap, sym, ◌∙◌, rules}
use Rattle.std.proofs.lemmas.Bool.{false≢true}
use Rattle.std.specs.FinMap as finite
use Rattle.std.specs.Option.{is_some}
use Rattle.std.specs.Ordering.{nat_cmp}
use Rattle.collapse_queue.proofs.StampMaps.{one_given, get_stamp}
use Rattle.collapse_queue.proofs.stamps.Stamps.set.Goals as goal
use Rattle.collapse_queue.proofs.stamps.Stamps.set.Goals.{in-Some, in_default}

pub returns : goal.returns
returns c =
    let es = c.self.inside.stamps.entries in
    let u = c.args.u in
    let stamp = c.args.stamp in
    elim c.match-get_mut.branch [
      | in-Some w ↦
          ap (λ s. finite.from_entries {R = nat_cmp} s.stamps.entries) w.self-inside-is
          ∙ one_given es (c.get_mut.follows.lender stamp).entries u stamp
          ((c.get_mut.follows.holds stamp).3 (search rules)).0
          ∙ ap (λ m. finite.insert m u stamp) c.self.view_is
      | in_default w ↦
          absurd (false≢true (ap is_some (w.in_default.ensures.value ∙ sym (get_stamp es u)
          ∙ ap (λ m. finite.get m u) c.self.view_is) ∙ c.requires))
    ]
