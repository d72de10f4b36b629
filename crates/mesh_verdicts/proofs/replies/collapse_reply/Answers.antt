use Rattle.std.proofs.Common.{◌∙◌, ℤ, sym, ap, to_z, of_z, to_z-of_z, rules}
use Rattle.std.specs.Int.{w128}
use Rattle.mesh_data.specs.Edits.{collapse_verdict_by}
use Rattle.edit_steps.proofs.Lines.{collapse_by_link, collapse_by_pair, collapse_by_price}
use Rattle.mesh_verdicts.proofs.replies.collapse_reply.Goals as goal

pub returns-in-Some-clause-reply : goal.returns-in-Some-clause-reply
returns-in-Some-clause-reply g c =
    let q = g.V.MeshView in
    let x = c.args.view.now in
    sym (collapse_by_pair (q.price x c.args.u c.args.v) (q.inside x) (q.mesh x) c.args.u c.args.v c.args.max c.in-Some.reply (sym c.pair_refusal.ensures ∙ c.in-Some.is))

pub returns-in-Some-2-clause-reply : goal.returns-in-Some-2-clause-reply
returns-in-Some-2-clause-reply g c =
    let q = g.V.MeshView in
    let x = c.args.view.now in
    sym (collapse_by_link (q.price x c.args.u c.args.v) (q.inside x) (q.mesh x) c.args.u c.args.v c.args.max c.in-Some-2.reply (sym c.pair_refusal.ensures ∙ c.in_default.is) (sym c.in_ok-reply.ensures ∙ c.in-Some-2.is))

pub returns-clause-reply : goal.returns-clause-reply
returns-clause-reply g c =
    let q = g.V.MeshView in
    let x = c.args.view.now in
    let big = to_z w128 (of_z w128 c.args.max) in
    c.in_ok-reply-2.ensures
    ∙ sym (collapse_by_price (q.price x c.args.u c.args.v) (q.inside x) (q.mesh x) c.args.u c.args.v big (sym c.pair_refusal.ensures ∙ c.in_default.is) (sym c.in_ok-reply.ensures ∙ c.in_default-2.is))
    ∙ ap (λ (n : ℤ). collapse_verdict_by (q.price x c.args.u c.args.v) (q.inside x) (q.mesh x) c.args.u c.args.v n) (to_z-of_z {w = w128} {z = c.args.max} (search rules))
