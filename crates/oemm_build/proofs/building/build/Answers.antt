use Rattle.std.proofs.Common.{Err, Ok}
use Rattle.stored_mesh.specs.Stored.{Base}
use Rattle.oemm_limits.specs.declared.TheConstants.{MOST_LEAVES}
use Rattle.oemm_build.specs.Items.{IsBaseOf}
use Rattle.oemm_build.specs.Laying.{IsSameButSheets}
use Rattle.oemm_build.proofs.Ends.{crash_all, crash_kept, plan_base, plan_lays, told_built, told_kept, told_then}
use Rattle.oemm_build.proofs.Starts.{plan_fits}
use Rattle.oemm_build.proofs.building.build.Goals as goal

pub returns-in-Err-clause-refused : goal.returns-in-Err-clause-refused
returns-in-Err-clause-refused g c =
    told_kept (g.B.Blobs.store c.args.blobs) (g.B.Blobs.store c.plan_build.new.blobs) c.in-Err.ensures.keeps

pub returns-in-Err-clause-crash : goal.returns-in-Err-clause-crash
returns-in-Err-clause-crash g c =
    crash_kept (IsBaseOf (g.I.Items.reading c.args.items.now) (g.I.Items.given c.plan_build.new.items) c.args.cap c.args.core)
    (g.B.Blobs.store c.args.blobs) (g.B.Blobs.store c.plan_build.new.blobs) c.in-Err.ensures.keeps

pub lay_plan-requires : goal.lay_plan-requires
lay_plan-requires g c =
    let planned = c.in-Ok.ensures.planned in
    plan_fits c.args.cap c.args.core planned.0 c.in-Ok.plan planned.2

pub returns-in_default-Ok-clause-built : goal.returns-in_default-Ok-clause-built
returns-in_default-Ok-clause-built g c =
    let plan = c.in-Ok.plan in
    let planned = c.in-Ok.ensures.planned in
    let reading = g.I.Items.reading c.args.items.now in
    let given = g.I.Items.given c.plan_build.new.items in
    let old = g.B.Blobs.store c.args.blobs in
    let mid = g.B.Blobs.store c.plan_build.new.blobs in
    let new = g.B.Blobs.store c.lay_plan.result.0 in
    let b : Base = record { index = plan.index; soup = planned.0 } in
    let of = plan_base reading given c.args.cap c.args.core planned.0 plan planned.1 planned.2 in
    let puts =
    plan_lays c.args.cap c.args.core planned.0 plan mid new c.lay_plan.result.1 (Ok c.in_default-Ok.field-0-1) planned.2
    c.in_default-Ok.is-1 c.lay_plan.ensures.puts in (
      b,
      of,
      c.numbers_of-built.ensures,
      told_built old mid new c.in-Ok.ensures.keeps (IsBaseOf reading given c.args.cap c.args.core) b of planned.2.base puts.ok,
    )

pub returns-in_default-Ok-clause-crash : goal.returns-in_default-Ok-clause-crash
returns-in_default-Ok-clause-crash g c =
    let plan = c.in-Ok.plan in
    let planned = c.in-Ok.ensures.planned in
    let reading = g.I.Items.reading c.args.items.now in
    let given = g.I.Items.given c.plan_build.new.items in
    let old = g.B.Blobs.store c.args.blobs in
    let mid = g.B.Blobs.store c.plan_build.new.blobs in
    let new = g.B.Blobs.store c.lay_plan.result.0 in
    let b : Base = record { index = plan.index; soup = planned.0 } in
    let of = plan_base reading given c.args.cap c.args.core planned.0 plan planned.1 planned.2 in
    let puts =
    plan_lays c.args.cap c.args.core planned.0 plan mid new c.lay_plan.result.1 (Ok c.in_default-Ok.field-0-1) planned.2
    c.in_default-Ok.is-1 c.lay_plan.ensures.puts in
    crash_all old mid new c.in-Ok.ensures.keeps (IsBaseOf reading given c.args.cap c.args.core) b of planned.2.base puts.crash

pub returns-in_default-Ok-clause-calm : goal.returns-in_default-Ok-clause-calm
returns-in_default-Ok-clause-calm g c content calm =
    let plan = c.in-Ok.plan in
    let planned = c.in-Ok.ensures.planned in
    let mid = g.B.Blobs.store c.plan_build.new.blobs in
    let new = g.B.Blobs.store c.lay_plan.result.0 in
    let puts =
    plan_lays c.args.cap c.args.core planned.0 plan mid new c.lay_plan.result.1 (Ok c.in_default-Ok.field-0-1) planned.2
    c.in_default-Ok.is-1 c.lay_plan.ensures.puts in
    puts.calm content (c.in-Ok.ensures.keeps.calm content calm)

pub returns-in_default-Err-clause-refused : goal.returns-in_default-Err-clause-refused
returns-in_default-Err-clause-refused g c =
    let plan = c.in-Ok.plan in
    let planned = c.in-Ok.ensures.planned in
    let mid = g.B.Blobs.store c.plan_build.new.blobs in
    let new = g.B.Blobs.store c.lay_plan.result.0 in
    let puts =
    plan_lays c.args.cap c.args.core planned.0 plan mid new c.lay_plan.result.1 (Err c.in_default-Err.fault) planned.2
    c.in_default-Err.is-1 c.lay_plan.ensures.puts in
    told_then (g.B.Blobs.store c.args.blobs) mid new c.in-Ok.ensures.keeps (IsSameButSheets MOST_LEAVES)
    (IsSameButSheets MOST_LEAVES) (λ at now same. same) puts.err

pub returns-in_default-Err-clause-crash : goal.returns-in_default-Err-clause-crash
returns-in_default-Err-clause-crash g c =
    let plan = c.in-Ok.plan in
    let planned = c.in-Ok.ensures.planned in
    let reading = g.I.Items.reading c.args.items.now in
    let given = g.I.Items.given c.plan_build.new.items in
    let old = g.B.Blobs.store c.args.blobs in
    let mid = g.B.Blobs.store c.plan_build.new.blobs in
    let new = g.B.Blobs.store c.lay_plan.result.0 in
    let b : Base = record { index = plan.index; soup = planned.0 } in
    let of = plan_base reading given c.args.cap c.args.core planned.0 plan planned.1 planned.2 in
    let puts =
    plan_lays c.args.cap c.args.core planned.0 plan mid new c.lay_plan.result.1 (Err c.in_default-Err.fault) planned.2
    c.in_default-Err.is-1 c.lay_plan.ensures.puts in
    crash_all old mid new c.in-Ok.ensures.keeps (IsBaseOf reading given c.args.cap c.args.core) b of planned.2.base puts.crash
