use Rattle.oemm_build.specs.declared.fault.BuildFault.TheVariants.{Shelf}
use Rattle.oemm_shelf.specs.declared.fault.ShelfFault.TheVariants.{Store}
use Rattle.oemm_shelf.proofs.Told.{tells_other}
use Rattle.oemm_build.proofs.Causes.{plan_finds, plan_not_built, plan_not_store}
use Rattle.oemm_build.proofs.building.plan_build.Goals as goal

pub returns-clause-index : goal.returns-clause-index
returns-clause-index g c m told =
    plan_finds c.read_plan.result _ c.read_plan.ensures.kind (c.in_ok-want_no_index.ensures.index m told)

pub returns-clause-unread : goal.returns-clause-unread
returns-clause-unread g c built = absurd (plan_not_built c.read_plan.result c.read_plan.ensures.kind built)

pub returns-clause-cause : goal.returns-clause-cause
returns-clause-cause g c =
    tells_other (Shelf Store) (g.B.Blobs.store c.args.blobs.now).faults (g.B.Blobs.store c.want_no_index.new.blobs).faults
    c.in_ok-want_no_index.field-0 c.read_plan.result
    (plan_not_store c.read_plan.result c.read_plan.ensures.kind) c.in_ok-want_no_index.ensures.cause
