use Rattle.std.proofs.Common.{Err, refl, sym}
use Rattle.oemm_blobs.proofs.Crashes.{keeps_none}
use Rattle.mesh_cutting.specs.Cuts.{mesh_in}
use Rattle.oemm_build.specs.declared.fault.BuildFault.TheVariants.{Memory}
use Rattle.oemm_build.proofs.Turns.{all_err, all_moved, all_ok, kept_all}
use Rattle.oemm_build.proofs.laying.lay_plan.Goals as goal

pub returns-in-Err-clause-puts : goal.returns-in-Err-clause-puts
returns-in-Err-clause-puts g c =
    let store = g.B.Blobs.store in
    let index = c.args.plan.index in
    let mesh = mesh_in c.args.plan.cut in
    let old = c.args.blobs in
    all_moved store index index mesh old old old c.in-Err.blobs (Err Memory) refl refl (sym c.in-Err.ensures)
    (kept_all index mesh (store old) (store old) Memory (keeps_none (store old)))

pub returns-in-Ok-lay-clause-puts : goal.returns-in-Ok-lay-clause-puts
returns-in-Ok-lay-clause-puts g c =
    let store = g.B.Blobs.store in
    let index = c.args.plan.index in
    let mesh = mesh_in c.args.plan.cut in
    let shelf = c.in-Ok.shelf in
    let left = c.lay.new.shelf in
    all_ok index mesh (store c.args.blobs) (store c.into_blobs.result) c.in-Ok-lay.field-0 tt
    (all_moved store shelf.index index mesh shelf.blobs c.args.blobs left.blobs c.into_blobs.result _
    c.in-Ok.ensures.1 c.in-Ok.ensures.0 (sym c.into_blobs.ensures) c.in-Ok-lay.ensures.puts)

pub returns-clause-puts : goal.returns-clause-puts
returns-clause-puts g c =
    let store = g.B.Blobs.store in
    let index = c.args.plan.index in
    let mesh = mesh_in c.args.plan.cut in
    let shelf = c.in-Ok.shelf in
    let left = c.lay.new.shelf in
    all_err index mesh (store c.args.blobs) (store c.into_blobs-in-Err-lay.result) c.in-Err-lay.fail c.from.result
    (all_moved store shelf.index index mesh shelf.blobs c.args.blobs left.blobs c.into_blobs-in-Err-lay.result _
    c.in-Ok.ensures.1 c.in-Ok.ensures.0 (sym c.into_blobs-in-Err-lay.ensures) c.in-Err-lay.ensures.puts)
