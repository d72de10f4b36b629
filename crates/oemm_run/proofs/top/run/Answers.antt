use Rattle.oemm_run.proofs.RunLaws.{headline, complete, tells_usage, tells_mesh_fault, tells_shape, tells_script_fault, tells_failures}
use Rattle.oemm_run.proofs.top.run.Goals as goal

pub returns-clause-headline : goal.returns-clause-headline
returns-clause-headline g c = headline _ _ _ _ c.perform.ensures

pub returns-clause-complete : goal.returns-clause-complete
returns-clause-complete g c = complete _ _ _ _ c.perform.ensures

pub returns-clause-usage : goal.returns-clause-usage
returns-clause-usage g c = tells_usage _ _ _ _ c.perform.ensures

pub returns-clause-mesh_fault : goal.returns-clause-mesh_fault
returns-clause-mesh_fault g c = tells_mesh_fault _ _ _ _ c.perform.ensures

pub returns-clause-mesh_shape : goal.returns-clause-mesh_shape
returns-clause-mesh_shape g c = tells_shape _ _ _ _ c.perform.ensures

pub returns-clause-script_fault : goal.returns-clause-script_fault
returns-clause-script_fault g c = tells_script_fault _ _ _ _ c.perform.ensures

pub returns-clause-failures : goal.returns-clause-failures
returns-clause-failures g c = tells_failures _ _ _ _ c.perform.ensures
