use Rattle.std.proofs.Common.{sym}
use Rattle.oemm_octree.specs.Octree.{area_of, is_inside}
use Rattle.mesh_data.specs.Work.{work}
use Rattle.sheet_frame.proofs.Plays.{framed_by, task_leaves}
use Rattle.sheet_frame.proofs.Rest.{patch_same, sheet_same}
use Rattle.sheet_frame.proofs.laws.frame_laws.Goals as goal

pub returns-clause-sheets : goal.returns-clause-sheets
returns-clause-sheets c = λ cells core m es leaf tiles below clean out. sym (sheet_same cells core m (work (is_inside (area_of cells core)) m es).mesh (framed_by cells core m es tiles below clean) leaf out)

pub returns-clause-patches : goal.returns-clause-patches
returns-clause-patches c = λ cells core other m es tiles below clean apart. sym (patch_same cells core m (work (is_inside (area_of cells core)) m es).mesh (framed_by cells core m es tiles below clean) other apart)

pub returns-clause-task_sheets : goal.returns-clause-task_sheets
returns-clause-task_sheets c = λ cells limit m task leaf tiles clean out. sym ((task_leaves cells limit m task tiles clean).sheets leaf out)

pub returns-clause-task_patches : goal.returns-clause-task_patches
returns-clause-task_patches c = λ cells limit m task other tiles clean apart. sym ((task_leaves cells limit m task tiles clean).patches other apart)
