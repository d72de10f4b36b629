pub mod PatchMesh
pub mod Edits
pub mod Work
pub mod LeastSteps
