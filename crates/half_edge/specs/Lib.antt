pub mod Halves
pub mod Collapses
pub mod Rings
pub mod Meshes
pub mod Flips
pub mod Building
pub mod Built
pub mod Faults
