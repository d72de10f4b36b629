pub mod FlipFaces
pub mod FlipRings
pub mod Lists
pub mod Meshes
