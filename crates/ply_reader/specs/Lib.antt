pub mod Body
pub mod Feed
pub mod Mesh
pub mod Reader
