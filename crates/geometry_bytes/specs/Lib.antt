pub mod Geometry
pub mod Parts
