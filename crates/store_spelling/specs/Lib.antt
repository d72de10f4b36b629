pub mod Spelled
pub mod Bases
