pub mod Ordered
pub mod Rim
