pub mod Files
pub mod Head
pub mod Memory
pub mod Whole
