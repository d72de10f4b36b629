pub mod WorkKeeps
pub mod Kept
pub mod Ordered
pub mod Frame
pub mod Rims
