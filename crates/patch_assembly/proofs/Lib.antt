pub mod Sorted
pub mod Vertices
pub mod Made
pub mod Agrees
