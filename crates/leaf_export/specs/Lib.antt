pub mod OctreeBytes
pub mod Tables
pub mod Files
pub mod Kept
pub mod Exported
