pub mod Octree
pub mod Leaves
pub mod Morton
pub mod Walks
pub mod Counters
