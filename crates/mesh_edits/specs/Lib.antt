pub mod Keyed
pub mod Fragments
pub mod Rounds
pub mod Faults
pub mod Simplified
pub mod Meshes
pub mod Memory
