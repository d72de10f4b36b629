pub mod Paths
pub mod Program
