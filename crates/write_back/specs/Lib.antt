pub mod Homes
pub mod Groups
