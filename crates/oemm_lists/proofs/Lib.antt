pub mod Increasing
pub mod Once
pub mod Searches
