pub mod Versions
pub mod Stored
pub mod Commits
