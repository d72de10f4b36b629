pub mod Desks
pub mod Commits
pub mod Answered
pub mod Images
