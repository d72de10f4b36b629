pub mod Versions
pub mod Commits
pub mod Puts
pub mod Opened
pub mod Sounds
pub mod Contents
