pub mod Rest
pub mod Free
pub mod Changed
pub mod Frame
pub mod Cleans
pub mod Rows
pub mod Plays
