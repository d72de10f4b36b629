pub mod Times
pub mod Tallied
pub mod Clashing
pub mod Reading
pub mod Sound
pub mod Answering
