pub mod Counts
pub mod Edits
pub mod Flows
pub mod Limits
pub mod Readings
pub mod Tasks
pub mod Tellings
