pub mod Costs
pub mod Ends
pub mod Steps
pub mod Ready
pub mod Verdicts
pub mod Tasks
pub mod Entries
