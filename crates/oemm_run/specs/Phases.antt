-- The phases of a command, each over its own object and the values that it works on: what stands once a phase is done,
-- and the ends at which it stops a command.
pub mod Mesh
pub mod Shape
pub mod Script
pub mod Tasks
pub mod Out
pub mod Report
