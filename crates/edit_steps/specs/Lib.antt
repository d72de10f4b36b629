pub mod Lines
pub mod Steps
pub mod Totals
pub mod Passed
