pub mod Rounds
pub mod Least
pub mod Verdicts
